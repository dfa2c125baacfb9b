-- Leaves that are what is put for an entry.
use Rattle.std.proofs.Common.{◌≡◌, ◌&&◌, ◌==◌, ◌↔◌, ℕ, Bool, true, false, IsTrue, arith, refl, sym, ap, subst, ◌∙◌}
use Rattle.std.proofs.lemmas.Bool.{and_from, and_parts, both_ways}
use Rattle.std.specs.Cmp.{both_ways as same_test}
use Rattle.switch_names.specs.Names.{is_name}
use Rattle.host_trait.specs.declared.leaf.LeafKind.{LeafKind}
use Rattle.host_trait.specs.declared.leaf.LeafKind.TheVariants.{File, Link}
use Rattle.host_trait.proofs.NameOrder.{name_exact}
use Rattle.host_trait.proofs.Places.{itself}
use Rattle.etc_clean.specs.Standing.{is_leaf}

same_number : (m n : ℕ) → (m == n) ≡ true → m ≡ n
same_number m n is = grind arith

self_number : (n : ℕ) → (n == n) ≡ true
self_number n = grind arith

-- leaves that are found to be equal are
pub leaf_same : (one other : LeafKind) → is_leaf one other ≡ true → one ≡ other
leaf_same (File bytes mode uid gid) (File other m u g) is =
    let p = and_parts (is_name bytes other) (mode == m && (uid == u && gid == g)) is in
    let q = and_parts (mode == m) (uid == u && gid == g) p.1 in
    let r = and_parts (uid == u) (gid == g) q.1 in
    let same = name_exact bytes other p.0 in
    λ i. File (same i) (same_number mode m q.0 i) (same_number uid u r.0 i) (same_number gid g r.1 i)
leaf_same (Link target) (Link other) is = ap Link (name_exact target other is)
leaf_same (File bytes mode uid gid) (Link other) is = absurd (both_ways false refl is)
leaf_same (Link target) (File other m u g) is = absurd (both_ways false refl is)

leaf_self : (leaf : LeafKind) → is_leaf leaf leaf ≡ true
leaf_self (File bytes mode uid gid) =
    and_from (is_name bytes bytes) (mode == mode && (uid == uid && gid == gid)) (itself bytes)
    (and_from (mode == mode) (uid == uid && gid == gid) (self_number mode) (and_from (uid == uid) (gid == gid) (self_number uid) (self_number gid)))
leaf_self (Link target) = itself target

-- a comparison of leaves is that test
pub told_same : (b : Bool) (one other want : LeafKind) → (IsTrue b ↔ (one ≡ other)) → other ≡ want → b ≡ is_leaf one want
told_same b one other want tells is = same_test b (is_leaf one want)
    (λ yes. subst (λ (l : LeafKind). is_leaf one l ≡ true) (tells.0 yes ∙ is) (leaf_self one))
    (λ yes. tells.1 (leaf_same one want yes ∙ sym is))
