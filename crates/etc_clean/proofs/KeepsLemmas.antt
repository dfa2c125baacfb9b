-- A farm's end stays the same while the farm is put.
use Rattle.std.proofs.Common.{◌≡◌, ◌≢◌, ℕ, ◌||◌, not, Bool, true, false, cond, List, ◌++◌, drop, length, codes, Option, None, Some, is_some, refl, sym, ap, subst, ◌∙◌, inl, inr}
use Rattle.std.proofs.lemmas.Bool.{both_ways, or_left, or_right}
use Rattle.std.proofs.Math.Bool.{or-false}
use Rattle.std.specs.FinMap.{get, insert, remove}
use Rattle.std.specs.Ordering.{eq_by_cmp}
use Rattle.switch_names.specs.Names.{Name, has, is_name}
use Rattle.host_trait.specs.declared.leaf.LeafKind.{LeafKind}
use Rattle.host_trait.specs.declared.leaf.LeafKind.TheVariants.{Link}
use Rattle.host_trait.specs.World.{Leaves, bytes_cmp, leaf_content, store_place}
use Rattle.host_trait.proofs.Places.{at_same, itself, same_or_other}
use Rattle.host_trait.proofs.Sound.{get_other}
use Rattle.host_trait.proofs.Seen.{get_removed_other, get_removed_here}
use Rattle.tree_put.proofs.StoreLemmas.{content_kept, store_place_begins}
use Rattle.etc_manifest.specs.declared.item.Item.{Item}
use Rattle.etc_manifest.specs.declared.item.ItemKind.{ItemKind}
use Rattle.etc_manifest.specs.Manifest.{entry}
use Rattle.etc_manifest.specs.Place.{is_reserved}
use Rattle.etc_clean.specs.Names.{place}
use Rattle.etc_clean.specs.CleanList.{clean_leaf, clean_name, clean_names, clean_of, clean_text, names_in}
use Rattle.etc_clean.specs.Etc.{Farm, at_entry, etc, is_owned, leaf_of, static_name}
use Rattle.etc_clean.specs.Farm.{at, is_blocked, is_entry, is_foreign, is_gone, placed}
use Rattle.etc_clean.specs.Keeps.{AlikeLaw, AreAlike, AreFree, EndLaw, FirstListLaw, Keeps, LastListLaw, PutLaw, RemovalLaw, StaticLaw, StepsLaw, WholeLaw}
use Rattle.etc_clean.proofs.NameLemmas.{clean_reserved, not_reserved_other, other_place, static_reserved}
use Rattle.etc_clean.proofs.FarmLemmas.{absent_not_foreign, blocked_kept, entry_is, entry_not_foreign, foreign_parts, foreign_relisted, foreign_same, not_placed, placed_kept, reserved_not_foreign, stays}

-- ---- the end

cond_same : {X : Type 0} (b : Bool) (x y u v : X) → (b ≡ true → x ≡ y) → (b ≡ false → u ≡ v) → cond b x u ≡ cond b y v
cond_same true x y u v one other = one refl
cond_same false x y u v one other = other refl

module _ (items : List Item) (w m : Leaves) (keeps : Keeps items w m) where
  new_kept : (q : Name) → is_reserved q ≡ false → is_entry items q ≡ false → cond (is_gone items m q) None (at m q) ≡ cond (is_gone items w q) None (at w q)
  new_kept q free new =
      stays items m q free new
      ∙ ap (λ b. cond b (at m q) None) (keeps.foreign q)
      ∙ cond_same (is_foreign items w q) (at m q) (at w q) None None (keeps.at_foreign q) (λ other. refl)
      ∙ sym (stays items w q free new)

  known_kept : (q : Name) (leaf : LeafKind) → is_entry items q ≡ true → cond (is_blocked items m q) (at m q) (Some leaf) ≡ cond (is_blocked items w q) (at w q) (Some leaf)
  known_kept q leaf known =
      ap (λ b. cond b (at m q) (Some leaf)) (blocked_kept items w m keeps.foreign q)
      ∙ cond_same (is_blocked items w q) (at m q) (at w q) (Some leaf) (Some leaf) (keeps.at_blocked q known) (λ free. refl)

  entry_kept : (q : Name) (o : Option ItemKind) → is_reserved q ≡ false → entry items q ≡ o → at_entry items m q o ≡ at_entry items w q o
  entry_kept q (Some kind) free is = known_kept q (leaf_of q kind) (sym (entry_is items q) ∙ ap (λ (o : Option ItemKind). is_some o) is)
  entry_kept q None free is = new_kept q free (sym (entry_is items q) ∙ ap (λ (o : Option ItemKind). is_some o) is)

pub owned_free : (static clean reserved : Bool) → static ≡ false → clean ≡ false → (static || (clean || not reserved)) ≡ true → reserved ≡ false
owned_free true clean reserved s c is = absurd (both_ways true s refl)
owned_free false true reserved s c is = absurd (both_ways true c refl)
owned_free false false true s c is = absurd (both_ways false refl is)
owned_free false false false s c is = refl

not_owned_by : (static clean reserved : Bool) → static ≡ false → clean ≡ false → reserved ≡ true → (static || (clean || not reserved)) ≡ false
not_owned_by true clean reserved s c r = absurd (both_ways true s refl)
not_owned_by false true reserved s c r = absurd (both_ways true c refl)
not_owned_by false false true s c r = refl
not_owned_by false false false s c r = absurd (both_ways false refl r)

-- the end at a name, where what stands there is kept if it isn't the farm's
end_at : (farm : Farm) (w m : Leaves) → Keeps farm.items w m → (q : Name) → (is_owned q ≡ false → at m q ≡ at w q) → etc farm m q ≡ etc farm w q
end_at farm w m keeps q beside =
    cond_same (is_name q static_name) (Some (Link farm.target)) (Some (Link farm.target)) _ _ (λ static. refl) (λ s.
    cond_same (is_name q clean_name) (Some (clean_leaf (placed farm.items m))) (Some (clean_leaf (placed farm.items w))) _ _
    (λ clean. ap (λ names. Some (clean_leaf names)) (placed_kept farm.items w m keeps.foreign)) (λ c.
    cond_same (is_reserved q) (at m q) (at w q) _ _
    (λ reserved. beside (not_owned_by (is_name q static_name) (is_name q clean_name) (is_reserved q) s c reserved))
    (λ free. entry_kept farm.items w m keeps q (entry farm.items q) free refl)))

pub end_law : EndLaw
end_law farm w m keeps q owned = end_at farm w m keeps q (λ other. absurd (both_ways _ other owned))

pub whole_law : WholeLaw
whole_law farm w m keeps beside q = end_at farm w m keeps q (beside q)

-- ---- one step after another

pub keeps_self : (items : List Item) (w : Leaves) → Keeps items w w
keeps_self items w = record { foreign = λ q. refl; at_foreign = λ q is. refl; at_blocked = λ q known is. refl }

pub steps_law : StepsLaw
steps_law items w v m first then = record {
  foreign = λ q. then.foreign q ∙ first.foreign q;
  at_foreign = λ q is. then.at_foreign q (first.foreign q ∙ is) ∙ first.at_foreign q is;
  at_blocked = λ q known is. then.at_blocked q known (blocked_kept items w v first.foreign q ∙ is) ∙ first.at_blocked q known is;
}

-- ---- what changes at one place alone

-- two trees differ below etc at most at one name, and have the same clean list, unless it stands there
pub record IsAllBut (x : Name) (w m : Leaves) : Type 0 where
  pub others : (q : Name) → q ≢ x → at m q ≡ at w q
  pub clean : x ≢ clean_name → clean_of m ≡ clean_of w

apart_of : (x rest : List ℕ) → eq_by_cmp bytes_cmp (codes "nix/store/" ++ rest) (place x) ≡ false
unfolding place
apart_of x rest = refl

-- no path of the store is a place in etc
pub store_apart : (target p : List ℕ) (x : Name) → store_place target ≡ Some p → eq_by_cmp bytes_cmp p (place x) ≡ false
store_apart target p x is = subst (λ r. eq_by_cmp bytes_cmp r (place x) ≡ false) (sym (store_place_begins target p is)) (apart_of x (drop (length (codes "/nix/store/")) target))

module _ (w m : Leaves) (x : Name) (same : (p : List ℕ) → eq_by_cmp bytes_cmp p (place x) ≡ false → get m p ≡ get w p) where
  all_but : IsAllBut x w m
  all_but = record {
    others = λ q ne. same (place q) (other_place q x ne);
    clean = λ ne. ap names_in
        (content_kept w m (λ target p is. same p (store_apart target p x is)) (place clean_name) (same (place clean_name) (other_place clean_name x (λ is. ne (sym is)))));
  }

pub inserted : (w : Leaves) (x : Name) (leaf : LeafKind) → IsAllBut x w (insert w (place x) leaf)
inserted w x leaf = all_but w (insert w (place x) leaf) x (λ p other. get_other w (place x) p leaf other)

pub removed : (w : Leaves) (x : Name) → IsAllBut x w (remove w (place x))
removed w x = all_but w (remove w (place x)) x (λ p other. get_removed_other w (place x) p other)

pub other_name : (p q : Name) → eq_by_cmp bytes_cmp p q ≡ false → p ≢ q
other_name p q other same = both_ways _ other (subst (λ y. eq_by_cmp bytes_cmp p y ≡ true) same (itself p))

module _ (items : List Item) (w m : Leaves) (x : Name) (but : IsAllBut x w m) where
  foreign_elsewhere : (q : Name) → x ≢ clean_name → q ≢ x → is_foreign items m q ≡ is_foreign items w q
  foreign_elsewhere q not_clean ne = foreign_same items w m q (but.others q ne) (ap (λ (names : List Name). has names q) (but.clean not_clean))

  -- what changes at a name that is foreign neither before nor after
  beside_foreign :
      x ≢ clean_name → is_foreign items w x ≡ false → is_foreign items m x ≡ false →
      ((q : Name) → is_entry items q ≡ true → is_blocked items w q ≡ true → q ≢ x) → Keeps items w m
  beside_foreign not_clean before after elsewhere = record {
    foreign = λ q. elim (same_or_other q x) [
      | inl same ↦ subst (λ p. is_foreign items m p ≡ is_foreign items w p) (sym same) (after ∙ sym before)
      | inr other ↦ foreign_elsewhere q not_clean (other_name q x other)
    ];
    at_foreign = λ q is. but.others q (λ same. both_ways _ before (ap (is_foreign items w) (sym same) ∙ is));
    at_blocked = λ q known is. but.others q (elsewhere q known is);
  }

names_differ : is_name static_name clean_name ≡ false
unfolding static_name clean_name
names_differ = refl

pub static_not_clean : static_name ≢ clean_name
static_not_clean same = both_ways _ names_differ (subst (λ y. is_name static_name y ≡ true) same (itself static_name))

pub static_law : StaticLaw
static_law items w leaf free =
    beside_foreign items w (insert w (place static_name) leaf) static_name (inserted w static_name leaf)
    static_not_clean
    (reserved_not_foreign items w static_name static_reserved)
    (reserved_not_foreign items (insert w (place static_name) leaf) static_name static_reserved)
    (λ q known is. not_reserved_other q static_name (free q known) static_reserved)

pub removal_law : RemovalLaw
removal_law items w x free new foreign =
    beside_foreign items w (remove w (place x)) x (removed w x)
    (not_reserved_other x clean_name free clean_reserved) foreign
    (absent_not_foreign items (remove w (place x)) x (get_removed_here w (place x)))
    (λ q known is same. both_ways _ new (ap (is_entry items) (sym same) ∙ known))

pub put_law : PutLaw
put_law items w x leaf free known not_blocked =
    beside_foreign items w (insert w (place x) leaf) x (inserted w x leaf)
    (not_reserved_other x clean_name free clean_reserved)
    (entry_not_foreign items w x known)
    (entry_not_foreign items (insert w (place x) leaf) x known)
    (λ q there is same. both_ways _ not_blocked (ap (is_blocked items w) (sym same) ∙ is))

-- ---- the clean lists

-- the list that is put is the one that is read
pub listed_there : (w : Leaves) (names : List Name) → clean_of (insert w (place clean_name) (clean_leaf names)) ≡ clean_names (clean_text names)
listed_there w names =
    ap (λ leaf. names_in (leaf_content (insert w (place clean_name) (clean_leaf names)) leaf)) (at_same w (place clean_name) (clean_leaf names))

module _ (items : List Item) (w : Leaves) (names : List Name) (free : AreFree items) where
  abbrev put_list : Leaves
  put_list = insert w (place clean_name) (clean_leaf names)

  abbrev AsForeign : Name → Type 0
  AsForeign q = is_foreign items put_list q ≡ is_foreign items w q

  beside_list : (q : Name) → is_reserved q ≡ false → at put_list q ≡ at w q
  beside_list q free = (inserted w clean_name (clean_leaf names)).others q (not_reserved_other q clean_name free clean_reserved)

  list_foreign : ((q : Name) → is_reserved q ≡ false → is_entry items q ≡ false → at put_list q ≡ at w q → AsForeign q) →
      (q : Name) (reserved known : Bool) → is_reserved q ≡ reserved → is_entry items q ≡ known → AsForeign q
  list_foreign new q true known r k = reserved_not_foreign items put_list q r ∙ sym (reserved_not_foreign items w q r)
  list_foreign new q false true r k = entry_not_foreign items put_list q k ∙ sym (entry_not_foreign items w q k)
  list_foreign new q false false r k = new q r k (beside_list q r)

  -- a clean list may be put that leaves as foreign what is neither reserved nor an entry's
  list_law : ((q : Name) → is_reserved q ≡ false → is_entry items q ≡ false → at put_list q ≡ at w q → AsForeign q) → Keeps items w put_list
  list_law new = record {
    foreign = λ q. list_foreign new q (is_reserved q) (is_entry items q) refl refl;
    at_foreign = λ q is. beside_list q (foreign_parts items w q is).1;
    at_blocked = λ q known is. beside_list q (free q known);
  }

  read_so : (q : Name) → has (clean_of put_list) q ≡ has (clean_names (clean_text names)) q
  read_so q = ap (λ (ns : List Name). has ns q) (listed_there w names)

pub first_list_law : FirstListLaw
first_list_law items w names free first =
    list_law items w names free (λ q r k leaf. foreign_same items w (insert w (place clean_name) (clean_leaf names)) q leaf
    (read_so items w names free q ∙ first q ∙ ap (λ b. has (clean_of w) q || b) (not_placed items w q k) ∙ or-false (has (clean_of w) q)))

pub last_list_law : LastListLaw
last_list_law items w names free last =
    list_law items w names free (λ q r k leaf. foreign_relisted items w (insert w (place clean_name) (clean_leaf names)) q leaf
    (read_so items w names free q ∙ last.names_are q ∙ not_placed items w q k) (last.none_gone q))

-- ---- trees that are alike

owned_by : (static clean reserved : Bool) → reserved ≡ false → (static || (clean || not reserved)) ≡ true
owned_by true clean reserved is = refl
owned_by false true reserved is = refl
owned_by false false reserved is = ap not is

-- a name that isn't reserved is the farm's to write
pub owned_name : (q : Name) → is_reserved q ≡ false → is_owned q ≡ true
owned_name q is = owned_by (is_name q static_name) (is_name q clean_name) (is_reserved q) is

-- so are the two leaves that it keeps by itself
pub static_owned : is_owned static_name ≡ true
static_owned = or_left (is_name static_name static_name) (is_name static_name clean_name || not (is_reserved static_name)) (itself static_name)

pub clean_owned : is_owned clean_name ≡ true
clean_owned = or_right (is_name clean_name static_name) (is_name clean_name clean_name || not (is_reserved clean_name)) (or_left (is_name clean_name clean_name) (not (is_reserved clean_name)) (itself clean_name))

module _ (items : List Item) (w m : Leaves) (alike : AreAlike w m) where
  alike_foreign : (q : Name) (reserved : Bool) → is_reserved q ≡ reserved → is_foreign items m q ≡ is_foreign items w q
  alike_foreign q true r = reserved_not_foreign items m q r ∙ sym (reserved_not_foreign items w q r)
  alike_foreign q false r = foreign_same items w m q (alike.leaves q (owned_name q r)) (ap (λ (names : List Name). has names q) alike.clean)

pub alike_law : AlikeLaw
alike_law items w m free alike = record {
  foreign = λ q. alike_foreign items w m alike q (is_reserved q) refl;
  at_foreign = λ q is. alike.leaves q (owned_name q (foreign_parts items w q is).1);
  at_blocked = λ q known is. alike.leaves q (owned_name q (free q known));
}
