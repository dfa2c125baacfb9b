-- What is noted of places that were looked at.
use Rattle.std.proofs.Common.{◌≡◌, ℕ, Bool, true, false, Bor, cond, List, [], Option, None, Some, Ok, Err, refl, sym, ap, subst, ◌∙◌}
use Rattle.std.specs.Prelude.{OnOk, IfSome, Result}
use Rattle.std.specs.BTreeMap.{BTreeMap, is_at}
use Rattle.std.specs.FinMap.{from_entries, get, get-insert, get-remove}
use Rattle.std.specs.Map.{lookup}
use Rattle.std.specs.Option.{option_copied}
use Rattle.host_trait.specs.Change.{IsSame}
use Rattle.host_trait.specs.Host.{HostState, Passes, Told}
use Rattle.host_trait.specs.World.{Leaves, WorldState, bytes_cmp}
use Rattle.host_trait.proofs.Moments.{told_after, told_before}
use Rattle.host_trait.proofs.NameOrder.{name_exact}
use Rattle.host_trait.proofs.Places.{bytes_total, found, given, gone}
use Rattle.switch_names.specs.Names.{Name}
use Rattle.tree_put.specs.declared.found.Found.{Found}
use Rattle.tree_put.specs.Found.{AreFound, IsFound}

module _ {a b : HostState} where
  -- what was told before calls that change nothing is so after them
  pub told_still : {P : WorldState → Type 0} → Passes a b IsSame → Told a P → Told b P
  told_still {P = P} way told = told_after way way.tells P (λ w v is same. subst P (sym same) (told.has w is))

-- a premise that holds where a call goes well
pub when_ok : {T E P : Type 0} (r : Result T E) → P → OnOk r P
when_ok (Ok x) holds = holds
when_ok (Err f) holds = tt

-- what holds where a call goes well after calls that change nothing held before them
pub ok_before : {T E : Type 0} {a b : HostState} (P : WorldState → Type 0) (r : Result T E) → Passes a b IsSame → OnOk r (Told b P) → OnOk r (Told a P)
ok_before P (Ok x) way told = told_before way told
ok_before P (Err f) way none = tt

module _ (leaves : Leaves) where
  pub none_found : (notes : BTreeMap (List ℕ) Found) → notes.entries ≡ [] → AreFound leaves notes
  none_found notes none at some is = absurd (clash (ap (λ es. get (from_entries {R = bytes_cmp} es) at) (sym none)) is)
    where
      clash : get (from_entries {R = bytes_cmp} []) at ≡ get (from_entries {R = bytes_cmp} notes.entries) at → get (from_entries {R = bytes_cmp} notes.entries) at ≡ Some some → ⊥
      clash empty here = no (sym (found [] at) ∙ empty ∙ here)
        where
          no : None ≡ Some some → ⊥
          no is = cc

  pub found_at : (notes : BTreeMap (List ℕ) Found) (at : Name) (some : Found) → AreFound leaves notes →
      lookup (is_at (bytes_cmp at)) notes.entries ≡ Some some → IsFound leaves at some
  found_at notes at some are is = are at some (found notes.entries at ∙ is)

  pub found_more : (old new : BTreeMap (List ℕ) Found) (at : Name) (some : Found) → AreFound leaves old → IsFound leaves at some →
      ((q : List ℕ) → lookup (is_at (bytes_cmp q)) new.entries ≡ cond (is_at (bytes_cmp at) q) (Some some) (lookup (is_at (bytes_cmp q)) old.entries)) →
      AreFound leaves new
  found_more old new at some are this updated q other is =
      by (is_at (bytes_cmp q) at) refl (sym (ap (λ m. get m q) (given old.entries new.entries at some updated) ∙ get-insert bytes_total (from_entries old.entries) at some q) ∙ is)
    where
      by : (b : Bool) → is_at (bytes_cmp q) at ≡ b → cond b (Some some) (get (from_entries {R = bytes_cmp} old.entries) q) ≡ Some other → IsFound leaves q other
      by true same here = subst (IsFound leaves q) (some_is here) (subst (λ p. IsFound leaves p some) (sym (name_exact q at same)) this)
        where
          some_is : Some some ≡ Some other → some ≡ other
          some_is is = cc
      by false elsewhere here = are q other here

  pub found_less : (old new : BTreeMap (List ℕ) Found) (at : Name) → AreFound leaves old →
      ((q : List ℕ) → lookup (is_at (bytes_cmp q)) new.entries ≡ cond (is_at (bytes_cmp at) q) None (lookup (is_at (bytes_cmp q)) old.entries)) →
      AreFound leaves new
  found_less old new at are updated q other is =
      by (is_at (bytes_cmp q) at) (sym (ap (λ m. get m q) (gone old.entries new.entries at updated) ∙ get-remove bytes_total (from_entries old.entries) at q) ∙ is)
    where
      by : (b : Bool) → cond b None (get (from_entries {R = bytes_cmp} old.entries) q) ≡ Some other → IsFound leaves q other
      by true here = absurd (no here)
        where
          no : None ≡ Some other → ⊥
          no is = cc
      by false here = are q other here

  -- what a note gives is found there
  pub found_in : (notes : BTreeMap (List ℕ) Found) (at : Name) (o : Option Found) → AreFound leaves notes → o ≡ lookup (is_at (bytes_cmp at)) notes.entries → IfSome o (IsFound leaves at)
  found_in notes at None are is = tt
  found_in notes at (Some some) are is = found_at notes at some are (sym is)

  pub noted_in : (notes : BTreeMap (List ℕ) Found) (at : Name) (o : Option (Bor Found)) → AreFound leaves notes → option_copied o ≡ lookup (is_at (bytes_cmp at)) notes.entries →
      IfSome o (λ some. IsFound leaves at some.now)
  noted_in notes at None are is = tt
  noted_in notes at (Some some) are is = found_at notes at some.now are (sym is)
