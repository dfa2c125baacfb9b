-- The first unit with a faulty file.
use Rattle.std.proofs.Common.{◌≡◌, ℕ, Bool, true, false, cond, List, [], ◌∷◌, map, Option, None, Some, Result, Err, option_map, option_and_then, refl, sym, ap, subst, ◌∙◌}
use Rattle.std.proofs.lemmas.Option.{same_Some}
use Rattle.std.specs.List.{AllByRecursion}
use Rattle.std.specs.List.Sorted.{IsStrictlySortedBy}
use Rattle.std.specs.Option.{option_or}
use Rattle.std.specs.declared.cmp.Ordering.TheVariants.{Less}
use Rattle.switch_names.specs.UnitName.{IsUnitName}
use Rattle.host_trait.specs.World.{Leaves, bytes_cmp}
use Rattle.host_trait.proofs.Places.{bytes_total}
use Rattle.unit_defs.specs.declared.defs_fault.DefsFault.{DefsFault}
use Rattle.unit_defs.specs.declared.defs_fault.DefsFault.TheVariants.{Text}
use Rattle.unit_defs.specs.declared.part.FilePart.{FilePart}
use Rattle.unit_defs.specs.declared.unit.Unit.{Unit}
use Rattle.unit_defs.specs.Defs.{AreSorted, AreUnitsOf, first_faulty, part_in, unit_in}
use Rattle.switch_names.specs.Names.{is_name}
use Rattle.unit_text.specs.declared.assignment.Assignment.{Assignment}
use Rattle.unit_defs.specs.Fstab.{fstab_of, line_text}
use Rattle.unit_defs.specs.Part.{line_part}
use Rattle.unit_defs.specs.Units.{HasNoFault, IsFirstFault, file_part, own_fault}
use Rattle.switch_names.proofs.Names.{name_turned}
use Rattle.host_trait.proofs.NameOrder.{less_is_other, name_exact, name_itself}

abbrev fault_of : Unit → Option ℕ
fault_of unit = option_and_then (λ (part : FilePart). part.fault) unit.part

abbrev fault_in : List Unit → List ℕ → Option ℕ
fault_in units name = option_and_then (λ (part : FilePart). part.fault) (part_in units name)

both_none : {X Y : Type 0} (f : X → Y) (a : Option X) (b : Option Y) → option_or (option_map f a) b ≡ None → (a ≡ None) × (b ≡ None)
both_none f None b is = (refl, is)
both_none f (Some x) b is = absurd (cc)

fault_chosen : (b : Bool) (unit : Unit) (rest : Option Unit) →
    option_and_then (λ (part : FilePart). part.fault) (option_and_then (λ (u : Unit). u.part) (cond b (Some unit) rest)) ≡ cond b (fault_of unit) (option_and_then (λ (part : FilePart). part.fault) (option_and_then (λ (u : Unit). u.part) rest))
fault_chosen true unit rest = refl
fault_chosen false unit rest = refl

neither : (b : Bool) (x y : Option ℕ) → x ≡ None → y ≡ None → cond b x y ≡ None
neither true x y first second = first
neither false x y first second = second

none_faulty : (units : List Unit) (name : List ℕ) → first_faulty units ≡ None → fault_in units name ≡ None
none_faulty [] name none = refl
none_faulty (unit ∷ units) name none =
    let parts = both_none (λ line. (unit.name, line)) (fault_of unit) (first_faulty units) none in
    fault_chosen (is_name name unit.name) unit (unit_in units name) ∙ neither (is_name name unit.name) (fault_of unit) (fault_in units name) parts.0 (none_faulty units name parts.1)

-- a unit with the first fault of some units
pub record IsFirstIn (units : List Unit) (name : List ℕ) (line : ℕ) : Type 0 where
  pub faulty : fault_in units name ≡ Some line
  pub earlier : (other : List ℕ) → bytes_cmp other name ≡ Less → fault_in units other ≡ None

lower_lacks : (name : List ℕ) (units : List Unit) (other : List ℕ) → bytes_cmp other name ≡ Less → AllByRecursion (λ b. bytes_cmp name b ≡ Less) (map (λ (unit : Unit). unit.name) units) → unit_in units other ≡ None
lower_lacks name [] other less above = refl
lower_lacks name (unit ∷ units) other less above =
    ap (λ b. cond b (Some unit) (unit_in units other)) (less_is_other other unit.name (bytes_total.trans other name unit.name less above.0))
    ∙ lower_lacks name units other less above.1

first_line : (unit : Unit) (units : List Unit) (name : List ℕ) (line : ℕ) → (o : Option ℕ) → fault_of unit ≡ o → option_or (option_map (λ n. (unit.name, n)) o) (first_faulty units) ≡ Some (name, line) →
    AreSorted (unit ∷ units) → (first_faulty units ≡ Some (name, line) → IsFirstIn units name line) → IsFirstIn (unit ∷ units) name line
unfolding IsStrictlySortedBy
first_line unit units name line (Some n) is first sorted rest =
    let same : (unit.name, n) ≡ (name, line) = same_Some (unit.name, n) (name, line) first in
    let same_name : unit.name ≡ name = ap (λ (p : List ℕ × ℕ). p.0) same in
    let same_line : n ≡ line = ap (λ (p : List ℕ × ℕ). p.1) same in
    subst (λ k. IsFirstIn (unit ∷ units) k line) same_name (record {
      faulty = fault_chosen (is_name unit.name unit.name) unit (unit_in units unit.name) ∙ ap (λ b. cond b (fault_of unit) (fault_in units unit.name)) (name_itself unit.name) ∙ is ∙ ap (λ k. Some k) same_line;
      earlier = λ other less.
          fault_chosen (is_name other unit.name) unit (unit_in units other)
          ∙ ap (λ b. cond b (fault_of unit) (fault_in units other)) (less_is_other other unit.name less)
          ∙ ap (λ o. option_and_then (λ (part : FilePart). part.fault) (option_and_then (λ (u : Unit). u.part) o)) (lower_lacks unit.name units other less sorted.0);
    })
first_line unit units name line None is first sorted rest =
    let there = rest first in
    let above = unit_above units name line there.faulty sorted.0 in
    record {
      faulty = fault_chosen (is_name name unit.name) unit (unit_in units name)
          ∙ ap (λ b. cond b (fault_of unit) (fault_in units name)) (name_turned name unit.name ∙ less_is_other unit.name name above) ∙ there.faulty;
      earlier = λ other less. fault_chosen (is_name other unit.name) unit (unit_in units other) ∙ neither (is_name other unit.name) (fault_of unit) (fault_in units other) is (there.earlier other less);
    }
  where
    some_unit : (us : List Unit) (key : List ℕ) → fault_in us key ≡ Some line → AllByRecursion (λ b. bytes_cmp unit.name b ≡ Less) (map (λ (u : Unit). u.name) us) → bytes_cmp unit.name key ≡ Less
    some_unit [] key faulty above = absurd (cc)
    some_unit (u ∷ us) key faulty above = by (is_name key u.name) refl (some_unit us key)
      where
        by : (b : Bool) → is_name key u.name ≡ b → (fault_in us key ≡ Some line → AllByRecursion (λ b. bytes_cmp unit.name b ≡ Less) (map (λ (u : Unit). u.name) us) → bytes_cmp unit.name key ≡ Less) → bytes_cmp unit.name key ≡ Less
        by true is rest = subst (λ k. bytes_cmp unit.name k ≡ Less) (sym (name_exact key u.name is)) above.0
        by false is rest = rest (sym (fault_chosen (is_name key u.name) u (unit_in us key) ∙ ap (λ b. cond b (fault_of u) (fault_in us key)) is) ∙ faulty) above.1

    unit_above : (us : List Unit) (key : List ℕ) (l : ℕ) → fault_in us key ≡ Some line → AllByRecursion (λ b. bytes_cmp unit.name b ≡ Less) (map (λ (u : Unit). u.name) us) → bytes_cmp unit.name key ≡ Less
    unit_above us key l faulty above = some_unit us key faulty above

first_in : (units : List Unit) (name : List ℕ) (line : ℕ) → AreSorted units → first_faulty units ≡ Some (name, line) → IsFirstIn units name line
unfolding IsStrictlySortedBy
first_in [] name line sorted is = absurd (cc)
first_in (unit ∷ units) name line sorted is = first_line unit units name line (fault_of unit) refl is sorted (first_in units name line sorted.1)

-- a line of an fstab has no fault
of_files : (files : Option FilePart) (line : Option (List Assignment)) →
    option_and_then (λ (part : FilePart). part.fault) (option_or files (option_map line_part line)) ≡ option_and_then (λ (part : FilePart). part.fault) files
of_files (Some part) line = refl
of_files None None = refl
of_files None (Some text) = refl

module _ (leaves : Leaves) (system : List ℕ) (units : List Unit) (are : AreUnitsOf leaves system units) where
  fault_same : (name : List ℕ) → IsUnitName name → own_fault leaves system name ≡ fault_in units name
  fault_same name named =
      sym (ap (option_and_then (λ (part : FilePart). part.fault)) (are.part name named) ∙ of_files (file_part leaves system name) (line_text (fstab_of leaves system) name))

pub no_fault : (leaves : Leaves) (system : List ℕ) (units : List Unit) → AreUnitsOf leaves system units → None ≡ first_faulty units → HasNoFault leaves system
no_fault leaves system units are none = λ unit named. fault_same leaves system units are unit named ∙ none_faulty units unit (sym none)

pub first_is : (leaves : Leaves) (system : List ℕ) (units : List Unit) (name : List ℕ) (line : ℕ) → AreUnitsOf leaves system units → AreSorted units → Some (name, line) ≡ first_faulty units → IsUnitName name →
    IsFirstFault leaves system name line
first_is leaves system units name line are sorted is named =
    let first = first_in units name line sorted (sym is) in
    record {
      named = named;
      faulty = fault_same leaves system units are name named ∙ first.faulty;
      earlier = λ other is_unit less. fault_same leaves system units are other is_unit ∙ first.earlier other less;
    }

-- a fault of a text names one unit and one line
pub same_fault : {X : Type 0} (unit other : List ℕ) (line at : ℕ) → ◌≡◌ {A = Result X DefsFault} (Err (Text unit line)) (Err (Text other at)) → (unit ≡ other) × (line ≡ at)
same_fault unit other line at is = (cc, cc)
