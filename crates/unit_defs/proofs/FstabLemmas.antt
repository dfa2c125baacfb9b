-- What the lines of an fstab add to what was found.
use Rattle.std.proofs.Common.{◌≡◌, ℕ, ◌<◌, ◌+◌, ◌&&◌, ◌||◌, Bool, true, false, cond, List, [], ◌∷◌, ◌++◌, length, take, get_or, codes, filter, Option, None, Some, option_map, refl, sym, ap, subst, ◌∙◌, append_assoc, inl, inr, arith}
use Rattle.std.specs.FinMap.{from_entries}
use Rattle.std.specs.FinMap as finite
use Rattle.std.specs.List.{find}
use Rattle.std.specs.Option.{option_map_or, option_or}
use Rattle.std.proofs.lemmas.Bool.{or_cases, or_left, or_right}
use Rattle.std.proofs.lemmas.List.{append-nil, take_more}
use Rattle.switch_names.specs.UnitName.{named_unit}
use Rattle.switch_names.specs.declared.unit_kind.UnitKind.{UnitKind}
use Rattle.switch_names.specs.declared.unit_kind.UnitKind.TheVariants.{Service, Socket, Target, Mount, Automount, Swap, Path, Slice, Timer, Scope, Device}
use Rattle.switch_names.specs.Names.{Name, has, is_name}
use Rattle.switch_names.specs.UnitKind.{kind_of}
use Rattle.switch_names.proofs.Outcomes.{option_or_assoc, option_or_none}
use Rattle.host_trait.specs.World.{Leaves, bytes_cmp, content_of}
use Rattle.host_trait.proofs.Places.{alike, found}
use Rattle.unit_text.specs.declared.assignment.Assignment.{Assignment}
use Rattle.fstab_mounts.specs.Fstab.{fstab_units}
use Rattle.fstab_mounts.specs.declared.fs_unit.FsUnit.{FsUnit}
use Rattle.unit_defs.specs.declared.reading.found.FoundUnits.{FoundUnits}
use Rattle.unit_defs.specs.declared.reading.found.UnitFiles.{UnitFiles}
use Rattle.unit_defs.specs.declared.part.FilePart.{FilePart}
use Rattle.unit_defs.specs.declared.place.UnitPlace.TheVariants.{Want}
use Rattle.unit_defs.specs.Files.{folder_wants}
use Rattle.unit_defs.specs.Found.{AreFilesOf, Joins, JoinsLines, Takes, drop_in_in, drop_ins_in, files_in, line_in, wants_in}
use Rattle.unit_defs.specs.Fstab.{fstab_of, fstab_path, is_auto_mount, is_mount_kind, is_swap, is_swap_kind, line_text, names_of, target_by, target_of, wanted_by_lines}
use Rattle.host_trait.proofs.NameOrder.{name_exact}
use Rattle.unit_defs.proofs.WorldLemmas.{inner_at, none_wanted}

-- ---- what lines say, one list after the other

line_more : (xs ys : List FsUnit) (unit : Name) → line_text (xs ++ ys) unit ≡ option_or (line_text xs unit) (line_text ys unit)
line_more [] ys unit = refl
line_more (x ∷ xs) ys unit = by (is_name x.unit unit) (line_more xs ys unit)
  where
    by : (b : Bool) → line_text (xs ++ ys) unit ≡ option_or (line_text xs unit) (line_text ys unit) →
        option_map (λ (line : FsUnit). line.text) (cond b (Some x) (find (λ (line : FsUnit). is_name line.unit unit) (xs ++ ys)))
        ≡ option_or (option_map (λ (line : FsUnit). line.text) (cond b (Some x) (find (λ (line : FsUnit). is_name line.unit unit) xs))) (line_text ys unit)
    by true rest = refl
    by false rest = rest

names_more : (p : FsUnit → Bool) (xs ys : List FsUnit) → names_of (filter p (xs ++ ys)) ≡ names_of (filter p xs) ++ names_of (filter p ys)
names_more p [] ys = refl
names_more p (x ∷ xs) ys = by (p x) (names_more p xs ys)
  where
    by : (b : Bool) → names_of (filter p (xs ++ ys)) ≡ names_of (filter p xs) ++ names_of (filter p ys) →
        names_of (cond b (x ∷ filter p (xs ++ ys)) (filter p (xs ++ ys))) ≡ names_of (cond b (x ∷ filter p xs) (filter p xs)) ++ names_of (filter p ys)
    by true rest = ap (λ names. x.unit ∷ names) rest
    by false rest = rest

wanted_more : (xs ys : List FsUnit) (unit : Name) → wanted_by_lines (xs ++ ys) unit ≡ wanted_by_lines xs unit ++ wanted_by_lines ys unit
wanted_more xs ys unit = by (is_name (codes "local-fs.target") unit) (is_name (codes "swap.target") unit)
  where
    by : (a b : Bool) →
        cond a (names_of (filter is_auto_mount (xs ++ ys))) (cond b (names_of (filter is_swap (xs ++ ys))) [])
        ≡ cond a (names_of (filter is_auto_mount xs)) (cond b (names_of (filter is_swap xs)) []) ++ cond a (names_of (filter is_auto_mount ys)) (cond b (names_of (filter is_swap ys)) [])
    by true b = names_more is_auto_mount xs ys
    by false true = names_more is_swap xs ys
    by false false = refl

-- no line adds anything
pub joins_none : (kept : FoundUnits) → JoinsLines [] kept kept
joins_none kept = record {
  file = λ unit. refl;
  drop_in = λ unit name. refl;
  line = λ unit. sym (option_or_none (line_in kept unit));
  wants = λ unit. sym (append-nil (wants_in kept unit)) ∙ ap (λ names. wants_in kept unit ++ names) (sym (none_wanted unit));
}

joins_both : (line more : Name → Option (List Assignment)) (names others : Name → List Name) (old mid new : FoundUnits) → Joins line names old mid → Joins more others mid new →
    Joins (λ unit. option_or (line unit) (more unit)) (λ unit. names unit ++ others unit) old new
joins_both line more names others old mid new first second = record {
  file = λ unit. second.file unit ∙ first.file unit;
  drop_in = λ unit name. second.drop_in unit name ∙ first.drop_in unit name;
  line = λ unit. second.line unit ∙ ap (λ l. option_or l (more unit)) (first.line unit) ∙ option_or_assoc (line_in old unit) (line unit) (more unit);
  wants = λ unit. second.wants unit ∙ ap (λ w. w ++ others unit) (first.wants unit) ∙ append_assoc (wants_in old unit) (names unit) (others unit);
}

-- what is joined is told by what it says of each unit
joins_as : (line other : Name → Option (List Assignment)) (names others : Name → List Name) (old new : FoundUnits) → ((unit : Name) → line unit ≡ other unit) → ((unit : Name) → names unit ≡ others unit) →
    Joins line names old new → Joins other others old new
joins_as line other names others old new same_line same_names joins = record {
  file = joins.file;
  drop_in = joins.drop_in;
  line = λ unit. joins.line unit ∙ ap (option_or (line_in old unit)) (same_line unit);
  wants = λ unit. joins.wants unit ∙ ap (λ w. wants_in old unit ++ w) (same_names unit);
}

pub joins_more : (lines : List FsUnit) (i : ℕ) (line : FsUnit) (old mid new : FoundUnits) → i < length lines → line ≡ get_or lines i line →
    JoinsLines (take i lines) old mid → JoinsLines (line ∷ []) mid new → JoinsLines (take (i + 1) lines) old new
joins_more lines i line old mid new within is first second =
    subst (λ ls. JoinsLines ls old new) (sym (take_more lines i line within ∙ ap (λ l. take i lines ++ l ∷ []) (sym is)))
    (joins_as _ (line_text (take i lines ++ line ∷ [])) _ (wanted_by_lines (take i lines ++ line ∷ [])) old new
    (λ unit. sym (line_more (take i lines) (line ∷ []) unit)) (λ unit. sym (wanted_more (take i lines) (line ∷ []) unit))
    (joins_both (line_text (take i lines)) (line_text (line ∷ [])) (wanted_by_lines (take i lines)) (wanted_by_lines (line ∷ [])) old mid new first second))

-- ---- what one line says

-- the text of a line, and then what it makes its target want
pub joins_one : (line : FsUnit) (unit : Name) (text : List Assignment) (old mid new : FoundUnits) → unit ≡ line.unit → text ≡ line.text →
    Joins (λ other. cond (is_name unit other) (Some text) None) (λ other. []) old mid → Joins (λ other. None) (wanted_by_lines (line ∷ [])) mid new → JoinsLines (line ∷ []) old new
joins_one line unit text old mid new is_unit is_text first second =
    joins_as _ (line_text (line ∷ [])) _ (wanted_by_lines (line ∷ [])) old new
    (λ other. option_or_none (cond (is_name unit other) (Some text) None) ∙ (λ i. cond (is_name (is_unit i) other) (Some (is_text i)) None) ∙ by (is_name line.unit other)) (λ other. refl)
    (joins_both (λ other. cond (is_name unit other) (Some text) None) (λ other. None) (λ other. []) (wanted_by_lines (line ∷ [])) old mid new first second)
  where
    by : (b : Bool) → cond b (Some line.text) None ≡ option_map (λ (l : FsUnit). l.text) (cond b (Some line) None)
    by true = refl
    by false = refl

-- no unit has the names of both targets
not_both : (unit : Name) → is_name (codes "local-fs.target") unit ≡ true → is_name (codes "swap.target") unit ≡ true → ⊥
not_both unit mounts swaps =
    let same = ap (λ (name : List ℕ). length name) (name_exact (codes "local-fs.target") unit mounts ∙ sym (name_exact (codes "swap.target") unit swaps)) in
    omega arith

abbrev picked : Option Name → Name → Name → List Name
picked None name unit = []
picked (Some target) name unit = cond (is_name target unit) (name ∷ []) []

module _ (line : FsUnit) (unit : Name) where
  abbrev wanted_if : Bool → Bool → Bool → Bool → List Name
  wanted_if mounts swaps is_mounted is_swapped = cond mounts (names_of (cond is_mounted (line ∷ []) [])) (cond swaps (names_of (cond is_swapped (line ∷ []) [])) [])

  none_if : (mounts swaps auto : Bool) → wanted_if mounts swaps (auto && false) false ≡ []
  none_if true swaps true = refl
  none_if true swaps false = refl
  none_if false true auto = refl
  none_if false false auto = refl

  mount_if : (mounts swaps : Bool) → wanted_if mounts swaps true false ≡ cond mounts (line.unit ∷ []) []
  mount_if true swaps = refl
  mount_if false true = refl
  mount_if false false = refl

  swap_if : (mounts swaps auto : Bool) → (mounts ≡ true → swaps ≡ true → ⊥) → wanted_if mounts swaps (auto && false) true ≡ cond swaps (line.unit ∷ []) []
  swap_if true true auto both = absurd (both refl refl)
  swap_if true false true both = refl
  swap_if true false false both = refl
  swap_if false true auto both = refl
  swap_if false false auto both = refl

  abbrev to_mounts : Bool
  to_mounts = is_name (codes "local-fs.target") unit

  abbrev to_swaps : Bool
  to_swaps = is_name (codes "swap.target") unit

  wanted_by : (kind : Option UnitKind) (auto : Bool) → wanted_if to_mounts to_swaps (auto && is_mount_kind kind) (is_swap_kind kind) ≡ picked (target_by kind auto) line.unit unit
  wanted_by (Some Mount) true = mount_if to_mounts to_swaps
  wanted_by (Some Mount) false = none_if to_mounts to_swaps false
  wanted_by (Some Swap) auto = swap_if to_mounts to_swaps auto (not_both unit)
  wanted_by None auto = none_if to_mounts to_swaps auto
  wanted_by (Some Service) auto = none_if to_mounts to_swaps auto
  wanted_by (Some Socket) auto = none_if to_mounts to_swaps auto
  wanted_by (Some Target) auto = none_if to_mounts to_swaps auto
  wanted_by (Some Automount) auto = none_if to_mounts to_swaps auto
  wanted_by (Some Path) auto = none_if to_mounts to_swaps auto
  wanted_by (Some Slice) auto = none_if to_mounts to_swaps auto
  wanted_by (Some Timer) auto = none_if to_mounts to_swaps auto
  wanted_by (Some Scope) auto = none_if to_mounts to_swaps auto
  wanted_by (Some Device) auto = none_if to_mounts to_swaps auto

  wanted_one : wanted_by_lines (line ∷ []) unit ≡ picked (target_of line) line.unit unit
  wanted_one = wanted_by (kind_of line.unit) line.auto

-- no target wants the unit of a line
pub joins_unwanted : (line : FsUnit) (kept : FoundUnits) → None ≡ target_of line → Joins (λ unit. None) (wanted_by_lines (line ∷ [])) kept kept
joins_unwanted line kept none = record {
  file = λ unit. refl;
  drop_in = λ unit name. refl;
  line = λ unit. sym (option_or_none (line_in kept unit));
  wants = λ unit. sym (append-nil (wants_in kept unit)) ∙ ap (λ names. wants_in kept unit ++ names) (ap (λ target. picked target line.unit unit) none ∙ sym (wanted_one line unit));
}

-- a target wants it
pub joins_wanted : (line : FsUnit) (target name : Name) (old new : FoundUnits) → Some target ≡ target_of line → name ≡ line.unit → Takes (Some (Want target name)) None old new →
    Joins (λ unit. None) (wanted_by_lines (line ∷ [])) old new
joins_wanted line target name old new is_target is_name takes = record {
  file = takes.file;
  drop_in = takes.drop_in;
  line = λ unit. takes.line unit ∙ sym (option_or_none (line_in old unit));
  wants = λ unit. takes.wants unit ∙ ap (λ names. wants_in old unit ++ names) (ap (λ n. picked (Some target) n unit) is_name ∙ ap (λ t. picked t line.unit unit) is_target ∙ sym (wanted_one line unit));
}

-- ---- the targets, by their names

mounts_named : named_unit (codes "local-fs.target") ≡ Some (codes "local-fs.target")
unfolding kind_of
mounts_named = refl

swaps_named : named_unit (codes "swap.target") ≡ Some (codes "swap.target")
unfolding kind_of
swaps_named = refl

pub mount_target : (line : FsUnit) → kind_of line.unit ≡ Some Mount → line.auto ≡ true → named_unit (codes "local-fs.target") ≡ target_of line
mount_target line is auto = mounts_named ∙ sym (ap (λ kind. target_by kind line.auto) is ∙ ap (target_by (Some Mount)) auto)

pub swap_target : (line : FsUnit) → kind_of line.unit ≡ Some Swap → named_unit (codes "swap.target") ≡ target_of line
swap_target line is = swaps_named ∙ sym (ap (λ kind. target_by kind line.auto) is)

-- ---- what the folder and the lines say

drop_ins_same : (old new : FoundUnits) (unit : Name) → ((name : Name) → drop_in_in new unit name ≡ drop_in_in old unit name) → drop_ins_in new unit ≡ drop_ins_in old unit
drop_ins_same old new unit same =
    let of_new : List (Name × FilePart) = option_map_or (λ (files : UnitFiles). files.drop_ins.entries) (files_in new unit) [] in
    let of_old : List (Name × FilePart) = option_map_or (λ (files : UnitFiles). files.drop_ins.entries) (files_in old unit) [] in
    ap finite.values (alike (from_entries {R = bytes_cmp} of_new) (from_entries {R = bytes_cmp} of_old)
    (λ name. found of_new name ∙ inner_at (files_in new unit) name ∙ same name ∙ sym (inner_at (files_in old unit) name) ∙ sym (found of_old name)))

-- all that the folder says was found, and then what the lines say
pub all_joined : (leaves : Leaves) (system : List ℕ) (lines : List FsUnit) (old new : FoundUnits) → AreFilesOf leaves system [] old → JoinsLines lines old new → AreFilesOf leaves system lines new
all_joined leaves system lines old new are joins = record {
  file = λ unit named. joins.file unit ∙ are.file unit named;
  drop_ins = λ unit named. drop_ins_same old new unit (joins.drop_in unit) ∙ are.drop_ins unit named;
  line = λ unit named. joins.line unit ∙ ap (λ l. option_or l (line_text lines unit)) (are.line unit named);
  wants = λ unit named.
      joins.wants unit
      ∙ ap (λ names. names ++ wanted_by_lines lines unit) (are.wants unit named ∙ ap (λ names. folder_wants leaves system unit ++ names) (none_wanted unit) ∙ append-nil (folder_wants leaves system unit));
}

-- ---- for the crates above

-- fstabs with the same content define the same
pub fstab_same : (leaves other : Leaves) (system : List ℕ) → content_of leaves (fstab_path system) ≡ content_of other (fstab_path system) → fstab_of leaves system ≡ fstab_of other system
fstab_same leaves other system same = ap (λ content. option_map_or fstab_units content []) same

names_in_all : (p : FsUnit → Bool) (lines : List FsUnit) (name : Name) → has (names_of (filter p lines)) name ≡ true → has (names_of lines) name ≡ true
names_in_all p [] name there = there
names_in_all p (line ∷ lines) name there = by (p line) there (names_in_all p lines name)
  where
    by : (b : Bool) → has (names_of (cond b (line ∷ filter p lines) (filter p lines))) name ≡ true → (has (names_of (filter p lines)) name ≡ true → has (names_of lines) name ≡ true) →
        (is_name name line.unit || has (names_of lines) name) ≡ true
    by true there rest = elim (or_cases (is_name name line.unit) (has (names_of (filter p lines)) name) there) [
      | inl first ↦ or_left (is_name name line.unit) (has (names_of lines) name) first
      | inr more ↦ or_right (is_name name line.unit) (has (names_of lines) name) (rest more)
    ]
    by false there rest = or_right (is_name name line.unit) (has (names_of lines) name) (rest there)

-- what lines make a unit want is named by one of them
pub wanted_named : (lines : List FsUnit) (unit name : Name) → has (wanted_by_lines lines unit) name ≡ true → has (names_of lines) name ≡ true
wanted_named lines unit name = by (is_name (codes "local-fs.target") unit) (is_name (codes "swap.target") unit)
  where
    by : (a b : Bool) → has (cond a (names_of (filter is_auto_mount lines)) (cond b (names_of (filter is_swap lines)) [])) name ≡ true → has (names_of lines) name ≡ true
    by true b there = names_in_all is_auto_mount lines name there
    by false true there = names_in_all is_swap lines name there
    by false false there = absurd (cc)
