-- Endings of unit names: each kind has its own.
use Rattle.std.proofs.Common.{◌≡◌, ℕ, ◌<◌, ◌&&◌, ◌==◌, Bool, true, false, List, [], ◌∷◌, ◌++◌, length, drop, take, find, Some, nat_eq, nat_lt, Decides, arith, sym, ap, refl, ◌∙◌, ◌-◌, length-append}
use Rattle.std.specs.List.{list_any, ends_with}
use Rattle.std.specs.Str.{bytes_eq}
use Rattle.std.proofs.lemmas.Bool.Decides.{Decides-eqb, same_from_decides}
use Rattle.std.proofs.lemmas.List.Folds.{list_any-append}
use Rattle.std.proofs.lemmas.Slice.Eq.{ends_is, bytes_eq-Decides}
use Rattle.std.proofs.Math.Bool.{or-true}
use Rattle.std.proofs.lemmas.Bool.{and_parts}
use Rattle.switch_names.specs.UnitKind.{ending_of, all_kinds, has_ending, kind_of}
use Rattle.switch_names.specs.declared.unit_kind.UnitKind.{UnitKind}
use Rattle.switch_names.specs.declared.unit_kind.UnitKind.TheVariants.{Service}
use Rattle.switch_names.proofs.Below.{less_from_test}
use Rattle.switch_names.proofs.Lists.{find_same, find_passes}

abbrev is_dot : ℕ → Bool
is_dot byte = byte == 46

-- an ending is a dot and a word without one
dotted : (kind : UnitKind) → (ending_of kind ≡ 46 ∷ drop 1 (ending_of kind)) × (list_any is_dot (drop 1 (ending_of kind)) ≡ false)
dotted Service = (refl, refl)
dotted _ = (refl, refl)

has_dot : (front rest : List ℕ) → list_any is_dot (front ++ 46 ∷ rest) ≡ true
has_dot front rest = list_any-append is_dot front (46 ∷ rest) ∙ or-true (list_any is_dot front)

-- what follows the last dot of a text is one word
last_word : (front other word rest : List ℕ) → list_any is_dot word ≡ false → list_any is_dot rest ≡ false → front ++ 46 ∷ word ≡ other ++ 46 ∷ rest → word ≡ rest
last_word [] [] word rest free empty same = cc
last_word [] (y ∷ other) word rest free empty same =
    let tail : word ≡ other ++ 46 ∷ rest = cc in
    absurd (cc (ap (list_any is_dot) tail, has_dot other rest))
last_word (x ∷ front) [] word rest free empty same =
    let tail : front ++ 46 ∷ word ≡ rest = cc in
    absurd (cc (ap (list_any is_dot) tail, has_dot front word))
last_word (x ∷ front) (y ∷ other) word rest free empty same = last_word front other word rest free empty cc

-- a text with the ending of one kind ends as another does just where the two endings are equal
same_ending : (stem other : List ℕ) (kind kin : UnitKind) → stem ++ ending_of kind ≡ other ++ ending_of kin → ending_of kin ≡ ending_of kind
same_ending stem other kind kin same =
    let is = dotted kind in
    let was = dotted kin in
    let whole : stem ++ 46 ∷ drop 1 (ending_of kind) ≡ other ++ 46 ∷ drop 1 (ending_of kin) = ap (λ e. stem ++ e) (sym is.0) ∙ same ∙ ap (λ e. other ++ e) was.0 in
    let word = last_word stem other (drop 1 (ending_of kind)) (drop 1 (ending_of kin)) is.1 was.1 whole in
    was.0 ∙ ap (λ w. 46 ∷ w) (sym word) ∙ sym is.0

ends_same : (stem : List ℕ) (kind kin : UnitKind) → ends_with nat_eq (stem ++ ending_of kind) (ending_of kin) ≡ bytes_eq (ending_of kin) (ending_of kind)
ends_same stem kind kin =
    let text : List ℕ = stem ++ ending_of kind in
    let ends = ends_is Decides-eqb text (ending_of kin) (ends_with nat_eq text (ending_of kin)) refl in
    let decides : Decides (ends_with nat_eq text (ending_of kin)) (ending_of kin ≡ ending_of kind) =
    (λ yes. same_ending stem (take (length text - length (ending_of kin)) text) kind kin (ends.0 yes), λ same. ends.1 stem (ap (λ e. stem ++ e) (sym same))) in
    same_from_decides _ _ decides (bytes_eq-Decides (ending_of kin) (ending_of kind))

and_implied : (a b : Bool) → (b ≡ true → a ≡ true) → (a && b) ≡ b
and_implied true b implied = refl
and_implied false true implied = implied refl
and_implied false false implied = refl

has_own_ending : (stem : List ℕ) (kind kin : UnitKind) → 0 < length stem → has_ending (stem ++ ending_of kind) (ending_of kin) ≡ bytes_eq (ending_of kin) (ending_of kind)
has_own_ending stem kind kin more =
    rw (ends_same stem kind kin)
    (and_implied (nat_lt (length (ending_of kin)) (length (stem ++ ending_of kind))) (bytes_eq (ending_of kin) (ending_of kind))
    (λ yes. let same : length (ending_of kin) ≡ length (ending_of kind) = ap length ((bytes_eq-Decides (ending_of kin) (ending_of kind)).0 yes) in grind (arith, length-append {A = ℕ})))

found_itself : (kind : UnitKind) → find (λ kin. bytes_eq (ending_of kin) (ending_of kind)) all_kinds ≡ Some kind
found_itself Service = refl
found_itself _ = refl

-- a stem and the ending of a kind are of that kind
pub kind_of-stem : (stem : List ℕ) (kind : UnitKind) → 0 < length stem → kind_of (stem ++ ending_of kind) ≡ Some kind
unfolding kind_of
kind_of-stem stem kind more =
    find_same (λ kin. has_ending (stem ++ ending_of kind) (ending_of kin)) (λ kin. bytes_eq (ending_of kin) (ending_of kind)) (λ kin. has_own_ending stem kind kin more) all_kinds ∙ found_itself kind

-- a text of a kind ends as that kind does
pub ends-from_kind : (text : List ℕ) (kind : UnitKind) → kind_of text ≡ Some kind → ends_with nat_eq text (ending_of kind) ≡ true
unfolding kind_of
ends-from_kind text kind is = (and_parts _ _ (find_passes (λ kin. has_ending text (ending_of kin)) all_kinds kind is)).1

-- a text of a kind is longer than its ending
pub longer-from_kind : (text : List ℕ) (kind : UnitKind) → kind_of text ≡ Some kind → length (ending_of kind) < length text
unfolding kind_of
longer-from_kind text kind is =
    less_from_test (length (ending_of kind)) (length text)
    (and_parts (nat_lt (length (ending_of kind)) (length text)) (ends_with nat_eq text (ending_of kind)) (find_passes (λ kin. has_ending text (ending_of kin)) all_kinds kind is)).0
