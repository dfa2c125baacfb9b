-- The lines of the generations that a collection drops, one after another.
use Rattle.std.proofs.Common.{◌≡◌, ◌≢◌, ◌+◌, ◌++◌, ℕ, List, [], ◌∷◌, Bor, Option, None, Some, MatchOption, OnOk, Result, Ok, Err, append_assoc, append-nil, codes, map, take, option_map, refl, sym, ap, ◌∙◌}
use Rattle.std.proofs.lemmas.List.{append_cancel_left, append_cancel_right, take_more}
use Rattle.std.proofs.lemmas.List.Concat.{flat_map-append}
use Rattle.std.proofs.lemmas.Option.{get_or_from_slice_get, slice_get-map, slice_get_within}
use Rattle.std.specs.Fmt.{decimal}
use Rattle.std.specs.List.{flat_map, slice_get}
use Rattle.generations.specs.Places.{link_path}
use Rattle.switch_names.specs.Names.{Name}
use Rattle.dry_report.specs.Collecting.{gone_line}
use Rattle.dry_report.specs.Lines.{told}

-- where a link's path begins so, what stands behind that and before its end is its number's digits
pub digits_of : (link rest : Name) (middle : Option (Bor (List ℕ))) → link ≡ codes "nix/var/nix/profiles/system-" ++ rest →
    MatchOption middle ((m : List ℕ) → rest ≢ m ++ codes "-link") (λ m. rest ≡ m.now ++ codes "-link") →
    MatchOption middle ((number : ℕ) → link ≢ link_path number) (λ digits. (number : ℕ) → link ≡ link_path number → digits.now ≡ decimal number)
unfolding link_path
digits_of link rest None is lacks = λ number named. lacks (decimal number) (append_cancel_left (codes "nix/var/nix/profiles/system-") rest (decimal number ++ codes "-link") (sym is ∙ named))
digits_of link rest (Some m) is ends = λ number named.
    append_cancel_right m.now (decimal number) (codes "-link")
    (sym ends ∙ append_cancel_left (codes "nix/var/nix/profiles/system-") rest (decimal number ++ codes "-link") (sym is ∙ named))

-- and a path that doesn't begin so is no link's
pub no_digits : (link : Name) → ((rest : List ℕ) → link ≢ codes "nix/var/nix/profiles/system-" ++ rest) → (number : ℕ) → link ≢ link_path number
unfolding link_path
no_digits link lacks number named = lacks (decimal number ++ codes "-link") named

-- so the line of the generation is that of its number
pub line_of : {E : Type 0} (link : Name) (digits out next : List ℕ) (r : Result (Unit {0}) E) → ((number : ℕ) → link ≡ link_path number → digits ≡ decimal number) →
    OnOk r (next ≡ out ++ told (codes "drop generation ") digits) → OnOk r ((number : ℕ) → link ≡ link_path number → next ≡ out ++ gone_line number)
line_of link digits out next (Ok done) is written = λ number named. written ∙ ap (λ (d : List ℕ). out ++ told (codes "drop generation ") d) (is number named)
line_of link digits out next (Err fault) is written = tt

module _ (numbers : List ℕ) (links : List Name) (are : links ≡ map link_path numbers) where
  module _ (count : ℕ) (link : Name) (is : slice_get links count ≡ Some link) where
    -- the number that the next link bears
    number_at : (number : ℕ) × (slice_get numbers count ≡ Some number) × (link ≡ link_path number)
    number_at = by (slice_get numbers count) refl (sym (slice_get-map link_path numbers count) ∙ ap (λ (l : List Name). slice_get l count) (sym are) ∙ is)
      where
        by : (o : Option ℕ) → slice_get numbers count ≡ o → option_map link_path o ≡ Some link → (number : ℕ) × (slice_get numbers count ≡ Some number) × (link ≡ link_path number)
        by None none same = absurd cc
        by (Some number) there same = (number, there, let that : link_path number ≡ link = cc in sym that)

    line_more : flat_map gone_line (take (count + 1) numbers) ≡ flat_map gone_line (take count numbers) ++ gone_line number_at.0
    line_more =
        ap (flat_map gone_line) (take_more numbers count number_at.0 (slice_get_within numbers count number_at.0 number_at.1)
        ∙ ap (λ (n : ℕ). take count numbers ++ n ∷ []) (get_or_from_slice_get numbers count number_at.0 number_at.0 number_at.1))
        ∙ flat_map-append gone_line (take count numbers) (number_at.0 ∷ [])
        ∙ ap (λ (t : List ℕ). flat_map gone_line (take count numbers) ++ t) (append-nil (gone_line number_at.0))

    -- the line of the next generation follows those so far
    pub gone_more : (start out next : List ℕ) → out ≡ start ++ flat_map gone_line (take count numbers) → ((number : ℕ) → link ≡ link_path number → next ≡ out ++ gone_line number) →
        next ≡ start ++ flat_map gone_line (take (count + 1) numbers)
    gone_more start out next so_far line =
        line number_at.0 number_at.2 ∙ ap (λ (t : List ℕ). t ++ gone_line number_at.0) so_far
        ∙ append_assoc start (flat_map gone_line (take count numbers)) (gone_line number_at.0) ∙ ap (λ (t : List ℕ). start ++ t) (sym line_more)
