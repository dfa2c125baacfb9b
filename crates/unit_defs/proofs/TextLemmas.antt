-- Texts that are cut at their ends or at a byte.
use Rattle.std.proofs.Common.{◌≡◌, ℕ, ◌<◌, Bool, true, false, List, length, Option, None, Some, MatchOption, Bor}
use Rattle.std.specs.List.{list_any, position_or_len, before_first, after_first}
use Rattle.unit_text.proofs.EndLemmas.{none_passes, one_passes}

-- a text that is split once at a byte
pub split_once_at : (p : ℕ → Bool) (text : List ℕ) (r : Option (Bor (List ℕ) × Bor (List ℕ))) →
    MatchOption r (position_or_len p text ≡ length text)
    (λ x. (position_or_len p text < length text) × (x.0.now ≡ before_first p text) × (x.1.now ≡ after_first p text)) →
    MatchOption r (list_any p text ≡ false) (λ x. (list_any p text ≡ true) × (x.0.now ≡ before_first p text) × (x.1.now ≡ after_first p text))
split_once_at p text None is = none_passes p text is
split_once_at p text (Some x) is = (one_passes p text is.0, is.1, is.2)
