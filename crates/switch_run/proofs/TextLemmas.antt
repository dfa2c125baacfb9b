-- The text of a key that isn't empty.
use Rattle.std.proofs.Common.{◌≡◌, ℕ, List, [], ◌∷◌, refl}
use Rattle.users_spec.specs.declared.place.Place.{Place}
use Rattle.switch_run.specs.RefusalTexts.{key_text, keyed_text}

pub filled_key : (place : Place) (key : List ℕ) → (key ≡ [] → ⊥) → key_text place key ≡ keyed_text place key
filled_key place [] filled = absurd (filled refl)
filled_key place (byte ∷ rest) filled = refl
