-- What is listed below a folder.
use Rattle.std.proofs.Common.{◌≡◌, ℕ, ◌&&◌, ◌||◌, not, Bool, true, false, List, ◌∷◌, ◌++◌, ap, ◌∙◌}
use Rattle.std.proofs.lemmas.Bool.{false_from_ne_true}
use Rattle.std.proofs.lemmas.Slice.Eq.{bytes_eq-Decides}
use Rattle.switch_names.specs.Path.{is_below, slash}
use Rattle.switch_names.proofs.Below.{below_front}
use Rattle.host_trait.specs.World.{is_listed, is_path, stage}

pub listed_by : (a b c : Bool) → b ≡ true → c ≡ false → ((a || b) && not c) ≡ true
listed_by true b c second third = ap not third
listed_by false b c second third = ap (λ x. x && not c) second ∙ ap not third

-- what stands below a folder is listed, but for the stage
pub is_among : (folder name : List ℕ) → (folder ++ slash ∷ name ≡ stage → ⊥) → is_listed folder (folder ++ slash ∷ name) ≡ true
is_among folder name other =
    let path : List ℕ = folder ++ slash ∷ name in
    listed_by (is_path path folder) (is_below path folder) (is_path path stage) (below_front folder name) (false_from_ne_true _ (λ same. other ((bytes_eq-Decides path stage).0 same)))
