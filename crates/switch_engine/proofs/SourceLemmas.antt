-- The paths of what a command takes, and the length of the file of its system.
use Rattle.std.proofs.Common.{◌≡◌, ◌++◌, ◌∷◌, ◌||◌, ℕ, Bool, true, false, List, [], length, Option, None, Some, is_none, option_map, unwrap_or, refl, sym, subst}
use Rattle.accounts_stage.specs.Lengths.{takes_accounts}
use Rattle.boot_entries.specs.Entries.{version_path}
use Rattle.etc_farm.specs.EtcPart.{takes_etc}
use Rattle.generations.specs.declared.gens.Gens.{Gens}
use Rattle.generations.specs.declared.moving.Move.{Move}
use Rattle.host_trait.specs.World.{Leaves}
use Rattle.leaf_limits.specs.Limits.{AreTaken}
use Rattle.leaf_limits.proofs.LongLemmas.{taken_both}
use Rattle.owed_log.specs.Places.{is_owed_place, log_place, old_places}
use Rattle.switch_engine.specs.Lengths.{takes_by, takes_moved, takes_switch}
use Rattle.switch_names.specs.Names.{Name, is_name}
use Rattle.unit_stage.specs.System.{takes_switched}

-- the file that each system has, what its parts take, and nothing else
pub all_taken :
    (switches : Bool) (moves : Option Move) (system : Name) (gens : Gens) (leaves : Leaves) (others moved whole : List Name) → whole ≡ version_path system ∷ (others ++ moved) →
    AreTaken others (takes_switch switches system leaves) leaves → AreTaken moved (takes_moved moves gens) leaves → AreTaken whole (takes_by switches moves system gens leaves) leaves
all_taken switches moves system gens leaves others moved whole same first second =
    subst (λ (ps : List Name). AreTaken ps (takes_by switches moves system gens leaves) leaves) (sym same)
    (taken_both (version_path system ∷ []) (others ++ moved) (λ q. is_name q (version_path system)) (λ q. takes_switch switches system leaves q || takes_moved moves gens q) leaves
    (λ q there. alone (is_name q (version_path system)))
    (taken_both others moved (takes_switch switches system leaves) (takes_moved moves gens) leaves first second))
  where
    alone : (b : Bool) → (b || false) ≡ b
    alone true = refl
    alone false = refl

-- the log and the lists of an older program, what the units take, the accounts and /etc
pub switch_taken :
    (switches : Bool) (system : Name) (leaves : Leaves) (owed units accounts entries whole : List Name) → switches ≡ true → owed ≡ log_place ∷ old_places → whole ≡ owed ++ (units ++ (accounts ++ entries)) →
    AreTaken units (takes_switched leaves system) leaves → AreTaken accounts (takes_accounts system) leaves → AreTaken entries (takes_etc leaves system) leaves → AreTaken whole (takes_switch switches system leaves) leaves
switch_taken switches system leaves owed units accounts entries whole on are same first second third =
    let others = taken_both accounts entries (takes_accounts system) (takes_etc leaves system) leaves second third in
    let parts = taken_both units (accounts ++ entries) (takes_switched leaves system) (λ q. takes_accounts system q || takes_etc leaves system q) leaves first others in
    let of_owed = subst (λ (ps : List Name). AreTaken ps is_owed_place leaves) (sym are) (λ q there. refl) in
    let all = taken_both owed (units ++ (accounts ++ entries)) is_owed_place (λ q. takes_switched leaves system q || (takes_accounts system q || takes_etc leaves system q)) leaves of_owed parts in
    subst (λ (ps : List Name). AreTaken ps (takes_switch switches system leaves) leaves) (sym same) (subst (λ b. AreTaken (owed ++ (units ++ (accounts ++ entries))) (takes_switch b system leaves) leaves) (sym on) all)

-- without a length there is no content
pub no_length : (content : Option (List ℕ)) → None ≡ option_map length content → is_none content ≡ true
no_length None is = refl
no_length (Some bytes) is = absurd cc

-- with one there is, and it has as many bytes
pub some_length : (content : Option (List ℕ)) (count : ℕ) → Some count ≡ option_map length content → (is_none content ≡ false) × (length (unwrap_or content []) ≡ count)
some_length None count is = absurd cc
some_length (Some bytes) count is = (refl, (let same : Some count ≡ Some (length bytes) = is in cc))
