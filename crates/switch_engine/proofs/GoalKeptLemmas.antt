-- At each moment of a rollback before its goal is removed it has the row that it had.
use Rattle.std.proofs.Common.{◌≡◌, ℕ, [], true, false, Option, None, Some, is_none, option_map, unwrap_or, refl, ap, ◌∙◌}
use Rattle.std.proofs.lemmas.Bool.{both_ways}
use Rattle.std.proofs.lemmas.Option.{none-some}
use Rattle.std.specs.FinMap.{get}
use Rattle.generations.specs.declared.gens.Gens.{Gens}
use Rattle.generations.specs.declared.moving.Move.{Move}
use Rattle.generations.specs.declared.moving.Move.TheVariants.{Point, Set}
use Rattle.generations.specs.Goal.{HasSameLinks, IsBefore, goal, goal_leaf, goal_place, names_system}
use Rattle.generations.specs.Goal.IsBefore.{Recorded, Unrecorded}
use Rattle.generations.specs.Move.{IsMoveTo}
use Rattle.generations.specs.Places.{generation_at, profile}
use Rattle.generations.proofs.BootLemmas.{boot_same}
use Rattle.generations.proofs.GoalLemmas.{goal_law, goal_names}
use Rattle.generations.proofs.PointLemmas.{links_stay}
use Rattle.generations.proofs.SetLaws.{generation_of}
use Rattle.host_trait.specs.World.{Leaves, WorldState, seen, with_leaf}
use Rattle.host_trait.proofs.Places.{at_same}
use Rattle.host_trait.proofs.Seen.{seen_at}
use Rattle.switch_engine.specs.declared.command.Command.{Command}
use Rattle.switch_engine.specs.declared.row.Row.{Row}
use Rattle.switch_engine.specs.Commands.{lacks_system, named_by, new_system, row, system_of}
use Rattle.switch_engine.specs.Moments.{record_world}
use Rattle.switch_engine.specs.Rows.{default_if}
use Rattle.switch_engine.proofs.GoalApart.{goal_not_stage}
use Rattle.switch_names.specs.Names.{Name}
use Rattle.switch_parts.proofs.StoreLemmas.{store_content_kept, store_not_stage}

-- the goal is recorded, where the profile goes back to a generation
abbrev pub IsRecorded : Option Move → Leaves → Type 0
IsRecorded None leaves = Unit {0}
IsRecorded (Some Set) leaves = Unit {0}
IsRecorded (Some (Point n)) leaves = get leaves goal_place ≡ Some (goal_leaf n)

-- what stands of the goal and the profile doesn't change the goal, where the profile goes back to a generation
abbrev pub IsGoalKept : Option Move → Leaves → Leaves → Type 0
IsGoalKept None w m = Unit {0}
IsGoalKept (Some Set) w m = Unit {0}
IsGoalKept (Some (Point n)) w m = IsBefore n w m

pub kept_recorded : (moves : Option Move) (w m : Leaves) → IsRecorded moves m → IsGoalKept moves w m
kept_recorded None w m is = tt
kept_recorded (Some Set) w m is = tt
kept_recorded (Some (Point n)) w m is = Recorded is

pub kept_first : (moves : Option Move) (w m : WorldState) → get m.leaves profile ≡ get w.leaves profile → seen m ≡ seen w → IsGoalKept moves w.leaves m.leaves
kept_first None w m same is = tt
kept_first (Some Set) w m same is = tt
kept_first (Some (Point n)) w m same is =
    Unrecorded (store_content_kept w.leaves m.leaves (λ q stored. seen_at m w is q (store_not_stage q stored)) goal_place (seen_at m w is goal_place goal_not_stage)) same

-- where it is recorded it stays so while its place does
pub recorded_same : (moves : Option Move) (r m : Leaves) → get m goal_place ≡ get r goal_place → IsRecorded moves r → IsRecorded moves m
recorded_same None r m same is = tt
recorded_same (Some Set) r m same is = tt
recorded_same (Some (Point n)) r m same is = same ∙ is

pub recorded_at : (moves : Option Move) (w r : WorldState) → seen r ≡ record_world moves w → IsRecorded moves r.leaves
recorded_at None w r is = tt
recorded_at (Some Set) w r is = tt
recorded_at (Some (Point n)) w r is = seen_at r (with_leaf goal_place (goal_leaf n) w) is goal_place goal_not_stage ∙ at_same w.leaves goal_place (goal_leaf n)

-- ---- the system to which the profile is moved

-- a generation to which the profile is moved names the system, where it is moved
abbrev pub IsMoveToBy : Option Move → Name → Leaves → Type 0
IsMoveToBy None system leaves = Unit {0}
IsMoveToBy (Some move) system leaves = IsMoveTo move system leaves

pub names_it : (o : Option (Option Name)) → names_system o ≡ true → o ≡ Some (Some (named_by o))
names_it None is = absurd (both_ways _ refl is)
names_it (Some None) is = absurd (both_ways _ refl is)
names_it (Some (Some system)) is = refl

pub moves_to : (command : Command) (leaves : Leaves) → IsMoveToBy (row command leaves).moves (new_system command leaves) leaves
moves_to (Command.Switch system) leaves = tt
moves_to (Command.Test system) leaves = tt
moves_to (Command.Boot system) leaves = tt
moves_to (Command.DryActivate system) leaves = tt
moves_to Command.StartUp leaves = tt
moves_to Command.Rollback leaves = by (goal leaves) refl
  where
    by : (o : Option ℕ) → goal leaves ≡ o → IsMoveToBy (option_map Point o) (system_of o leaves) leaves
    by None is = tt
    by (Some n) is = names_it (generation_at leaves n) (goal_names leaves n is)

pub move_to_kept : (moves : Option Move) (system : Name) (gens : Gens) (w m : WorldState) → (default_if moves system gens).Keeps w m → IsMoveToBy moves system w.leaves → IsMoveToBy moves system m.leaves
move_to_kept None system gens w m keeps to = tt
move_to_kept (Some Set) system gens w m keeps to = tt
move_to_kept (Some (Point n)) system gens w m keeps to = generation_of m.leaves w.leaves n (links_stay n system w m keeps.0.0 n) ∙ to

-- ---- the row

-- the profile and the links of the generations stand as they did
pub record IsProfileKept (w m : Leaves) : Type 0 where
  pub links : HasSameLinks w m
  pub same : get m profile ≡ get w profile

-- where a command has the same row, and a profile that isn't moved stands as it did, the generations give it a system as before
pub system_still : (command : Command) (w m : Leaves) → row command m ≡ row command w → ((row command w).moves ≡ None → IsProfileKept w m) → lacks_system command w ≡ false → lacks_system command m ≡ false
system_still (Command.Switch system) w m same stands has = refl
system_still (Command.Test system) w m same stands has = refl
system_still (Command.Boot system) w m same stands has = refl
system_still (Command.DryActivate system) w m same stands has = refl
system_still Command.StartUp w m same stands has = let kept = stands refl in ap is_none (boot_same w m kept.links kept.same) ∙ has
system_still Command.Rollback w m same stands has = by (goal m) (goal w) (ap (λ (r : Row). r.moves) same) has
  where
    by : (now before : Option ℕ) → option_map Point now ≡ option_map Point before → is_none before ≡ false → is_none now ≡ false
    by (Some n) before same has = refl
    by None None same has = has
    by None (Some n) same has = absurd (none-some (Point n) same)

abbrev pub back : Option ℕ → Leaves → Row
back o leaves = record { system = system_of o leaves; moves = option_map Point o; switches = true; start_up = false; changes = true }

pub row_same : (command : Command) (gens : Gens) (w m : WorldState) → lacks_system command w.leaves ≡ false → (default_if (row command w.leaves).moves (new_system command w.leaves) gens).Keeps w m →
    IsGoalKept (row command w.leaves).moves w.leaves m.leaves → ((row command w.leaves).moves ≡ None → IsProfileKept w.leaves m.leaves) → row command m.leaves ≡ row command w.leaves
row_same (Command.Switch system) gens w m has keeps kept stands = refl
row_same (Command.Test system) gens w m has keeps kept stands = refl
row_same (Command.Boot system) gens w m has keeps kept stands = refl
row_same (Command.DryActivate system) gens w m has keeps kept stands = refl
row_same Command.StartUp gens w m has keeps kept stands =
    let kept = stands refl in ap (λ o. record { system = unwrap_or o []; moves = None; switches = true; start_up = true; changes = true }) (boot_same w.leaves m.leaves kept.links kept.same)
row_same Command.Rollback gens w m has keeps kept stands = by (goal w.leaves) refl has keeps kept
  where
    by : (o : Option ℕ) → goal w.leaves ≡ o → is_none o ≡ false → (default_if (option_map Point o) (system_of o w.leaves) gens).Keeps w m → IsGoalKept (option_map Point o) w.leaves m.leaves → back (goal m.leaves) m.leaves ≡ back o w.leaves
    by None is has keeps kept = absurd (both_ways _ has refl)
    by (Some n) is has keeps kept =
        let links = links_stay n (system_of (Some n) w.leaves) w m keeps.0.0 in
        ap (λ o. back o m.leaves) (goal_law n w.leaves m.leaves (goal_names w.leaves n is) is links kept)
        ∙ ap (λ o. record { system = named_by o; moves = Some (Point n); switches = true; start_up = false; changes = true }) (generation_of m.leaves w.leaves n (links n))
