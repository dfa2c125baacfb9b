-- Which commands are made again where one was cut.
use Rattle.std.proofs.Common.{◌≡◌, ℕ, List, codes, cond, None, Some, true, false, option_map, refl, sym, ap, subst, ◌∙◌, ◌⊎◌, ⊎_elim}
use Rattle.std.proofs.lemmas.Bool.{both_ways}
use Rattle.std.specs.Cmp.{eq_by_cmp_equiv}
use Rattle.std.specs.FinMap.{empty, get, get-insert, insert}
use Rattle.std.specs.Ordering.{eq_by_cmp}
use Rattle.generations.specs.declared.moving.Move.TheVariants.{Point}
use Rattle.generations.specs.Goal.{goal, goal_leaf, goal_place, has_target, names_system, previous, recorded, some_number}
use Rattle.generations.specs.Places.{is_number, link_path, target_of}
use Rattle.generations.proofs.GoalLemmas.{goal_recorded, with_target}
use Rattle.host_trait.specs.declared.leaf.LeafKind.{LeafKind}
use Rattle.host_trait.specs.declared.leaf.LeafKind.TheVariants.{Link}
use Rattle.host_trait.specs.World.{Leaves, bytes_cmp, leaf_content}
use Rattle.host_trait.proofs.Places.{bytes_total}
use Rattle.rehearse.specs.Ends.{IsRepeatable}
use Rattle.switch_engine.specs.declared.command.Command.{Command}
use Rattle.switch_engine.specs.declared.command.Command.TheVariants.{Boot, Rollback, StartUp, Switch, Test}
use Rattle.switch_engine.specs.Commands.{goes_back, is_back}
use Rattle.switch_names.specs.Names.{Name}

pub switch_repeatable : (system : Name) → IsRepeatable (Switch system)
switch_repeatable system = record { changes = λ query. both_ways _ (query empty) refl; ahead = λ leaves. refl }

test_repeatable : (system : Name) → IsRepeatable (Test system)
test_repeatable system = record { changes = λ query. both_ways _ (query empty) refl; ahead = λ leaves. refl }

boot_repeatable : (system : Name) → IsRepeatable (Boot system)
boot_repeatable system = record { changes = λ query. both_ways _ (query empty) refl; ahead = λ leaves. refl }

pub start_up_repeatable : IsRepeatable StartUp
start_up_repeatable = record { changes = λ query. both_ways _ (query empty) refl; ahead = λ leaves. refl }

pub repeatable : (command : Command) → ((system : Name) × command ≡ Switch system) ⊎ (((system : Name) × command ≡ Test system) ⊎ (((system : Name) × command ≡ Boot system) ⊎ (command ≡ StartUp))) → IsRepeatable command
repeatable command is = ⊎_elim
    (λ one. subst IsRepeatable (sym one.1) (switch_repeatable one.0))
    (λ others. ⊎_elim
    (λ one. subst IsRepeatable (sym one.1) (test_repeatable one.0))
    (λ last. ⊎_elim
    (λ one. subst IsRepeatable (sym one.1) (boot_repeatable one.0))
    (λ start. subst IsRepeatable (sym start) start_up_repeatable)
    last)
    others)
    is

-- ---- a rollback goes back where a goal is recorded

get_here : (leaves : Leaves) (at : List ℕ) (leaf : LeafKind) → get (insert leaves at leaf) at ≡ Some leaf
get_here leaves at leaf = get-insert bytes_total leaves at leaf at ∙ ap (λ same. cond same (Some leaf) (get leaves at)) ((eq_by_cmp_equiv bytes_total).refl at)

abbrev link : LeafKind
link = Link (codes "/nix/store/a")

abbrev linked : Leaves
linked = insert empty (link_path 1) link

-- a tree in which the first generation is recorded
abbrev recorded_tree : Leaves
recorded_tree = insert linked goal_place (goal_leaf 1)

apart : eq_by_cmp bytes_cmp (link_path 1) goal_place ≡ false
unfolding link_path goal_place
apart = refl

link_there : get recorded_tree (link_path 1) ≡ Some link
link_there =
    get-insert bytes_total linked goal_place (goal_leaf 1) (link_path 1)
    ∙ ap (λ same. cond same (Some (goal_leaf 1)) (get linked (link_path 1))) apart
    ∙ get_here empty (link_path 1) link

target_there : has_target recorded_tree 1 ≡ true
target_there = ap (λ leaf. names_system (cond (is_number 1) (option_map target_of leaf) None)) link_there

goal_there : goal recorded_tree ≡ Some 1
goal_there =
    goal_recorded (recorded recorded_tree) 1 (some_number (previous recorded_tree))
    (with_target recorded_tree 1 (ap (leaf_content recorded_tree) (get_here linked goal_place (goal_leaf 1))) target_there)

pub rollback_unrepeatable : IsRepeatable Rollback → ⊥
rollback_unrepeatable is = both_ways (goes_back Rollback recorded_tree) (is.ahead recorded_tree) (ap (λ to. is_back (option_map Point to)) goal_there)
