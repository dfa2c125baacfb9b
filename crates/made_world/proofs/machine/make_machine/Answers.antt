use Rattle.std.proofs.Common.{◌≡◌, ◌+◌, ap, ◌∙◌}
use Rattle.host_trait.specs.World.{empty_world}
use Rattle.made_world.specs.Draws.{state_at}
use Rattle.made_world.specs.Entries.{entries_leaves}
use Rattle.made_world.specs.Machine.{version_leaves}
use Rattle.made_world.specs.Putting.{with_leaves}
use Rattle.made_world.specs.Units.{units_bad, units_leaves}
use Rattle.made_world.specs.Users.{users_leaves}
use Rattle.made_world.proofs.PuttingLemmas.{state_then, with_both, world_in_parts}
use Rattle.made_world.proofs.machine.make_machine.Goals as goal

pub returns-clause-made : goal.returns-clause-made
returns-clause-made c =
    let number = c.args.draws.now.state in let units = c.args.units in let entries = c.args.entries in let users = c.args.users in
    let before = c.make_units.new.draws.state in let between = c.make_entries.new.draws.state in
    let first : before ≡ state_at number units = c.in_ok-states.ensures.draws in
    let second : between ≡ state_at number (units + entries) = c.in_ok-make_entries.ensures.draws ∙ ap (λ state. state_at state entries) first ∙ state_then number units entries in
    let unit_files = units_leaves number units in let bad = units_bad number units in
    record {
      world =
          c.in_ok-make_users.ensures.world
          ∙ ap (with_leaves (users_leaves between users))
          (c.in_ok-make_entries.ensures.world
          ∙ ap (with_leaves (entries_leaves before entries))
          (c.in_ok-states.ensures.world ∙ ap (with_both unit_files bad) (c.in_ok-put_versions.ensures ∙ ap (with_leaves version_leaves) c.new-world.ensures)))
          ∙ ap (λ state. with_leaves (users_leaves between users) (with_leaves (entries_leaves state entries) (with_both unit_files bad (with_leaves version_leaves empty_world)))) first
          ∙ ap (λ state. with_leaves (users_leaves state users) (with_leaves (entries_leaves (state_at number units) entries) (with_both unit_files bad (with_leaves version_leaves empty_world)))) second
          ∙ world_in_parts version_leaves unit_files (entries_leaves (state_at number units) entries) (users_leaves (state_at number (units + entries)) users) bad;
      states = c.in_ok-states.ensures.states;
    }

pub returns-clause-draws : goal.returns-clause-draws
returns-clause-draws c =
    let number = c.args.draws.now.state in let units = c.args.units in let entries = c.args.entries in let users = c.args.users in
    c.in_ok-make_users.ensures.draws
    ∙ ap (λ state. state_at state users) (c.in_ok-make_entries.ensures.draws ∙ ap (λ state. state_at state entries) c.in_ok-states.ensures.draws ∙ state_then number units entries)
    ∙ state_then number (units + entries) users
