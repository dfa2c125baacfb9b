-- Why a world refuses a command: how long its log is hangs on what it owes, and a steady world's isn't too long.
use Rattle.std.proofs.Common.{◌≡◌, Bool, Option, None, Some, is_none, refl, sym, ap, subst, ◌∙◌}
use Rattle.boot_entries.specs.Entries.{version_path}
use Rattle.host_trait.specs.World.{Leaves, WorldState, content_of}
use Rattle.leaf_limits.specs.declared.too_long.TooLong.{TooLong}
use Rattle.leaf_limits.specs.Limits.{first_long}
use Rattle.switch_engine.specs.declared.command.Command.{Command}
use Rattle.switch_engine.specs.Commands.{lacks_system, missing, row, switched_to}
use Rattle.switch_engine.specs.Owing.{IsLongLogTo, IsSteadyFor, IsSteadyTo, Refuses}
use Rattle.switch_engine.specs.Rows.{parts_in, parts_refusal, refusal, refusal_before_length, refusal_in_parts, refusal_with, system_refusal, too_much_by}
use Rattle.switch_engine.proofs.LongLemmas.{none_refused, unless}
use Rattle.switch_names.specs.Names.{Name}
use Rattle.switch_names.proofs.Outcomes.{option_or_parts}
use Rattle.switch_parts.specs.declared.refusal.Refusal.{Refusal}
use Rattle.switch_parts.specs.declared.refusal.Refusal.TheVariants.{NoSystem}
use Rattle.switch_parts.specs.Limits.{long_refusal}
use Rattle.switch_parts.proofs.LongLemmas.{long_parts}
use Rattle.unit_stage.proofs.LogLemmas.{one_length_law, some_length_law, steady_log_law}

-- ---- the log, with a switch of the units or without one

pub one_log_to : (start_up : Bool) (to : Option Name) (w : WorldState) (one other : Option TooLong) → IsLongLogTo start_up to w one → IsLongLogTo start_up to w other → one ≡ other
one_log_to start_up None w one other first second = first ∙ sym second
one_log_to start_up (Some system) w one other first second = one_length_law start_up w system one other first second

pub some_log_to : (start_up : Bool) (to : Option Name) (w : WorldState) → (log : Option TooLong) × IsLongLogTo start_up to w log
some_log_to start_up None w = (None, refl)
some_log_to start_up (Some system) w = some_length_law start_up w system

pub steady_log_to : (start_up : Bool) (to : Option Name) (w : WorldState) → IsSteadyTo start_up to w → IsLongLogTo start_up to w None
steady_log_to start_up None w steady = refl
steady_log_to start_up (Some system) w steady = steady_log_law start_up w system steady

-- ---- a command

-- a world refuses it for one reason, or for none
pub one_refusal_law : (command : Command) (w : WorldState) (one other : Option Refusal) → Refuses command w one → Refuses command w other → one ≡ other
one_refusal_law command w one other first second =
    first.2
    ∙ ap (λ (log : Option TooLong). refusal_with log command w.leaves) (one_log_to (row command w.leaves).start_up (switched_to command w.leaves) w first.0 second.0 first.1 second.1)
    ∙ sym second.2

pub some_refusal_law : (command : Command) (w : WorldState) → (why : Option Refusal) × Refuses command w why
some_refusal_law command w =
    let log = some_log_to (row command w.leaves).start_up (switched_to command w.leaves) w in (refusal_with log.0 command w.leaves, (log.0, log.1, refl))

-- a steady one by its leaves alone
pub steady_refusal_law : (command : Command) (w : WorldState) → IsSteadyFor command w → Refuses command w (refusal command w.leaves)
steady_refusal_law command w steady = (None, steady_log_to (row command w.leaves).start_up (switched_to command w.leaves) w steady, refl)

-- what isn't refused puts no log that is too long
no_log : (log : Option TooLong) (command : Command) (leaves : Leaves) → refusal_with log command leaves ≡ None → log ≡ None
no_log log command leaves none =
    let its = row command leaves in
    let part = parts_in its.start_up its.switches its.moves its.system leaves in
    let system = (unless (lacks_system command leaves) (missing command) (system_refusal log command leaves) none).1 in
    let parts = (unless (is_none (content_of leaves (version_path its.system))) NoSystem (parts_refusal log command leaves) system).1 in
    let within = option_or_parts (too_much_by its.switches its.moves its.system leaves) (refusal_in_parts log its.start_up its.switches its.moves its.system leaves) parts in
    let long = option_or_parts (refusal_before_length its.start_up its.switches its.moves its.system leaves) (long_refusal (first_long log (part.long leaves))) within.1 in
    (long_parts log (part.long leaves) (none_refused (first_long log (part.long leaves)) long.1)).0

-- and so its leaves don't refuse it either
pub refused_by_leaves_law : (command : Command) (w : WorldState) → Refuses command w None → refusal command w.leaves ≡ None
refused_by_leaves_law command w refuses =
    let none : refusal_with refuses.0 command w.leaves ≡ None = sym refuses.2 in
    subst (λ (log : Option TooLong). refusal_with log command w.leaves ≡ None) (no_log refuses.0 command w.leaves none) none
