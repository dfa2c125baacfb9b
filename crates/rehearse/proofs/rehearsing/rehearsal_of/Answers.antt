use Rattle.std.proofs.Common.{◌+◌, ◌++◌, length, ap, ◌∙◌}
use Rattle.made_world.specs.Draws.{state_at}
use Rattle.rehearse.specs.Rehearsal.{made_text}
use Rattle.rehearse.proofs.RepeatableLemmas.{switch_repeatable}
use Rattle.rehearse.proofs.RehearsalLemmas.{at_most, length_drawn, rehearsed_from}
use Rattle.rehearse.proofs.rehearsing.rehearsal_of.Goals as goal

pub rehearse_on-requires-clause-repeatable : goal.rehearse_on-requires-clause-repeatable
rehearse_on-requires-clause-repeatable c = switch_repeatable c.into_parts-world.result.1

pub rehearse_on-requires-clause-few : goal.rehearse_on-requires-clause-few
rehearse_on-requires-clause-few c =
    let drawn = c.as_slice.ensures ∙ ap (λ parts. parts.2) c.into_parts-world.ensures ∙ c.in_ok-made.ensures.cuts in
    at_most (length c.as_slice.result.now) 64 (ap length drawn ∙ length_drawn (state_at c.args.number (c.args.units + c.args.entries + c.args.users)) 64)

pub returns : goal.returns
returns c =
    let made = c.in_ok-made.made in let summary = c.in_ok-summary.summary in let left = c.world.result.now in
    let first = made_text c.args.units c.args.entries c.args.users in
    record {
      made = made;
      is_made = c.in_ok-made.ensures;
      left = left;
      summary = summary;
      rehearsed =
          rehearsed_from summary left c.in_ok-summary.ensures c.new-host.ensures.world c.world.ensures (ap (λ parts. parts.0) c.into_parts-world.ensures) (ap (λ parts. parts.1) c.into_parts-world.ensures);
      tells =
          c.from_string.ensures
          ∙ c.in_ok-push_str.ensures.bytes
          ∙ ap (λ text. text ++ c.as_str.result.now) c.in_ok-text.ensures
          ∙ ap (λ text. first ++ text) (c.as_str.ensures.value ∙ c.in_ok-left.ensures);
    }
