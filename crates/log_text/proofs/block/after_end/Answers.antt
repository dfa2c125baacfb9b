use Rattle.log_text.proofs.ReadLemmas.{end_is, end_lined, never_both}
use Rattle.log_text.proofs.block.after_end.Goals as goal

pub returns-else-is_end : goal.returns-else-is_end
returns-else-is_end c rest same =
    never_both c.is_end.result (c.is_end.ensures.1 (end_is c.args.text.now c.in-Some.line.now c.in-Some.rest.now rest c.in-Some.ensures.0 c.in-Some.ensures.1 same)) c.if-is_end.false

pub returns-in-None : goal.returns-in-None
returns-in-None c rest same = end_lined c.args.text.now rest c.in-None.ensures same
