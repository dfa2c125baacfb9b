use Rattle.std.proofs.Common.{[], refl, inl}
use Rattle.host_trait.specs.Change.{Change, IsMoment}
use Rattle.host_trait.proofs.Moments.{started}
use Rattle.log_text.specs.Lists.{block_of}
use Rattle.log_text.specs.Log.{block_text}
use Rattle.owed_log.specs.Places.{log_place}
use Rattle.owed_log.proofs.clearing.append_block.Goals as goal

pub returns-in_err-text-clause-moments : goal.returns-in_err-text-clause-moments
returns-in_err-text-clause-moments g c = started (IsMoment (Change.Append log_place (block_text (block_of c.args.which [])))) (λ w is. inl refl)
