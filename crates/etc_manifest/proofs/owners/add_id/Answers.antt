use Rattle.std.proofs.Common.{sym, ◌∙◌}
use Rattle.etc_manifest.proofs.OwnerLemmas.{id_added, id_kept}
use Rattle.etc_manifest.proofs.owners.add_id.Goals as goal

pub returns-then-contains_key : goal.returns-then-contains_key
returns-then-contains_key c = λ other. id_kept c.args.ids.now c.args.name.now other c.args.id (sym c.contains_key.ensures ∙ c.if-contains_key.true)

pub returns : goal.returns
returns c = λ other.
    id_added c.args.ids.now c.insert.new.self c.args.name.now c.in_ok-copy.field-0 other c.args.id c.in_ok-copy.ensures (sym c.contains_key.ensures ∙ c.if-contains_key.false)
    c.in_ok-insert.ensures.updates.0
