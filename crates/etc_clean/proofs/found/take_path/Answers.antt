use Rattle.std.proofs.Common.{◌∙◌, Some, ap, sym}
use Rattle.host_trait.proofs.Readings.{no_device, nothing_read, nothing_read_ok, read_handed, read_ok, read_starved}
use Rattle.std.specs.FinMap.{get}
use Rattle.etc_manifest.specs.Manifest.{entry}
use Rattle.etc_manifest.specs.Place.{is_reserved}
use Rattle.etc_clean.specs.Names.{is_in_etc, name_of}
use Rattle.etc_clean.specs.Standing.{is_leaf_of}
use Rattle.etc_clean.proofs.FoundLemmas.{entry_name, name_there, new_name, no_name, no_name_there, reserved_name}
use Rattle.etc_clean.proofs.found.take_path.Goals as goal

pub returns-in_err-name-clause-reads : goal.returns-in_err-name-clause-reads
returns-in_err-name-clause-reads g c = nothing_read _ (no_device _ c.from_residual.ensures.1)

pub returns-in_default-clause-reads : goal.returns-in_default-clause-reads
returns-in_default-clause-reads g c = nothing_read_ok tt

pub returns-then-is_reserved-clause-reads : goal.returns-then-is_reserved-clause-reads
returns-then-is_reserved-clause-reads g c = nothing_read_ok tt

pub returns-in_default-clause-found : goal.returns-in_default-clause-found
returns-in_default-clause-found g c = record {
  has = λ w is.
      no_name c.args.items.now c.args.clean.now w.leaves c.args.path.now c.args.found.now
      (no_name_there (is_in_etc c.args.path.now) (name_of c.args.path.now) c.in_ok-name.field-0 c.in_ok-name.ensures c.in_default.is);
}

pub returns-clause-found : goal.returns-clause-found
returns-clause-found g c =
    let named = name_there (is_in_etc c.args.path.now) (name_of c.args.path.now) c.in-Some.name c.in_ok-name.field-0 c.in_ok-name.ensures c.in-Some.is in
    record {
      has = λ w is.
          new_name c.args.items.now c.args.clean.now w.leaves c.args.path.now c.in-Some.name c.in_ok-ours.ours c.args.found.now c.add.new.self named.0 named.1
          (sym c.is_reserved.ensures ∙ c.if-is_reserved.false) c.in_default-item.ensures (c.in_ok-ours.ensures.ours.has w is) c.in_ok-add.ensures.gone c.in_ok-add.ensures.foreign c.in_ok-add.ensures.standing;
    }

pub returns-then-is_reserved-clause-found : goal.returns-then-is_reserved-clause-found
returns-then-is_reserved-clause-found g c =
    let named = name_there (is_in_etc c.args.path.now) (name_of c.args.path.now) c.in-Some.name c.in_ok-name.field-0 c.in_ok-name.ensures c.in-Some.is in
    record {
      has = λ w is.
          reserved_name c.args.items.now c.args.clean.now w.leaves c.args.path.now c.args.found.now named.0
          (ap is_reserved (sym named.1) ∙ sym c.is_reserved.ensures ∙ c.if-is_reserved.true) (ap (entry c.args.items.now) (sym named.1) ∙ c.in_default-item.ensures);
    }

pub returns-in_err-ours-clause-reads : goal.returns-in_err-ours-clause-reads
returns-in_err-ours-clause-reads g c = read_handed c.in_err-ours.ensures.reads _ c.from_residual-in_err-ours.ensures.1

pub returns-in_err-add-clause-reads : goal.returns-in_err-add-clause-reads
returns-in_err-add-clause-reads g c = read_starved c.is_ours.ensures.reads _ c.from_residual-in_err-add.ensures.1

pub returns-clause-reads : goal.returns-clause-reads
returns-clause-reads g c = read_ok c.is_ours.ensures.reads _

pub returns-in-Some-item-clause-found : goal.returns-in-Some-item-clause-found
returns-in-Some-item-clause-found g c =
    let named = name_there (is_in_etc c.args.path.now) (name_of c.args.path.now) c.in-Some.name c.in_ok-name.field-0 c.in_ok-name.ensures c.in-Some.is in
    let item = c.in-Some-item.item.now in
    record {
      has = λ w is.
          entry_name c.args.items.now c.args.clean.now w.leaves c.args.path.now c.in-Some.name item.kind c.in_ok-stands.stands c.args.found.now c.add_entry.new.self named.0 named.1
          c.in-Some-item.ensures.1
          (c.in_ok-stands.ensures.stands.has w is ∙ ap (λ name. is_leaf_of name (Some item.kind) (get w.leaves c.args.path.now)) c.in-Some-item.ensures.0)
          c.in_ok-add_entry.ensures.gone c.in_ok-add_entry.ensures.foreign c.in_ok-add_entry.ensures.standing;
    }
