use Rattle.std.proofs.Common.{◌++◌, List, append-nil, subst, sym, take}
use Rattle.std.proofs.lemmas.List.{take_all}
use Rattle.std.specs.List.{flat_map}
use Rattle.generations.specs.declared.gens.Gen.{Gen}
use Rattle.host_trait.proofs.Moments.{told_as}
use Rattle.host_trait.proofs.Readings.{nothing_read_ok, read_handed, read_ok, read_then, told_read}
use Rattle.leaf_limits.specs.Limits.{IsFirstOf}
use Rattle.switch_names.specs.Names.{Name}
use Rattle.boot_entries.specs.Sources.{sources_of}
use Rattle.boot_entries.specs.Steps.{AreEntries}
use Rattle.boot_entries.proofs.PlanLemmas.{entries_more, sources_more}
use Rattle.boot_entries.proofs.planning.read_entries.Goals as goal

pub loop-generation-init : goal.loop-generation-init
loop-generation-init g c = record {
  reads = nothing_read_ok tt;
  places = subst AreEntries (sym c.new-entries.ensures) tt;
  entries = record { has = λ w is. c.new-entries.ensures };
  noted = λ done. record { has = λ w is before. subst (λ (places : List Name). IsFirstOf places w.leaves c.args.long.now) (sym (append-nil done)) before };
}

pub returns-in_err-add_entry-clause-reads : goal.returns-in_err-add_entry-clause-reads
returns-in_err-add_entry-clause-reads g c = read_handed (read_then c.loop-generation.invariant.reads c.in_err-add_entry.ensures.reads) _ c.from_residual.ensures.1

pub loop-generation-preserved : goal.loop-generation-preserved
loop-generation-preserved g c =
    let list = c.args.list.now in
    let i = c.loop-generation.generation-index in
    let added = told_read c.loop-generation.invariant.reads c.in_ok-add_entry.ensures.entries in
    record {
      reads = read_ok (read_then c.loop-generation.invariant.reads c.add_entry.ensures.reads) tt;
      places = c.in_ok-add_entry.ensures.places c.loop-generation.invariant.places;
      entries = record {
        has = λ w is.
            entries_more w.leaves list i c.generation-item.result c.loop-generation.entries c.add_entry.new.entries
            c.loop-generation-test.true c.generation-item.is (c.loop-generation.invariant.entries.has w is) (added.has w is);
      };
      noted = λ done.
          let noted = told_read c.loop-generation.invariant.reads (c.in_ok-add_entry.ensures.noted (done ++ flat_map sources_of (take i list))) in
          record {
            has = λ w is before.
                subst (λ (places : List Name). IsFirstOf places w.leaves c.add_entry.new.long) (sources_more done list i c.generation-item.result c.loop-generation-test.true c.generation-item.is)
                (noted.has w is ((c.loop-generation.invariant.noted done).has w is before));
          };
    }

pub returns-clause-noted : goal.returns-clause-noted
returns-clause-noted g c done =
    told_as (c.loop-generation.invariant.noted done) _ (λ w world more before.
    subst (λ (list : List Gen). IsFirstOf (done ++ flat_map sources_of list) w.leaves c.loop-generation.long) (take_all c.loop-generation.generation-index c.args.list.now c.loop-generation-test.false) (more before))
