use Rattle.std.proofs.Common.{◌≡◌, ◌++◌, List, Ok, take}
use Rattle.std.specs.List.{flat_map}
use Rattle.host_trait.specs.Host.{Told}
use Rattle.host_trait.specs.Reading.{IsReading}
use Rattle.leaf_limits.specs.Limits.{IsFirstOf}
use Rattle.switch_names.specs.Names.{Name}
use Rattle.boot_entries.specs.Sources.{sources_of}
use Rattle.boot_entries.specs.Steps.{AreEntries}
use Rattle.boot_entries.specs.Texts.{entries_of}
use Rattle.boot_entries.proofs.planning.read_entries.Given as goal

-- the entries of the generations so far are made, the first file of these that is too long is noted, and nothing has changed
abbrev pub invariant-loop-generation : goal.invariant-loop-generation
invariant-loop-generation g l =
    let start = g.T.Tree.host l.fn.host in
    let now = g.T.Tree.host l.host in
    record {
      reads : IsReading {T = Unit {0}} start now (Ok tt);
      places : AreEntries l.entries;
      entries : Told start (λ w. l.entries ≡ entries_of w.leaves (take l.generation-index l.list));
      noted : (done : List Name) → Told start (λ w. IsFirstOf done w.leaves l.initial.long → IsFirstOf (done ++ flat_map sources_of (take l.generation-index l.list)) w.leaves l.long);
    }
