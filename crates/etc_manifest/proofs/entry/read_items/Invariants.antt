use Rattle.std.proofs.Common.{◌≡◌, false, drop, map, take}
use Rattle.std.specs.List.{AllByRecursion}
use Rattle.switch_names.specs.Names.{has}
use Rattle.host_trait.specs.Host.{Told}
use Rattle.host_trait.specs.Reading.{IsReadingOf}
use Rattle.etc_manifest.specs.Entries.{entry_names, item_of}
use Rattle.etc_manifest.specs.Manifest.{gathered, places, prefixed}
use Rattle.etc_manifest.specs.Place.{is_reserved}
use Rattle.etc_manifest.proofs.entry.read_items.Given as goal

-- the items so far stand before those of the entries that are left, and nothing has changed
abbrev pub invariant-loop-at : goal.invariant-loop-at
invariant-loop-at g l =
    let start = g.T.Tree.host l.fn.host in
    record {
      items : Told start (λ w. gathered (map (item_of (has l.names) w.leaves l.folder l.owners) (entry_names (has l.names) l.names))
          ≡ prefixed l.items (gathered (map (item_of (has l.names) w.leaves l.folder l.owners) (entry_names (has l.names) (drop l.at l.names)))));
      placed : places l.items ≡ entry_names (has l.names) (take l.at l.names);
      free : AllByRecursion (λ name. is_reserved name ≡ false) (entry_names (has l.names) (take l.at l.names));
      reads : IsReadingOf start (g.T.Tree.host l.host) ⊥;
    }
