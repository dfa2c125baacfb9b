use Rattle.std.proofs.Common.{◌≡◌, true, [], take}
use Rattle.std.specs.List.{filter_map}
use Rattle.std.specs.List.Sorted.{IsStrictlySortedBy}
use Rattle.host_trait.specs.Bytes.{bytes_cmp}
use Rattle.switch_names.specs.Texts.{after_front}
use Rattle.etc_manifest.specs.Place.{path_in}
use Rattle.etc_manifest.proofs.names.names_after.Given as goal

-- the names are those of the paths so far, and known to be in order where the paths are
abbrev pub invariant-loop-path : goal.invariant-loop-path
invariant-loop-path l = record {
  names : l.names.items ≡ filter_map (after_front (path_in l.folder [])) (take l.path-index l.paths);
  sorted : l.is_sorted ≡ true → IsStrictlySortedBy bytes_cmp l.names.items;
  known : IsStrictlySortedBy bytes_cmp l.paths → l.is_sorted ≡ true;
}
