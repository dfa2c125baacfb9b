use Rattle.std.proofs.Common.{◌≡◌, ◌++◌, map, take}
use Rattle.boot_entries.specs.declared.boot_texts.BootFile.{BootFile}
use Rattle.store_collect.proofs.planning.add_file_places.Given as goal

-- those so far are added
abbrev pub invariant-loop-file : goal.invariant-loop-file
invariant-loop-file l = l.list ≡ l.fn.list ++ map (λ (file : BootFile). file.at) (take l.file-index l.files)
