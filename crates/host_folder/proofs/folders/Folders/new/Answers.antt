use Rattle.host_folder.proofs.folders.Folders.new.Goals as goal

pub returns-clause-tree : goal.returns-clause-tree
returns-clause-tree c = c.in_ok-place_in.ensures
