-- What records and clearings of lists write.
use Rattle.std.proofs.Common.{◌≡◌, ◌∷◌, ◌++◌, true, List, [], refl, ap, ◌∙◌}
use Rattle.std.proofs.lemmas.Bool.{or_right}
use Rattle.host_trait.specs.World.{WorldState}
use Rattle.switch_names.specs.Names.{Name, has, is_name}
use Rattle.tree_put.specs.Sequence.{without_places}
use Rattle.tree_put.specs.Written.{WritesOnly}
use Rattle.tree_put.proofs.WrittenLemmas.{writes_one, writes_removed, writes_then}
use Rattle.owed_log.specs.Places.{is_owed_place, log_place, old_places}

pub log_is_owed : is_owed_place log_place ≡ true
unfolding log_place
log_is_owed = refl

-- what writes the log writes an owed place
pub log_written : (w v : WorldState) → v.written ≡ w.written ++ log_place ∷ [] → WritesOnly is_owed_place w v
log_written w v now = writes_one is_owed_place log_place w v log_is_owed now

-- the removal of the old lists, after what was written before
pub then_old_written : (places : List Name) (w v u : WorldState) → places ≡ old_places → WritesOnly is_owed_place w v → u ≡ without_places places v → WritesOnly is_owed_place w u
then_old_written places w v u same before gone =
    writes_then is_owed_place w v u before
    (writes_removed is_owed_place old_places v u (λ q old. or_right (is_name q log_place) (has old_places q) old) (gone ∙ ap (λ (l : List Name). without_places l v) same))
