-- What can be written to the log of a host.
use Rattle.std.proofs.Common.{◌≡◌, ◌∷◌, List, [], Option, None, false, refl, sym, subst, ◌∙◌}
use Rattle.host_trait.specs.Change.{IsSame}
use Rattle.host_trait.specs.Host.{HostState, Passes, Told}
use Rattle.host_trait.specs.World.{Leaves, WorldState, stage}
use Rattle.host_trait.proofs.Moments.{told_after}
use Rattle.log_text.specs.declared.lists.Lists.{Lists}
use Rattle.owed_log.specs.declared.log_write.LogWrite.{LogWrite}
use Rattle.owed_log.specs.declared.log_write.LogWrite.TheVariants.{Nothing, Append, Put}
use Rattle.owed_log.specs.declared.standing.StandingLists.{StandingLists}
use Rattle.owed_log.specs.Places.{log_place}
use Rattle.owed_log.specs.Standing.{AreStanding, IsLogState}
use Rattle.owed_log.specs.Writing.{CanWrite, IsPrepared}
use Rattle.owed_log.proofs.MomentLemmas.{prepared_law}
use Rattle.switch_names.specs.Names.{Name}
use Rattle.tree_put.specs.declared.written_place.WrittenPlace.{WrittenPlace}
use Rattle.tree_put.specs.First.{first_in_the_way}
use Rattle.tree_put.specs.Put.{CanPut}
use Rattle.tree_put.specs.WrittenPlace.{AreApartFromStage, written}
use Rattle.tree_put.proofs.FirstLemmas.{none_as_listed}
use Rattle.tree_put.proofs.WayLemmas.{all_clear}

abbrev log_places : List WrittenPlace
log_places = written false stage ∷ written false log_place ∷ []

pub places_apart : AreApartFromStage log_places
unfolding stage log_place
places_apart = (refl, (refl, tt))

-- where nothing is in the way of the stage and the log, a log can be put
free_put : (w : WorldState) → first_in_the_way log_places w.leaves ≡ None → CanPut log_place w
free_put w none = let clear = all_clear w.leaves log_places ((none_as_listed log_places w.leaves).0 none) in record { stage = clear.0; place = clear.1.0 }

-- and what has to be written can be
write_by : (w : WorldState) (lists : Lists) (write : LogWrite) → IsPrepared w.leaves lists write → CanPut log_place w → CanWrite write w
write_by w lists Nothing prepared free = tt
write_by w lists (Append text) prepared free = (prepared_law w.leaves lists text prepared).0
write_by w lists (Put text) prepared free = free

-- from a look at what is in the way, over a read, to the record
pub record_can :
    {a b c : HostState} (places : List WrittenPlace) (found : Option Name) (standing : StandingLists) (lists : Lists) (write : LogWrite) → places ≡ log_places → found ≡ None →
    Told a (λ w. found ≡ first_in_the_way places w.leaves) → Passes a b IsSame → Told b (λ w. AreStanding w.leaves standing) → Passes b c IsSame →
    ((leaves : Leaves) → IsLogState leaves standing.log → IsPrepared leaves lists write) → Told c (CanWrite write)
record_can {b = b} places found standing lists write are none looked first stands then prepared =
    told_after then then.tells (CanWrite write)
    (λ w v is same. subst (CanWrite write) (sym same) (write_by w lists write (prepared w.leaves (stands.has w is).log) (free.has w is)))
  where
    free : Told b (CanPut log_place)
    free = told_after first first.tells (CanPut log_place)
        (λ w v is same. subst (CanPut log_place) (sym same) (free_put w (sym (subst (λ (l : List WrittenPlace). found ≡ first_in_the_way l w.leaves) are (looked.has w is)) ∙ none)))
