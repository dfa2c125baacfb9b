-- What a switch of the units writes.
use Rattle.std.proofs.Common.{◌≡◌, ◌∷◌, ◌++◌, true, List, [], append-nil, map, refl, sym, ap, subst, ◌∙◌}
use Rattle.std.specs.Cmp.Lexicographic.{texts_ties}
use Rattle.std.specs.List.{AllByRecursion, list_any}
use Rattle.host_trait.specs.Change.{DaemonReload, finished}
use Rattle.host_trait.specs.World.{WorldState}
use Rattle.log_text.specs.declared.lists.Which.{Which}
use Rattle.log_text.specs.declared.lists.Which.TheVariants.{Starts}
use Rattle.log_text.specs.Lists.{record_order}
use Rattle.owed_lists.specs.Lists.{place_of}
use Rattle.owed_log.specs.Places.{is_owed_place, log_place, old_places}
use Rattle.owed_plan.specs.declared.duty.Duty.{Duty}
use Rattle.switch_names.specs.Names.{Name}
use Rattle.switch_parts.proofs.LeafLemmas.{each_among}
use Rattle.tree_put.specs.Written.{WritesOnly}
use Rattle.tree_put.proofs.WrittenLemmas.{writes_none, writes_one, writes_then, writes_these, writes_wider}
use Rattle.unit_stage.specs.Acts.{with_calls}
use Rattle.unit_stage.specs.Owned.{owns_units}
use Rattle.unit_stage.specs.Steps.{with_all_given, with_cleared, with_given}
use Rattle.unit_stage.specs.System.{current_place}
use Rattle.unit_stage.proofs.ElsewhereLemmas.{own_current, own_list, own_log}

owns_lists : (order : List Which) → AllByRecursion (λ at. owns_units at ≡ true) (map place_of order)
owns_lists [] = tt
owns_lists (which ∷ order) = (own_list which, owns_lists order)

owns_owed : AllByRecursion (λ at. owns_units at ≡ true) (log_place ∷ old_places)
owns_owed = (own_log, owns_lists record_order)

-- the log and the lists of an older program are owned
owed_owned : (q : Name) → is_owed_place q ≡ true → owns_units q ≡ true
owed_owned q owed =
    let places : List Name = log_place ∷ old_places in
    each_among (λ at. owns_units at ≡ true) places owns_owed q ((λ i. list_any (λ at. texts_ties q at i) places) ∙ owed)

pub owed_written : (w v : WorldState) → WritesOnly is_owed_place w v → WritesOnly owns_units w v
owed_written w v writes = writes_wider is_owed_place owns_units owed_owned w v writes

-- the link to the system in use is owned
pub current_written : (w v : WorldState) → v.written ≡ w.written ++ current_place ∷ [] → WritesOnly owns_units w v
current_written w v now = writes_one owns_units current_place w v own_current now

-- where nothing more is written
none_more : (w v u : WorldState) → WritesOnly owns_units w v → u.written ≡ v.written → WritesOnly owns_units w u
none_more w v u writes same = writes_then owns_units w v u writes (writes_these owns_units [] v u (same ∙ sym (append-nil v.written)) tt)

-- calls of the manager write nothing
pub then_called : (calls : List Duty) (w v u : WorldState) → WritesOnly owns_units w v → u ≡ with_calls calls v → WritesOnly owns_units w u
then_called calls w v u writes made = none_more w v u writes (ap (λ (x : WorldState). x.written) made)

pub then_reloaded : (w v u : WorldState) → WritesOnly owns_units w v → u ≡ finished DaemonReload v → WritesOnly owns_units w u
then_reloaded w v u writes done = none_more w v u writes (ap (λ (x : WorldState). x.written) done)

-- what is given writes the log, as its lists are cleared
cleared_written : (which : Which) (calls : List Duty) (w : WorldState) → WritesOnly owns_units w (with_cleared which calls w)
cleared_written Starts calls w = writes_one owns_units log_place w (with_cleared Starts calls w) own_log refl
cleared_written which calls w = writes_one owns_units log_place w (with_cleared which calls w) own_log refl

given_written : (which : Which) (calls : List Duty) (w : WorldState) → WritesOnly owns_units w (with_given which calls w)
given_written Starts calls w = cleared_written Starts calls w
given_written which [] w = writes_none owns_units w w refl
given_written which (call ∷ calls) w = cleared_written which (call ∷ calls) w

all_written : (calls : Which → List Duty) (order : List Which) (w : WorldState) → WritesOnly owns_units w (with_all_given calls order w)
all_written calls [] w = writes_none owns_units w w refl
all_written calls (which ∷ order) w =
    let given = with_given which (calls which) w in
    writes_then owns_units w given (with_all_given calls order given) (given_written which (calls which) w) (all_written calls order given)

pub then_given : (calls : Which → List Duty) (order : List Which) (w v u : WorldState) → WritesOnly owns_units w v → u ≡ with_all_given calls order v → WritesOnly owns_units w u
then_given calls order w v u writes made = writes_then owns_units w v u writes (subst (WritesOnly owns_units v) (sym made) (all_written calls order v))
