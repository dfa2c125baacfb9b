use Rattle.std.proofs.Common.{◌≡◌, true, Bool, List, filter, refl, sym, ap, subst, ◌∙◌}
use Rattle.std.proofs.lemmas.List.{nil_from_length}
use Rattle.std.specs.List.{AllByRecursion}
use Rattle.host_trait.proofs.Moments.{told_after, told_as}
use Rattle.host_trait.proofs.Readings.{read_handed, read_ok, read_starved, read_then, told_read}
use Rattle.host_trait.specs.World.{Leaves, WorldState}
use Rattle.switch_names.specs.Names.{IsListOf, Name, has}
use Rattle.store_live.specs.Grown.{AreAll, AtSome, IsPathOf, is_dead_by}
use Rattle.store_live.specs.Live.{IsDead}
use Rattle.store_live.specs.StorePaths.{IsPlace, IsStored, is_store_path}
use Rattle.store_live.proofs.DeadLemmas.{dead_list, paths_all, same_set}
use Rattle.store_live.proofs.GrownLemmas.{all_as, all_in}
use Rattle.store_live.proofs.PathLemmas.{in_folder, stored_are}
use Rattle.store_live.proofs.reaching.dead_paths.Goals as goal

pub live-requires-clause-folder : goal.live-requires-clause-folder
live-requires-clause-folder g c =
    in_folder c.as_slice-2.result.now (subst (AllByRecursion (λ x. is_store_path x ≡ true)) (sym c.as_slice-2.ensures) (paths_all c.in_ok-stored.stored c.as_slice.result.now c.in_ok-stored.ensures.paths))

stored_in : (c : Leaves) → (places stored list now : List Name) → now ≡ places → list ≡ stored → AreAll places (IsPlace c) → AreAll stored (AtSome now IsPathOf) → AreAll list (IsStored c)
stored_in leaves places stored list now same is all paths =
    all_as list (AtSome places IsPathOf) (IsStored leaves) (stored_are leaves places all)
    (all_in stored list (AtSome places IsPathOf) is (subst (λ (l : List Name). AreAll stored (AtSome l IsPathOf)) same paths))

pub live-requires-clause-stored : goal.live-requires-clause-stored
live-requires-clause-stored g c =
    let moments = c.all_places.ensures.reads.moments in
    told_after moments moments.tells (λ w. AreAll c.as_slice-2.result.now (IsStored w.leaves)) (λ w v world same.
    subst (λ (u : WorldState). AreAll c.as_slice-2.result.now (IsStored u.leaves)) (sym same)
    (stored_in w.leaves c.in_ok-places.places c.in_ok-stored.stored c.as_slice-2.result.now c.as_slice.result.now c.as_slice.ensures c.as_slice-2.ensures (c.in_ok-places.ensures.places.has w world)
    c.in_ok-stored.ensures.paths))

pub live-requires-clause-places : goal.live-requires-clause-places
live-requires-clause-places g c =
    let moments = c.all_places.ensures.reads.moments in
    told_after moments moments.tells (λ w. AreAll c.as_slice-3.result.now (IsPlace w.leaves)) (λ w v world same.
    subst (λ (u : WorldState). AreAll c.as_slice-3.result.now (IsPlace u.leaves)) (sym same)
    (all_in c.in_ok-places.places c.as_slice-3.result.now (IsPlace w.leaves) c.as_slice-3.ensures (c.in_ok-places.ensures.places.has w world)))

pub dead_among-requires : goal.dead_among-requires
dead_among-requires g c =
    subst (AllByRecursion (λ x. is_store_path x ≡ true)) (sym c.as_slice-4.ensures) (paths_all c.in_ok-stored.stored c.as_slice.result.now c.in_ok-stored.ensures.paths)

pub returns-clause-dead : goal.returns-clause-dead
returns-clause-dead g c =
    let live = told_read c.all_places.ensures.reads c.in_ok-live.ensures.live in
    let skips = same_set c.add_all.new.set.keys c.args.skipped.now c.new-skips.result.keys (nil_from_length c.new-skips.result.keys c.new-skips.ensures.len) c.in_ok-add_all.ensures in
    told_as live _ (λ w world lives.
    subst (λ (s : Name → Bool). IsListOf c.in_ok-dead_among.field-0 (IsDead s w)) skips
    (dead_list (has c.add_all.new.set.keys) w c.in_ok-stored.stored c.in_ok-live.live.keys c.in_ok-dead_among.field-0 c.in_ok-stored.ensures.sorted
    (stored_in w.leaves c.in_ok-places.places c.in_ok-stored.stored c.in_ok-stored.stored c.as_slice.result.now c.as_slice.ensures refl (c.in_ok-places.ensures.places.has w world) c.in_ok-stored.ensures.paths)
    lives (c.in_ok-dead_among.ensures ∙ ap (filter (is_dead_by c.in_ok-live.live.keys)) c.as_slice-4.ensures)))

pub returns-clause-reads : goal.returns-clause-reads
returns-clause-reads g c = read_ok (read_then c.all_places.ensures.reads c.live.ensures.reads) c.in_ok-dead_among.field-0

pub returns-in_err-live-clause-reads : goal.returns-in_err-live-clause-reads
returns-in_err-live-clause-reads g c = read_handed (read_then c.all_places.ensures.reads c.in_err-live.ensures.reads) _ c.from_residual-in_err-live.ensures.1

pub returns-in_err-dead_among-clause-reads : goal.returns-in_err-dead_among-clause-reads
returns-in_err-dead_among-clause-reads g c = read_starved (read_then c.all_places.ensures.reads c.live.ensures.reads) _ c.from_residual-in_err-dead_among.ensures.1
