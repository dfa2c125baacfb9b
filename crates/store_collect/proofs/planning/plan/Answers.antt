use Rattle.std.proofs.Common.{false, ◌≡◌, [], Option, None, Some, refl, sym, ap, subst, ◌∙◌}
use Rattle.std.proofs.lemmas.Result.{err_from_is_err_and}
use Rattle.host_trait.proofs.Moments.{told_as}
use Rattle.host_trait.proofs.Readings.{read_of, read_then, told_read}
use Rattle.leaf_limits.proofs.PastLemmas.{first_past}
use Rattle.switch_names.specs.Names.{Name, has}
use Rattle.switch_parts.specs.declared.refusal.What.TheVariants as bytes
use Rattle.switch_parts.specs.Limits.{too_many}
use Rattle.tree_put.specs.First.{first_in_the_way}
use Rattle.tree_put.proofs.FirstLemmas.{none_as_listed}
use Rattle.generations.specs.declared.gens.Gens.{Gens}
use Rattle.boot_entries.specs.BootPart.{boot_places}
use Rattle.boot_entries.specs.Steps.{CanApplyBoot}
use Rattle.leaf_limits.specs.declared.too_long.TooLong.{TooLong}
use Rattle.leaf_limits.specs.Limits.{AreWithin, IsFirstOf, IsFirstTooLong}
use Rattle.boot_entries.specs.Sources.{taken_of}
use Rattle.boot_entries.specs.Texts.{menu_of}
use Rattle.store_collect.specs.declared.collection.CollectRefusal.TheVariants.{InTheWay, LeafBytes}
use Rattle.store_collect.specs.Again.{IsAllowed}
use Rattle.store_collect.specs.Collection.{AreShortFor, IsCollectionOf, IsRefusedAt, IsTooLongFor}
use Rattle.store_collect.specs.Kept.{gens_kept}
use Rattle.store_collect.specs.Unfinished.{is_unfinished}
use Rattle.store_collect.proofs.FaultLemmas.{handed_device, memory_device, reads_none, planned_device, refused_device, same_count, same_place}
use Rattle.store_collect.proofs.LongLemmas.{none_before, none_blocked, none_long}
use Rattle.store_collect.proofs.planning.plan.Goals as goal

pub returns-clause-collection : goal.returns-clause-collection
returns-clause-collection g c =
    let texts = told_read c.is_unfinished.ensures.reads (told_read c.all.ensures.reads c.in_ok-texts.ensures.texts) in
    let planned = told_read c.is_unfinished.ensures.reads (told_read c.all.ensures.reads (told_read c.texts_noted.ensures.reads (told_read c.blocked_place.ensures.reads c.in_ok-collection.ensures.planned))) in
    told_as (told_read c.is_unfinished.ensures.reads c.in_ok-gens.ensures.gens) (λ w. IsCollectionOf c.args.keep w c.in_ok-collection.collection)
    (λ w world gens. record {
      gens = c.in_ok-gens.gens;
      stand = gens;
      planned = planned.has w world (texts.has w world ∙ ap (λ (gens : Gens). menu_of gens w.leaves) c.in_ok-kept.ensures);
    })

-- nothing is in the way of the menu of the generations that are kept
pub returns-clause-can : goal.returns-clause-can
returns-clause-can g c =
    let texts = told_read c.is_unfinished.ensures.reads (told_read c.all.ensures.reads c.in_ok-texts.ensures.texts) in
    let planned = told_read c.is_unfinished.ensures.reads (told_read c.all.ensures.reads (told_read c.texts_noted.ensures.reads (told_read c.blocked_place.ensures.reads c.in_ok-collection.ensures.planned))) in
    let kept = gens_kept c.args.keep c.in_ok-gens.gens in
    let noted = told_read c.is_unfinished.ensures.reads (told_read c.all.ensures.reads (c.in_ok-texts.ensures.noted [])) in
    told_as (told_read c.is_unfinished.ensures.reads (told_read c.all.ensures.reads (told_read c.texts_noted.ensures.reads c.in_ok-at.ensures.first))) (CanApplyBoot c.in_ok-collection.collection.texts)
    (λ w world first. record {
      gens = kept;
      planned = (planned.has w world (texts.has w world ∙ ap (λ (gens : Gens). menu_of gens w.leaves) c.in_ok-kept.ensures)).texts;
      free = record {
        way = (none_as_listed (boot_places kept.list) w.leaves).0
            (ap (λ (gens : Gens). first_in_the_way (boot_places gens.list) w.leaves) (sym c.in_ok-kept.ensures) ∙ sym first ∙ c.in_default-2.is);
        refusal = ap (too_many bytes.LeafBytes)
            (sym (first_past (taken_of kept) (has (taken_of kept)) w.leaves (λ q there. refl) None
            (subst (λ (gens : Gens). AreWithin (taken_of gens) w.leaves) c.in_ok-kept.ensures
            (subst (λ (found : Option TooLong). IsFirstOf (taken_of c.in_ok-kept.kept) w.leaves found) c.in_default.is (noted.has w world (none_before w.leaves))))));
        short = refl;
      };
    })

-- a file that is too long is one of the menu of the generations that are kept
pub returns-in-Some-clause-too_long : goal.returns-in-Some-clause-too_long
returns-in-Some-clause-too_long g c count e =
    let gens = told_read c.is_unfinished.ensures.reads c.in_ok-gens.ensures.gens in
    let noted = told_read c.is_unfinished.ensures.reads (told_read c.all.ensures.reads (c.in_ok-texts.ensures.noted [])) in
    told_as gens (λ w. (is_unfinished w.leaves ≡ false) × IsTooLongFor c.args.keep w.leaves count)
    (λ w world stand. (
      sym (c.in_ok-unfinished.ensures.unfinished.has w world) ∙ c.if-unfinished.false,
      record {
        gens = c.in_ok-gens.gens;
        stand = stand;
        long = c.in-Some.long;
        first = subst (λ (gens : Gens). IsFirstTooLong (taken_of gens) w.leaves c.in-Some.long) c.in_ok-kept.ensures
            (subst (λ (found : Option TooLong). IsFirstOf (taken_of c.in_ok-kept.kept) w.leaves found) c.in-Some.is (noted.has w world (none_before w.leaves)));
        is_count = sym (same_count c.in-Some.long.count count e);
      },
    ))

-- none is, where a leaf is in the way
pub returns-in-Some-2-clause-in_order : goal.returns-in-Some-2-clause-in_order
returns-in-Some-2-clause-in_order g c at e =
    let gens = told_read c.is_unfinished.ensures.reads c.in_ok-gens.ensures.gens in
    let noted = told_read c.is_unfinished.ensures.reads (told_read c.all.ensures.reads (c.in_ok-texts.ensures.noted [])) in
    told_as gens (λ w. (is_unfinished w.leaves ≡ false) × AreShortFor c.args.keep w.leaves)
    (λ w world stand. (
      sym (c.in_ok-unfinished.ensures.unfinished.has w world) ∙ c.if-unfinished.false,
      none_long c.args.keep w.leaves c.in_ok-gens.gens stand
          (subst (λ (gens : Gens). AreWithin (taken_of gens) w.leaves) c.in_ok-kept.ensures
          (subst (λ (found : Option TooLong). IsFirstOf (taken_of c.in_ok-kept.kept) w.leaves found) c.in_default.is (noted.has w world (none_before w.leaves)))),
    ))

pub returns-in-Some-2-clause-in_the_way : goal.returns-in-Some-2-clause-in_the_way
returns-in-Some-2-clause-in_the_way g c at e =
    let gens = told_read c.is_unfinished.ensures.reads c.in_ok-gens.ensures.gens in
    told_as (told_read c.is_unfinished.ensures.reads (told_read c.all.ensures.reads (told_read c.texts_noted.ensures.reads c.in_ok-at.ensures.first))) (λ w. IsRefusedAt c.args.keep w.leaves at)
    (λ w world first. record {
      gens = c.in_ok-gens.gens;
      stand = gens.has w world;
      first = ap (λ (gens : Gens). first_in_the_way (boot_places gens.list) w.leaves) (sym c.in_ok-kept.ensures) ∙ sym first ∙ c.in-Some-2.is ∙ ap (λ (x : Name). Some x) (same_place c.in-Some-2.at at e);
    })

pub returns-in_err-gens-clause-reads : goal.returns-in_err-gens-clause-reads
returns-in_err-gens-clause-reads g c =
    let p = err_from_is_err_and c.from_residual-in_err-gens.result c.from_residual-in_err-gens.ensures.1 in
    read_of (read_then c.is_unfinished.ensures.reads c.in_err-gens.ensures.reads) _ (λ e. handed_device c.from_residual-in_err-gens.result p.0 _ p.1 p.2 e)

pub returns-in_err-kept-clause-reads : goal.returns-in_err-kept-clause-reads
returns-in_err-kept-clause-reads g c =
    let p = err_from_is_err_and c.from_residual-in_err-kept.result c.from_residual-in_err-kept.ensures.1 in
    reads_none (read_then c.is_unfinished.ensures.reads c.all.ensures.reads) _ (memory_device c.from_residual-in_err-kept.result p.0 p.1 p.2)

pub returns-in_err-at-clause-reads : goal.returns-in_err-at-clause-reads
returns-in_err-at-clause-reads g c =
    let p = err_from_is_err_and c.from_residual-in_err-at.result c.from_residual-in_err-at.ensures.1 in
    read_of (read_then c.is_unfinished.ensures.reads (read_then c.all.ensures.reads (read_then c.texts_noted.ensures.reads c.in_err-at.ensures.reads))) _ (λ e. handed_device c.from_residual-in_err-at.result p.0 _ p.1 p.2 e)

pub returns-in_err-texts-clause-reads : goal.returns-in_err-texts-clause-reads
returns-in_err-texts-clause-reads g c =
    let p = err_from_is_err_and c.from_residual-in_err-texts.result c.from_residual-in_err-texts.ensures.1 in
    read_of (read_then c.is_unfinished.ensures.reads (read_then c.all.ensures.reads c.in_err-texts.ensures.reads)) _ (λ e. handed_device c.from_residual-in_err-texts.result p.0 _ p.1 p.2 e)

pub returns-in-Some-clause-reads : goal.returns-in-Some-clause-reads
returns-in-Some-clause-reads g c =
    reads_none (read_then c.is_unfinished.ensures.reads (read_then c.all.ensures.reads c.texts_noted.ensures.reads)) _ (refused_device (LeafBytes c.in-Some.long.count))

pub returns-in-Some-2-clause-reads : goal.returns-in-Some-2-clause-reads
returns-in-Some-2-clause-reads g c =
    reads_none (read_then c.is_unfinished.ensures.reads (read_then c.all.ensures.reads (read_then c.texts_noted.ensures.reads c.blocked_place.ensures.reads))) _ (refused_device (InTheWay c.in-Some-2.at))

pub returns-in_err-collection-clause-reads : goal.returns-in_err-collection-clause-reads
returns-in_err-collection-clause-reads g c =
    let p = err_from_is_err_and c.from_residual-in_err-collection.result c.from_residual-in_err-collection.ensures.1 in
    read_of (read_then c.is_unfinished.ensures.reads (read_then c.all.ensures.reads (read_then c.texts_noted.ensures.reads (read_then c.blocked_place.ensures.reads c.in_err-collection.ensures.reads)))) _
    (λ e. handed_device c.from_residual-in_err-collection.result p.0 _ p.1 p.2 e)

pub returns-clause-reads : goal.returns-clause-reads
returns-clause-reads g c =
    reads_none (read_then c.is_unfinished.ensures.reads (read_then c.all.ensures.reads (read_then c.texts_noted.ensures.reads (read_then c.blocked_place.ensures.reads c.plan_removals.ensures.reads)))) _
    (planned_device c.in_ok-collection.collection)

-- no leaf of an unfinished switch stands, no file is too long, and nothing is in the way
pub returns-clause-allowed : goal.returns-clause-allowed
returns-clause-allowed g c =
    let gens = told_read c.is_unfinished.ensures.reads c.in_ok-gens.ensures.gens in
    let noted = told_read c.is_unfinished.ensures.reads (told_read c.all.ensures.reads (c.in_ok-texts.ensures.noted [])) in
    let blocked = told_read c.is_unfinished.ensures.reads (told_read c.all.ensures.reads (told_read c.texts_noted.ensures.reads c.in_ok-at.ensures.first)) in
    told_as c.in_ok-unfinished.ensures.unfinished (λ w. IsAllowed c.args.keep w.leaves)
    (λ w world unfinished. record {
      finished = sym unfinished ∙ c.if-unfinished.false;
      short = none_long c.args.keep w.leaves c.in_ok-gens.gens (gens.has w world)
          (subst (λ (gens : Gens). AreWithin (taken_of gens) w.leaves) c.in_ok-kept.ensures
          (subst (λ (found : Option TooLong). IsFirstOf (taken_of c.in_ok-kept.kept) w.leaves found) c.in_default.is (noted.has w world (none_before w.leaves))));
      free = none_blocked c.args.keep w.leaves c.in_ok-gens.gens (gens.has w world)
          (ap (λ (gens : Gens). first_in_the_way (boot_places gens.list) w.leaves) (sym c.in_ok-kept.ensures) ∙ sym (blocked.has w world) ∙ c.in_default-2.is);
    })
