use Rattle.std.proofs.Common.{◌≡◌, List, ◌++◌, map, refl, sym, ap, subst, ◌∙◌}
use Rattle.std.proofs.lemmas.List.{map-append}
use Rattle.host_trait.specs.World.{seen}
use Rattle.host_trait.proofs.Moments.{leads_then, started, told_after, told_as}
use Rattle.tree_put.specs.declared.leaf_put.LeafPut.{LeafPut}
use Rattle.tree_put.specs.Sequence.{ArePutsApart, CanPutAll, IsPutting, with_puts}
use Rattle.tree_put.specs.Written.{WritesOnly}
use Rattle.tree_put.proofs.SequenceLemmas.{putting_none}
use Rattle.tree_put.proofs.WrittenLemmas.{writes_then}
use Rattle.boot_entries.specs.declared.boot_texts.BootTexts.{BootTexts}
use Rattle.boot_entries.specs.Places.{owns_boot}
use Rattle.boot_entries.specs.Steps.{boot_put, boot_puts, loader_files}
use Rattle.boot_entries.proofs.ApplyLemmas.{can_entries, can_loader, entries_places, entry_puts_apart, loader_places, loader_puts_apart}
use Rattle.boot_entries.proofs.WrittenLemmas.{files_written}
use Rattle.switch_parts.proofs.TwoPutsLemmas.{both_led, first_way, second_way}
use Rattle.boot_entries.proofs.applying.put_menu.Goals as goal

-- the puts of a menu are those of its entries, and then those of the loader
parts : (texts : BootTexts) (entries loader : List LeafPut) → entries ≡ map boot_put texts.entries → loader ≡ map boot_put (loader_files texts.loader) → boot_puts texts ≡ entries ++ loader
parts texts entries loader first last = map-append boot_put texts.entries (loader_files texts.loader) ∙ (λ i. sym first i ++ sym last i)

pub returns-in_err-entries-clause-moments : goal.returns-in_err-entries-clause-moments
returns-in_err-entries-clause-moments g c = started (IsPutting (boot_puts c.args.texts.now)) (λ w is. putting_none (boot_puts c.args.texts.now) w)

pub returns-in_err-loader-clause-moments : goal.returns-in_err-loader-clause-moments
returns-in_err-loader-clause-moments g c = started (IsPutting (boot_puts c.args.texts.now)) (λ w is. putting_none (boot_puts c.args.texts.now) w)

pub put_kept-requires-clause-apart : goal.put_kept-requires-clause-apart
put_kept-requires-clause-apart g c =
    let first = c.as_slice-2.ensures ∙ c.in_ok-entries.ensures ∙ ap (map boot_put) c.as_slice.ensures in
    subst ArePutsApart (sym first) (entry_puts_apart c.args.texts.now.entries c.requires.places)

pub put_kept-requires-clause-can : goal.put_kept-requires-clause-can
put_kept-requires-clause-can g c =
    let first = c.as_slice-2.ensures ∙ c.in_ok-entries.ensures ∙ ap (map boot_put) c.as_slice.ensures in
    told_as c.requires.can (CanPutAll c.as_slice-2.result.now)
    (λ w is can. subst (λ (puts : List LeafPut). CanPutAll puts w) (sym first) (can_entries c.args.texts.now w can))

pub returns-in_err-put_kept-clause-moments : goal.returns-in_err-put_kept-clause-moments
returns-in_err-put_kept-clause-moments g c =
    let texts = c.args.texts.now in let loader = map boot_put (loader_files texts.loader) in
    let first = c.as_slice-2.ensures ∙ c.in_ok-entries.ensures ∙ ap (map boot_put) c.as_slice.ensures in
    first_way (boot_puts texts) c.as_slice-2.result.now loader (parts texts c.as_slice-2.result.now loader first refl) c.put_kept.ensures.moments

pub put_kept-requires-2-clause-apart : goal.put_kept-requires-2-clause-apart
put_kept-requires-2-clause-apart g c = subst ArePutsApart (sym (c.as_slice-3.ensures ∙ c.in_ok-loader.ensures)) (loader_puts_apart c.args.texts.now.loader)

pub put_kept-requires-2-clause-can : goal.put_kept-requires-2-clause-can
put_kept-requires-2-clause-can g c =
    let texts = c.args.texts.now in
    let first = c.as_slice-2.ensures ∙ c.in_ok-entries.ensures ∙ ap (map boot_put) c.as_slice.ensures in
    let last = c.as_slice-3.ensures ∙ c.in_ok-loader.ensures in
    told_after c.put_kept.ensures.moments c.in_ok-put_kept.ensures.ok (CanPutAll c.as_slice-3.result.now)
    (λ w v is came. subst (λ (puts : List LeafPut). CanPutAll puts v) (sym last)
    (can_loader texts w (c.requires.can.has w is) c.requires.places v (came ∙ ap (λ (puts : List LeafPut). seen (with_puts puts w)) first)))

pub returns-in_err-put_kept-2-clause-moments : goal.returns-in_err-put_kept-2-clause-moments
returns-in_err-put_kept-2-clause-moments g c =
    let texts = c.args.texts.now in
    let first = c.as_slice-2.ensures ∙ c.in_ok-entries.ensures ∙ ap (map boot_put) c.as_slice.ensures in
    let last = c.as_slice-3.ensures ∙ c.in_ok-loader.ensures in
    let both = parts texts c.as_slice-2.result.now c.as_slice-3.result.now first last in
    second_way (boot_puts texts) c.as_slice-2.result.now c.as_slice-3.result.now both c.put_kept.ensures.moments c.in_ok-put_kept.ensures.ok c.put_kept-2.ensures.moments

pub returns-clause-moments : goal.returns-clause-moments
returns-clause-moments g c =
    let texts = c.args.texts.now in
    let first = c.as_slice-2.ensures ∙ c.in_ok-entries.ensures ∙ ap (map boot_put) c.as_slice.ensures in
    let last = c.as_slice-3.ensures ∙ c.in_ok-loader.ensures in
    let both = parts texts c.as_slice-2.result.now c.as_slice-3.result.now first last in
    second_way (boot_puts texts) c.as_slice-2.result.now c.as_slice-3.result.now both c.put_kept.ensures.moments c.in_ok-put_kept.ensures.ok c.put_kept-2.ensures.moments

pub returns-clause-ok : goal.returns-clause-ok
returns-clause-ok g c =
    let texts = c.args.texts.now in
    let first = c.as_slice-2.ensures ∙ c.in_ok-entries.ensures ∙ ap (map boot_put) c.as_slice.ensures in
    let last = c.as_slice-3.ensures ∙ c.in_ok-loader.ensures in
    let both = parts texts c.as_slice-2.result.now c.as_slice-3.result.now first last in
    both_led (boot_puts texts) c.as_slice-2.result.now c.as_slice-3.result.now both c.put_kept.ensures.moments c.in_ok-put_kept.ensures.ok c.in_ok-put_kept-2.ensures.ok

pub returns-clause-written : goal.returns-clause-written
returns-clause-written g c =
    let texts = c.args.texts.now in
    let first = c.as_slice-2.ensures ∙ c.in_ok-entries.ensures ∙ ap (map boot_put) c.as_slice.ensures in
    let last = c.as_slice-3.ensures ∙ c.in_ok-loader.ensures in
    leads_then c.in_ok-put_kept.ensures.written c.in_ok-put_kept-2.ensures.written (WritesOnly owns_boot)
    (λ w v u is is_v entries loader. writes_then owns_boot w v u
    (files_written texts.entries c.as_slice-2.result.now w v (entries_places texts.entries c.requires.places) first entries)
    (files_written (loader_files texts.loader) c.as_slice-3.result.now v u (loader_places texts.loader) last loader))
