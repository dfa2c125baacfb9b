use Rattle.std.proofs.Common.{◌≡◌, ℕ, true, false, cond, List, None, codes, rules, sym, ◌∙◌}
use Rattle.std.proofs.lemmas.Result.{IfOk-weaker}
use Rattle.fstab_mounts.specs.Fields.{is_word, unescaped}
use Rattle.fstab_mounts.specs.FsUnit.{mount_of, swap_of}
use Rattle.fstab_mounts.specs.Fstab.{begins_with, unit_of_entry}
use Rattle.fstab_mounts.proofs.FieldLemmas.{unescaped_some}
use Rattle.fstab_mounts.proofs.fstab.unit_of_entry.Goals as goal

pub swap_of-requires-clause-what : goal.swap_of-requires-clause-what
swap_of-requires-clause-what c = λ e. unescaped_some c.args.what.now c.requires.what (sym (c.as_str.ensures.value ∙ c.in_ok-what.ensures) ∙ e)

pub mount_of-requires-clause-what : goal.mount_of-requires-clause-what
mount_of-requires-clause-what c = λ e. unescaped_some c.args.what.now c.requires.what (sym (c.as_str-3.ensures.value ∙ c.in_ok-what.ensures) ∙ e)

as_mount : (what place kind options : List ℕ) → begins_with 35 what ≡ false → is_word kind (codes "swap") ≡ false → begins_with 47 (unescaped place) ≡ true
    → unit_of_entry what place kind options ≡ mount_of (unescaped what) (unescaped place) kind options
as_mount what place kind options entry mount path =
    λ i. cond (entry i) None (cond (mount i) (swap_of (unescaped what) options) (cond (path i) (mount_of (unescaped what) (unescaped place) kind options) None))

pub returns : goal.returns
returns c =
    let entry : begins_with 35 c.args.what.now ≡ false = search rules steps 500000 in
    let mount : is_word c.args.kind.now (codes "swap") ≡ false = sym c.if-is_word.ensures in
    let path : begins_with 47 (unescaped c.args.place.now) ≡ true = search rules steps 500000 in
    let what = c.as_str-3.ensures.value ∙ c.in_ok-what.ensures in
    let place = c.as_str-4.ensures.value ∙ c.in_ok-place.ensures in
    IfOk-weaker c.mount_of.result _ _
    (λ unit is. is ∙ (λ i. mount_of (what i) (place i) c.args.kind.now c.args.options.now) ∙ sym (as_mount c.args.what.now c.args.place.now c.args.kind.now c.args.options.now entry mount path))
    c.mount_of.ensures
