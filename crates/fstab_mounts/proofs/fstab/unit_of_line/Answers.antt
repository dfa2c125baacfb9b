use Rattle.std.proofs.Common.{◌≡◌, List, ℕ, [], Bor, map, sym, ap, ◌∙◌, subst}
use Rattle.std.proofs.lemmas.Result.{IfOk-weaker}
use Rattle.std.specs.List.{AllByRecursion}
use Rattle.fstab_mounts.specs.Fields.{fields_of}
use Rattle.fstab_mounts.specs.Fstab.{unit_of_fields}
use Rattle.fstab_mounts.proofs.FstabLemmas.{no_text, some_text}
use Rattle.fstab_mounts.proofs.FieldLemmas.{fields_some}
use Rattle.fstab_mounts.proofs.fstab.unit_of_line.Goals as goal

pub returns-in_default : goal.returns-in_default
returns-in_default c = no_text c.args.line.now c.in_default.ensures.cases.0

pub unit_of_fields-requires : goal.unit_of_fields-requires
unit_of_fields-requires c =
    subst (λ (fields : List (Bor (List ℕ))). AllByRecursion (λ (field : Bor (List ℕ)). field.now ≡ [] → ⊥) fields) (sym c.as_slice.ensures.value)
    (fields_some c.in-Ok.text.now c.in_ok-fields.fields.items c.in_ok-fields.ensures)

pub returns : goal.returns
returns c =
    IfOk-weaker c.unit_of_fields.result _ _
    (λ unit e. e ∙ ap (λ (fields : List (Bor (List ℕ))). unit_of_fields (map (λ (field : Bor (List ℕ)). field.now) fields)) c.as_slice.ensures.value
    ∙ ap unit_of_fields c.in_ok-fields.ensures ∙ ap (λ line. unit_of_fields (fields_of line)) c.in-Ok.ensures.cases.0
    ∙ some_text c.args.line.now c.in-Ok.ensures.cases.1)
    c.unit_of_fields.ensures
