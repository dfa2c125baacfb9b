use Rattle.std.proofs.Common.{List, ℕ, ap, option_copied, sym, ◌∙◌}
use Rattle.std.specs.FinMap.{get}
use Rattle.host_trait.proofs.Places.{found}
use Rattle.etc_manifest.specs.Owners.{ids_in, owner_in}
use Rattle.etc_manifest.proofs.owners.text_id.Goals as goal

pub returns-in-Some : goal.returns-in-Some
returns-in-Some c =
    c.read_id.ensures ∙ ap (owner_in (ids_in c.args.ids.now) c.args.owner.now) (ap option_copied (sym c.in-Some.is) ∙ c.after_front.ensures)

pub returns-in_ok-from_str-in-None : goal.returns-in_ok-from_str-in-None
returns-in_ok-from_str-in-None c =
    c.copied.ensures ∙ c.get.ensures.value ∙ sym (found c.args.ids.now.entries c.in_ok-from_str-in-None.field-0)
    ∙ ap (λ (name : List ℕ). get (ids_in c.args.ids.now) name) c.in_ok-from_str-in-None.ensures
    ∙ ap (owner_in (ids_in c.args.ids.now) c.args.owner.now) (ap option_copied (sym c.in-None.is) ∙ c.after_front.ensures)
