use Rattle.std.proofs.Common.{◌≡◌, [], Bool, List, Option, None, Some, is_some, refl, sym, ap, ◌∙◌, unwrap_or}
use Rattle.std.specs.Borrow.{Bor}
use Rattle.std.specs.Option.{option_copied}
use Rattle.switch_names.specs.declared.unit_kind.UnitKind.TheVariants.{Service}
use Rattle.unit_decide.specs.Facts.{is_root_mount, outcome_between}
use Rattle.unit_decide.proofs.facts.Facts.of.Goals as goal

is_defined : {X : Type 0} (text : Option (Bor X)) → is_some text ≡ is_some (option_copied text)
is_defined None = refl
is_defined (Some text) = refl

-- each field by the call that reads it
pub returns : goal.returns
returns c =
    let old = option_copied c.args.old in
    let new = option_copied c.args.new in
    let kind = sym (ap (λ k. unwrap_or k Service) c.kind.ensures) in
    let outcome = c.outcome.ensures ∙ ap (λ k. outcome_between k old new) (sym (ap (λ k. unwrap_or k Service) c.kind-2.ensures)) in
    let in_old = c.is_some.ensures ∙ is_defined c.args.old in
    let in_new = c.is_some-2.ensures ∙ is_defined c.args.new in
    let root = c.is_root_mount.ensures ∙ ap is_root_mount c.as_str.ensures.text in
    λ i. record {
      kind = kind i;
      in_old = in_old i;
      in_new = in_new i;
      outcome = outcome i;
      stop_on_removal = c.flag.ensures i;
      stop_on_reconfiguration = c.flag-2.ensures i;
      may_start = c.may_start_in.ensures i;
      is_root_mount = root i;
      reload_if_changed = c.flag-3.ensures i;
      restart_if_changed = c.flag-4.ensures i;
      refuse_manual_stop = c.flag-5.ensures i;
      only_manual_start = c.flag-6.ensures i;
      stop_if_changed = c.flag-7.ensures i;
    }
