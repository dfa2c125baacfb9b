use Rattle.std.proofs.Common.{◌≡◌, ◌||◌, Bor, List, Option, None, Some, is_some, refl, sym, ap, subst, ◌∙◌}
use Rattle.std.specs.List.Sorted.{IsStrictlySortedBy}
use Rattle.std.specs.Option.{option_copied}
use Rattle.host_trait.specs.World.{bytes_cmp}
use Rattle.log_text.specs.declared.lists.Which.TheVariants.{Starts}
use Rattle.log_text.specs.Lists.{with_list}
use Rattle.switch_names.specs.Names.{Name, has, is_name}
use Rattle.unit_stage.specs.Known.{AreTaken}
use Rattle.unit_stage.proofs.WaitingLemmas.{taken_as, taken_with}
use Rattle.unit_stage.proofs.known.lists_for.Goals as goal

copied : {X : Type 0} (o : Option (Bor X)) → is_some (option_copied o) ≡ is_some o
copied None = refl
copied (Some x) = refl

pub returns-then-is_none : goal.returns-then-is_none
returns-then-is_none c =
    taken_as c.args.start_up c.args.new.now c.args.stored c.in_ok-target.target c.in_ok-target.ensures
    (ap (λ o. is_some o) (sym c.find.ensures) ∙ copied c.find.result ∙ c.if-is_none.ensures)

pub returns : goal.returns
returns c =
    subst (λ start_up. AreTaken start_up c.args.new.now c.args.stored (with_list c.args.stored Starts c.in_ok-lists.field-0)) (sym c.if-not-start_up.false)
    (taken_with c.args.new.now c.args.stored c.in_ok-target.target c.in_ok-lists.field-0 c.in_ok-target.ensures
    (ap (λ o. is_some o) (sym c.find.ensures) ∙ copied c.find.result ∙ c.if-is_none.ensures)
    (subst (IsStrictlySortedBy bytes_cmp) (sym c.in_ok-lists.ensures.names) c.in_ok-lists.ensures.sorted)
    (λ unit.
    ap (λ names. has names unit) c.in_ok-lists.ensures.names ∙ c.in_ok-insert.ensures.added unit
    ∙ ap (λ b. b || is_name unit c.in_ok-target.target) (c.in_ok-units.ensures unit ∙ ap (λ (names : List Name). has names unit) c.as_slice.ensures)))
