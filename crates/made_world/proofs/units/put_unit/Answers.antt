use Rattle.std.proofs.Common.{◌≡◌, ◌/◌, ◌%◌, ◌∷◌, [], cond, OnOk, sym, ap, subst, ◌∙◌}
use Rattle.std.proofs.lemmas.Bool.{ne_eqb}
use Rattle.made_world.specs.Putting.{new_system, old_system, with_leaves}
use Rattle.made_world.specs.Units.{unit_file}
use Rattle.made_world.proofs.units.put_unit.Goals as goal

pub returns : goal.returns
returns c =
    let number = c.args.number in let draw = c.args.draw in let change = draw / 8 % 4 in
    let w = c.args.world.now in let made = c.put_unit_file-2.new.world in let answer = c.put_unit_file-2.result in
    let old = unit_file old_system number draw 0 in let new = unit_file new_system number draw change in
    let first = c.in_ok-put_unit_file.ensures ∙ ap (λ system. with_leaves (unit_file system number draw 0 ∷ []) w) c.in_ok-old.ensures in
    let second = subst (λ system. OnOk answer (made ≡ with_leaves (unit_file system number draw change ∷ []) c.put_unit_file.new.world)) c.in_ok-new.ensures c.put_unit_file-2.ensures in
    subst (λ is. OnOk answer (made ≡ with_leaves (old ∷ cond is [] (new ∷ [])) w)) (sym (ne_eqb change 3 c.if-change-eq3.false))
    (subst (λ before. OnOk answer (made ≡ with_leaves (new ∷ []) before)) first second)
