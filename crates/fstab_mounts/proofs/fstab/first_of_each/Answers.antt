use Rattle.std.proofs.Common.{◌≡◌, true, false, cond, List, [], ◌∷◌, ◌++◌, append-nil, sym, ap, ◌∙◌}
use Rattle.std.proofs.lemmas.Bool.{not-true}
use Rattle.switch_names.specs.Names.{has, is_name}
use Rattle.fstab_mounts.specs.declared.fs_unit.FsUnit.{FsUnit}
use Rattle.fstab_mounts.specs.Fstab.{first_of_each}
use Rattle.fstab_mounts.proofs.FstabLemmas.{first_more, names_more, not_false, units_names}
use Rattle.fstab_mounts.proofs.fstab.first_of_each.Goals as goal

pub loop-unit-preserved-in_ok-push : goal.loop-unit-preserved-in_ok-push
loop-unit-preserved-in_ok-push c =
    let units = c.loop-unit.yielded in
    let unit = c.in-Some.unit in
    let names = c.loop-unit.names.keys in
    let fresh : has names c.in_ok-copy.field-0 ≡ false = not-true _ (sym c.in_ok-insert.ensures.added ∙ c.if-branch.true) in
    let is_new : has (units_names units) unit.unit ≡ false = sym (c.loop-unit.invariant.names unit.unit) ∙ ap (λ n. has names n) (sym c.in_ok-copy.ensures) ∙ fresh in
    record {
      first = c.in_ok-push.ensures.ok ∙ ap (λ (f : List FsUnit). f ++ unit ∷ []) c.loop-unit.invariant.first
          ∙ sym (first_more units unit ∙ ap (λ b. first_of_each units ++ cond b [] (unit ∷ [])) is_new);
      names = λ name. c.in_ok-insert.ensures.updates.0 name ∙ ap (λ k. cond (is_name k name) true (has names name)) c.in_ok-copy.ensures
          ∙ ap (λ h. cond (is_name unit.unit name) true h) (c.loop-unit.invariant.names name) ∙ sym (names_more units unit name);
    }

pub loop-unit-preserved : goal.loop-unit-preserved
loop-unit-preserved c =
    let units = c.loop-unit.yielded in
    let unit = c.in-Some.unit in
    let names = c.loop-unit.names.keys in
    let known : has names c.in_ok-copy.field-0 ≡ true = not_false _ (sym c.in_ok-insert.ensures.added ∙ c.if-branch.false) in
    let is_old : has (units_names units) unit.unit ≡ true = sym (c.loop-unit.invariant.names unit.unit) ∙ ap (λ n. has names n) (sym c.in_ok-copy.ensures) ∙ known in
    record {
      first = c.loop-unit.invariant.first
          ∙ sym (first_more units unit ∙ ap (λ b. first_of_each units ++ cond b [] (unit ∷ [])) is_old ∙ append-nil (first_of_each units));
      names = λ name. c.in_ok-insert.ensures.updates.0 name ∙ ap (λ k. cond (is_name k name) true (has names name)) c.in_ok-copy.ensures
          ∙ ap (λ h. cond (is_name unit.unit name) true h) (c.loop-unit.invariant.names name) ∙ sym (names_more units unit name);
    }
