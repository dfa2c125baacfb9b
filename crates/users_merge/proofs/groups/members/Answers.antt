use Rattle.std.proofs.Common.{◌≡◌, ◌||◌, ◌++◌, List, filter, Option, option_map, sym, ap, ◌∙◌}
use Rattle.std.proofs.Math.Bool.{or-false}
use Rattle.std.proofs.lemmas.Result.{IfOk-weaker}
use Rattle.account_text.specs.declared.group.GroupRow.{GroupRow}
use Rattle.std.specs.Borrow.{Bor}
use Rattle.switch_names.specs.Names.{Name, has}
use Rattle.users_merge.specs.Rows.{old_members}
use Rattle.users_merge.specs.Staying.{stays_by}
use Rattle.users_merge.proofs.NameLemmas.{has-append, map_same}
use Rattle.users_merge.proofs.NameOrderLemmas.{is_ordered}
use Rattle.users_merge.proofs.groups.members.Goals.{in-Some+in_ok-add_staying_members, in_default}
use Rattle.users_merge.proofs.groups.members.Goals as goal

pub returns : goal.returns
returns c =
    let stays = stays_by c.args.users in
    let said = c.args.group.now.members in
    let olds = λ (o : Option (Bor GroupRow)). old_members (option_map (λ (row : Bor GroupRow). row.now) o) in
    let first = λ (name : Name). c.in_ok-names.ensures name ∙ ap (λ (names : List Name). has names name) (map_same c.as_slice.result.now ∙ c.as_slice.ensures) in
    let all : (name : Name) → has c.match-old.names name ≡ has (said ++ filter stays (olds c.args.old)) name =
    λ name. elim c.match-old.branch [
      | in-Some+in_ok-add_staying_members w ↦
          ap (λ (names : List Name). has names name) w.names-is ∙ w.in_ok-add_staying_members.ensures name
          ∙ (λ i. first name i || has (filter stays (w.as_slice-in-Some.ensures i)) name)
          ∙ ap (λ o. has said name || has (filter stays (olds o)) name) (sym w.in-Some.is) ∙ sym (has-append said (filter stays (olds c.args.old)) name)
      | in_default w ↦
          ap (λ (names : List Name). has names name) w.names-is ∙ first name ∙ sym (or-false (has said name))
          ∙ ap (λ o. has said name || has (filter stays (olds o)) name) (sym w.in_default.is) ∙ sym (has-append said (filter stays (olds c.args.old)) name)
    ] in
    IfOk-weaker c.into_names.result _ _ (λ members is. is ∙ is_ordered c.match-old.names (said ++ filter stays (olds c.args.old)) c.into_names.ensures.sorted all) c.into_names.ensures.names
