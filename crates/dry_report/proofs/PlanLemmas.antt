-- What is told of a plan is what is told of the leaves that it was made from.
use Rattle.std.proofs.Common.{◌≡◌, ◌++◌, ◌∷◌, ◌||◌, ℕ, true, not, List, [], map, filter, codes, Option, None, Some, Ok, Err, inl, inr, if◌then◌else◌, refl, sym, ap, ap₂, subst, ◌∙◌}
use Rattle.std.specs.List.{flat_map}
use Rattle.std.proofs.lemmas.List.{append-nil}
use Rattle.std.proofs.lemmas.Option.{none-some}
use Rattle.std.proofs.lemmas.Bool.{or_right}
use Rattle.host_trait.proofs.Moments.{none_or_some}
use Rattle.account_text.specs.declared.group.GroupRow.{GroupRow}
use Rattle.account_text.specs.declared.passwd.PasswdRow.{PasswdRow}
use Rattle.account_text.specs.Group.{group_name}
use Rattle.account_text.specs.Passwd.{passwd_name}
use Rattle.host_trait.proofs.Orders.{none_sorted}
use Rattle.host_trait.proofs.NameOrder.{name_itself}
use Rattle.account_text.specs.declared.tables.Tables.{Tables}
use Rattle.accounts_stage.specs.declared.accounts_plan.AccountsPlan.{AccountsPlan}
use Rattle.accounts_stage.specs.AccountsPart.{merged_by, tables_by}
use Rattle.accounts_stage.specs.Plan.{IsAccountsPlanOf, IsAnswerOf, IsMergePlanned}
use Rattle.accounts_stage.specs.Standing.{declared_by, stored_in, tables_in}
use Rattle.activation_stage.specs.ActivationPart.{IsActivationPlanOf}
use Rattle.activation_stage.specs.declared.activation_plan.ActivationPlan.{ActivationPlan}
use Rattle.etc_clean.specs.Obsolete.{IsSortedOf}
use Rattle.etc_farm.specs.EtcPart.{items_in}
use Rattle.etc_manifest.specs.Entries.{manifest_of}
use Rattle.host_trait.specs.World.{Leaves}
use Rattle.switch_names.specs.Names.{Name, has, is_name}
use Rattle.users_merge.proofs.NameOrderLemmas.{is_ordered}
use Rattle.users_merge.specs.declared.merged.Merged as answered
use Rattle.users_merge.specs.Merge.{merge_of}
use Rattle.users_merge.specs.Order.{group_rows, passwd_rows, shadow_rows}
use Rattle.users_merge.specs.Stored.{Merged, ordered}
use Rattle.users_spec.specs.Fields.{Read}
use Rattle.users_spec.specs.Spec.{Accounts}
use Rattle.dry_report.specs.Lines.{added_lines, changed_lines, etc_lines, kept_line, lacking, table_lines, told_each}
use Rattle.dry_report.specs.Activation.{IsActivationReport, account_lines, kept_by}

-- ---- no name is lacking among itself

none_left : (names others : List Name) → ((name : Name) → has names name ≡ true → has others name ≡ true) → filter (λ name. not (has others name)) names ≡ []
none_left [] others there = refl
none_left (name ∷ rest) others there =
    ap (λ b. if not b then name ∷ filter (λ one. not (has others one)) rest else filter (λ one. not (has others one)) rest) (there name (ap (λ b. b || has rest name) (name_itself name)))
    ∙ none_left rest others (λ one has_it. there one (or_right (is_name one name) (has rest one) has_it))

pub none_lacking : (names : List Name) → lacking names names ≡ []
unfolding lacking
none_lacking names = ap ordered (none_left names names (λ name has_it. has_it)) ∙ sym (is_ordered [] [] none_sorted (λ name. refl))

same_lines : {Row : Type 0} (name_of : Row → Name) (id_of : Row → ℕ) (dropped added : List ℕ) (rows : List Row) → changed_lines name_of id_of dropped added rows rows ≡ []
same_lines name_of id_of dropped added rows =
    ap (λ names. told_each dropped names ++ added_lines name_of id_of added rows names) (none_lacking (map name_of rows))

pub nothing_changed : (tables : Tables) → table_lines tables tables ≡ []
nothing_changed tables =
    ap₂ (λ groups users. groups ++ users) (same_lines group_name (λ (row : GroupRow). row.gid) (codes "drop group ") (codes "add group ") tables.group) (same_lines passwd_name (λ (row : PasswdRow). row.uid) (codes "drop user ") (codes "add user ") tables.passwd)

-- ---- the lines of a plan

-- the tables of an answer are the rows of its merge
answer_tables : (m : Merged) (answer : answered.Merged) → IsAnswerOf m answer → answer.tables ≡ record { group = group_rows m; passwd = passwd_rows m; shadow = shadow_rows m }
answer_tables m answer is = λ i. record {
  group = (is.order.group ∙ ap group_rows is.merged) i;
  passwd = (is.order.passwd ∙ ap passwd_rows is.merged) i;
  shadow = (is.order.shadow ∙ ap shadow_rows is.merged) i;
}

merged_lines : (leaves : Leaves) (read : Option (Read Accounts)) (answer : answered.Merged) → IsMergePlanned leaves read (Some answer) →
    flat_map kept_line answer.kept ++ table_lines (tables_in leaves) answer.tables ≡ flat_map kept_line (kept_by leaves read) ++ table_lines (tables_in leaves) (tables_by (merged_by leaves read) leaves)
merged_lines leaves None answer is = absurd (none-some answer (sym is))
merged_lines leaves (Some (Err why)) answer is = absurd is
merged_lines leaves (Some (Ok spec)) answer (is, same) =
    ap₂ (λ names tables. flat_map kept_line names ++ table_lines (tables_in leaves) tables) same (answer_tables (merge_of spec (stored_in leaves)) answer is)

unmerged_lines : (leaves : Leaves) (read : Option (Read Accounts)) → IsMergePlanned leaves read None → flat_map kept_line (kept_by leaves read) ++ table_lines (tables_in leaves) (tables_by (merged_by leaves read) leaves) ≡ []
unmerged_lines leaves None is = nothing_changed (tables_in leaves)
unmerged_lines leaves (Some (Err why)) is = absurd is
unmerged_lines leaves (Some (Ok spec)) is = absurd is

pub planned_lines : (system : Name) (leaves : Leaves) (plan : AccountsPlan) (answer : answered.Merged) → plan.merged ≡ Some answer → IsAccountsPlanOf system leaves plan →
    flat_map kept_line answer.kept ++ table_lines plan.tables answer.tables ≡ account_lines system leaves
planned_lines system leaves plan answer some is =
    ap (λ tables. flat_map kept_line answer.kept ++ table_lines tables answer.tables) is.tables
    ∙ merged_lines leaves (declared_by system leaves) answer (subst (λ o. IsMergePlanned leaves (declared_by system leaves) o) some is.merged)

pub unplanned_lines : (system : Name) (leaves : Leaves) (plan : AccountsPlan) → plan.merged ≡ None → IsAccountsPlanOf system leaves plan → account_lines system leaves ≡ []
unplanned_lines system leaves plan none is = unmerged_lines leaves (declared_by system leaves) (subst (λ o. IsMergePlanned leaves (declared_by system leaves) o) none is.merged)

-- where nothing is merged, nothing is added to a text
pub with_nothing : (text : List ℕ) (system : Name) (leaves : Leaves) (plan : AccountsPlan) → ((answer : answered.Merged) → plan.merged ≡ Some answer → ⊥) → IsAccountsPlanOf system leaves plan →
    text ≡ text ++ account_lines system leaves
with_nothing text system leaves plan none is = elim (none_or_some plan.merged) [
  | inl absent ↦ sym (ap (λ lines. text ++ lines) (unplanned_lines system leaves plan absent is) ∙ append-nil text)
  | inr some ↦ absurd (none some.0 some.1)
]

-- ---- what is told of a plan

pub told_of_plan : (system : Name) (leaves : Leaves) (plan : ActivationPlan) → IsActivationPlanOf system leaves plan → IsActivationReport system leaves (account_lines system leaves ++ etc_lines plan.etc.sorted)
told_of_plan system leaves plan is = record {
  sorted = plan.etc.sorted;
  is_sorted = subst (λ items. IsSortedOf items leaves plan.etc.sorted) (sym (ap items_in (subst (λ owners. manifest_of leaves system owners ≡ Ok plan.etc.manifest) is.owners is.etc.wanted))) is.etc.sorted;
  is_text = refl;
}
