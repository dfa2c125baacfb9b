-- The plan for accounts, of what is read.
use Rattle.std.proofs.Common.{◌≡◌, Option, None, Some, Ok, Err, option_and_then, option_map, refl, sym, ap, subst, ◌∙◌}
use Rattle.std.specs.Option.{option_or}
use Rattle.account_text.specs.declared.tables.Tables.{Tables}
use Rattle.host_trait.specs.World.{Leaves}
use Rattle.switch_names.specs.Names.{Name}
use Rattle.switch_names.proofs.Outcomes.{option_or_assoc, option_or_none}
use Rattle.switch_parts.specs.declared.refusal.Refusal.{Refusal}
use Rattle.switch_parts.specs.declared.refusal.What.TheVariants.{LeafBytes, Rows}
use Rattle.switch_parts.specs.Limits.{too_many}
use Rattle.users_merge.specs.declared.merged.Merged as answered
use Rattle.users_merge.specs.Merge.{fault, merge_of}
use Rattle.users_spec.specs.Fields.{Read}
use Rattle.users_spec.specs.Spec.{Accounts}
use Rattle.accounts_stage.specs.declared.accounts_plan.AccountsPlan.{AccountsPlan}
use Rattle.accounts_stage.specs.declared.judging.AccountTexts.{AccountTexts}
use Rattle.accounts_stage.specs.declared.judging.Judged.{Judged}
use Rattle.accounts_stage.specs.AccountsPart.{accounts_refusal}
use Rattle.accounts_stage.specs.Answer.{Answers, spec_refusal}
use Rattle.accounts_stage.specs.Judging.{IsJudged, declared_in, first_refusal, later_refusal, plan_past}
use Rattle.accounts_stage.specs.Lengths.{account_texts, accounts_too_long, texts_long}
use Rattle.accounts_stage.specs.Plan.{ArePlanned, IsAccountsPlanOf, IsMergePlanned}
use Rattle.accounts_stage.specs.Refusals.{maps_refusal, merge_refusal, refusal_of, table_refusal}
use Rattle.accounts_stage.specs.Rows.{merged_too_many, rows_too_many, tables_past}
use Rattle.accounts_stage.specs.Standing.{declared_by, memory_in, stored_in, tables_in, tables_of}
use Rattle.accounts_stage.proofs.PuttingLemmas.{tables_merged}

module _ (leaves : Leaves) where
  -- ---- the refusals in their order

  -- why the tables that stand are refused
  abbrev tables_first : Option Refusal
  tables_first = option_or (rows_too_many leaves) (table_refusal leaves)

  -- why the tables that a merge leaves are refused
  abbrev merged_last : Option Accounts → Option Refusal
  merged_last None = None
  merged_last (Some spec) = merged_too_many (merge_of spec (stored_in leaves))

  refusal_parts : (spec : Option Accounts) → refusal_of leaves (option_map Ok spec) ≡ option_or tables_first (option_or (later_refusal leaves spec) (merged_last spec))
  refusal_parts None = sym (option_or_none tables_first)
  refusal_parts (Some spec) =
      let maps = maps_refusal (memory_in leaves) in
      let merging = option_and_then merge_refusal (fault spec (stored_in leaves)) in
      let many = merged_too_many (merge_of spec (stored_in leaves)) in
      sym (ap (option_or tables_first) (option_or_assoc maps merging many) ∙ option_or_assoc (rows_too_many leaves) (table_refusal leaves) (option_or maps (option_or merging many)))

  -- texts that are refused are what is refused
  texts_refused : (declared : Option (Read Accounts)) (why : Refusal) → option_or (rows_too_many leaves) (option_or (spec_refusal declared) (table_refusal leaves)) ≡ Some why → refusal_of leaves declared ≡ Some why
  texts_refused None why is = is
  texts_refused (Some (Err fault)) why is = is
  texts_refused (Some (Ok spec)) why is = refusal_parts (Some spec) ∙ ap (λ o. option_or o (option_or (later_refusal leaves (Some spec)) (merged_last (Some spec)))) is

  -- a specification that is read isn't refused
  spec_read : (declared : Option (Read Accounts)) (spec : Option Accounts) → declared ≡ option_map Ok spec → spec_refusal declared ≡ None
  spec_read declared spec is = ap spec_refusal is ∙ by spec
    where
      by : (o : Option Accounts) → spec_refusal (option_map Ok o) ≡ None
      by None = refl
      by (Some one) = refl

  -- ---- the rows of a merge that is planned

  merged_rows : (spec : Option Accounts) (answer : Option answered.Merged) → IsMergePlanned leaves (option_map Ok spec) answer →
      merged_last spec ≡ too_many Rows (option_and_then (λ (one : answered.Merged). tables_past one.tables) answer)
  merged_rows None answer is = ap (λ (o : Option answered.Merged). too_many Rows (option_and_then (λ (one : answered.Merged). tables_past one.tables) o)) (sym is)
  merged_rows (Some spec) None is = absurd is
  merged_rows (Some spec) (Some answer) is = ap (λ (tables : Tables). too_many Rows (tables_past tables)) (sym (tables_merged leaves (Some (Ok spec)) answer is))

module _ (system : Name) (leaves : Leaves) (texts : AccountTexts) (same : texts ≡ account_texts system leaves) where
  -- texts that are refused are what is refused
  pub first_refused : (why : Refusal) → first_refusal texts ≡ Some why → accounts_refusal system leaves ≡ Some why
  first_refused why is = ap (λ o. option_or o (accounts_too_long system leaves)) (texts_refused leaves (declared_by system leaves) why (sym (ap first_refusal same) ∙ is))

  -- a length that is told of the texts is that of what stands
  pub length_is : too_many LeafBytes (texts_long texts) ≡ accounts_too_long system leaves
  length_is = ap (λ (t : AccountTexts). too_many LeafBytes (texts_long t)) same

  -- the texts of what is remembered are those that stand
  pub memory_are : texts.memory ≡ memory_in leaves
  memory_are = ap (λ (t : AccountTexts). t.memory) same

  module _ (judged : Judged) (is : IsJudged texts judged) (fine : first_refusal texts ≡ None) where
    declared_is : declared_by system leaves ≡ option_map Ok judged.spec
    declared_is = sym (ap declared_in same) ∙ is.spec

    pub tables_are : judged.tables ≡ tables_in leaves
    tables_are = is.tables ∙ ap (λ (t : AccountTexts). tables_of t.tables) same

    -- what is left to refuse
    rest : refusal_of leaves (declared_by system leaves) ≡ option_or (later_refusal leaves judged.spec) (merged_last leaves judged.spec)
    rest =
        ap (refusal_of leaves) declared_is ∙ refusal_parts leaves judged.spec
        ∙ ap (λ o. option_or o (option_or (later_refusal leaves judged.spec) (merged_last leaves judged.spec)))
        (sym (ap (λ o. option_or (rows_too_many leaves) (option_or o (table_refusal leaves))) (spec_read leaves (declared_by system leaves) judged.spec declared_is)) ∙ sym (ap first_refusal same) ∙ fine)

    pub later_refused : (why : Refusal) → later_refusal leaves judged.spec ≡ Some why → accounts_refusal system leaves ≡ Some why
    later_refused why refused = ap (λ o. option_or o (accounts_too_long system leaves)) (rest ∙ ap (λ o. option_or o (merged_last leaves judged.spec)) refused)

    module _ (plan : AccountsPlan) (planned : Answers (later_refusal leaves judged.spec) (ArePlanned leaves (option_map Ok judged.spec)) (Ok plan)) where
      -- the merged rows come last, and then the lengths of what is taken
      pub rows_last : accounts_refusal system leaves ≡ option_or (too_many Rows (plan_past plan)) (accounts_too_long system leaves)
      rows_last = ap (λ o. option_or o (accounts_too_long system leaves)) (rest ∙ ap (λ o. option_or o (merged_last leaves judged.spec)) planned.not_refused ∙ merged_rows leaves judged.spec plan.merged planned.ok.merged)

      pub planned_for : IsAccountsPlanOf system leaves plan
      planned_for = subst (λ declared. ArePlanned leaves declared plan) (sym declared_is) planned.ok
