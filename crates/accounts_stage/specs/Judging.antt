-- What is judged of the texts of accounts, and in which order: nixpkgs, update-users-groups.pl.
use Rattle.std.specs.Prelude.{◌≡◌, ℕ, Option, None, Some, Ok, option_and_then, option_map}
use Rattle.std.specs.Option.{option_or}
use Rattle.host_trait.specs.World.{Leaves}
use Rattle.switch_parts.specs.declared.refusal.Refusal.{Refusal}
use Rattle.switch_parts.specs.declared.refusal.What.TheVariants.{Rows}
use Rattle.switch_parts.specs.Limits.{too_many}
use Rattle.users_merge.specs.Merge.{fault}
use Rattle.users_spec.specs.Fields.{Read}
use Rattle.users_spec.specs.Spec.{Accounts, accounts_of}
use Rattle.accounts_stage.specs.declared.accounts_plan.AccountsPlan.{AccountsPlan}
use Rattle.accounts_stage.specs.declared.judging.AccountTexts.{AccountTexts}
use Rattle.accounts_stage.specs.declared.judging.Judged.{Judged}
use Rattle.accounts_stage.specs.Answer.{spec_refusal}
use Rattle.accounts_stage.specs.Refusals.{maps_refusal, merge_refusal, texts_refusal}
use Rattle.accounts_stage.specs.Rows.{tables_past, texts_past}
use Rattle.accounts_stage.specs.Standing.{memory_in, stored_in, tables_of}

-- what texts declare of accounts, where they do, or the first fault of that
abbrev pub declared_in : AccountTexts → Option (Read Accounts)
declared_in texts = option_map accounts_of texts.spec

-- why texts are refused, or nothing: too many lines, then the specification, then a line that is no row
abbrev pub first_refusal : AccountTexts → Option Refusal
first_refusal texts =
    option_or (too_many Rows (texts_past texts.tables)) (option_or (spec_refusal (declared_in texts)) (texts_refusal texts.tables))

-- what texts say that aren't refused
pub record IsJudged (texts : AccountTexts) (judged : Judged) : Type 0 where
  pub spec : declared_in texts ≡ option_map Ok judged.spec
  pub tables : judged.tables ≡ tables_of texts.tables

-- why accounts are refused beside their texts, or nothing: the maps of ids, then the merge
abbrev pub later_refusal : Leaves → Option Accounts → Option Refusal
later_refusal leaves None = None
later_refusal leaves (Some spec) = option_or (maps_refusal (memory_in leaves)) (option_and_then merge_refusal (fault spec (stored_in leaves)))

-- how many rows the first table has that a plan leaves with too many
abbrev pub plan_past : AccountsPlan → Option ℕ
plan_past plan = option_and_then (λ answer. tables_past answer.tables) plan.merged
