-- Setting accounts is a part of a switch.
use Rattle.std.proofs.Common.{◌≡◌, Option, None, Some, Ok, Err, refl, sym, subst, ◌∙◌}
use Rattle.switch_names.specs.Names.{Name}
use Rattle.switch_names.specs.SystemName.{IsSystemPath}
use Rattle.host_trait.specs.World.{Leaves, WorldState}
use Rattle.switch_parts.specs.Part.{IsSameFor}
use Rattle.users_merge.specs.declared.merged.Merged as answered
use Rattle.users_merge.specs.Stored.{Stored}
use Rattle.users_merge.specs.Merge.{kept, merge_of}
use Rattle.users_spec.specs.Fields.{Read}
use Rattle.users_spec.specs.Spec.{Accounts}
use Rattle.accounts_stage.specs.AccountsPart.{KeepsAccounts, accounts_part}
use Rattle.accounts_stage.specs.Laws.{AccountsPartLaw, AccountsPlanLaw}
use Rattle.accounts_stage.specs.Plan.{IsAnswerOf, IsMergePlanned}
use Rattle.accounts_stage.specs.Standing.{declared_by, stored_in}
use Rattle.accounts_stage.proofs.FrameLemmas.{contents_same, declared_same, end_same, length_same, long_kept, refusal_in_kept, stored_kept, tables_after_kept, tables_kept, way_same}
use Rattle.accounts_stage.proofs.OwnLemmas.{owned_read, stage_unread}

pub keeps_self : (system : Name) (w : WorldState) → KeepsAccounts system w w
keeps_self system w = record { ends = λ q own. refl; free = λ free. free; tables = refl }

pub keeps_then : (system : Name) (w v m : WorldState) → KeepsAccounts system w v → KeepsAccounts system v m → KeepsAccounts system w m
keeps_then system w v m first then = record {
  ends = λ q own. then.ends q own ∙ first.ends q own;
  free = λ free. then.free (first.free free);
  tables = then.tables ∙ first.tables;
}

-- where the same stands wherever is looked, the same is kept
pub frame : (system : Name) → IsSystemPath system → (w m : WorldState) → IsSameFor (accounts_part system) w m → KeepsAccounts system w m
frame system named w m same =
    let contents = contents_same w.leaves m.leaves same.leaves in
    let declared = declared_same w.leaves m.leaves same.leaves system named in
    record {
      ends = λ q own. end_same w.leaves m.leaves same.leaves system named q own;
      free = λ free. record {
        way = way_same w.leaves m.leaves same.leaves free.way;
        refusal = refusal_in_kept w.leaves m.leaves contents system declared (length_same w.leaves m.leaves same.leaves system named) ∙ free.refusal;
        short = long_kept w.leaves m.leaves contents system declared ∙ free.short;
      };
      tables = tables_after_kept w.leaves m.leaves contents system declared;
    }

pub part_law : AccountsPartLaw
part_law system named = record {
  keeps_self = keeps_self system;
  keeps_then = keeps_then system;
  same_end = λ w m keeps q own. keeps.ends q own;
  stays_free = λ w m keeps free. let again = keeps.free (record { way = free.way; refusal = free.refusal; short = free.short }) in record { way = again.way; refusal = again.refusal; short = again.short };
  frame = frame system named;
  reads_own = owned_read;
  no_stage = stage_unread;
}

-- ---- plans

planned_same : (w u : Leaves) → stored_in u ≡ stored_in w → (declared : Option (Read Accounts)) (answer : Option answered.Merged) → IsMergePlanned w declared answer → IsMergePlanned u declared answer
planned_same w u same None answer planned = planned
planned_same w u same (Some (Err why)) answer planned = planned
planned_same w u same (Some (Ok spec)) None planned = planned
planned_same w u same (Some (Ok spec)) (Some answer) planned =
    subst (λ (s : Stored). IsAnswerOf (merge_of spec s) answer × (answer.kept ≡ kept spec s)) (sym same) planned

pub plan_law : AccountsPlanLaw
plan_law system w u plan named same is =
    let contents = contents_same w.leaves u.leaves same.leaves in
    record {
      tables = is.tables ∙ sym (tables_kept w.leaves u.leaves contents);
      merged = subst (λ (declared : Option (Read Accounts)). IsMergePlanned u.leaves declared plan.merged) (sym (declared_same w.leaves u.leaves same.leaves system named))
          (planned_same w.leaves u.leaves (stored_kept w.leaves u.leaves contents) (declared_by system w.leaves) plan.merged is.merged);
      first = is.first;
      last = is.last;
    }
