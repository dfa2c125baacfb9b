-- The part of a switch that sets the accounts: nixpkgs, update-users-groups.pl; NixOS manual, "User Management".
use Rattle.std.specs.Prelude.{◌≡◌, ◌||◌, Bool, true, false, List, [], Option, None, Some, Ok, Err}
use Rattle.std.specs.FinMap.{get}
use Rattle.std.specs.Option.{option_or}
use Rattle.account_text.specs.declared.tables.Tables.{Tables}
use Rattle.host_trait.specs.declared.leaf.LeafKind.{LeafKind}
use Rattle.host_trait.specs.World.{Leaves, WorldState}
use Rattle.leaf_limits.specs.declared.too_long.TooLong.{TooLong}
use Rattle.switch_names.specs.Names.{Name}
use Rattle.switch_parts.specs.declared.refusal.Refusal.{Refusal}
use Rattle.switch_parts.specs.Leaves.{is_near}
use Rattle.switch_parts.specs.Part.{Part}
use Rattle.switch_parts.specs.Puts.{long_among}
use Rattle.switch_parts.specs.Store.{is_in_store}
use Rattle.tree_put.specs.declared.leaf_put.LeafPut.{LeafPut}
use Rattle.tree_put.specs.WrittenPlace.{in_the_way}
use Rattle.users_merge.specs.Merge.{merge_of}
use Rattle.users_merge.specs.Stored.{Merged}
use Rattle.users_spec.specs.Fields.{Read}
use Rattle.users_spec.specs.Spec.{Accounts}
use Rattle.accounts_stage.specs.Files.{account_puts, merged_end, tables_with}
use Rattle.accounts_stage.specs.Lengths.{accounts_too_long}
use Rattle.accounts_stage.specs.Places.{account_places, owns_accounts}
use Rattle.accounts_stage.specs.Refusals.{refusal_of}
use Rattle.accounts_stage.specs.Standing.{declared_by, stored_in, tables_in}

-- the merge of accounts that are declared so
abbrev pub merged_by : Leaves → Option (Read Accounts) → Option Merged
merged_by leaves None = None
merged_by leaves (Some (Err why)) = None
merged_by leaves (Some (Ok spec)) = Some (merge_of spec (stored_in leaves))

-- the merge that a switch to a system makes, where that declares accounts
abbrev pub merged_in : Name → Leaves → Option Merged
merged_in system leaves = merged_by leaves (declared_by system leaves)

-- the leaf at a place of accounts after a merge, and as it was without one
abbrev pub end_by : Option Merged → Leaves → Name → Option LeafKind
end_by None leaves q = get leaves q
end_by (Some m) leaves q = merged_end m q

abbrev pub accounts_end : Name → Leaves → Name → Option LeafKind
accounts_end system leaves q = end_by (merged_in system leaves) leaves q

-- the puts of a merge, and none without one
abbrev pub puts_by : Option Merged → List LeafPut
puts_by None = []
puts_by (Some m) = account_puts m

-- the puts that a switch to a system makes
abbrev pub puts_of : Name → Leaves → List LeafPut
puts_of system leaves = puts_by (merged_in system leaves)

-- why the accounts of a system are refused, or nothing: last, a content that is taken is too long
abbrev pub accounts_refusal : Name → Leaves → Option Refusal
accounts_refusal system leaves = option_or (refusal_of leaves (declared_by system leaves)) (accounts_too_long system leaves)

-- the first file of accounts in byte order that would be put longer than can be read again, where there is one: of the names that were
-- declared those with the ones of old are put first, which are no fewer
abbrev pub accounts_long : Name → Leaves → Option TooLong
accounts_long system leaves = long_among (puts_of system leaves)

-- nothing is in the way of the accounts of a system, they aren't refused, and no file of them would be put too long
pub record AreAccountsFree (system : Name) (leaves : Leaves) : Type 0 where
  pub way : in_the_way account_places leaves ≡ None
  pub refusal : accounts_refusal system leaves ≡ None
  pub short : accounts_long system leaves ≡ None

-- the rows of tables after a merge, and as they were without one
abbrev pub tables_by : Option Merged → Leaves → Tables
tables_by None leaves = tables_in leaves
tables_by (Some m) leaves = tables_with m

-- the rows of the tables that a switch to a system leaves
abbrev pub tables_after : Name → Leaves → Tables
tables_after system leaves = tables_by (merged_in system leaves) leaves

-- what setting accounts looks at: their places, the store, to which a link at one of them may lead, and what could be in the way
abbrev pub reads_accounts : Name → Bool
reads_accounts q = owns_accounts q || (is_in_store q || is_near account_places q)

-- each moment keeps what is left at the end, the rows of the tables that are left, that nothing is in the way or refused, and that
-- what is put can be read again
pub record KeepsAccounts (system : Name) (w m : WorldState) : Type 0 where
  pub ends : (q : Name) → owns_accounts q ≡ true → accounts_end system m.leaves q ≡ accounts_end system w.leaves q
  pub free : AreAccountsFree system w.leaves → AreAccountsFree system m.leaves
  pub tables : tables_after system m.leaves ≡ tables_after system w.leaves

-- the part that sets the accounts
abbrev pub accounts_part : Name → Part
accounts_part system = record {
  owns = owns_accounts;
  reads = reads_accounts;
  calls = false;
  places = λ leaves. account_places;
  refusal = accounts_refusal system;
  long = accounts_long system;
  end = accounts_end system;
  Keeps = KeepsAccounts system;
}
