-- Each moment of setting accounts keeps what is left at the end.
use Rattle.std.proofs.Common.{◌≡◌, ℕ, zero, suc, Bool, true, false, cond, List, [], ◌∷◌, length, map, take, Option, None, Some, Ok, Err, is_none, is_some, option_map, option_and_then, refl, sym, ap, ◌∙◌}
use Rattle.std.specs.FinMap.{empty, get}
use Rattle.std.specs.List.{filter_map}
use Rattle.std.specs.Option.{option_or, unwrap_or}
use Rattle.account_text.specs.Group.{group_row}
use Rattle.account_text.specs.Order.{group_key, passwd_key}
use Rattle.account_text.specs.Passwd.{passwd_row}
use Rattle.account_text.specs.Table.{wrong_line}
use Rattle.account_text.specs.declared.passwd.PasswdRow.{PasswdRow}
use Rattle.host_trait.specs.World.{Leaves, WorldState, content_of, seen}
use Rattle.host_trait.proofs.Seen.{seen_at}
use Rattle.host_trait.specs.Ids.{Ids}
use Rattle.leaf_limits.specs.Counts.{past, rows_max}
use Rattle.leaf_limits.specs.Limits.{content_past}
use Rattle.switch_names.specs.Names.{Name}
use Rattle.switch_names.specs.SystemName.{IsSystemPath}
use Rattle.switch_names.proofs.Outcomes.{none_mapped, option_or_parts, option_or_nothing}
use Rattle.switch_parts.specs.declared.refusal.Refusal.{Refusal}
use Rattle.switch_parts.specs.declared.refusal.MapFile.{MapFile}
use Rattle.switch_parts.specs.declared.refusal.TableFile.{TableFile}
use Rattle.switch_parts.specs.declared.refusal.What.TheVariants.{Rows}
use Rattle.switch_parts.specs.Limits.{too_many}
use Rattle.switch_parts.specs.Part.{IsFree, IsSameFor}
use Rattle.switch_parts.specs.Puts.{long_among}
use Rattle.users_merge.specs.declared.merge_fault.MergeFault.{MergeFault}
use Rattle.users_merge.specs.declared.merge_fault.MergeFault.TheVariants.{NoFreeId}
use Rattle.users_merge.specs.Account.{first_without, group_accounts}
use Rattle.users_merge.specs.Law.{IsSame, KeepsMerge, after_first, puts}
use Rattle.users_merge.specs.Merge.{IsMerge, fault, gid_of, group_ids, merge_of, user_fault, user_ids}
use Rattle.users_merge.specs.Order.{in_order}
use Rattle.users_merge.specs.Stored.{Merged, Stored}
use Rattle.users_merge.proofs.ExistLemmas.{some_merge}
use Rattle.users_merge.proofs.PutLemmas.{prefix_law, puts_law}
use Rattle.users_spec.specs.declared.user_spec.UserSpec.{UserSpec}
use Rattle.users_spec.specs.Fields.{Read}
use Rattle.users_spec.specs.Spec.{Accounts, IsSound, accounts_of}
use Rattle.users_spec.proofs.Sound.{declared_are_sound}
use Rattle.tree_put.specs.declared.leaf_put.LeafPut.{LeafPut}
use Rattle.tree_put.specs.Sequence.{with_puts}
use Rattle.switch_parts.specs.Store.{is_in_store}
use Rattle.accounts_stage.specs.Lengths.{accounts_too_long}
use Rattle.accounts_stage.specs.AccountsPart.{AreAccountsFree, KeepsAccounts, accounts_part, end_by, merged_by, merged_in, puts_by, tables_by}
use Rattle.accounts_stage.specs.Refusals.{ids_refusal, maps_refusal, merge_refusal, merging_refusal, refusal_of, table_refusal, wrong_table}
use Rattle.accounts_stage.specs.Rows.{lines_of, merged_past, rows_past, rows_too_many}
use Rattle.accounts_stage.specs.Files.{account_puts, merged_end}
use Rattle.accounts_stage.specs.Laws.{AccountsMomentLaw}
use Rattle.accounts_stage.specs.Places.{group_place, passwd_place, spec_path, uids_place}
use Rattle.accounts_stage.specs.Standing.{bytes_at, declared_by, memory_in, stored_in}
use Rattle.accounts_stage.proofs.BackLemmas.{read_back}
use Rattle.accounts_stage.proofs.EndLemmas.{only_elsewhere, only_puts}
use Rattle.tree_put.proofs.LeftLemmas.{left_at, left_elsewhere}
use Rattle.accounts_stage.proofs.FrameLemmas.{declared_kept, spec_kept}
use Rattle.accounts_stage.proofs.FreeLemmas.{puts_free}
use Rattle.accounts_stage.proofs.OwnLemmas.{not_stage, store_unowned}
use Rattle.accounts_stage.proofs.PartLemmas.{frame, keeps_then}
use Rattle.accounts_stage.proofs.ReadLemmas.{AreContentsOf, IsReadBack, first_puts_are, put_of, read_after_all}
use Rattle.accounts_stage.proofs.ShortLemmas.{ArePutsShort, again_short, are_short, contents_after, none_too_long, puts_short, short_puts}

-- ---- what isn't refused

no_line : (file : TableFile) (line : Option ℕ) → wrong_table file line ≡ None → line ≡ None
no_line file None none = refl
no_line file (Some at) none = absurd (cc)

is_map : (o : Option Ids) (why : Refusal) → cond (is_none o) (Some why) None ≡ None → o ≡ Some (unwrap_or o empty)
is_map None why none = absurd (cc)
is_map (Some ids) why none = refl

no_user_fault : (gids : Name → Option ℕ) (users : List UserSpec) (ids : List ℕ) → option_and_then merge_refusal (user_fault gids users ids) ≡ None → user_fault gids users ids ≡ None
no_user_fault gids [] ids none = refl
no_user_fault gids (user ∷ users) [] none = absurd (cc)
no_user_fault gids (user ∷ users) (id ∷ ids) none = by (is_some (gids user.group)) none (no_user_fault gids users ids)
  where
    by : (b : Bool) → option_and_then merge_refusal (cond b (user_fault gids users ids) (Some (MergeFault.UnknownGroup user.name user.group))) ≡ None →
        (option_and_then merge_refusal (user_fault gids users ids) ≡ None → user_fault gids users ids ≡ None) →
        cond b (user_fault gids users ids) (Some (MergeFault.UnknownGroup user.name user.group)) ≡ None
    by true none rest = rest none
    by false none rest = absurd (cc)

no_fault : (spec : Accounts) (s : Stored) → option_and_then merge_refusal (fault spec s) ≡ None → fault spec s ≡ None
no_fault spec s none = by (first_without (group_accounts spec) (group_ids spec s)) none
  where
    users : Option MergeFault
    users = user_fault (gid_of spec s) spec.users (user_ids spec s)

    by : (o : Option Name) → option_and_then merge_refusal (option_or (option_map NoFreeId o) users) ≡ None → option_or (option_map NoFreeId o) users ≡ None
    by None none = no_user_fault (gid_of spec s) spec.users (user_ids spec s) none
    by (Some name) none = absurd (cc)

-- where accounts that are declared aren't refused, the contents are those of what stands, and nothing keeps the accounts from being merged, with few rows
pub record IsMergeable (spec : Accounts) (leaves : Leaves) : Type 0 where
  pub contents : AreContentsOf (stored_in leaves) (content_of leaves)
  pub fine : fault spec (stored_in leaves) ≡ None
  pub few : merged_past (merge_of spec (stored_in leaves)) ≡ None

mergeable : (spec : Accounts) (leaves : Leaves) → refusal_of leaves (Some (Ok spec)) ≡ None → IsMergeable spec leaves
mergeable spec leaves none =
    let whole = option_or_parts _ _ none in
    let lines = option_or_parts _ _ (none_mapped (Refusal.TooMany Rows) (rows_past leaves) whole.0) in
    let other_lines = option_or_parts _ _ lines.1 in
    let tables = option_or_parts _ _ whole.1 in
    let maps = option_or_parts _ _ tables.1 in
    let group = option_or_parts _ _ tables.0 in
    let others = option_or_parts _ _ group.1 in
    let ids = option_or_parts _ _ maps.0 in
    let merging = option_or_parts _ _ maps.1 in
    record {
      contents = record {
        group = record { rows = refl; complete = no_line _ _ group.0; few = lines.0 };
        passwd = record { rows = refl; complete = no_line _ _ others.0; few = other_lines.0 };
        shadow = record { rows = refl; complete = no_line _ _ others.1; few = other_lines.1 };
        uids = is_map _ _ ids.0;
        gids = is_map _ _ ids.1;
        users = refl;
        groups = refl;
      };
      fine = no_fault spec (stored_in leaves) merging.0;
      few = none_mapped (Refusal.TooMany Rows) (merged_past (merge_of spec (stored_in leaves))) merging.1;
    }

-- ---- what contents say

module _ (s : Stored) (leaves : Leaves) (are : AreContentsOf s (content_of leaves)) where
  pub stored_is : stored_in leaves ≡ s
  stored_is = λ i. record {
    group = are.group.rows i;
    passwd = are.passwd.rows i;
    shadow = are.shadow.rows i;
    uids = unwrap_or (are.uids i) empty;
    gids = unwrap_or (are.gids i) empty;
    users = are.users i;
    groups = are.groups i;
  }

  lines_few : rows_too_many leaves ≡ None
  lines_few = ap (too_many Rows)
      (option_or_nothing (past rows_max (lines_of (bytes_at leaves group_place))) _ are.group.few
      (option_or_nothing (past rows_max (lines_of (bytes_at leaves passwd_place))) _ are.passwd.few are.shadow.few))

  pub not_refused : (spec : Accounts) → fault spec s ≡ None → merged_past (merge_of spec s) ≡ None → refusal_of leaves (Some (Ok spec)) ≡ None
  not_refused spec fine few =
      option_or_nothing (rows_too_many leaves) _ lines_few
      (option_or_nothing (table_refusal leaves) _
      (option_or_nothing (wrong_table TableFile.Group (wrong_line group_row (bytes_at leaves group_place))) _ (ap (wrong_table TableFile.Group) are.group.complete)
      (option_or_nothing (wrong_table TableFile.Passwd (wrong_line passwd_row (bytes_at leaves passwd_place))) _ (ap (wrong_table TableFile.Passwd) are.passwd.complete) (ap (wrong_table TableFile.Shadow) are.shadow.complete)))
      (option_or_nothing (maps_refusal (memory_in leaves)) _
      (option_or_nothing (ids_refusal MapFile.Uid (content_of leaves uids_place)) _ (ap (λ (o : Option Ids). cond (is_none o) (Some (Refusal.IdMap MapFile.Uid)) None) are.uids) (ap (λ (o : Option Ids). cond (is_none o) (Some (Refusal.IdMap MapFile.Gid)) None) are.gids))
      (ap (merging_refusal spec) stored_is ∙ option_or_nothing (option_and_then merge_refusal (fault spec s)) _ (ap (option_and_then merge_refusal) fine) (ap (too_many Rows) few))))

-- ---- merges that leave the same

same_end : (m n : Merged) → IsSame m n → (q : Name) → merged_end n q ≡ merged_end m q
same_end m n same q = λ i. merged_end (record {
  group = same.group i;
  passwd = same.passwd i;
  shadow = same.shadow i;
  uids = same.uids i;
  gids = same.gids i;
  users = same.users i;
  groups = same.groups i;
  all_users = n.all_users;
  all_groups = n.all_groups;
}) q

same_tables : (m n : Merged) (leaves others : Leaves) → IsSame m n → tables_by (Some n) leaves ≡ tables_by (Some m) others
same_tables m n leaves others same = λ i. record {
  group = in_order group_key (same.group i);
  passwd = in_order passwd_key (same.passwd i);
  shadow = filter_map (λ (row : PasswdRow). get (same.shadow i) row.name) (in_order passwd_key (same.passwd i));
}

same_rows : (m n : Merged) → IsSame m n → merged_past n ≡ merged_past m
same_rows m n same = λ i. option_or (past rows_max (length (in_order group_key (same.group i)))) (past rows_max (length (in_order passwd_key (same.passwd i))))

-- ---- after some puts

module _ (system : Name) (named : IsSystemPath system) (w : WorldState) (spec : Accounts) (declared : declared_by system w.leaves ≡ Some (Ok spec)) (can : IsMergeable spec w.leaves)
    (sound : IsSound spec) (back : IsReadBack (merge_of spec (stored_in w.leaves))) (k : ℕ) where
  abbrev merged : Merged
  merged = merge_of spec (stored_in w.leaves)

  abbrev then : WorldState
  then = with_puts (map (put_of merged) (take k puts)) w

  abbrev stored : Stored
  stored = after_first merged k (stored_in w.leaves)

  contents : AreContentsOf stored (content_of then.leaves)
  contents = read_after_all merged back (take k puts) (stored_in w.leaves) w can.contents

  is_merge : IsMerge spec (stored_in w.leaves) merged
  is_merge = some_merge spec (stored_in w.leaves) can.fine

  keeps : KeepsMerge spec (stored_in w.leaves) merged stored
  keeps = puts_law spec (stored_in w.leaves) merged k sound is_merge

  merges_again : IsMerge spec stored (merge_of spec stored)
  merges_again = some_merge spec stored keeps.fine

  same : IsSame merged (merge_of spec stored)
  same = keeps.same (merge_of spec stored) merges_again

  store_stays : (q : Name) → is_in_store q ≡ true → get then.leaves q ≡ get w.leaves q
  store_stays q is =
      ap (λ puts. get (with_puts puts w).leaves q) (sym (first_puts_are merged k))
      ∙ left_at (take k (account_puts merged)) w q ∙ left_elsewhere (take k (account_puts merged)) q (get w.leaves q) (only_elsewhere (Some merged) k q (store_unowned q is))

  declared_then : declared_by system then.leaves ≡ Some (Ok spec)
  declared_then = declared_kept w.leaves then.leaves store_stays system named ∙ declared

  merged_then : merged_in system then.leaves ≡ Some (merge_of spec stored)
  merged_then = ap (merged_by then.leaves) declared_then ∙ ap (λ (s : Stored). Some (merge_of spec s)) (stored_is stored then.leaves contents)

  merged_before : merged_in system w.leaves ≡ Some merged
  merged_before = ap (merged_by w.leaves) declared

  -- no content is too long then: each was there, or is one that is put
  then_short : ArePutsShort merged → accounts_too_long system w.leaves ≡ None → accounts_too_long system then.leaves ≡ None
  then_short short none =
      let before = are_short system w.leaves none in
      none_too_long system then.leaves (contents_after merged short (take k puts) w before.0) (ap content_past (spec_kept w.leaves then.leaves store_stays system named) ∙ before.1)

  then_free : AreAccountsFree system w.leaves → AreAccountsFree system then.leaves
  then_free free =
      let short = puts_short merged (sym (ap (λ (one : Option Merged). long_among (puts_by one)) merged_before) ∙ free.short) in
      record {
        way = puts_free merged (take k puts) w free.way;
        refusal = option_or_nothing (refusal_of then.leaves (declared_by system then.leaves)) (accounts_too_long system then.leaves)
            (ap (refusal_of then.leaves) declared_then ∙ not_refused stored then.leaves contents spec keeps.fine (same_rows merged (merge_of spec stored) same ∙ can.few))
            (then_short short (option_or_parts (refusal_of w.leaves (declared_by system w.leaves)) (accounts_too_long system w.leaves) free.refusal).1);
        short = ap (λ (one : Option Merged). long_among (puts_by one)) merged_then
            ∙ short_puts (merge_of spec stored) (again_short spec (stored_in w.leaves) stored merged (merge_of spec stored) is_merge merges_again same (prefix_law spec (stored_in w.leaves) merged k is_merge) short);
      }

  pub put_keeps : KeepsAccounts system w then
  put_keeps = record {
    ends = λ q own.
        ap (λ (one : Option Merged). end_by one then.leaves q) merged_then ∙ same_end merged (merge_of spec stored) same q
        ∙ sym (ap (λ (one : Option Merged). end_by one w.leaves q) merged_before);
    free = then_free;
    tables =
        ap (λ (one : Option Merged). tables_by one then.leaves) merged_then ∙ same_tables merged (merge_of spec stored) then.leaves w.leaves same
        ∙ sym (ap (λ (one : Option Merged). tables_by one w.leaves) merged_before);
  }

-- ---- each moment

-- worlds that are equal but for the stage are the same wherever is looked
seen_same : (system : Name) (w m : WorldState) → seen m ≡ seen w → IsSameFor (accounts_part system) w m
seen_same system w m is = record { leaves = λ q read. seen_at m w is q (not_stage q read); manager = λ calls. absurd (cc) }

is_declared : (content : Option (List ℕ)) (spec : Accounts) → option_map accounts_of content ≡ Some (Ok spec) → IsSound spec
is_declared None spec is = absurd (cc)
is_declared (Some bytes) spec is = declared_are_sound bytes spec (let same : accounts_of bytes ≡ Ok spec = cc in same)

-- what is read isn't refused
read_fine : (system : Name) (w : WorldState) → IsFree (accounts_part system) w.leaves → refusal_of w.leaves (declared_by system w.leaves) ≡ None
read_fine system w free = (option_or_parts (refusal_of w.leaves (declared_by system w.leaves)) (accounts_too_long system w.leaves) free.refusal).0

moment_keeps : (system : Name) (named : IsSystemPath system) (w m : WorldState) → IsFree (accounts_part system) w.leaves → (declared : Option (Read Accounts)) → declared_by system w.leaves ≡ declared → (k : ℕ) →
    seen m ≡ seen (with_puts (take k (puts_by (merged_by w.leaves declared))) w) → KeepsAccounts system w m
moment_keeps system named w m free None declared k is = frame system named w m (seen_same system w m (is ∙ ap (λ puts. seen (with_puts puts w)) (none_left k)))
  where
    none_left : (k : ℕ) → take {A = LeafPut} k [] ≡ []
    none_left zero = refl
    none_left (suc k) = refl
moment_keeps system named w m free (Some (Err why)) declared k is = absurd (let refused : Some (Refusal.UsersSpec why) ≡ None = (option_or_parts (rows_too_many w.leaves) (Some (Refusal.UsersSpec why)) (sym (ap (refusal_of w.leaves) declared) ∙ read_fine system w free)).1 in cc)
moment_keeps system named w m free (Some (Ok spec)) declared k is =
    let can = mergeable spec w.leaves (sym (ap (refusal_of w.leaves) declared) ∙ read_fine system w free) in
    let sound = is_declared (content_of w.leaves (spec_path system)) spec declared in
    let merged = merge_of spec (stored_in w.leaves) in
    let then = with_puts (map (put_of merged) (take k puts)) w in
    keeps_then system w then m (put_keeps system named w spec declared can sound (read_back system w.leaves spec declared sound can.contents can.fine can.few) k)
    (frame system named then m (seen_same system then m (is ∙ ap (λ (all : List LeafPut). seen (with_puts all w)) (first_puts_are merged k))))

pub moment_law : AccountsMomentLaw
moment_law system w m named free setting = record {
  keeps = moment_keeps system named w m free (declared_by system w.leaves) refl setting.count setting.world;
  only = only_puts system (merged_in system w.leaves) setting.count w m setting.world;
}
