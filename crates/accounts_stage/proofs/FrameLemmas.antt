-- Where the same stands wherever setting accounts looks, the same is read, merged and refused.
use Rattle.std.proofs.Common.{◌≡◌, ◌&&◌, ℕ, true, List, [], ◌∷◌, Option, None, Some, Ok, Err, is_none, is_some, option_map, cond, refl, ap, ap₂, ◌∙◌}
use Rattle.std.specs.FinMap.{empty, get}
use Rattle.std.specs.List.{AllByRecursion}
use Rattle.std.specs.Option.{option_or, unwrap_or}
use Rattle.account_text.specs.Group.{group_name, group_row}
use Rattle.account_text.specs.Passwd.{passwd_name, passwd_row}
use Rattle.account_text.specs.Shadow.{shadow_name, shadow_row}
use Rattle.account_text.specs.Table.{rows_of, wrong_line}
use Rattle.host_trait.specs.declared.leaf.LeafKind.{LeafKind}
use Rattle.host_trait.specs.World.{Leaves, content_of}
use Rattle.switch_names.specs.Names.{Name}
use Rattle.switch_names.specs.SystemName.{IsSystemPath}
use Rattle.switch_parts.specs.declared.refusal.MapFile.TheVariants.{Gid, Uid}
use Rattle.switch_parts.specs.declared.refusal.Refusal.TheVariants.{IdMap}
use Rattle.switch_parts.specs.declared.refusal.TableFile.TheVariants.{Group, Passwd, Shadow}
use Rattle.switch_parts.specs.declared.refusal.What.TheVariants.{LeafBytes, Rows}
use Rattle.switch_parts.specs.Limits.{too_many}
use Rattle.switch_parts.specs.Puts.{long_among}
use Rattle.tree_put.specs.declared.written_place.WrittenPlace.{WrittenPlace}
use Rattle.tree_put.specs.WrittenPlace.{in_the_way, lacks_content}
use Rattle.users_merge.specs.Merge.{merge_of}
use Rattle.users_merge.specs.Stored.{Merged, Stored, stored_of}
use Rattle.users_spec.specs.Fields.{Read}
use Rattle.users_spec.specs.Spec.{Accounts, accounts_of}
use Rattle.switch_parts.specs.Store.{is_in_store}
use Rattle.switch_parts.proofs.StoreLemmas.{store_content_kept}
use Rattle.accounts_stage.specs.AccountsPart.{accounts_end, accounts_long, accounts_refusal, end_by, merged_by, merged_in, puts_by, reads_accounts, tables_after, tables_by}
use Rattle.accounts_stage.specs.Lengths.{accounts_too_long, texts_long}
use Rattle.accounts_stage.specs.Refusals.{declared_refusal, maps_refusal, merging_refusal, refusal_of, table_refusal, wrong_table}
use Rattle.accounts_stage.specs.Rows.{rows_too_many, texts_past}
use Rattle.accounts_stage.specs.Places.{account_places, gids_place, group_place, groups_place, owns_accounts, passwd_place, shadow_place, spec_path, uids_place, users_place}
use Rattle.accounts_stage.specs.Standing.{bytes_at, declared_by, declared_of, ids_of, memory_in, names_in, remembered_of, stored_in, tables_in}
use Rattle.accounts_stage.proofs.OwnLemmas.{accounts_open, near_read, owned_read, reads_own, spec_stored, store_read}
use Rattle.accounts_stage.proofs.WayLemmas.{AreReadAlike, all_free, each_free, same_way}

-- ---- what is read is the same where the store is

module _ (w m : Leaves) (store : (q : Name) → is_in_store q ≡ true → get m q ≡ get w q) where
  -- what a system declares of accounts has the same content
  pub spec_kept : (system : Name) → IsSystemPath system → content_of m (spec_path system) ≡ content_of w (spec_path system)
  spec_kept system named = store_content_kept w m store (spec_path system) (store (spec_path system) (spec_stored system named))

  -- and says the same
  pub declared_kept : (system : Name) → IsSystemPath system → declared_by system m ≡ declared_by system w
  declared_kept system named = ap (option_map accounts_of) (spec_kept system named)

-- ---- what is made of the contents of the places of accounts

-- each place of accounts has the same content
abbrev pub HaveSameContents : Leaves → Leaves → Type 0
HaveSameContents w m = (q : Name) → owns_accounts q ≡ true → content_of m q ≡ content_of w q

pub own_group : owns_accounts group_place ≡ true
unfolding accounts_open
own_group = refl

pub own_passwd : owns_accounts passwd_place ≡ true
unfolding accounts_open
own_passwd = refl

pub own_shadow : owns_accounts shadow_place ≡ true
unfolding accounts_open
own_shadow = refl

pub own_groups : owns_accounts groups_place ≡ true
unfolding accounts_open
own_groups = refl

pub own_users : owns_accounts users_place ≡ true
unfolding accounts_open
own_users = refl

pub own_gids : owns_accounts gids_place ≡ true
unfolding accounts_open
own_gids = refl

pub own_uids : owns_accounts uids_place ≡ true
unfolding accounts_open
own_uids = refl

module _ (w m : Leaves) (same : HaveSameContents w m) where
  bytes_kept : (q : Name) → owns_accounts q ≡ true → bytes_at m q ≡ bytes_at w q
  bytes_kept q own = ap (λ (o : Option (List ℕ)). unwrap_or o []) (same q own)

  pub tables_kept : tables_in m ≡ tables_in w
  tables_kept = λ i. record {
    group = rows_of group_row group_name (bytes_kept group_place own_group i);
    passwd = rows_of passwd_row passwd_name (bytes_kept passwd_place own_passwd i);
    shadow = rows_of shadow_row shadow_name (bytes_kept shadow_place own_shadow i);
  }

  ids_kept : (q : Name) → owns_accounts q ≡ true → ids_of (content_of m q) ≡ ids_of (content_of w q)
  ids_kept q own = ap ids_of (same q own)

  remembered_kept : remembered_of (memory_in m) ≡ remembered_of (memory_in w)
  remembered_kept = λ i. record { uids = unwrap_or (ids_kept uids_place own_uids i) empty; gids = unwrap_or (ids_kept gids_place own_gids i) empty }

  declared_names_kept : declared_of (memory_in m) ≡ declared_of (memory_in w)
  declared_names_kept = λ i. record { users = names_in (bytes_kept users_place own_users i); groups = names_in (bytes_kept groups_place own_groups i) }

  pub stored_kept : stored_in m ≡ stored_in w
  stored_kept = λ i. stored_of (tables_kept i) (remembered_kept i) (declared_names_kept i)

  table_refusal_kept : table_refusal m ≡ table_refusal w
  table_refusal_kept = λ i.
      option_or (wrong_table Group (wrong_line group_row (bytes_kept group_place own_group i)))
      (option_or (wrong_table Passwd (wrong_line passwd_row (bytes_kept passwd_place own_passwd i)))
      (wrong_table Shadow (wrong_line shadow_row (bytes_kept shadow_place own_shadow i))))

  map_refusal_kept : maps_refusal (memory_in m) ≡ maps_refusal (memory_in w)
  map_refusal_kept = λ i.
      option_or (cond (is_none (ids_kept uids_place own_uids i)) (Some (IdMap Uid)) None)
      (cond (is_none (ids_kept gids_place own_gids i)) (Some (IdMap Gid)) None)

  rows_kept : rows_too_many m ≡ rows_too_many w
  rows_kept = λ i. too_many Rows (texts_past (record { group = bytes_kept group_place own_group i; passwd = bytes_kept passwd_place own_passwd i; shadow = bytes_kept shadow_place own_shadow i }))

  declared_refusal_kept : (declared : Option (Read Accounts)) → declared_refusal m declared ≡ declared_refusal w declared
  declared_refusal_kept None = table_refusal_kept
  declared_refusal_kept (Some (Err why)) = refl
  declared_refusal_kept (Some (Ok spec)) = λ i. option_or (table_refusal_kept i) (option_or (map_refusal_kept i) (merging_refusal spec (stored_kept i)))

  refusal_kept : (declared : Option (Read Accounts)) → refusal_of m declared ≡ refusal_of w declared
  refusal_kept declared = λ i. option_or (rows_kept i) (declared_refusal_kept declared i)

  merged_kept : (declared : Option (Read Accounts)) → merged_by m declared ≡ merged_by w declared
  merged_kept None = refl
  merged_kept (Some (Err why)) = refl
  merged_kept (Some (Ok spec)) = ap (λ (s : Stored). Some (merge_of spec s)) stored_kept

  tables_by_kept : (merged : Option Merged) → tables_by merged m ≡ tables_by merged w
  tables_by_kept None = tables_kept
  tables_by_kept (Some one) = refl

  -- where a system declares the same, as much is taken
  pub length_kept : (system : Name) → content_of m (spec_path system) ≡ content_of w (spec_path system) → accounts_too_long system m ≡ accounts_too_long system w
  length_kept system spec = λ i. too_many LeafBytes (texts_long (record {
    spec = spec i;
    tables = record { group = bytes_kept group_place own_group i; passwd = bytes_kept passwd_place own_passwd i; shadow = bytes_kept shadow_place own_shadow i };
    memory = record { uids = same uids_place own_uids i; gids = same gids_place own_gids i; users = bytes_kept users_place own_users i; groups = bytes_kept groups_place own_groups i };
  }))

  module _ (system : Name) (declared : declared_by system m ≡ declared_by system w) where
    pub merged_in_kept : merged_in system m ≡ merged_in system w
    merged_in_kept = ap (merged_by m) declared ∙ merged_kept (declared_by system w)

    pub tables_after_kept : tables_after system m ≡ tables_after system w
    tables_after_kept = ap (λ (one : Option Merged). tables_by one m) merged_in_kept ∙ tables_by_kept (merged_in system w)

    -- what is put is the same, and so too long or not
    pub long_kept : accounts_long system m ≡ accounts_long system w
    long_kept = ap (λ (one : Option Merged). long_among (puts_by one)) merged_in_kept

    pub refusal_in_kept : accounts_too_long system m ≡ accounts_too_long system w → accounts_refusal system m ≡ accounts_refusal system w
    refusal_in_kept length = λ i. option_or ((ap (refusal_of m) declared ∙ refusal_kept (declared_by system w)) i) (length i)

-- ---- where the same stands wherever is looked

module _ (w m : Leaves) (same : (q : Name) → reads_accounts q ≡ true → get m q ≡ get w q) where
  pub store_same : (q : Name) → is_in_store q ≡ true → get m q ≡ get w q
  store_same q is = same q (store_read q is)

  pub contents_same : HaveSameContents w m
  contents_same q own = store_content_kept w m store_same q (same q (owned_read q own))

  lacks_same : (q : Name) → owns_accounts q ≡ true → lacks_content m q ≡ lacks_content w q
  lacks_same q own =
      ap₂ (λ (leaf : Option LeafKind) (content : Option (List ℕ)). is_some leaf && is_none content) (same q (owned_read q own)) (contents_same q own)

  read_same : (places : List WrittenPlace) → AllByRecursion (λ (place : WrittenPlace). place.is_read ≡ true → owns_accounts place.at ≡ true) places → AreReadAlike w m places
  read_same [] own = tt
  read_same (place ∷ places) own = ((λ is. lacks_same place.at (own.0 is)), read_same places own.1)

  pub way_same : in_the_way account_places w ≡ None → in_the_way account_places m ≡ None
  way_same none = all_free m account_places (same_way w m account_places (λ q is. same q (near_read q is)) (read_same account_places reads_own) (each_free w account_places none))

  module _ (system : Name) (named : IsSystemPath system) where
    pub declared_same : declared_by system m ≡ declared_by system w
    declared_same = declared_kept w m store_same system named

    pub length_same : accounts_too_long system m ≡ accounts_too_long system w
    length_same = length_kept w m contents_same system (spec_kept w m store_same system named)

    pub end_same : (q : Name) → owns_accounts q ≡ true → accounts_end system m q ≡ accounts_end system w q
    end_same q own = ap (λ (one : Option Merged). end_by one m q) (merged_in_kept w m contents_same system declared_same) ∙ by (merged_in system w)
      where
        by : (one : Option Merged) → end_by one m q ≡ end_by one w q
        by None = same q (owned_read q own)
        by (Some one) = refl
