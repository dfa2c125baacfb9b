-- What is read at the places of accounts, put by put.
use Rattle.std.proofs.Common.{◌≡◌, ℕ, zero, suc, true, false, cond, List, [], ◌∷◌, map, take, Option, None, Some, refl, sym, ap, subst, ◌∙◌}
use Rattle.std.specs.Cmp.Lexicographic.{nat_list_eq_equiv}
use Rattle.std.specs.FinMap.{empty, get, insert}
use Rattle.std.specs.Option.{option_map_or, unwrap_or}
use Rattle.host_trait.specs.Leaf.{open_file}
use Rattle.account_text.specs.declared.group.GroupRow.{GroupRow}
use Rattle.account_text.specs.declared.passwd.PasswdRow.{PasswdRow}
use Rattle.account_text.specs.declared.shadow.ShadowRow.{ShadowRow}
use Rattle.account_text.specs.Group.{group_name, group_row, group_text}
use Rattle.account_text.specs.Passwd.{passwd_name, passwd_row, passwd_text}
use Rattle.account_text.specs.Shadow.{shadow_name, shadow_row, shadow_text}
use Rattle.account_text.specs.Table.{rows_of, wrong_line}
use Rattle.host_trait.specs.declared.leaf.LeafKind.{LeafKind}
use Rattle.host_trait.specs.declared.leaf.LeafKind.TheVariants.{File}
use Rattle.host_trait.specs.World.{Leaves, WorldState, content_of, is_path, leaf_content, with_leaf}
use Rattle.host_trait.specs.Ids.{Ids}
use Rattle.id_memory.specs.Json.{ids_read, ids_text}
use Rattle.leaf_limits.specs.Counts.{past, rows_max}
use Rattle.switch_names.specs.Names.{Name}
use Rattle.users_merge.specs.Law.{Put, after, after_all, puts}
use Rattle.users_merge.specs.Order.{group_rows, passwd_rows, shadow_rows}
use Rattle.users_merge.specs.Stored.{Merged, Stored, Table, table_of}
use Rattle.tree_put.specs.declared.leaf_put.LeafPut.{LeafPut}
use Rattle.tree_put.specs.Sequence.{put_at, with_puts}
use Rattle.accounts_stage.specs.Files.{account_puts, closed_file, names_text}
use Rattle.accounts_stage.specs.Places.{gids_place, group_place, groups_place, owns_accounts, passwd_place, shadow_place, uids_place, users_place}
use Rattle.accounts_stage.specs.Rows.{lines_of}
use Rattle.accounts_stage.specs.Standing.{names_in}
use Rattle.tree_put.proofs.LeftLemmas.{leaf_after}
use Rattle.switch_parts.proofs.StoreLemmas.{store_content_kept}
use Rattle.accounts_stage.proofs.FrameLemmas.{own_gids, own_group, own_groups, own_passwd, own_shadow, own_uids, own_users}
use Rattle.accounts_stage.proofs.OwnLemmas.{store_apart}

-- the bytes of a content that may be missing
abbrev pub text_of : Option (List ℕ) → List ℕ
text_of content = unwrap_or content []

-- a content is a table of groups of which each name has this row, and hasn't too many lines
pub record IsGroupTable (table : Table GroupRow) (content : Option (List ℕ)) : Type 0 where
  pub rows : table_of group_name (rows_of group_row group_name (text_of content)) ≡ table
  pub complete : wrong_line group_row (text_of content) ≡ None
  pub few : past rows_max (lines_of (text_of content)) ≡ None

pub record IsPasswdTable (table : Table PasswdRow) (content : Option (List ℕ)) : Type 0 where
  pub rows : table_of passwd_name (rows_of passwd_row passwd_name (text_of content)) ≡ table
  pub complete : wrong_line passwd_row (text_of content) ≡ None
  pub few : past rows_max (lines_of (text_of content)) ≡ None

pub record IsShadowTable (table : Table ShadowRow) (content : Option (List ℕ)) : Type 0 where
  pub rows : table_of shadow_name (rows_of shadow_row shadow_name (text_of content)) ≡ table
  pub complete : wrong_line shadow_row (text_of content) ≡ None
  pub few : past rows_max (lines_of (text_of content)) ≡ None

-- a content is a map of these ids
abbrev pub IsIdMap : Ids → Option (List ℕ) → Type 0
IsIdMap ids content = option_map_or ids_read content (Some empty) ≡ Some ids

-- a content is these names
abbrev pub IsNameList : List Name → Option (List ℕ) → Type 0
IsNameList names content = names_in (text_of content) ≡ names

-- contents are those of all that stands of accounts
pub record AreContentsOf (s : Stored) (content : Name → Option (List ℕ)) : Type 0 where
  pub group : IsGroupTable s.group (content group_place)
  pub passwd : IsPasswdTable s.passwd (content passwd_place)
  pub shadow : IsShadowTable s.shadow (content shadow_place)
  pub uids : IsIdMap s.uids (content uids_place)
  pub gids : IsIdMap s.gids (content gids_place)
  pub users : IsNameList s.users (content users_place)
  pub groups : IsNameList s.groups (content groups_place)

-- what a merge leaves is read back where it is written
pub record IsReadBack (m : Merged) : Type 0 where
  pub group : IsGroupTable m.group (Some (group_text (group_rows m)))
  pub passwd : IsPasswdTable m.passwd (Some (passwd_text (passwd_rows m)))
  pub shadow : IsShadowTable m.shadow (Some (shadow_text (shadow_rows m)))
  pub uids : IsIdMap m.uids (Some (ids_text m.uids))
  pub gids : IsIdMap m.gids (Some (ids_text m.gids))
  pub users : IsNameList m.users (Some (names_text m.users))
  pub groups : IsNameList m.groups (Some (names_text m.groups))
  pub all_users : IsNameList m.all_users (Some (names_text m.all_users))
  pub all_groups : IsNameList m.all_groups (Some (names_text m.all_groups))

-- ---- one put

-- the leaf of each put, and its place
abbrev pub put_of : Merged → Put → LeafPut
put_of m Put.AllUsers = put_at users_place (open_file (names_text m.all_users))
put_of m Put.AllGroups = put_at groups_place (open_file (names_text m.all_groups))
put_of m Put.Uids = put_at uids_place (open_file (ids_text m.uids))
put_of m Put.Gids = put_at gids_place (open_file (ids_text m.gids))
put_of m Put.Group = put_at group_place (open_file (group_text (group_rows m)))
put_of m Put.Passwd = put_at passwd_place (open_file (passwd_text (passwd_rows m)))
put_of m Put.Shadow = put_at shadow_place (closed_file (shadow_text (shadow_rows m)))
put_of m Put.Users = put_at users_place (open_file (names_text m.users))
put_of m Put.Groups = put_at groups_place (open_file (names_text m.groups))

pub puts_are : (m : Merged) → account_puts m ≡ map (put_of m) puts
unfolding account_puts
puts_are m = refl

take_map : {X Y : Type 0} (f : X → Y) (k : ℕ) (xs : List X) → take k (map f xs) ≡ map f (take k xs)
take_map f zero xs = refl
take_map f (suc k) [] = refl
take_map f (suc k) (x ∷ xs) = ap (λ ys. f x ∷ ys) (take_map f k xs)

pub first_puts_are : (m : Merged) (k : ℕ) → take k (account_puts m) ≡ map (put_of m) (take k puts)
first_puts_are m k = ap (take k) (puts_are m) ∙ take_map (put_of m) k puts

-- a file that is put has its bytes as content, and each other place has the content that it had
pub record IsContentAfter (at : Name) (text : List ℕ) (old new : Name → Option (List ℕ)) : Type 0 where
  pub here : new at ≡ Some text
  pub other : (q : Name) → is_path q at ≡ false → new q ≡ old q

module _ (s : Stored) (m : Merged) (back : IsReadBack m) (old new : Name → Option (List ℕ)) (are : AreContentsOf s old) where
  -- what was so of the old content is so of the new
  still : (P : Option (List ℕ) → Type 0) (q : Name) → new q ≡ old q → P (old q) → P (new q)
  still P q same is = subst P (sym same) is

  here : (P : Option (List ℕ) → Type 0) (q : Name) (text : List ℕ) → new q ≡ Some text → P (Some text) → P (new q)
  here P q text same is = subst P (sym same) is

  at_users : (text : List ℕ) (names : List Name) → IsContentAfter users_place text old new → IsNameList names (Some text) → AreContentsOf (record s { users = names }) new
  unfolding group_place passwd_place shadow_place groups_place users_place gids_place uids_place
  at_users text names after is = record {
    group = still (IsGroupTable s.group) group_place (after.other group_place refl) are.group;
    passwd = still (IsPasswdTable s.passwd) passwd_place (after.other passwd_place refl) are.passwd;
    shadow = still (IsShadowTable s.shadow) shadow_place (after.other shadow_place refl) are.shadow;
    uids = still (IsIdMap s.uids) uids_place (after.other uids_place refl) are.uids;
    gids = still (IsIdMap s.gids) gids_place (after.other gids_place refl) are.gids;
    users = here (IsNameList names) users_place text after.here is;
    groups = still (IsNameList s.groups) groups_place (after.other groups_place refl) are.groups;
  }

  at_groups : (text : List ℕ) (names : List Name) → IsContentAfter groups_place text old new → IsNameList names (Some text) → AreContentsOf (record s { groups = names }) new
  unfolding group_place passwd_place shadow_place groups_place users_place gids_place uids_place
  at_groups text names after is = record {
    group = still (IsGroupTable s.group) group_place (after.other group_place refl) are.group;
    passwd = still (IsPasswdTable s.passwd) passwd_place (after.other passwd_place refl) are.passwd;
    shadow = still (IsShadowTable s.shadow) shadow_place (after.other shadow_place refl) are.shadow;
    uids = still (IsIdMap s.uids) uids_place (after.other uids_place refl) are.uids;
    gids = still (IsIdMap s.gids) gids_place (after.other gids_place refl) are.gids;
    users = still (IsNameList s.users) users_place (after.other users_place refl) are.users;
    groups = here (IsNameList names) groups_place text after.here is;
  }

  at_uids : IsContentAfter uids_place (ids_text m.uids) old new → AreContentsOf (record s { uids = m.uids }) new
  unfolding group_place passwd_place shadow_place groups_place users_place gids_place uids_place
  at_uids after = record {
    group = still (IsGroupTable s.group) group_place (after.other group_place refl) are.group;
    passwd = still (IsPasswdTable s.passwd) passwd_place (after.other passwd_place refl) are.passwd;
    shadow = still (IsShadowTable s.shadow) shadow_place (after.other shadow_place refl) are.shadow;
    uids = here (IsIdMap m.uids) uids_place (ids_text m.uids) after.here back.uids;
    gids = still (IsIdMap s.gids) gids_place (after.other gids_place refl) are.gids;
    users = still (IsNameList s.users) users_place (after.other users_place refl) are.users;
    groups = still (IsNameList s.groups) groups_place (after.other groups_place refl) are.groups;
  }

  at_gids : IsContentAfter gids_place (ids_text m.gids) old new → AreContentsOf (record s { gids = m.gids }) new
  unfolding group_place passwd_place shadow_place groups_place users_place gids_place uids_place
  at_gids after = record {
    group = still (IsGroupTable s.group) group_place (after.other group_place refl) are.group;
    passwd = still (IsPasswdTable s.passwd) passwd_place (after.other passwd_place refl) are.passwd;
    shadow = still (IsShadowTable s.shadow) shadow_place (after.other shadow_place refl) are.shadow;
    uids = still (IsIdMap s.uids) uids_place (after.other uids_place refl) are.uids;
    gids = here (IsIdMap m.gids) gids_place (ids_text m.gids) after.here back.gids;
    users = still (IsNameList s.users) users_place (after.other users_place refl) are.users;
    groups = still (IsNameList s.groups) groups_place (after.other groups_place refl) are.groups;
  }

  at_group : IsContentAfter group_place (group_text (group_rows m)) old new → AreContentsOf (record s { group = m.group }) new
  unfolding group_place passwd_place shadow_place groups_place users_place gids_place uids_place
  at_group after = record {
    group = here (IsGroupTable m.group) group_place (group_text (group_rows m)) after.here back.group;
    passwd = still (IsPasswdTable s.passwd) passwd_place (after.other passwd_place refl) are.passwd;
    shadow = still (IsShadowTable s.shadow) shadow_place (after.other shadow_place refl) are.shadow;
    uids = still (IsIdMap s.uids) uids_place (after.other uids_place refl) are.uids;
    gids = still (IsIdMap s.gids) gids_place (after.other gids_place refl) are.gids;
    users = still (IsNameList s.users) users_place (after.other users_place refl) are.users;
    groups = still (IsNameList s.groups) groups_place (after.other groups_place refl) are.groups;
  }

  at_passwd : IsContentAfter passwd_place (passwd_text (passwd_rows m)) old new → AreContentsOf (record s { passwd = m.passwd }) new
  unfolding group_place passwd_place shadow_place groups_place users_place gids_place uids_place
  at_passwd after = record {
    group = still (IsGroupTable s.group) group_place (after.other group_place refl) are.group;
    passwd = here (IsPasswdTable m.passwd) passwd_place (passwd_text (passwd_rows m)) after.here back.passwd;
    shadow = still (IsShadowTable s.shadow) shadow_place (after.other shadow_place refl) are.shadow;
    uids = still (IsIdMap s.uids) uids_place (after.other uids_place refl) are.uids;
    gids = still (IsIdMap s.gids) gids_place (after.other gids_place refl) are.gids;
    users = still (IsNameList s.users) users_place (after.other users_place refl) are.users;
    groups = still (IsNameList s.groups) groups_place (after.other groups_place refl) are.groups;
  }

  at_shadow : IsContentAfter shadow_place (shadow_text (shadow_rows m)) old new → AreContentsOf (record s { shadow = m.shadow }) new
  unfolding group_place passwd_place shadow_place groups_place users_place gids_place uids_place
  at_shadow after = record {
    group = still (IsGroupTable s.group) group_place (after.other group_place refl) are.group;
    passwd = still (IsPasswdTable s.passwd) passwd_place (after.other passwd_place refl) are.passwd;
    shadow = here (IsShadowTable m.shadow) shadow_place (shadow_text (shadow_rows m)) after.here back.shadow;
    uids = still (IsIdMap s.uids) uids_place (after.other uids_place refl) are.uids;
    gids = still (IsIdMap s.gids) gids_place (after.other gids_place refl) are.gids;
    users = still (IsNameList s.users) users_place (after.other users_place refl) are.users;
    groups = still (IsNameList s.groups) groups_place (after.other groups_place refl) are.groups;
  }

-- a file that is put at a place of accounts
pub content_after : (leaves : Leaves) (at : Name) (text : List ℕ) (mode uid gid : ℕ) → owns_accounts at ≡ true → IsContentAfter at text (content_of leaves) (content_of (insert leaves at (File text mode uid gid)))
content_after leaves at text mode uid gid own = record {
  here = ap (leaf_content new) (leaf_after leaves at at leaf ∙ ap (λ b. cond b (Some leaf) (get leaves at)) (own_path at));
  other = λ q apart. store_content_kept leaves new (λ p is. elsewhere p (store_apart at p own is)) q (elsewhere q apart);
}
  where
    leaf : LeafKind
    leaf = File text mode uid gid

    new : Leaves
    new = insert leaves at leaf

    own_path : (p : Name) → is_path p p ≡ true
    own_path p = nat_list_eq_equiv.refl p

    elsewhere : (p : Name) → is_path p at ≡ false → get new p ≡ get leaves p
    elsewhere p apart = leaf_after leaves at p leaf ∙ ap (λ b. cond b (Some leaf) (get leaves p)) apart

-- after a put, what was put is read
pub read_after : (m : Merged) → IsReadBack m → (s : Stored) (leaves : Leaves) (put : Put) → AreContentsOf s (content_of leaves) → AreContentsOf (after m put s) (content_of (insert leaves (put_of m put).at (put_of m put).leaf))
read_after m back s leaves Put.AllUsers are =
    at_users s m back (content_of leaves) _ are (names_text m.all_users) m.all_users (content_after leaves users_place (names_text m.all_users) 420 0 0 own_users) back.all_users
read_after m back s leaves Put.AllGroups are =
    at_groups s m back (content_of leaves) _ are (names_text m.all_groups) m.all_groups (content_after leaves groups_place (names_text m.all_groups) 420 0 0 own_groups) back.all_groups
read_after m back s leaves Put.Uids are = at_uids s m back (content_of leaves) _ are (content_after leaves uids_place (ids_text m.uids) 420 0 0 own_uids)
read_after m back s leaves Put.Gids are = at_gids s m back (content_of leaves) _ are (content_after leaves gids_place (ids_text m.gids) 420 0 0 own_gids)
read_after m back s leaves Put.Group are = at_group s m back (content_of leaves) _ are (content_after leaves group_place (group_text (group_rows m)) 420 0 0 own_group)
read_after m back s leaves Put.Passwd are = at_passwd s m back (content_of leaves) _ are (content_after leaves passwd_place (passwd_text (passwd_rows m)) 420 0 0 own_passwd)
read_after m back s leaves Put.Shadow are = at_shadow s m back (content_of leaves) _ are (content_after leaves shadow_place (shadow_text (shadow_rows m)) 384 0 0 own_shadow)
read_after m back s leaves Put.Users are =
    at_users s m back (content_of leaves) _ are (names_text m.users) m.users (content_after leaves users_place (names_text m.users) 420 0 0 own_users) back.users
read_after m back s leaves Put.Groups are =
    at_groups s m back (content_of leaves) _ are (names_text m.groups) m.groups (content_after leaves groups_place (names_text m.groups) 420 0 0 own_groups) back.groups

pub read_after_all : (m : Merged) → IsReadBack m → (all : List Put) (s : Stored) (w : WorldState) → AreContentsOf s (content_of w.leaves) →
    AreContentsOf (after_all m all s) (content_of (with_puts (map (put_of m) all) w).leaves)
read_after_all m back [] s w are = are
read_after_all m back (put ∷ all) s w are = read_after_all m back all (after m put s) (with_leaf (put_of m put).at (put_of m put).leaf w) (read_after m back s w.leaves put are)
