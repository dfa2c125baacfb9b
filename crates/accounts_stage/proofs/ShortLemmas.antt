-- Where the contents that stand and the files that are put are within the limit, they are after each put: the contents, and the files that are put again.
use Rattle.std.proofs.Common.{◌≡◌, ℕ, ◌||◌, ◌++◌, Bool, true, false, List, [], ◌∷◌, map, Option, None, Some, inl, inr, refl, sym, ap, subst, ◌∙◌}
use Rattle.std.proofs.lemmas.Bool.{cases_Bool, or_cases}
use Rattle.std.specs.Cmp.Lexicographic.{same_text}
use Rattle.std.specs.FinMap.{insert}
use Rattle.host_trait.specs.Leaf.{open_file}
use Rattle.host_trait.specs.declared.leaf.LeafKind.{LeafKind}
use Rattle.host_trait.specs.declared.leaf.LeafKind.TheVariants.{File}
use Rattle.host_trait.specs.World.{Leaves, WorldState, content_of, file_bytes, is_path, with_leaf}
use Rattle.host_trait.proofs.NameOrder.{name_exact}
use Rattle.leaf_limits.specs.Limits.{content_past}
use Rattle.switch_names.specs.Names.{Name, has, is_name}
use Rattle.switch_names.proofs.Outcomes.{none_mapped, option_or_nothing, option_or_parts}
use Rattle.switch_parts.specs.declared.refusal.Refusal.{Refusal}
use Rattle.switch_parts.specs.declared.refusal.What.TheVariants.{LeafBytes}
use Rattle.switch_parts.specs.Leaves.{is_among}
use Rattle.switch_parts.specs.Limits.{too_many}
use Rattle.switch_parts.specs.Puts.{long_among, long_put}
use Rattle.switch_parts.proofs.LeafLemmas.{each_among}
use Rattle.switch_parts.proofs.LongLemmas.{all_short, each_short}
use Rattle.tree_put.specs.declared.leaf_put.LeafPut.{LeafPut}
use Rattle.tree_put.specs.Sequence.{put_at, with_puts}
use Rattle.users_spec.specs.Spec.{Accounts}
use Rattle.users_merge.specs.Law.{IsPartly, IsSame, Put}
use Rattle.users_merge.specs.Merge.{IsMerge}
use Rattle.users_merge.specs.Stored.{Merged, Stored, ordered}
use Rattle.users_merge.proofs.AgainLemmas.{in_union}
use Rattle.users_merge.proofs.NameLemmas.{has-append}
use Rattle.users_merge.proofs.NameOrderLemmas.{ordered_has}
use Rattle.users_merge.proofs.OrderedLemmas.{ordered_same}
use Rattle.accounts_stage.specs.Files.{account_puts, names_text}
use Rattle.accounts_stage.specs.Lengths.{account_texts, accounts_too_long, takes_accounts, texts_long}
use Rattle.accounts_stage.specs.Places.{gids_place, group_place, groups_place, owns_accounts, passwd_place, shadow_place, spec_path, taken_names, uids_place, users_place}
use Rattle.accounts_stage.proofs.FreeLemmas.{IsFilePut, each_file}
use Rattle.accounts_stage.proofs.ReadLemmas.{IsContentAfter, content_after, put_of}

-- each content that is taken at a place of accounts is within the limit
abbrev pub AreShort : (Name → Option (List ℕ)) → Type 0
AreShort content = (q : Name) → is_among taken_names q ≡ true → content_past (content q) ≡ None

-- each file that a merge puts is
abbrev pub ArePutsShort : Merged → Type 0
ArePutsShort m = (put : Put) → long_put (put_of m put) ≡ None

-- ---- the contents that are taken

-- where no content that is taken is too long, none at a place of accounts is, nor the one that a system declares
pub are_short : (system : Name) (leaves : Leaves) → accounts_too_long system leaves ≡ None → AreShort (content_of leaves) × (content_past (content_of leaves (spec_path system)) ≡ None)
unfolding taken_names
are_short system leaves none =
    let group = option_or_parts _ _ (none_mapped (Refusal.TooMany LeafBytes) (texts_long (account_texts system leaves)) none) in
    let passwd = option_or_parts _ _ group.1 in
    let shadow = option_or_parts _ _ passwd.1 in
    let spec = option_or_parts _ _ shadow.1 in
    let groups = option_or_parts _ _ spec.1 in
    let users = option_or_parts _ _ groups.1 in
    let gids = option_or_parts _ _ users.1 in (
      each_among (λ q. content_past (content_of leaves q) ≡ None) taken_names
          (group.0, (passwd.0, (shadow.0, (groups.0, (users.0, (gids.0, (gids.1, tt))))))),
      spec.0,
    )

-- and so none that is taken is
pub taken_short : (system : Name) (leaves : Leaves) → accounts_too_long system leaves ≡ None → (q : Name) → takes_accounts system q ≡ true → content_past (content_of leaves q) ≡ None
taken_short system leaves none q taken =
    let short = are_short system leaves none in
    elim (or_cases (is_name q (spec_path system)) (is_among taken_names q) taken) [
      | inl spec ↦ ap (λ p. content_past (content_of leaves p)) (name_exact q (spec_path system) spec) ∙ short.1
      | inr owned ↦ short.0 q owned
    ]

-- and the other way round
pub none_too_long : (system : Name) (leaves : Leaves) → AreShort (content_of leaves) → content_past (content_of leaves (spec_path system)) ≡ None → accounts_too_long system leaves ≡ None
unfolding taken_names group_place passwd_place shadow_place groups_place users_place gids_place uids_place
none_too_long system leaves short spec =
    ap (too_many LeafBytes)
    (option_or_nothing (content_past (content_of leaves group_place)) _ (short group_place refl)
    (option_or_nothing (content_past (content_of leaves passwd_place)) _ (short passwd_place refl)
    (option_or_nothing (content_past (content_of leaves shadow_place)) _ (short shadow_place refl)
    (option_or_nothing (content_past (content_of leaves (spec_path system))) _ spec
    (option_or_nothing (content_past (content_of leaves groups_place)) _ (short groups_place refl)
    (option_or_nothing (content_past (content_of leaves users_place)) _ (short users_place refl)
    (option_or_nothing (content_past (content_of leaves gids_place)) _ (short gids_place refl) (short uids_place refl))))))))

-- ---- the files that are put

pub puts_short : (m : Merged) → long_among (account_puts m) ≡ None → ArePutsShort m
unfolding account_puts
puts_short m none Put.AllUsers = (each_short None (account_puts m) none).0
puts_short m none Put.AllGroups = (each_short None (account_puts m) none).1.0
puts_short m none Put.Uids = (each_short None (account_puts m) none).1.1.0
puts_short m none Put.Gids = (each_short None (account_puts m) none).1.1.1.0
puts_short m none Put.Group = (each_short None (account_puts m) none).1.1.1.1.0
puts_short m none Put.Passwd = (each_short None (account_puts m) none).1.1.1.1.1.0
puts_short m none Put.Shadow = (each_short None (account_puts m) none).1.1.1.1.1.1.0
puts_short m none Put.Users = (each_short None (account_puts m) none).1.1.1.1.1.1.1.0
puts_short m none Put.Groups = (each_short None (account_puts m) none).1.1.1.1.1.1.1.1.0

pub short_puts : (m : Merged) → ArePutsShort m → long_among (account_puts m) ≡ None
unfolding account_puts
short_puts m short =
    all_short (account_puts m)
    (short Put.AllUsers, (short Put.AllGroups, (short Put.Uids, (short Put.Gids, (short Put.Group, (short Put.Passwd, (short Put.Shadow, (short Put.Users, (short Put.Groups, tt)))))))))

-- ---- after puts

module _ (leaves : Leaves) (at : Name) (text : List ℕ) (mode : ℕ) (own : owns_accounts at ≡ true) where
  abbrev new : Leaves
  new = insert leaves at (File text mode 0 0)

  after : IsContentAfter at text (content_of leaves) (content_of new)
  after = content_after leaves at text mode 0 0 own

  one_after : content_past (Some text) ≡ None → AreShort (content_of leaves) → AreShort (content_of new)
  one_after short old q own_q = elim (cases_Bool (is_path q at)) [
    | inl is ↦ ap content_past (ap (content_of new) (same_text q at (sym is)) ∙ after.here) ∙ short
    | inr other ↦ ap content_past (after.other q other) ∙ old q own_q
  ]

put_after : (leaves : Leaves) (put : LeafPut) → IsFilePut put → long_put put ≡ None → AreShort (content_of leaves) → AreShort (content_of (insert leaves put.at put.leaf))
put_after leaves put file short old =
    subst (λ leaf. AreShort (content_of (insert leaves put.at leaf))) (sym file.leaf)
    (one_after leaves put.at file.text file.mode file.own
    (sym (ap (λ (leaf : LeafKind). content_past (file_bytes (Some leaf))) file.leaf) ∙ none_mapped _ (content_past (file_bytes (Some put.leaf))) short) old)

-- after puts of a merge each content is one that was there or one that was put
pub contents_after : (m : Merged) → ArePutsShort m → (all : List Put) (w : WorldState) → AreShort (content_of w.leaves) → AreShort (content_of (with_puts (map (put_of m) all) w).leaves)
contents_after m short [] w old = old
contents_after m short (put ∷ all) w old =
    contents_after m short all (with_leaf (put_of m put).at (put_of m put).leaf w) (put_after w.leaves (put_of m put) (each_file m put) (short put) old)

-- ---- the names with those of old, once more

or_self : (b : Bool) → (b || b) ≡ b
or_self true = refl
or_self false = refl

or_twice : (a b : Bool) → ((a || b) || b) ≡ (a || b)
or_twice true b = refl
or_twice false b = or_self b

-- names with ones that are among them already are these
all_again : (all before now : List Name) → all ≡ ordered (before ++ now) → ordered (all ++ now) ≡ all
all_again all before now is =
    ordered_same (all ++ now) (before ++ now)
    (λ name.
    has-append all now name ∙ ap (λ b. b || has now name) (in_union all before now name is) ∙ or_twice (has before name) (has now name)
    ∙ sym (has-append before now name))
    ∙ sym is

-- and so are names with themselves
now_again : (now names : List Name) → now ≡ ordered names → ordered (now ++ now) ≡ now
now_again now names is =
    ordered_same (now ++ now) names
    (λ name. has-append now now name ∙ or_self (has now name) ∙ ap (λ others. has others name) is ∙ ordered_has names name)
    ∙ sym is

-- ---- the puts of a merge that is made again

-- where a merge stands partly, each file that is put again is one that it puts
module _ (spec : Accounts) (s t : Stored) (m n : Merged) (is : IsMerge spec s m) (also : IsMerge spec t n) (same : IsSame m n) (part : IsPartly s m t) (short : ArePutsShort m) where
  abbrev users_put : List Name → LeafPut
  users_put names = put_at users_place (open_file (names_text names))

  abbrev groups_put : List Name → LeafPut
  groups_put names = put_at groups_place (open_file (names_text names))

  users_again : n.all_users ≡ ordered (t.users ++ m.users)
  users_again = also.all_users ∙ ap (λ names. ordered (t.users ++ names)) same.users

  groups_again : n.all_groups ≡ ordered (t.groups ++ m.groups)
  groups_again = also.all_groups ∙ ap (λ names. ordered (t.groups ++ names)) same.groups

  all_users_short : long_put (users_put n.all_users) ≡ None
  all_users_short = ap (λ names. long_put (users_put names)) users_again ∙ elim part.users [
    | inl old ↦ ap (λ names. long_put (users_put (ordered (names ++ m.users)))) old ∙ ap (λ names. long_put (users_put names)) (sym is.all_users) ∙ short Put.AllUsers
    | inr (inl all) ↦ ap (λ names. long_put (users_put (ordered (names ++ m.users)))) all ∙ ap (λ names. long_put (users_put names)) (all_again m.all_users s.users m.users is.all_users) ∙ short Put.AllUsers
    | inr (inr now) ↦ ap (λ names. long_put (users_put (ordered (names ++ m.users)))) now.0 ∙ ap (λ names. long_put (users_put names)) (now_again m.users _ is.users) ∙ short Put.Users
  ]

  all_groups_short : long_put (groups_put n.all_groups) ≡ None
  all_groups_short = ap (λ names. long_put (groups_put names)) groups_again ∙ elim part.groups [
    | inl old ↦ ap (λ names. long_put (groups_put (ordered (names ++ m.groups)))) old ∙ ap (λ names. long_put (groups_put names)) (sym is.all_groups) ∙ short Put.AllGroups
    | inr (inl all) ↦ ap (λ names. long_put (groups_put (ordered (names ++ m.groups)))) all ∙ ap (λ names. long_put (groups_put names)) (all_again m.all_groups s.groups m.groups is.all_groups) ∙ short Put.AllGroups
    | inr (inr now) ↦ ap (λ names. long_put (groups_put (ordered (names ++ m.groups)))) now.0 ∙ ap (λ names. long_put (groups_put names)) (now_again m.groups _ is.groups) ∙ short Put.Groups
  ]

  -- all else is the same
  same_but_old : n ≡ record m { all_users = n.all_users; all_groups = n.all_groups }
  same_but_old = λ i. record {
    group = same.group i;
    passwd = same.passwd i;
    shadow = same.shadow i;
    uids = same.uids i;
    gids = same.gids i;
    users = same.users i;
    groups = same.groups i;
    all_users = n.all_users;
    all_groups = n.all_groups;
  }

  same_put : (put : Put) → long_put (put_of n put) ≡ long_put (put_of (record m { all_users = n.all_users; all_groups = n.all_groups }) put)
  same_put put = ap (λ (x : Merged). long_put (put_of x put)) same_but_old

  pub again_short : ArePutsShort n
  again_short Put.AllUsers = all_users_short
  again_short Put.AllGroups = all_groups_short
  again_short Put.Uids = same_put Put.Uids ∙ short Put.Uids
  again_short Put.Gids = same_put Put.Gids ∙ short Put.Gids
  again_short Put.Group = same_put Put.Group ∙ short Put.Group
  again_short Put.Passwd = same_put Put.Passwd ∙ short Put.Passwd
  again_short Put.Shadow = same_put Put.Shadow ∙ short Put.Shadow
  again_short Put.Users = same_put Put.Users ∙ short Put.Users
  again_short Put.Groups = same_put Put.Groups ∙ short Put.Groups
