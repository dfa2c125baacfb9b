-- What a merge finds that was begun before and cut: nixpkgs, update-users-groups.pl, which writes its files one after another.
use Rattle.std.specs.Prelude.{◌≡◌, ◌⊎◌, ℕ, List, [], ◌∷◌, ◌++◌, take, None}
use Rattle.users_spec.specs.Spec.{Accounts, IsSound}
use Rattle.users_merge.specs.Stored.{Stored, Merged, ordered}
use Rattle.users_merge.specs.Merge.{IsMerge, fault, kept}

-- each part stands as it did or as the merge leaves it, and names may stand with the earlier ones; the names
-- that are declared now stand by themselves only where the tables from which the others go are merged
pub record IsPartly (s : Stored) (m : Merged) (t : Stored) : Type 0 where
  pub group : (t.group ≡ s.group) ⊎ (t.group ≡ m.group)
  pub passwd : (t.passwd ≡ s.passwd) ⊎ (t.passwd ≡ m.passwd)
  pub shadow : (t.shadow ≡ s.shadow) ⊎ (t.shadow ≡ m.shadow)
  pub uids : (t.uids ≡ s.uids) ⊎ (t.uids ≡ m.uids)
  pub gids : (t.gids ≡ s.gids) ⊎ (t.gids ≡ m.gids)
  pub users : (t.users ≡ s.users) ⊎ ((t.users ≡ m.all_users) ⊎ ((t.users ≡ m.users) × (t.group ≡ m.group) × (t.passwd ≡ m.passwd)))
  pub groups : (t.groups ≡ s.groups) ⊎ ((t.groups ≡ m.all_groups) ⊎ ((t.groups ≡ m.groups) × (t.group ≡ m.group)))

-- the merge from what stands now: it differs in the names with the earlier ones alone
abbrev pub again : Stored → Merged → Merged
again t m = record m { all_users = ordered (t.users ++ m.users); all_groups = ordered (t.groups ++ m.groups) }

-- two merges leave the same, but for the names with the earlier ones
pub record IsSame (m n : Merged) : Type 0 where
  pub group : n.group ≡ m.group
  pub passwd : n.passwd ≡ m.passwd
  pub shadow : n.shadow ≡ m.shadow
  pub uids : n.uids ≡ m.uids
  pub gids : n.gids ≡ m.gids
  pub users : n.users ≡ m.users
  pub groups : n.groups ≡ m.groups

-- where a merge stands partly, the merge is the same, and the same accounts keep other ids
abbrev pub Law : Type 0
Law =
    (spec : Accounts) (s t : Stored) (m : Merged) → IsSound spec → IsMerge spec s m → IsPartly s m t →
    IsMerge spec t (again t m) × (kept spec t ≡ kept spec s)

-- the nine puts of a merge
pub data Put : Type 0 where
  AllUsers AllGroups Uids Gids Group Passwd Shadow Users Groups : Put

abbrev pub puts : List Put
puts = AllUsers ∷ AllGroups ∷ Uids ∷ Gids ∷ Group ∷ Passwd ∷ Shadow ∷ Users ∷ Groups ∷ []

-- what stands after a put
abbrev pub after : Merged → Put → Stored → Stored
after m AllUsers s = record s { users = m.all_users }
after m AllGroups s = record s { groups = m.all_groups }
after m Uids s = record s { uids = m.uids }
after m Gids s = record s { gids = m.gids }
after m Group s = record s { group = m.group }
after m Passwd s = record s { passwd = m.passwd }
after m Shadow s = record s { shadow = m.shadow }
after m Users s = record s { users = m.users }
after m Groups s = record s { groups = m.groups }

-- what stands after puts in order
abbrev pub after_all : Merged → List Put → Stored → Stored
after_all m [] s = s
after_all m (put ∷ rest) s = after_all m rest (after m put s)

-- what stands after the first so many of the nine puts
abbrev pub after_first : Merged → ℕ → Stored → Stored
after_first m count s = after_all m (take count puts) s

-- after the first so many of the nine puts a merge stands partly
abbrev pub PrefixLaw : Type 0
PrefixLaw = (spec : Accounts) (s : Stored) (m : Merged) (count : ℕ) → IsMerge spec s m → IsPartly s m (after_first m count s)

-- from what stands there is a merge, each merge is the same as this one, and the same accounts keep other ids
pub record KeepsMerge (spec : Accounts) (s : Stored) (m : Merged) (t : Stored) : Type 0 where
  pub fine : fault spec t ≡ None
  pub same : (n : Merged) → IsMerge spec t n → IsSame m n
  pub kept : kept spec t ≡ kept spec s

-- after the first so many of the nine puts the merge is the same
abbrev pub PutsLaw : Type 0
PutsLaw =
    (spec : Accounts) (s : Stored) (m : Merged) (count : ℕ) → IsSound spec → IsMerge spec s m →
    KeepsMerge spec s m (after_first m count s)

-- what stands after runs that are cut, each after so many of the nine puts of its own merge
abbrev pub after_runs : Merged → List ℕ → Stored → Stored
after_runs m [] s = s
after_runs m (count ∷ counts) s = let t = after_first m count s in after_runs (again t m) counts t

-- however often runs are cut, the merge is the same
abbrev pub RunsLaw : Type 0
RunsLaw =
    (spec : Accounts) (s : Stored) (m : Merged) (counts : List ℕ) → IsSound spec → IsMerge spec s m →
    KeepsMerge spec s m (after_runs m counts s)
