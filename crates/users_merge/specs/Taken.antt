-- Ids that can't be given any more.
use Rattle.std.specs.Prelude.{◌≡◌, ℕ, ◌<◌, ◌||◌, Bool, true, not, List, length, slice_index_or}
use Rattle.std.specs.BTreeMap.{is_at}
use Rattle.std.specs.List.{filter_map, list_any}
use Rattle.std.specs.Ordering.{nat_cmp}
use Rattle.users_merge.specs.Account.{Account, has_id}
use Rattle.users_merge.specs.declared.taken.Taken.{Taken}

-- the ids that are asked for
abbrev pub wanted_ids : List Account → List ℕ
wanted_ids accounts = filter_map (λ account. account.wanted) accounts

-- an id is neither used nor remembered
abbrev pub is_open : List ℕ → List ℕ → ℕ → Bool
is_open used known id = not (has_id used id || has_id known id)

-- a set has the used ids, and of those that may be given the used and the remembered ones are marked
pub record AreTakenIn (ids known keys : List ℕ) (marks : List Bool) : Type 0 where
  pub used : (id : ℕ) → list_any (is_at (nat_cmp id)) keys ≡ has_id ids id
  pub size : length marks ≡ 30000
  pub marked : (id : ℕ) → id < 30000 → slice_index_or marks id true ≡ (has_id ids id || has_id known id)

-- these ids are used, and these are remembered
abbrev pub AreTaken : List ℕ → List ℕ → Taken → Type 0
AreTaken used known taken = AreTakenIn used known taken.used.keys taken.marked.items
