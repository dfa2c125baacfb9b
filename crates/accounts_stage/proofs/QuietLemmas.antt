-- Setting accounts writes no leaf that stands.
use Rattle.std.proofs.Common.{◌≡◌, ◌++◌, true, false, cond, List, [], ◌∷◌, Option, None, Some, refl, sym, ap, subst, ◌∙◌, inl, inr}
use Rattle.std.proofs.lemmas.Bool.{cases_Bool}
use Rattle.std.specs.FinMap.{get}
use Rattle.std.specs.List.{AllByRecursion}
use Rattle.host_trait.specs.Leaf.{open_file}
use Rattle.account_text.specs.Group.{group_text}
use Rattle.account_text.specs.Passwd.{passwd_text}
use Rattle.account_text.specs.Shadow.{shadow_text}
use Rattle.host_trait.specs.declared.leaf.LeafKind.{LeafKind}
use Rattle.host_trait.specs.World.{WorldState, is_path}
use Rattle.id_memory.specs.Json.{ids_text}
use Rattle.switch_names.specs.Names.{Name}
use Rattle.switch_parts.specs.Part.{final_leaf}
use Rattle.switch_parts.specs.Quiet.{IsQuiet, IsQuietAt, times}
use Rattle.switch_parts.proofs.LeafLemmas.{each_among}
use Rattle.switch_parts.proofs.QuietLemmas.{IsStill, leaves_put, quiet_end, quiet_never, still_put}
use Rattle.tree_put.specs.declared.leaf_put.LeafPut.{LeafPut}
use Rattle.tree_put.specs.Sequence.{AreWritten, WritesOthers}
use Rattle.tree_put.proofs.LeftLemmas.{AreElsewhere}
use Rattle.users_merge.specs.Order.{group_rows, passwd_rows, shadow_rows}
use Rattle.users_merge.specs.Stored.{Merged}
use Rattle.accounts_stage.specs.AccountsPart.{accounts_part, end_by, merged_in, puts_by, puts_of}
use Rattle.accounts_stage.specs.Files.{account_puts, closed_file, merged_end, names_text}
use Rattle.accounts_stage.specs.OnTheWay.{first_by, merged_first, names_first}
use Rattle.accounts_stage.specs.Places.{account_names, groups_place, owns_accounts, users_place}
use Rattle.accounts_stage.proofs.EndLemmas.{puts_elsewhere}
use Rattle.accounts_stage.proofs.FrameLemmas.{own_groups, own_users}
use Rattle.accounts_stage.proofs.OwnLemmas.{accounts_open, other_owned}

-- the leaf of a place's end is put there last, and only the names of old before it
record IsPutSo (m : Merged) (q : Name) : Type 0 where
  pub leaf : LeafKind
  pub end : merged_end m q ≡ Some leaf
  pub puts : leaves_put (account_puts m) q ≡ merged_first m q ++ leaf ∷ []

each_put : (m : Merged) → AllByRecursion (IsPutSo m) account_names
unfolding account_puts accounts_open
each_put m = (
  record { leaf = open_file (group_text (group_rows m)); end = refl; puts = refl },
  (
    record { leaf = open_file (passwd_text (passwd_rows m)); end = refl; puts = refl },
    (
      record { leaf = closed_file (shadow_text (shadow_rows m)); end = refl; puts = refl },
      (
        record { leaf = open_file (names_text m.groups); end = refl; puts = refl },
        (
          record { leaf = open_file (names_text m.users); end = refl; puts = refl },
          (record { leaf = open_file (ids_text m.gids); end = refl; puts = refl }, (record { leaf = open_file (ids_text m.uids); end = refl; puts = refl }, tt)),
        ),
      ),
    ),
  ),
)

none_put : (puts : List LeafPut) (q : Name) → AreElsewhere q puts → leaves_put puts q ≡ []
none_put [] q elsewhere = refl
none_put (put ∷ puts) q elsewhere = ap (λ b. cond b (put.leaf ∷ leaves_put puts q) (leaves_put puts q)) elsewhere.0 ∙ none_put puts q elsewhere.1

module _ (m : Merged) (w : WorldState) (places : List Name) (are : AreWritten (account_puts m) w places) (q : Name) where
  at_own : owns_accounts q ≡ true → IsQuietAt (merged_first m q) (merged_end m q) (get w.leaves q) (times q places)
  at_own own =
      let is = each_among (IsPutSo m) account_names (each_put m) q own in
      quiet_end (merged_first m q) is.leaf (merged_end m q) (get w.leaves q) (times q places) is.end
      (subst (λ leaves. IsStill leaves (get w.leaves q) (times q places)) is.puts (still_put (account_puts m) w places are q))

  -- nothing is put elsewhere
  at_other : owns_accounts q ≡ false → times q places ≡ 0
  at_other none =
      (subst (λ leaves. IsStill leaves (get w.leaves q) (times q places)) (none_put (account_puts m) q (puts_elsewhere m q none)) (still_put (account_puts m) w places are q)).still tt

quiet_by : (merged : Option Merged) (w : WorldState) (places : List Name) → AreWritten (puts_by merged) w places → (q : Name) →
    IsQuietAt (first_by merged q) (cond (owns_accounts q) (end_by merged w.leaves q) (get w.leaves q)) (get w.leaves q) (times q places)
quiet_by None w places are q =
    subst (λ (ps : List Name). IsQuietAt [] (cond (owns_accounts q) (get w.leaves q) (get w.leaves q)) (get w.leaves q) (times q ps)) (sym are)
    (quiet_never [] (cond (owns_accounts q) (get w.leaves q) (get w.leaves q)) (get w.leaves q))
quiet_by (Some m) w places are q = elim (cases_Bool (owns_accounts q)) [
  | inl own ↦ subst (λ b. IsQuietAt (merged_first m q) (cond b (merged_end m q) (get w.leaves q)) (get w.leaves q) (times q places)) (sym own) (at_own m w places are q own)
  | inr none ↦
      let end : Option LeafKind = cond (owns_accounts q) (merged_end m q) (get w.leaves q) in
      subst (IsQuietAt (merged_first m q) end (get w.leaves q)) (sym (at_other m w places are q none)) (quiet_never (merged_first m q) end (get w.leaves q))
]

pub set_quiet : (system : Name) (w v : WorldState) → WritesOthers (puts_of system w.leaves) w v → IsQuiet (names_first system) (final_leaf (accounts_part system)) w v
set_quiet system w v wrote = record {
  places = wrote.places;
  written = wrote.written;
  quiet = λ q. quiet_by (merged_in system w.leaves) w wrote.places wrote.are q;
}

-- nothing is put on the way where nothing is owned
merged_none : (m : Merged) (q : Name) → owns_accounts q ≡ false → merged_first m q ≡ []
merged_none m q none =
    ap (λ b. cond b (open_file (names_text m.all_users) ∷ []) (cond (is_path q groups_place) (open_file (names_text m.all_groups) ∷ []) [])) (other_owned q users_place none own_users)
    ∙ ap (λ b. cond b (open_file (names_text m.all_groups) ∷ []) []) (other_owned q groups_place none own_groups)

none_by : (merged : Option Merged) (q : Name) → owns_accounts q ≡ false → first_by merged q ≡ []
none_by None q none = refl
none_by (Some m) q none = merged_none m q none

pub first_owned : (system : Name) (w : WorldState) (q : Name) → owns_accounts q ≡ false → names_first system w.leaves q ≡ []
first_owned system w q none = none_by (merged_in system w.leaves) q none
