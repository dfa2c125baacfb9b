-- What stands after puts: at the places that are put the last leaf, and elsewhere what stood.
use Rattle.std.proofs.Common.{◌≡◌, ℕ, true, false, List, [], ◌∷◌, length, take, Option, None, Some, refl, sym, ap, ◌∙◌, arith}
use Rattle.std.proofs.lemmas.Bool.{and_parts}
use Rattle.std.proofs.lemmas.List.{take_all}
use Rattle.std.specs.FinMap.{get}
use Rattle.std.specs.List.{AllByRecursion, list_all}
use Rattle.std.specs.Ordering.{eq_by_cmp}
use Rattle.host_trait.specs.declared.leaf.LeafKind.{LeafKind}
use Rattle.host_trait.specs.World.{WorldState, bytes_cmp, seen}
use Rattle.host_trait.proofs.Seen.{seen_at}
use Rattle.switch_names.specs.Names.{Name}
use Rattle.switch_parts.specs.Part.{IsOnly}
use Rattle.switch_parts.proofs.LeafLemmas.{each_among}
use Rattle.users_merge.specs.Stored.{Merged}
use Rattle.tree_put.specs.declared.leaf_put.LeafPut.{LeafPut}
use Rattle.tree_put.specs.Sequence.{with_puts}
use Rattle.tree_put.proofs.LeftLemmas.{AreElsewhere, left_at, left_by, left_elsewhere, other_path}
use Rattle.tree_put.proofs.SequenceLemmas.{all_take, puts_manager}
use Rattle.accounts_stage.specs.AccountsPart.{accounts_part, end_by, merged_in, puts_by}
use Rattle.accounts_stage.specs.Files.{account_puts, merged_end}
use Rattle.accounts_stage.specs.Laws.{AccountsEndLaw}
use Rattle.accounts_stage.specs.Places.{account_names, owns_accounts}
use Rattle.accounts_stage.specs.Puts.{AreAtAccounts}
use Rattle.accounts_stage.proofs.OwnLemmas.{accounts_open, not_stage, other_owned, owned_read}

-- ---- the puts of a merge

-- each is at a place of accounts
at_accounts : (m : Merged) → AreAtAccounts (account_puts m)
unfolding accounts_open account_puts
at_accounts m = refl

elsewhere_by : (q : Name) → owns_accounts q ≡ false → (puts : List LeafPut) → AreAtAccounts puts → AreElsewhere q puts
elsewhere_by q none [] at = tt
elsewhere_by q none (put ∷ puts) at =
    let parts = and_parts (owns_accounts put.at) (list_all (λ (other : LeafPut). owns_accounts other.at) puts) at in
    (other_path q put.at (other_owned q put.at none parts.0), elsewhere_by q none puts parts.1)

-- what isn't a place of accounts is put nowhere
pub puts_elsewhere : (m : Merged) (q : Name) → owns_accounts q ≡ false → AreElsewhere q (account_puts m)
puts_elsewhere m q none = elsewhere_by q none (account_puts m) (at_accounts m)

each_end : (m : Merged) (old : Name → Option LeafKind) → AllByRecursion (λ p. left_by (account_puts m) p (old p) ≡ merged_end m p) account_names
unfolding left_by account_puts accounts_open
each_end m old = (refl, (refl, (refl, (refl, (refl, (refl, (refl, tt)))))))

-- after all of them each place has its end: of two puts at one place the last counts
puts_end : (m : Merged) (old : Name → Option LeafKind) (q : Name) → owns_accounts q ≡ true → left_by (account_puts m) q (old q) ≡ merged_end m q
puts_end m old q own = each_among (λ p. left_by (account_puts m) p (old p) ≡ merged_end m p) account_names (each_end m old) q own

-- ---- what is seen after puts

pub only_elsewhere : (merged : Option Merged) (k : ℕ) (q : Name) → owns_accounts q ≡ false → AreElsewhere q (take k (puts_by merged))
only_elsewhere None k q none = all_take (λ (put : LeafPut). eq_by_cmp bytes_cmp q put.at ≡ false) [] k tt
only_elsewhere (Some m) k q none = all_take (λ (put : LeafPut). eq_by_cmp bytes_cmp q put.at ≡ false) (account_puts m) k (puts_elsewhere m q none)

-- after some puts of a merge nothing has changed but the places of accounts
pub only_puts : (system : Name) (merged : Option Merged) (k : ℕ) (w m : WorldState) → seen m ≡ seen (with_puts (take k (puts_by merged)) w) → IsOnly (accounts_part system) w m
only_puts system merged k w m is = record {
  leaves = λ q none ne.
      seen_at m (with_puts (take k (puts_by merged)) w) is q ne ∙ left_at (take k (puts_by merged)) w q
      ∙ left_elsewhere (take k (puts_by merged)) q (get w.leaves q) (only_elsewhere merged k q none);
  manager = λ calls. ap (λ (x : WorldState). x.manager) is ∙ puts_manager (take k (puts_by merged)) w;
}

end_only : (system : Name) (merged : Option Merged) (w v : WorldState) → seen v ≡ seen (with_puts (puts_by merged) w) → IsOnly (accounts_part system) w v
end_only system merged w v is =
    only_puts system merged (length (puts_by merged)) w v
    (is ∙ ap (λ puts. seen (with_puts puts w)) (sym (take_all (length (puts_by merged)) (puts_by merged) (omega arith))))

end_left : (merged : Option Merged) (w : WorldState) (q : Name) → owns_accounts q ≡ true → left_by (puts_by merged) q (get w.leaves q) ≡ end_by merged w.leaves q
unfolding left_by
end_left None w q own = refl
end_left (Some m) w q own = puts_end m (get w.leaves) q own

pub end_law : AccountsEndLaw
end_law system w v named free is =
    let merged = merged_in system w.leaves in (
      λ q own. seen_at v (with_puts (puts_by merged) w) is q (not_stage q (owned_read q own)) ∙ left_at (puts_by merged) w q ∙ end_left merged w q own,
      end_only system merged w v is,
    )
