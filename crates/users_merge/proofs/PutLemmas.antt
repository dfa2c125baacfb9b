-- What stands after the first of the nine puts, and after runs that were cut.
use Rattle.std.proofs.Common.{◌≡◌, ℕ, zero, suc, [], ◌∷◌, inl, inr, refl, subst, sym, ap, take, ◌∙◌}
use Rattle.users_merge.specs.Stored.{Merged, Stored}
use Rattle.users_merge.specs.Law.{IsPartly, IsSame, PrefixLaw, Put, PutsLaw, RunsLaw, after_all, after_first, again, puts}
use Rattle.users_merge.proofs.AgainLemmas.{law}
use Rattle.users_merge.proofs.ExistLemmas.{one_merge}

none_left : (count : ℕ) → take {A = Put} count [] ≡ []
none_left zero = refl
none_left (suc count) = refl

partly : (s : Stored) (m : Merged) (count : ℕ) → IsPartly s m (after_first m count s)
partly s m zero = record { group = inl refl; passwd = inl refl; shadow = inl refl; uids = inl refl; gids = inl refl; users = inl refl; groups = inl refl }
partly s m (suc zero) = record { group = inl refl; passwd = inl refl; shadow = inl refl; uids = inl refl; gids = inl refl; users = inr (inl refl); groups = inl refl }
partly s m (suc (suc zero)) = record { group = inl refl; passwd = inl refl; shadow = inl refl; uids = inl refl; gids = inl refl; users = inr (inl refl); groups = inr (inl refl) }
partly s m (suc (suc (suc zero))) = record { group = inl refl; passwd = inl refl; shadow = inl refl; uids = inr refl; gids = inl refl; users = inr (inl refl); groups = inr (inl refl) }
partly s m (suc (suc (suc (suc zero)))) = record { group = inl refl; passwd = inl refl; shadow = inl refl; uids = inr refl; gids = inr refl; users = inr (inl refl); groups = inr (inl refl) }
partly s m (suc (suc (suc (suc (suc zero))))) = record { group = inr refl; passwd = inl refl; shadow = inl refl; uids = inr refl; gids = inr refl; users = inr (inl refl); groups = inr (inl refl) }
partly s m (suc (suc (suc (suc (suc (suc zero)))))) = record { group = inr refl; passwd = inr refl; shadow = inl refl; uids = inr refl; gids = inr refl; users = inr (inl refl); groups = inr (inl refl) }
partly s m (suc (suc (suc (suc (suc (suc (suc zero))))))) = record { group = inr refl; passwd = inr refl; shadow = inr refl; uids = inr refl; gids = inr refl; users = inr (inl refl); groups = inr (inl refl) }
partly s m (suc (suc (suc (suc (suc (suc (suc (suc zero)))))))) = record { group = inr refl; passwd = inr refl; shadow = inr refl; uids = inr refl; gids = inr refl; users = inr (inr (refl, refl, refl)); groups = inr (inl refl) }
partly s m (suc (suc (suc (suc (suc (suc (suc (suc (suc count))))))))) =
    subst (λ rest. IsPartly s m (after_all m rest (after_all m puts s))) (sym (none_left count))
    (record { group = inr refl; passwd = inr refl; shadow = inr refl; uids = inr refl; gids = inr refl; users = inr (inr (refl, refl, refl)); groups = inr (inr (refl, refl)) })

pub prefix_law : PrefixLaw
prefix_law spec s m count is = partly s m count

-- merges that are equal leave the same
same_from : (m n : Merged) → m ≡ n → IsSame m n
same_from m n same = record {
  group = ap (λ (x : Merged). x.group) (sym same);
  passwd = ap (λ (x : Merged). x.passwd) (sym same);
  shadow = ap (λ (x : Merged). x.shadow) (sym same);
  uids = ap (λ (x : Merged). x.uids) (sym same);
  gids = ap (λ (x : Merged). x.gids) (sym same);
  users = ap (λ (x : Merged). x.users) (sym same);
  groups = ap (λ (x : Merged). x.groups) (sym same);
}

-- what leaves the same as the merge that is made again leaves the same as the merge
first_same : (t : Stored) (m n : Merged) → IsSame (again t m) n → IsSame m n
first_same t m n same = record {
  group = same.group;
  passwd = same.passwd;
  shadow = same.shadow;
  uids = same.uids;
  gids = same.gids;
  users = same.users;
  groups = same.groups;
}

pub puts_law : PutsLaw
puts_law spec s m count sound is =
    let now = law spec s (after_first m count s) m sound is (partly s m count) in
    record {
      fine = now.0.fine;
      same = λ n also. first_same (after_first m count s) m n (same_from (again (after_first m count s) m) n (one_merge spec (after_first m count s) (again (after_first m count s) m) n now.0 also));
      kept = now.1;
    }

pub runs_law : RunsLaw
runs_law spec s m [] sound is = record { fine = is.fine; same = λ n also. same_from m n (one_merge spec s m n is also); kept = refl }
runs_law spec s m (count ∷ counts) sound is =
    let t = after_first m count s in
    let now = law spec s t m sound is (partly s m count) in
    let later = runs_law spec t (again t m) counts sound now.0 in
    record { fine = later.fine; same = λ n also. first_same t m n (later.same n also); kept = later.kept ∙ now.1 }
