-- A path that isn't the stage's.
use Rattle.std.proofs.Common.{◌≡◌, codes, false, true, subst, refl}
use Rattle.std.proofs.lemmas.Bool.{both_ways}
use Rattle.std.specs.Cmp.Lexicographic.{nat_list_eq_equiv}
use Rattle.host_trait.specs.World.{is_path, stage}

is_other : is_path (codes "etc/put") stage ≡ false
unfolding stage
is_other = refl

pub not_the_stage : codes "etc/put" ≡ stage → ⊥
not_the_stage same =
    both_ways _ is_other (subst (λ q. is_path (codes "etc/put") q ≡ true) same (nat_list_eq_equiv.refl (codes "etc/put")))
