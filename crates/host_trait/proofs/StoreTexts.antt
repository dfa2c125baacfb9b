-- Texts that lead into the store begin with a slash.
use Rattle.std.proofs.Common.{◌≡◌, ◌≢◌, ℕ, false, ◌&&◌, eqb, nat_eq, List, [], ◌∷◌, take, codes, refl, sym, ap}
use Rattle.std.proofs.lemmas.Bool.{ne_eqb}
use Rattle.std.specs.List.{starts_with}
use Rattle.std.specs.Cmp.Lexicographic.{pointwise}

pub no_store : (text : List ℕ) → ((rest : List ℕ) → text ≢ 47 ∷ rest) → starts_with nat_eq text (codes "/nix/store/") ≡ false
no_store [] none = refl
no_store (x ∷ rest) none =
    let other : eqb 47 x ≡ false = ne_eqb 47 x (λ is. none rest (ap (λ y. y ∷ rest) (sym is))) in
    ap (λ b. b && pointwise nat_eq (codes "nix/store/") (take 10 rest)) other
