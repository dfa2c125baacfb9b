use Rattle.std.proofs.Common.{◌≡◌, Ok, Err, rules}
use Rattle.host_trait.proofs.leaf_map.set_entry.Goals as goal

pub returns-clause-sound : goal.returns-clause-sound
returns-clause-sound c = search rules steps 500000

ok_or_err : {T E : Type 0} (x : T) (e : E) → Ok x ≡ Err e → ⊥
ok_or_err x e is = cc

pub returns-clause-blocked : goal.returns-clause-blocked
returns-clause-blocked c = λ sound is. absurd (ok_or_err _ _ is)
