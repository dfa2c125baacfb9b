-- What is said of a result that is the other one, or that is said of neither.
use Rattle.std.proofs.Common.{◌≡◌, true, false, is_err, Result, Ok, Err, OnOk, OnErr, refl}
use Rattle.std.proofs.lemmas.Bool.{both_ways}

pub on_ok_of_err : {X E : Type 0} (r : Result X E) (P : Type 0) → is_err r ≡ true → OnOk r P
on_ok_of_err (Ok x) P is = absurd (both_ways false refl is)
on_ok_of_err (Err e) P is = tt

pub on_err_of_ok : {X E : Type 0} (r : Result X E) (P : Type 0) → is_err r ≡ false → OnErr r P
on_err_of_ok (Ok x) P is = tt
on_err_of_ok (Err e) P is = absurd (both_ways true is refl)

pub on_ok_always : {X E : Type 0} (r : Result X E) (P : Type 0) → P → OnOk r P
on_ok_always (Ok x) P holds = holds
on_ok_always (Err e) P holds = tt
