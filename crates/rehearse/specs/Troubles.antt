-- What goes wrong under the runs of a command, and how many changing calls it allows.
use Rattle.std.specs.Prelude.{◌≡◌, ◌<◌, ◌+◌, ℕ, List, Some, map, slice_get, sum_by}
use Rattle.rehearse.specs.declared.cut.Cut as one
use Rattle.rehearse.specs.declared.trouble.Trouble.{Trouble}
use Rattle.rehearse.specs.declared.trouble.Trouble.TheVariants.{Cut, Fail}

-- how many changing calls these cuts allow: each lets so many finish, and one more may be left as if it had
abbrev pub allowed : List one.Cut → ℕ
allowed cuts = sum_by (λ cut. cut.after + 1) cuts

-- cuts as troubles
abbrev pub as_troubles : List one.Cut → List Trouble
as_troubles cuts = map Cut cuts

-- a trouble is a cut
abbrev pub IsCut : Trouble → Type 0
IsCut (Cut cut) = Unit {0}
IsCut (Fail call) = ⊥

-- the first so many are cuts
abbrev pub AreCuts : List Trouble → ℕ → Type 0
AreCuts troubles count = (at : ℕ) (trouble : Trouble) → at < count → slice_get troubles at ≡ Some trouble → IsCut trouble

-- how many changing calls a trouble allows that is a cut
abbrev pub allowed_by : Trouble → ℕ
allowed_by (Cut cut) = cut.after + 1
allowed_by (Fail call) = 0

-- the same for troubles that are cuts
abbrev pub allowed_by_all : List Trouble → ℕ
allowed_by_all troubles = sum_by allowed_by troubles
