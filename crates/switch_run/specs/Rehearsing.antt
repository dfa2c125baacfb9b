-- The rehearsal of a made machine that words ask for.
use Rattle.std.specs.Prelude.{◌≡◌, ◌<◌, ◌^◌, ◌||◌, ℕ, Bool, false, List, [], ◌∷◌, codes, nat_eq, IsErrOf, Option, None, Some, if◌then◌else◌, Result}
use Rattle.std.specs.Cmp.Lexicographic.{pointwise}
use Rattle.std.specs.Fmt.{decimal}
use Rattle.host_trait.specs.declared.tree.HostFault.TheVariants.{Device}
use Rattle.host_trait.specs.Sink.{IsPrefixOf, Puts, SinkState}
use Rattle.rehearse.specs.Rehearsal.{IsRehearsal}
use Rattle.switch_run.specs.declared.run_fault.RunFault.{RunFault}
use Rattle.switch_run.specs.declared.run_fault.RunFault.TheVariants.{Host, Sink}
use Rattle.switch_run.specs.Ending.{IsSinkCaused}
use Rattle.switch_run.specs.Telling.{HasTold}

-- a text is the digits of a number below 2 ^ 64, without leading zeros
pub record IsNumber (text : List ℕ) (number : ℕ) : Type 0 where
  pub digits : text ≡ decimal number
  pub below : number < 2 ^ 64

-- a word asks for a rehearsal: on a manager that does at once what it is asked, or on one whose jobs end later
abbrev pub is_rehearsal : List ℕ → Bool
is_rehearsal verb = pointwise nat_eq verb (codes "rehearse") || pointwise nat_eq verb (codes "rehearse-jobs")

-- what stands behind such a word, or none
abbrev pub rehearsed_word : List (List ℕ) → Option (List ℕ)
rehearsed_word [] = None
rehearsed_word (verb ∷ []) = None
rehearsed_word (verb ∷ word ∷ []) = if is_rehearsal verb then Some word else None
rehearsed_word (verb ∷ word ∷ more ∷ rest) = None

-- the first of some words asks for a manager whose jobs end later
abbrev pub asks_jobs : List (List ℕ) → Bool
asks_jobs [] = false
asks_jobs (verb ∷ rest) = pointwise nat_eq verb (codes "rehearse-jobs")

-- words ask for the rehearsal of a number
pub record AsksRehearsal (words : List (List ℕ)) (number : ℕ) : Type 0 where
  pub word : List ℕ
  pub behind : rehearsed_word words ≡ Some word
  pub is_number : IsNumber word number

-- what a rehearsal of a number tells
abbrev pub Tells : ℕ → List ℕ → Type 0
Tells number text = IsRehearsal number 2000 5000 200 text

-- a text is a beginning of it
pub record IsInRehearsal (number : ℕ) (more : List ℕ) : Type 0 where
  pub text : List ℕ
  pub tells : Tells number text
  pub begun : IsPrefixOf text more

-- how the rehearsal of a number ends; no host is asked for anything
pub record IsRehearsing (number : ℕ) (sink put : SinkState) (ending : Result Bool RunFault) : Type 0 where
  pub come : HasTold (Puts sink put (Tells number)) (Puts sink put (IsInRehearsal number)) sink put ending
  pub no_device : IsErrOf ending (Host Device) → ⊥
  pub sink_cause : IsSinkCaused sink put (IsErrOf ending Sink)
