-- The words of a collection, and that no other words are these.
use Rattle.std.proofs.Common.{◌≡◌, ◌<◌, ◌^◌, ℕ, Bool, true, false, List, [], ◌∷◌, codes, nat_eq, cond, Option, None, Some, Result, Ok, Err, option_and_then, refl, sym, ap, subst, ◌∙◌, arith}
use Rattle.std.proofs.lemmas.Bool.{both_ways}
use Rattle.std.proofs.lemmas.Fmt.{decimal_injective}
use Rattle.std.proofs.lemmas.Option.{none-some, same_Some}
use Rattle.std.specs.Cmp.Lexicographic.{pointwise, same_text}
use Rattle.std.specs.Fmt.{decimal}
use Rattle.std.specs.Result.{OkIff, result_ok}
use Rattle.switch_names.specs.SystemName.{named_system}
use Rattle.generations.specs.Digits.{BearsNumber}
use Rattle.switch_engine.specs.declared.command.Command.{Command}
use Rattle.switch_run.specs.Collecting.{AsksCollection, collected_word}
use Rattle.switch_run.specs.Commands.{command_for, command_of}
use Rattle.switch_run.specs.Listing.{asks_list}
use Rattle.switch_run.specs.Rehearsing.{AsksRehearsal, IsNumber, is_rehearsal, rehearsed_word}

-- ---- words with a word behind `collect`

-- no command begins so
none_for : (system : Option (List ℕ)) → option_and_then (command_for (codes "collect")) system ≡ None
none_for None = refl
none_for (Some system) = refl

-- they give no command, and ask for no rehearsal
neither : (words : List (List ℕ)) (word : List ℕ) → collected_word words ≡ Some word → (command_of words ≡ None) × (rehearsed_word words ≡ None)
neither [] word is = absurd (none-some word is)
neither (verb ∷ []) word is = absurd (none-some word is)
neither (verb ∷ next ∷ []) word is = by (pointwise nat_eq verb (codes "collect")) refl is
  where
    by : (b : Bool) → pointwise nat_eq verb (codes "collect") ≡ b → cond b (Some next) None ≡ Some word →
        (option_and_then (command_for verb) (named_system next) ≡ None) × (cond (is_rehearsal verb) (Some next) None ≡ None)
    by true same is =
        subst (λ (v : List ℕ). (option_and_then (command_for v) (named_system next) ≡ None) × (cond (is_rehearsal v) (Some next) None ≡ None))
        (sym (same_text verb (codes "collect") (sym same))) (none_for (named_system next), refl)
    by false same is = absurd (none-some word is)
neither (verb ∷ next ∷ more ∷ rest) word is = absurd (none-some word is)

pub no_command : (words : List (List ℕ)) (word : List ℕ) → collected_word words ≡ Some word → command_of words ≡ None
no_command words word is = (neither words word is).0

module _ {X : Type 0} (words : List (List ℕ)) (keep : ℕ) (of : AsksCollection words keep) where
  pub never_command : (command : Command) → command_of words ≡ Some command → X
  never_command command some = absurd (none-some command (sym (no_command words of.word of.behind) ∙ some))

  pub never_rehearsal : (number : ℕ) → AsksRehearsal words number → X
  never_rehearsal number asks = absurd (none-some asks.word (sym (neither words of.word of.behind).1 ∙ asks.behind))

pub unrehearsed : (words : List (List ℕ)) (keep : ℕ) → AsksCollection words keep → (word : List ℕ) → rehearsed_word words ≡ Some word → ⊥
unrehearsed words keep of word behind = none-some word (sym (neither words of.word of.behind).1 ∙ behind)

-- words that ask for the list ask for no collection
pub never_list : {X : Type 0} (words : List (List ℕ)) (keep : ℕ) → AsksCollection words keep → asks_list words ≡ true → X
never_list [] keep of asks = absurd (both_ways _ refl asks)
never_list (verb ∷ []) keep of asks = absurd (none-some of.word of.behind)
never_list (verb ∷ more ∷ rest) keep of asks = absurd (both_ways _ refl asks)

-- ---- the number of a word

-- what is no number of 32 bits is none that a collection keeps
pub small_of : {E : Type 0} (text : List ℕ) (number : ℕ) (r : Result ℕ E) → IsNumber text number → OkIff r (number < 2 ^ 32) number → BearsNumber decimal text (result_ok r)
small_of text number (Ok small) is fits = (is.digits ∙ ap decimal (sym fits.1), subst (λ n. n < 2 ^ 32) (sym fits.1) fits.0)
small_of text number (Err fault) is large = λ n below same.
    large (subst (λ k. k < 2 ^ 32) (decimal_injective n number (omega (arith, below)) is.below (sym same ∙ is.digits)) below)

-- words ask for one collection
pub one_keep : (words : List (List ℕ)) (one other : ℕ) → AsksCollection words one → AsksCollection words other → one ≡ other
one_keep words one other asks of =
    decimal_injective one other (omega (arith, asks.below)) (omega (arith, of.below))
    (sym asks.digits ∙ same_Some asks.word of.word (sym asks.behind ∙ of.behind) ∙ of.digits)
