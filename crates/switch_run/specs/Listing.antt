-- The list of the generations that stand: nix-env(1), "--list-generations".
use Rattle.std.specs.Prelude.{◌≡◌, ℕ, Bool, false, List, [], ◌∷◌, codes, nat_eq, IsErrOf, Result}
use Rattle.std.specs.Cmp.Lexicographic.{pointwise}
use Rattle.dry_report.specs.GenerationList.{generation_lines}
use Rattle.generations.specs.declared.gens.Gens.{Gens}
use Rattle.generations.specs.Gens.{IsGensOf}
use Rattle.host_trait.specs.Change.{IsSame}
use Rattle.host_trait.specs.declared.tree.HostFault.TheVariants.{Device}
use Rattle.host_trait.specs.Host.{HasCauseOf, HostState, Passes, Told}
use Rattle.host_trait.specs.Sink.{IsPrefixOf, Puts, SinkState}
use Rattle.host_trait.specs.World.{WorldState}
use Rattle.switch_run.specs.declared.run_fault.RunFault.{RunFault}
use Rattle.switch_run.specs.declared.run_fault.RunFault.TheVariants.{Host, Sink}
use Rattle.switch_run.specs.Ending.{IsSinkCaused}
use Rattle.switch_run.specs.Telling.{HasTold}

-- words ask for the list
abbrev pub asks_list : List (List ℕ) → Bool
asks_list [] = false
asks_list (verb ∷ []) = pointwise nat_eq verb (codes "generations")
asks_list (verb ∷ more ∷ rest) = false

-- a text is the list of the generations that stand in a world
pub record IsListOf (w : WorldState) (text : List ℕ) : Type 0 where
  pub gens : Gens
  pub are : IsGensOf w.leaves gens
  pub is_text : text ≡ generation_lines gens

-- a text is a beginning of it
pub record IsInList (w : WorldState) (more : List ℕ) : Type 0 where
  pub text : List ℕ
  pub is_list : IsListOf w text
  pub begun : IsPrefixOf text more

-- how the list of the generations ends
pub record IsListing (host after : HostState) (sink put : SinkState) (ending : Result Bool RunFault) : Type 0 where
  pub come : HasTold (Told host (λ w. Puts sink put (IsListOf w))) (Told host (λ w. Puts sink put (IsInList w))) sink put ending
  pub unchanged : Passes host after IsSame
  pub cause : HasCauseOf host after (IsErrOf ending (Host Device))
  pub sink_cause : IsSinkCaused sink put (IsErrOf ending Sink)
