-- Where a run's output goes: write(2).
use Rattle.std.specs.Prelude.{◌≡◌, ◌≤◌, ◌++◌, ℕ, List, Option, None, Some, Result, IsErr}
use Rattle.host_trait.specs.declared.sink.SinkFault.{SinkFault}
use Rattle.host_trait.specs.Host.{Rose}

-- the two meanings of a sink
pub record SinkState : Type 0 where
  -- what was put, where it tells that
  pub contents : Option (List ℕ)
  -- how many puts have failed
  pub faults : ℕ

-- what was put since is in this set of texts
pub record Puts (old new : SinkState) (P : List ℕ → Type 0) : Type 0 where
  pub put : (before : List ℕ) → old.contents ≡ Some before → (more : List ℕ) × (new.contents ≡ Some (before ++ more)) × P more
  pub silent : old.contents ≡ None → new.contents ≡ None

-- some beginning of a text
abbrev pub IsPrefixOf : List ℕ → List ℕ → Type 0
IsPrefixOf text more = (rest : List ℕ) × (text ≡ more ++ rest)

-- a put fails only where the count of faults rises
pub record HasSinkCause {T : Type 0} (old new : SinkState) (result : Result T SinkFault) : Type 0 where
  pub later : old.faults ≤ new.faults
  pub rose : IsErr result → Rose old.faults new.faults
