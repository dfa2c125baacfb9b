-- What holds of a host that tells its world holds of every host.
use Rattle.std.proofs.Common.{◌≡◌, None, Some, ⊎_elim, inl, inr}
use Rattle.host_trait.specs.Host.{HostState, Leads, Passes, Told}
use Rattle.host_trait.specs.World.{WorldState}
use Rattle.host_trait.proofs.Moments.{goes_on, none_not_some, none_or_some}

pub told_where : (a : HostState) {b : HostState} {P : WorldState → Type 0} → (a.world ≡ None → b.world ≡ None) → ((w : WorldState) → a.world ≡ Some w → Told b P) → Told b P
told_where a {b = b} silent told = record {
  has = λ v is. elim (none_or_some a.world) [
    | inl none ↦ absurd (none_not_some b.world v (silent none) is)
    | inr some ↦ (told some.0 some.1).has v is
  ];
}

module _ {a b : HostState} where
  pub leads_where : {R : WorldState → WorldState → Type 0} → ((w : WorldState) → a.world ≡ Some w → Leads a b R) → Leads a b R
  leads_where told = record { to = λ w is. (told w is).to w is }

  pub passes_where : {P R : WorldState → WorldState → Type 0} → Passes a b P → ((w : WorldState) → a.world ≡ Some w → Passes a b R) → Passes a b R
  passes_where way told = record {
    later = way.later;
    nothing_else = λ t m early left. ⊎_elim (λ before. inl before) (λ now. (told now.0 now.1).nothing_else t m early left) (way.nothing_else t m early left);
    keeps = way.keeps;
    tells = record { to = λ w is. (told w is).tells.to w is };
    silent = way.silent;
  }

-- two stretches of time, of whose moments nothing is said
pub passes_on : {a b c : HostState} {P S Q : WorldState → WorldState → Type 0} → Passes a b P → Leads a b S → Passes b c Q → Passes a c (λ w m. Unit {0})
passes_on first led second = goes_on first led second (λ w m. Unit {0}) (λ w m is before. tt) (λ w v m is_w is_v before after. tt)
