-- A reboot of a host in memory, and what a machine boots into after it.
use Rattle.std.proofs.Common.{◌≡◌, ◌<◌, ◌⊎◌, ◌%◌, ℕ, suc, zero, Bool, true, false, Option, OnErr, Ok, Err, Result, refl, sym, ap, subst, ◌∙◌, inl, inr, ⊎_elim, arith}
use Rattle.std.proofs.lemmas.Nat.{mod_below}
use Rattle.std.specs.FinMap.{keys}
use Rattle.std.specs.List.{list_any}
use Rattle.activation_stage.specs.Reboot.{IsAfterReboot}
use Rattle.generations.specs.Boot.{boot_system}
use Rattle.generations.proofs.BootLemmas.{boot_stays_law}
use Rattle.host_memory.specs.Reboots.{IsRebooted}
use Rattle.host_trait.specs.Host.{HostState, Leads, Passes, Told}
use Rattle.host_trait.specs.Change.{IsSame}
use Rattle.host_trait.specs.World.{WorldState, is_in_line, stage}
use Rattle.host_trait.proofs.KeyTests.{line_cases}
use Rattle.host_trait.proofs.Moments.{leads_as, leads_then}
use Rattle.rehearse.specs.declared.summary.End.{End}
use Rattle.rehearse.specs.Ends.{HasEnded, IsHeld}
use Rattle.rehearse.specs.Through.{IsThrough}
use Rattle.rehearse.proofs.HeldLemmas.{held_begins}
use Rattle.switch_engine.specs.declared.command.Command.TheVariants.{StartUp}
use Rattle.reboot_model.specs.Rebooting.{HasStartedAtOnce, HasStartedUp, IsStartingUp}
use Rattle.reboot_model.specs.Rebooting.IsStartingUp.{Rebooted, Standing}
use Rattle.switch_names.specs.Names.{Name}

-- ---- which world a reboot leaves

remainder : (n : ℕ) → n < 2 → (n ≡ 0) ⊎ (n ≡ 1)
remainder zero small = inl refl
remainder (suc zero) small = inr refl
remainder (suc (suc n)) small = absurd (omega (arith, small))

after : (pick : ℕ) (w r : WorldState) → IsRebooted pick w r → IsAfterReboot w r
after pick w r is = ⊎_elim (λ even. inl (is.even even)) (λ odd. by (list_any (λ q. is_in_line q stage) (keys w.leaves)) refl odd) (remainder (pick % 2) (mod_below pick 2 (omega arith)))
  where
    by : (line : Bool) → line ≡ list_any (λ q. is_in_line q stage) (keys w.leaves) → pick % 2 ≡ 1 → IsAfterReboot w r
    by true same odd = inl (is.blocked (line_cases w.leaves stage true same))
    by false same odd = inr (is.odd odd (line_cases w.leaves stage false same))

boots_the_same : (pick : ℕ) (w r : WorldState) → IsRebooted pick w r → boot_system r.leaves ≡ boot_system w.leaves
boots_the_same pick w r is = ⊎_elim
    (λ plain. ap (λ (x : WorldState). boot_system x.leaves) plain ∙ (boot_stays_law w).0)
    (λ blank. ap (λ (x : WorldState). boot_system x.leaves) blank ∙ (boot_stays_law w).1)
    (after pick w r is)

-- ---- from a reboot on

pub on_err : {T E : Type 0} {P : Type 0} (r : Result T E) → P → OnErr r P
on_err (Ok x) holds = tt
on_err (Err e) holds = holds

pub still_standing : (pick : ℕ) {a b : HostState} → Passes a b IsSame → Leads a b (IsStartingUp pick)
still_standing pick same = leads_as same.tells (IsStartingUp pick) (λ w v is there. Standing there)

module _ (pick : ℕ) {a b c : HostState} (led : Leads a b (IsRebooted pick)) (same : Leads b c (λ w v. v ≡ w)) where
  -- what a machine boots into is what it would have booted into before
  pub told_before : {booted : Option Name} → Told b (λ r. booted ≡ boot_system r.leaves) → Told a (λ w. booted ≡ boot_system w.leaves)
  told_before told = record { has = λ w is. let there = led.to w is in told.has there.0 there.1 ∙ boots_the_same pick w there.0 there.2 }

  pub looked : Leads a c (IsRebooted pick)
  looked = leads_then led same (IsRebooted pick) (λ w v u is is_v rebooted there. subst (IsRebooted pick w) (sym there) rebooted)

  pub begins_to_start : Leads a c (IsStartingUp pick)
  begins_to_start = leads_as looked (IsStartingUp pick) (λ w r is rebooted. Rebooted r rebooted (held_begins StartUp r))

  module _ {d : HostState} where
    pub starting : Passes c d (IsHeld StartUp) → Leads a d (IsStartingUp pick)
    starting held = leads_then looked held.tells (IsStartingUp pick) (λ w r m is is_r rebooted moment. Rebooted r rebooted moment)

    pub started : {how : End} → Leads c d (IsThrough StartUp how) → Leads a d (HasStartedUp pick how)
    started {how = how} through =
        leads_then looked through (HasStartedUp pick how) (λ w r v is is_r rebooted ended. record { rebooted = r; is_rebooted = rebooted; started = ended })

    pub started_at_once : {how : End} → Leads c d (HasEnded StartUp how) → Leads a d (HasStartedAtOnce pick how)
    started_at_once {how = how} ended =
        leads_then looked ended (HasStartedAtOnce pick how) (λ w r v is is_r rebooted end. record { rebooted = r; is_rebooted = rebooted; ended = end })
