-- Cuts as troubles.
use Rattle.std.proofs.Common.{◌≡◌, ◌≤◌, ◌+◌, ℕ, List, slice_get, take, Option, None, Some, option_map, sym, ap, subst, ◌∙◌}
use Rattle.std.proofs.lemmas.List.{length-map, take-map}
use Rattle.std.proofs.lemmas.List.Folds.{fold-map}
use Rattle.std.proofs.lemmas.Option.{slice_get-map}
use Rattle.host_trait.specs.Host.{HostState}
use Rattle.rehearse.specs.declared.cut.Cut as one
use Rattle.rehearse.specs.declared.summary.Summary.{Summary}
use Rattle.rehearse.specs.declared.trouble.Trouble.{Trouble}
use Rattle.rehearse.specs.declared.trouble.Trouble.TheVariants.{Cut}
use Rattle.rehearse.specs.Through.{IsRunThrough, IsRunThroughAll, IsRunToEnd}
use Rattle.rehearse.specs.Troubles.{AreCuts, IsCut, allowed, allowed_by, allowed_by_all, as_troubles}
use Rattle.switch_engine.specs.declared.command.Command.{Command}

allowed_alike : (cuts : List one.Cut) (count : ℕ) → allowed_by_all (take count (as_troubles cuts)) ≡ allowed (take count cuts)
allowed_alike cuts count = ap allowed_by_all (take-map Cut count cuts) ∙ fold-map (λ a trouble. a + allowed_by trouble) Cut 0 (take count cuts)

one_trouble : {a b : Trouble} → Some a ≡ Some b → a ≡ b
one_trouble is = cc

is_cut : (o : Option one.Cut) (trouble : Trouble) → option_map Cut o ≡ Some trouble → IsCut trouble
is_cut None trouble is = absurd cc
is_cut (Some cut) trouble is = subst IsCut (one_trouble is) tt

are_cuts : (cuts : List one.Cut) (count : ℕ) → AreCuts (as_troubles cuts) count
are_cuts cuts count at trouble less there = is_cut (slice_get cuts at) trouble (sym (slice_get-map Cut cuts at) ∙ there)

pub through_cuts : {a c : HostState} (command : Command) (cuts : List one.Cut) (summary : Summary) → IsRunThroughAll command a c (as_troubles cuts) summary → IsRunThrough command a c cuts summary
through_cuts {a} {c} command cuts summary is =
    let same = length-map cuts Cut in
    record {
      ended = subst (λ n. IsRunToEnd command a c n summary) same is.ended;
      clock = λ few. subst (λ n. c.clock ≤ a.clock + n) (allowed_alike cuts summary.runs) (is.clock (subst (λ n. summary.runs ≤ n) (sym same) few) (are_cuts cuts summary.runs));
    }
