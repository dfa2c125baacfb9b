-- A made machine whose old system is brought into use.
use Rattle.std.proofs.Common.{◌≡◌, ◌≤◌, ◌+◌, ◌++◌, ◌∷◌, ℕ, suc, [], Some, refl, ap, subst, ◌∙◌, arith}
use Rattle.host_trait.specs.Host.{HostState}
use Rattle.host_trait.specs.World.{WorldState}
use Rattle.host_trait.proofs.Moments.{one_world}
use Rattle.made_world.specs.Draws.{draw_at}
use Rattle.made_world.specs.Putting.{old_system}
use Rattle.rehearse.specs.declared.summary.Summary.{Summary}
use Rattle.rehearse.specs.Ends.{HasEnded}
use Rattle.rehearse.specs.Generated.{IsSettled, drawn_numbers}
use Rattle.rehearse.specs.Through.{IsRunThrough}
use Rattle.switch_engine.specs.declared.command.Command.TheVariants.{Switch}
use Rattle.switch_names.specs.Names.{Name}

-- without a cut there is one run
pub settled_by : {a b : HostState} (system : Name) (summary : Summary) (w v : WorldState) → IsRunThrough (Switch system) a b [] summary → a.world ≡ Some w → b.world ≡ Some v → system ≡ old_system → IsSettled w v
settled_by {a} {b} system summary w v is at left same =
    let some = is.ended.some in let most = is.ended.most in
    let there = (is.ended.at_once (omega (arith, some, most))).to w at in
    let ended = subst (λ (x : WorldState). HasEnded (Switch system) summary.end w x) (one_world b.world there.0 v there.1 left) there.2 in
    (summary.end, subst (λ (x : Name). HasEnded (Switch x) summary.end w v) same ended)

-- a loop has come to its end
pub at_end : {count all : ℕ} → count ≤ all → all ≤ count → count ≡ all
at_end {count} {all} within end = omega (arith, within, end)

pub drawn_first : (seed : ℕ) → drawn_numbers seed 0 ≡ []
unfolding drawn_numbers
drawn_first seed = refl

-- one more number is drawn
pub drawn_next : (seed count number : ℕ) → number ≡ draw_at seed (count + 1) → drawn_numbers seed count ++ number ∷ [] ≡ drawn_numbers seed (count + 1)
unfolding drawn_numbers
drawn_next seed count number is =
    let next : suc count ≡ count + 1 = omega arith in ap (λ n. drawn_numbers seed count ++ n ∷ []) is ∙ ap (drawn_numbers seed) next
