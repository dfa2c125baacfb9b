-- What a move of the profile writes isn't quiet.
use Rattle.std.proofs.Common.{◌≡◌, true, false, codes, not, refl, sym, ap, ◌∙◌}
use Rattle.std.proofs.lemmas.Bool.{or_from}
use Rattle.std.specs.Cmp.Lexicographic.{same_text}
use Rattle.boot_entries.specs.BootDefault.{owns_default}
use Rattle.generations.specs.Goal.{goal_place}
use Rattle.generations.specs.GoalPart.{owns_goal}
use Rattle.generations.proofs.ProfileApart.{owned_fails}
use Rattle.host_trait.specs.Host.{HostState, Leads}
use Rattle.switch_engine.specs.Quiet.{is_not_quiet, is_quiet}
use Rattle.switch_engine.proofs.ActivationApart.{profile_path}
use Rattle.switch_engine.proofs.MenuApart.{menu_fails, menu_path}
use Rattle.switch_engine.proofs.PartsLemmas.{of_default}
use Rattle.switch_names.specs.Names.{Name}
use Rattle.switch_parts.proofs.LeafLemmas.{not_below}
use Rattle.tree_put.specs.Written.{WritesOnly}
use Rattle.tree_put.proofs.WrittenLemmas.{writes_none}

profile_loud : (rest : Name) → is_quiet (profile_path rest) ≡ false
profile_loud rest = or_from _ _ (not_below (profile_path rest) (codes "etc") refl) (not_below (profile_path rest) (codes "var/lib/nixos") refl)

menu_loud : (rest : Name) → is_quiet (menu_path rest) ≡ false
menu_loud rest = or_from _ _ (not_below (menu_path rest) (codes "etc") refl) (not_below (menu_path rest) (codes "var/lib/nixos") refl)

goal_loud : is_quiet goal_place ≡ false
unfolding goal_place
goal_loud = refl

-- neither the profile's places and those of the boot menu
pub default_not_quiet : (q : Name) → owns_default q ≡ true → is_not_quiet q ≡ true
default_not_quiet = of_default (λ q. is_not_quiet q ≡ true) (λ q own. ap not (owned_fails is_quiet profile_loud q own)) (λ q own. ap not (menu_fails is_quiet menu_loud q own))

-- nor that of the goal
pub goal_not_quiet : (q : Name) → owns_goal q ≡ true → is_not_quiet q ≡ true
goal_not_quiet q own = ap is_not_quiet (same_text q goal_place (sym own)) ∙ ap not goal_loud

-- nothing is written
pub led_nowhere : {a : HostState} → Leads a a (WritesOnly is_not_quiet)
led_nowhere = record { to = λ w is. (w, is, writes_none is_not_quiet w w refl) }
