use Rattle.std.proofs.Common.{◌≡◌, ◌++◌, ◌∷◌, [], OnOk, ap, false, subst, sym, ◌∙◌}
use Rattle.std.proofs.lemmas.Result.{on_ok_weaker}
use Rattle.tree_put.specs.WrittenPlace.{AreApartFromStage, written}
use Rattle.tree_put.proofs.AddedLemmas.{apart_joined}
use Rattle.boot_entries.specs.BootDefault.{menu_places}
use Rattle.boot_entries.proofs.MenuPlacesLemmas.{menu_added, menu_apart}
use Rattle.boot_entries.proofs.menu_places.add_places_of.Goals as goal

added : (c : goal.After-push) → OnOk c.push.result (c.push.new.self ≡ c.args.places.now ++ menu_places c.args.list.now)
added c =
    on_ok_weaker c.push.result (λ is.
    menu_added c.args.places.now c.add_unread.new.places c.push.new.self c.in_ok-entries.entries.keys c.args.list.now c.add_unread.ensures.sorted c.in_ok-entries.ensures c.in_ok-add_unread.ensures.ok
    (is ∙ ap (λ place. c.add_unread.new.places ++ place ∷ []) (c.unread.ensures ∙ ap (written false) c.in_ok-loader_path.ensures))) c.push.ensures.ok

pub returns-clause-places : goal.returns-clause-places
returns-clause-places c = added c

-- the stage lies apart from each of them
pub returns-clause-apart : goal.returns-clause-apart
returns-clause-apart c apart =
    on_ok_weaker c.push.result (λ is. subst AreApartFromStage (sym is) (apart_joined c.args.places.now (menu_places c.args.list.now) apart (menu_apart c.args.list.now))) (added c)
