use Rattle.std.proofs.Common.{◌≡◌, true, false, List, ℕ, [], ◌∷◌, ◌++◌, Bor, filter, map, string_bytes, sym, ap, ◌∙◌, rules, arith, lit<}
use Rattle.std.proofs.lemmas.Grind.{common_steps}
use Rattle.std.proofs.lemmas.Iterator.Consumers.{YieldsList-at, YieldsList-end}
use Rattle.std.proofs.lemmas.Iterator.Splits.{YieldsList-from_str_split}
use Rattle.std.proofs.lemmas.List.{map-append}
use Rattle.fstab_mounts.specs.Escape.{is_some_name, joined, with_name}
use Rattle.fstab_mounts.proofs.EscapeLemmas.{part_joins, path_none, path_some}
use Rattle.fstab_mounts.proofs.escape.escaped_path.Goals as goal
use Rattle.switch_names.specs.Texts.{is_empty}

pub loop-name-preserved : goal.loop-name-preserved
loop-name-preserved c =
    c.in_ok-add_name.ensures ∙ ap (λ t. with_name t c.in-Some.name.now) c.loop-name.invariant
    ∙ part_joins (map (λ (name : Bor (List ℕ)). name.now) c.loop-name.yielded) c.in-Some.name.now
    ∙ ap (λ names. joined (filter is_some_name names)) (sym (map-append (λ (name : Bor (List ℕ)). name.now) c.loop-name.yielded (c.in-Some.name ∷ [])))

pub returns-then-not-is_empty : goal.returns-then-not-is_empty
returns-then-not-is_empty c =
    let split = c.split-name-items.ensures in
    let end = YieldsList-end
    (YieldsList-at c.into_iter-name-iterator.ensures.into_iter_gives (YieldsList-from_str_split 47 c.args.path.now (lit< tt) split.text split.has_more split.pattern))
    c.loop-name.yielded _ c.loop-name.yielded_by _ _ c.in-None.is c.next.ensures.steps in
    let some : is_empty (string_bytes c.loop-name.text) ≡ false = first_of (search rules, grind (arith, common_steps)) in
    path_some c.args.path.now (string_bytes c.loop-name.text) (c.loop-name.invariant ∙ ap (λ names. joined (filter is_some_name names)) end.0) some

pub returns : goal.returns
returns c =
    let split = c.split-name-items.ensures in
    let end = YieldsList-end
    (YieldsList-at c.into_iter-name-iterator.ensures.into_iter_gives (YieldsList-from_str_split 47 c.args.path.now (lit< tt) split.text split.has_more split.pattern))
    c.loop-name.yielded _ c.loop-name.yielded_by _ _ c.in-None.is c.next.ensures.steps in
    let none : is_empty (string_bytes c.loop-name.text) ≡ true = first_of (search rules, grind (arith, common_steps)) in
    c.in_ok-push.ensures.bytes ∙ ap (λ l. string_bytes c.loop-name.text ++ l) (c.in_ok-push.ensures.ascii (omega arith))
    ∙ path_none c.args.path.now (string_bytes c.loop-name.text) (c.loop-name.invariant ∙ ap (λ names. joined (filter is_some_name names)) end.0) none
