use Rattle.std.proofs.Common.{◌≡◌, ◌++◌, ◌∷◌, [], cond, None, append-nil, is_none, is_some, sym, ap, subst, ◌∙◌}
use Rattle.std.proofs.lemmas.Result.{on_ok_weaker}
use Rattle.switch_names.specs.Names.{Name}
use Rattle.switch_names.specs.SystemName.{system_fault, system_path}
use Rattle.switch_names.proofs.Named.{is_named, some_named}
use Rattle.store_live.proofs.PathLemmas.{dead_by, not_dead_by, same_system}
use Rattle.store_live.proofs.reaching.add_dead.Goals as goal

-- it is a system's, and isn't live
pub returns-in-Some : goal.returns-in-Some
returns-in-Some c =
    let path = c.args.path.now in
    let text = c.as_str.result.now in
    let named = some_named (system_path text) (system_fault text) c.in-Some.system (sym c.in-Some.is ∙ c.in_ok-system.ensures) in
    let system : c.in-Some.system ≡ path = named.1 ∙ ap system_path c.as_str.ensures.text ∙ same_system path c.requires in
    let dead = dead_by c.args.live.now.keys path (sym c.contains.ensures ∙ c.if-contains.false) (subst (λ t. system_fault t ≡ None) c.as_str.ensures.text named.0) in
    on_ok_weaker c.push.result (λ pushed. pushed ∙ ap (λ (x : Name). c.args.dead.now ++ x ∷ []) system ∙ ap (λ b. c.args.dead.now ++ cond b (path ∷ []) []) (sym dead)) c.push.ensures.ok

-- it is no system's
pub returns-in-None : goal.returns-in-None
returns-in-None c =
    let path = c.args.path.now in
    let text = c.as_str.result.now in
    let faulty = ap (λ t. is_none (system_fault t)) (sym c.as_str.ensures.text) ∙ sym (is_named (system_path text) (system_fault text)) ∙ ap is_some (sym (sym c.in-None.is ∙ c.in_ok-system.ensures)) in
    sym (ap (λ b. c.args.dead.now ++ cond b (path ∷ []) []) (not_dead_by c.args.live.now.keys path faulty) ∙ append-nil c.args.dead.now)
