use Rattle.std.proofs.Common.{◌≡◌, ◌∷◌, ◌++◌, [], ◌||◌, ◌&&◌, List, cond, true, take, sym, ap, subst, ◌∙◌}
use Rattle.std.proofs.lemmas.List.{take_more}
use Rattle.switch_names.specs.Names.{Name, has, is_name}
use Rattle.unit_defs.specs.Defs.{own_in}
use Rattle.unit_defs.specs.Place.{place_after}
use Rattle.unit_defs.specs.Taken.{takes_place}
use Rattle.unit_defs.proofs.TakenLemmas.{kept_more, passed_more}
use Rattle.unit_defs.proofs.taken_paths.taken_among.Goals as goal
use Rattle.unit_defs.proofs.taken_paths.taken_among.Goals.{then-branch+in_ok-copy+in_ok-insert-2, else-branch}

pub loop-path-preserved : goal.loop-path-preserved
loop-path-preserved c =
    let paths = c.args.paths.now in
    let i = c.loop-path.path-index in
    let p : Name = c.path-item.result in
    let test : Name → _ = λ q. takes_place (own_in c.args.units.now) (place_after c.args.front.now q) in
    let more = sym (take_more paths i p c.loop-path-test.true ∙ ap (λ (q : Name). take i paths ++ q ∷ []) (sym c.path-item.is)) in
    subst (λ (done : List Name). (q : Name) → has c.if-branch.taken.keys q ≡ (is_name q c.args.fstab || (has done q && test q))) more
    (elim c.if-branch.branch [
      | then-branch+in_ok-copy+in_ok-insert-2 b ↦ λ q.
          ap (λ taken. has taken.keys q) b.taken-is
          ∙ kept_more test c.args.fstab p (take i paths) (has c.loop-path.taken.keys) (has b.insert-then-branch.new.self.keys) c.loop-path.invariant
          (sym c.in_ok-takes_path.ensures ∙ b.if-branch.true) (λ q. b.in_ok-insert-2.ensures.updates.0 q ∙ ap (λ (k : Name). cond (is_name k q) true (has c.loop-path.taken.keys q)) b.in_ok-copy.ensures) q
      | else-branch b ↦ λ q.
          ap (λ taken. has taken.keys q) b.taken-is
          ∙ passed_more test c.args.fstab p (take i paths) (has c.loop-path.taken.keys) (has c.loop-path.taken.keys) c.loop-path.invariant
          (sym c.in_ok-takes_path.ensures ∙ b.if-branch.false) q
    ])
