use Rattle.std.proofs.Common.{subst, sym}
use Rattle.generations.specs.declared.moving.Move.{Move}
use Rattle.generations.proofs.MoveNumberLemmas.{IsFound, set_found}
use Rattle.generations.proofs.moving.number_to.Goals as goal

pub returns-in-Set-clause-moved : goal.returns-in-Set-clause-moved
returns-in-Set-clause-moved c =
    (subst (λ (to : Move). IsFound to c.args.gens.now c.args.system.now c.number_for.result) (sym c.in-Set.is) (set_found c.args.gens.now c.args.system.now c.number_for.result c.number_for.ensures)).moved

pub returns-in-Set-clause-further : goal.returns-in-Set-clause-further
returns-in-Set-clause-further c =
    (subst (λ (to : Move). IsFound to c.args.gens.now c.args.system.now c.number_for.result) (sym c.in-Set.is) (set_found c.args.gens.now c.args.system.now c.number_for.result c.number_for.ensures)).further

pub returns-in-Set-clause-full : goal.returns-in-Set-clause-full
returns-in-Set-clause-full c =
    (subst (λ (to : Move). IsFound to c.args.gens.now c.args.system.now c.number_for.result) (sym c.in-Set.is) (set_found c.args.gens.now c.args.system.now c.number_for.result c.number_for.ensures)).full
