use Rattle.etc_farm.proofs.planning.plan_fault.Goals as goal

pub returns-in-Entry-clause-refused : goal.returns-in-Entry-clause-refused
returns-in-Entry-clause-refused c why e = cc
