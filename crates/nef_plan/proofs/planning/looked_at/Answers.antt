use Rattle.nef_plan.proofs.planning.looked_at.Goals as goal

pub returns-in-Make-clause-looked_at : goal.returns-in-Make-clause-looked_at
returns-in-Make-clause-looked_at c k = rw c.in-Make.is (c.operands.ensures.operands k)

pub returns-in-Make-clause-within : goal.returns-in-Make-clause-within
returns-in-Make-clause-within c n among = let is = rw c.in-Make.is at among in c.operands.ensures.below n is.1

pub returns-in-Ask-clause-within : goal.returns-in-Ask-clause-within
returns-in-Ask-clause-within c n among = let is = rw c.in-Ask.is at among in c.asked_nodes.ensures.within n is
