use Rattle.nef_edges.proofs.Ways.{step-fits, step-exact, step-small}
use Rattle.nef_edges.proofs.along.step.Goals as goal

pub overflow_sub-result : goal.overflow_sub-result
overflow_sub-result c = step-fits c.args.a c.args.b c.requires.a_small c.requires.b_small

pub returns-clause-step : goal.returns-clause-step
returns-clause-step c = step-exact c.args.a c.args.b c.requires.a_small c.requires.b_small

pub returns-clause-small : goal.returns-clause-small
returns-clause-small c = step-small c.args.a c.args.b c.requires.a_small c.requires.b_small
