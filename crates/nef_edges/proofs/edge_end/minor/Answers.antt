use Rattle.nef_edges.proofs.Products.{difference-fits, difference-exact, difference-small}
use Rattle.nef_edges.proofs.edge_end.minor.Goals as goal

pub overflow_sub-result : goal.overflow_sub-result
overflow_sub-result c = difference-fits c.args.a c.args.b c.args.e c.args.f c.requires.a_small c.requires.b_small c.requires.e_small c.requires.f_small

pub returns-clause-minor : goal.returns-clause-minor
returns-clause-minor c = difference-exact c.args.a c.args.b c.args.e c.args.f c.requires.a_small c.requires.b_small c.requires.e_small c.requires.f_small

pub returns-clause-small : goal.returns-clause-small
returns-clause-small c = difference-small c.args.a c.args.b c.args.e c.args.f c.requires.a_small c.requires.b_small c.requires.e_small c.requires.f_small
