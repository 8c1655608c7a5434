use Rattle.nef_edges.proofs.Products.{scaled-fits, scaled-exact}
use Rattle.nef_edges.proofs.along.scaled.Goals as goal

pub overflow_mul-result : goal.overflow_mul-result
overflow_mul-result c = scaled-fits c.args.n c.args.m c.requires.n_small c.requires.m_small

pub returns : goal.returns
returns c = record { scaled = scaled-exact c.args.n c.args.m c.requires.n_small c.requires.m_small }
