use Rattle.nef_locate.proofs.Prelude.{point_of}
use Rattle.nef_locate.proofs.Located.{dimension}
use Rattle.nef_locate.proofs.point.locate.Goals as goal

pub returns-in-Some-clause-place : goal.returns-in-Some-clause-place
returns-in-Some-clause-place c = let A = c.in-Some.ensures.at in A.has

pub returns-in-Some-clause-at : goal.returns-in-Some-clause-at
returns-in-Some-clause-at c = let A = c.in-Some.ensures.at in A.at

pub returns-in-Some-clause-dimension : goal.returns-in-Some-clause-dimension
returns-in-Some-clause-dimension c = λ s S. let A = c.in-Some.ensures.at in dimension s c.args.c.now S (point_of c.args.p.now) c.in-Some.place A.at

pub returns-in-None-clause-dimension : goal.returns-in-None-clause-dimension
returns-in-None-clause-dimension c = λ s S. dimension s c.args.c.now S (point_of c.args.p.now) c.in_volume.result c.in_volume.ensures.at
