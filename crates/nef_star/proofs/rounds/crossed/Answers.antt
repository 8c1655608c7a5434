use Rattle.nef_star.proofs.Prelude.{triple, vector_of}
use Rattle.nef_star.proofs.Crossings.{to-side, four-turned, four-crossed}
use Rattle.nef_star.proofs.rounds.crossed.Goals as goal

pub begin_with_least-requires : goal.begin_with_least-requires
begin_with_least-requires c =
    let x = c.args.x.now in let y = c.args.y.now in let X = c.requires.first in let Y = c.requires.second in let s = c.in_ok-star.star in let b = c.is_plus-left.result in
    let left = c.is_plus-left.ensures.plus (triple (vector_of c.args.axis) (vector_of x.normal) (vector_of y.normal)) c.triple.ensures.triple in
    let p = to-side c.args.op c.args.axis c.requires.small x y X Y s b left c.requires.apart in
    record { turned = four-turned c.args.op c.args.axis c.requires.small x y X Y s b p c.in_ok-star.ensures.rays }

pub returns-clause-labels : goal.returns-clause-labels
returns-clause-labels c =
    let x = c.args.x.now in let y = c.args.y.now in let X = c.requires.first in let Y = c.requires.second in let s = c.in_ok-star.star in let b = c.is_plus-left.result in
    let left = c.is_plus-left.ensures.plus (triple (vector_of c.args.axis) (vector_of x.normal) (vector_of y.normal)) c.triple.ensures.triple in
    let p = to-side c.args.op c.args.axis c.requires.small x y X Y s b left c.requires.apart in
    four-crossed c.args.op c.args.axis c.requires.small x y X Y s b p c.in_ok-star.ensures.rays c.begin_with_least.new.star c.begin_with_least.ensures.star.turned c.begin_with_least.ensures.kept
