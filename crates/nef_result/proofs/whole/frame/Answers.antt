use Rattle.nef_result.proofs.Prelude.{sym, subst, Set}
use Rattle.nef_result.proofs.Walls.{IsOneLabelSet, full-whole, empty-whole}
use Rattle.nef_result.proofs.Shown.{whole-vertices, whole-set}
use Rattle.nef_result.proofs.whole.frame.Goals as goal

pub pair-requires : goal.pair-requires
pair-requires c =
    let l = c.args.label in
    let s = whole-set l c.requires.some in
    record { vertices = (s.0, whole-vertices s.0 l s.1 c.in_ok-planes.planes c.in_ok-vertices.vertices c.in_ok-planes.ensures.planes c.in_ok-vertices.ensures.corners) }

pub returns-clause-full : goal.returns-clause-full
returns-clause-full c e =
    c.in_ok-complex.ensures.shows Set.full (whole-vertices Set.full c.args.label (subst (IsOneLabelSet Set.full) (sym e) full-whole) c.in_ok-planes.planes c.in_ok-vertices.vertices c.in_ok-planes.ensures.planes c.in_ok-vertices.ensures.corners)

pub returns-clause-empty : goal.returns-clause-empty
returns-clause-empty c e =
    c.in_ok-complex.ensures.shows Set.empty (whole-vertices Set.empty c.args.label (subst (IsOneLabelSet Set.empty) (sym e) empty-whole) c.in_ok-planes.planes c.in_ok-vertices.vertices c.in_ok-planes.ensures.planes c.in_ok-vertices.ensures.corners)
