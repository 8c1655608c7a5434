use Rattle.nef_ops.proofs.Prelude.{[], IfOk-weaker, point_of, unary_set}
use Rattle.nef_ops.proofs.Gathered.{vertex-right}
use Rattle.nef_ops.proofs.operations.UnaryJobJob.work.Goals as goal

pub changed-requires : goal.changed-requires
changed-requires c =
    let S = c.requires.workable in let m = S.1.maps c.args.job c.at-vertex.result.now c.at-vertex.ensures.element in
    record { map = m.sphere_map }

pub returns : goal.returns
returns c =
    let j = c.args.self.now in let v = c.at-vertex.result.now in
    IfOk-weaker c.of.result _ _ (λ o told s S.
    vertex-right s j.complex.now S j.op c.args.job v c.in_ok-map.map o c.at-vertex.ensures.element
    (λ p. told [] [] (unary_set j.op s) p) (c.in_ok-map.ensures.cone s (point_of v.point))) c.of.ensures.outcome
