use Rattle.nef_ray.proofs.Prelude.{subst, Germ, vector_of, point_of, map_of, label-unique}
use Rattle.nef_ray.proofs.change.label_after.Goals as goal

pub returns : goal.returns
returns c = record {
  germ = λ s S.
      let d = vector_of c.args.d.now in
      let K = c.in_ok-map.ensures.cone s S in
      let g = K.labels d c.args.d.now.some in
      subst (Germ s (point_of c.args.p.now) d) (label-unique (map_of c.in_ok-map.map) K.valid d g.0 c.label_at.result g.1 c.label_at.ensures.label) g.2;
}
