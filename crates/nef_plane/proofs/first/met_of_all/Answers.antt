use Rattle.nef_plane.proofs.Prelude.{complex_of, AtSomeVertex, AtSomeEdge, met_of}
use Rattle.nef_plane.proofs.Nearest.{nearest-either}
use Rattle.nef_plane.proofs.first.met_of_all.Goals as goal

pub returns : goal.returns
returns g c =
    let ray = c.args.ray.now in let h = g.R.PlaneRay.plane ray in let p = g.R.PlaneRay.start ray in let d = g.R.PlaneRay.way ray in let C = complex_of c.args.c.now in
    record {
      nearest = nearest-either (met_of g.R.At.Stepped.reach) p d (AtSomeVertex C) (AtSomeEdge C h d) c.nearest_of_all-vertex.result c.nearest_of_all-edge.result c.nearer.result
          (c.nearer.ensures.nearer p d (g.met.R.PlaneRay.leads ray)) c.nearest_of_all-vertex.ensures.nearest c.nearest_of_all-edge.ensures.nearest;
    }
