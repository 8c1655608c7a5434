use Rattle.nef_plane.proofs.Prelude.{complex_of, AtSomeVertex, AtSomeEdge, met_of}
use Rattle.nef_plane.proofs.Nearest.{nearest-either}
use Rattle.nef_plane.proofs.first.nearest_met.Goals as goal

pub nearest_vertex-vertex-requires-clause-listed : goal.nearest_vertex-vertex-requires-clause-listed
nearest_vertex-vertex-requires-clause-listed g c = c.requires.items.vertices

pub returns : goal.returns
returns g c =
    let ray = c.args.ray.now in let h = g.R.PlaneRay.plane ray in let p = g.R.PlaneRay.start ray in let d = g.R.PlaneRay.way ray in let C = complex_of c.args.c.now in
    record {
      nearest = nearest-either (met_of g.R.At.Stepped.reach) p d (AtSomeVertex C) (AtSomeEdge C h d) c.nearest_vertex-vertex.result c.nearest_edge-edge.result c.nearer.result
          (c.nearer.ensures.nearer p d (g.met.R.PlaneRay.leads ray)) c.nearest_vertex-vertex.ensures.nearest c.nearest_edge-edge.ensures.nearest;
    }
