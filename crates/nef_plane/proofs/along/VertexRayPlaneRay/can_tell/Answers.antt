use Rattle.nef_plane.proofs.Prelude.{refl, form_of, vector_of}
use Rattle.nef_plane.proofs.Listed.{lies-serves, vertex-serves, edge-serving, met-serves}
use Rattle.nef_plane.proofs.along.VertexRayPlaneRay.can_tell.Goals as goal

pub returns-in-AtVertex : goal.returns-in-AtVertex
returns-in-AtVertex c = record {
  told = λ t. vertex-serves c.args.c.now (form_of c.args.self.now.plane.now) c.args.meet _ c.in-AtVertex.is c.requires.within;
  off = λ f. absurd (f refl);
}

pub returns-in-AtEdge : goal.returns-in-AtEdge
returns-in-AtEdge c =
    let ray = c.args.self.now in let C = c.args.c.now in let h = form_of ray.plane.now in let m = c.args.meet in
    record {
      told = λ t. lies-serves C h m (c.lies_in.ensures.lies.0 t);
      off = λ f n q w x. f (c.lies_in.ensures.lies.1 (edge-serving C h m _ c.in-AtEdge.is (met-serves C h (vector_of ray.direction.now) n q m x)));
    }
