use Rattle.nef_locate.proofs.Prelude.{sym, subst, form_of, vector_of, IsCornerAt, vertex_of, edge_of, complex_of, meet_of, HasMet}
use Rattle.nef_complex.specs.declared.complex.PlaneMeet.{PlaneMeet}
use Rattle.nef_locate.proofs.EdgeFound.{low-within, low-svertex}
use Rattle.nef_locate.proofs.FacetFound.{as-none}
use Rattle.nef_locate.proofs.ItemsFound.{vertex-some, vertex-none, edge-some, edge-none}
use Rattle.nef_locate.proofs.facet.corner_toward.Goals as goal
use Rattle.nef_smap.proofs.Lists.{map-within}

pub at-requires : goal.at-requires
at-requires c =
    let p = subst (λ (m : PlaneMeet). HasMet (complex_of c.args.c.now) (meet_of m)) c.in-AtVertex.is c.requires.met in
    record { within = map-within vertex_of c.args.c.now.vertices c.in-AtVertex.vertex p.0 p.1 }

pub item_through-requires : goal.item_through-requires
item_through-requires c = record { map = (c.requires.shows.1.maps c.in-AtVertex.vertex c.at.result.now c.at.ensures.element).sphere_map }

pub returns-in_err-item-in-AtVertex : goal.returns-in_err-item-in-AtVertex
returns-in_err-item-in-AtVertex c =
    let C = c.args.c.now in let h = form_of c.args.h.now in let d = vector_of c.args.d.now in
    record {
      corner = as-none _ _ c.from_residual.result c.from_residual.ensures (λ k x.
          vertex-none C h (vector_of c.plane_normal-normal.result) d c.plane_normal-normal.ensures.normal c.in-AtVertex.vertex c.at.result.now c.at.ensures.element c.in_err-item-in-AtVertex.ensures.item k
          (subst (λ (m : PlaneMeet). IsCornerAt (complex_of C) h d (meet_of m) k) c.in-AtVertex.is x));
    }

pub returns-in_ok-item-in-AtVertex : goal.returns-in_ok-item-in-AtVertex
returns-in_ok-item-in-AtVertex c =
    let C = c.args.c.now in let h = form_of c.args.h.now in let d = vector_of c.args.d.now in
    record {
      corner = subst (λ (m : PlaneMeet). IsCornerAt (complex_of C) h d (meet_of m) (record { vertex = c.in-AtVertex.vertex; item = c.in_ok-item-in-AtVertex.item })) (sym c.in-AtVertex.is)
          (vertex-some C h (vector_of c.plane_normal-normal.result) d c.plane_normal-normal.ensures.normal c.in-AtVertex.vertex c.at.result.now c.at.ensures.element c.in_ok-item-in-AtVertex.item c.in_ok-item-in-AtVertex.ensures.item);
    }

pub at-edge-requires : goal.at-edge-requires
at-edge-requires c =
    let p = subst (λ (m : PlaneMeet). HasMet (complex_of c.args.c.now) (meet_of m)) c.in-AtEdge.is c.requires.met in
    record { within = map-within edge_of c.args.c.now.edges c.in-AtEdge.number p.0 p.1 }

pub at-requires-in-AtEdge : goal.at-requires-in-AtEdge
at-requires-in-AtEdge c = record { within = low-within c.requires.shows.0 c.args.c.now c.requires.shows.1 c.in-AtEdge.number c.at-edge.result.now c.at-edge.ensures.element }

pub arc_beside-requires : goal.arc_beside-requires
arc_beside-requires c = record { within = low-svertex c.requires.shows.0 c.args.c.now c.requires.shows.1 c.in-AtEdge.number c.at-edge.result.now c.at-edge.ensures.element c.at-in-AtEdge.result.now c.at-in-AtEdge.ensures.element }

pub returns-in_err-item-in-AtEdge : goal.returns-in_err-item-in-AtEdge
returns-in_err-item-in-AtEdge c =
    let C = c.args.c.now in let h = form_of c.args.h.now in let d = vector_of c.args.d.now in
    record {
      corner = as-none _ _ c.from_residual-in_err-item-in-AtEdge.result c.from_residual-in_err-item-in-AtEdge.ensures (λ k x.
          edge-none C h (vector_of c.plane_normal-normal.result) d c.plane_normal-normal.ensures.normal c.in-AtEdge.number c.at-edge.result.now c.at-edge.ensures.element c.at-in-AtEdge.result.now c.at-in-AtEdge.ensures.element c.args.d.now.some
          c.in_err-item-in-AtEdge.ensures.arc k (subst (λ (m : PlaneMeet). IsCornerAt (complex_of C) h d (meet_of m) k) c.in-AtEdge.is x));
    }

pub returns-in_ok-item-in-AtEdge : goal.returns-in_ok-item-in-AtEdge
returns-in_ok-item-in-AtEdge c =
    let C = c.args.c.now in let h = form_of c.args.h.now in let d = vector_of c.args.d.now in
    record {
      corner = subst (λ (m : PlaneMeet). IsCornerAt (complex_of C) h d (meet_of m) (record { vertex = c.at-edge.result.now.low; item = c.in_ok-item-in-AtEdge.item })) (sym c.in-AtEdge.is)
          (edge-some C h (vector_of c.plane_normal-normal.result) d c.plane_normal-normal.ensures.normal c.in-AtEdge.number c.at-edge.result.now c.at-edge.ensures.element c.at-in-AtEdge.result.now c.at-in-AtEdge.ensures.element c.args.d.now.some
          c.in_ok-item-in-AtEdge.item c.in_ok-item-in-AtEdge.ensures.arc);
    }
