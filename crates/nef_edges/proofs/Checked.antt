-- An edge whose ends are checked alone is matched.
use Rattle.nef_edges.proofs.Prelude.{◌≡◌, ◌<◌, List, map, ap, subst, ◌∙◌, toward, cross, opposite, IsZero, IsNormal, SameDirection, point_of, vector_of, Dir, IsAt, SVertex, svertex_of, Vertex, Edge, vertex_of, edge_of, IsMatched, AreMatchedEnds, dir-self}
use Rattle.nef_edges.proofs.Rays.{from_opposite}
use Rattle.nef_space.proofs.Lists.{map-is_at}

pub matched-ends : (v w : Vertex) (s t : SVertex) (b : Dir) → vector_of b ≡ opposite (vector_of t.dir) → s.dir ≡ b → IsNormal (vector_of s.dir) → IsZero (cross (toward (point_of v.point) (point_of w.point)) (vector_of s.dir)) → AreMatchedEnds v s w t
matched-ends v w s t b r d n z =
    let way : vector_of s.dir ≡ opposite (vector_of t.dir) = ap vector_of d ∙ r in
    record {
      leading = n;
      on_line = z;
      back = from_opposite (vector_of s.dir) (vector_of t.dir) (subst (SameDirection (vector_of s.dir)) way (dir-self (vector_of s.dir) s.dir.some));
    }

pub ends-matched : (vs : List Vertex) (e : Edge) (v w : Vertex) (s t : SVertex) → IsAt vs e.low v → IsAt v.map.svertices e.low_svertex s → IsAt vs e.high w → IsAt w.map.svertices e.high_svertex t → e.low < e.high → e.mark ≡ s.mark → AreMatchedEnds v s w t
    → IsMatched (map vertex_of vs) (edge_of e)
ends-matched vs e v w s t a b c d h m E = record {
  low_vertex = vertex_of v;
  high_vertex = vertex_of w;
  low_end = svertex_of s;
  high_end = svertex_of t;
  is_low = map-is_at vertex_of vs e.low v a;
  is_high = map-is_at vertex_of vs e.high w c;
  leaves = map-is_at svertex_of v.map.svertices e.low_svertex s b;
  arrives = map-is_at svertex_of w.map.svertices e.high_svertex t d;
  upward = h;
  leading = E.leading;
  on_line = E.on_line;
  back = E.back;
  mark = m;
}
