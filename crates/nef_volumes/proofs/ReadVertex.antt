-- The program's vertices and edges as those of its complex.
use Rattle.nef_volumes.proofs.Prelude.{◌≡◌, ℕ, ◌<◌, length, Some, slice_get, arith, length-map, IsAt, is-at_one, map-is_at, is-at_within, Vertex, Edge, vertex_of, edge_of, complex_of}
use Rattle.nef_complex.specs.declared.complex.Complex.{Complex}
use Rattle.nef_index.specs.declared.skeleton.Edge.{Edge as ProgramEdge}
use Rattle.nef_complex.specs.declared.complex.Vertex.{Vertex as ProgramVertex}

pub vertex-there : (c : Complex) (k : ℕ) (u : ProgramVertex) → slice_get c.vertices k ≡ Some u → IsAt (complex_of c).vertices k (vertex_of u)
vertex-there c k u e = map-is_at vertex_of c.vertices k u e

pub vertex-read : (c : Complex) (k : ℕ) (u : ProgramVertex) (v : Vertex) → slice_get c.vertices k ≡ Some u → IsAt (complex_of c).vertices k v → v ≡ vertex_of u
vertex-read c k u v e a = is-at_one (complex_of c).vertices k v (vertex_of u) a (vertex-there c k u e)

pub vertex-within : (c : Complex) (k : ℕ) (v : Vertex) → IsAt (complex_of c).vertices k v → k < length c.vertices
vertex-within c k v a = let l = is-at_within (complex_of c).vertices k v a in let e = length-map c.vertices vertex_of in omega (arith, l, e)

pub edge-there : (c : Complex) (k : ℕ) (e : ProgramEdge) → slice_get c.edges k ≡ Some e → IsAt (complex_of c).edges k (edge_of e)
edge-there c k e i = map-is_at edge_of c.edges k e i

pub edge-read : (c : Complex) (k : ℕ) (e : ProgramEdge) (f : Edge) → slice_get c.edges k ≡ Some e → IsAt (complex_of c).edges k f → f ≡ edge_of e
edge-read c k e f i a = is-at_one (complex_of c).edges k f (edge_of e) a (edge-there c k e i)

pub edge-within : (c : Complex) (k : ℕ) (e : Edge) → IsAt (complex_of c).edges k e → k < length c.edges
edge-within c k e a = let l = is-at_within (complex_of c).edges k e a in let i = length-map c.edges edge_of in omega (arith, l, i)
