-- The ties between the arcs of the ends of edges, one after another.
use Rattle.nef_facets.proofs.Prelude.{◌≡◌, ℕ, ◌<◌, ◌≤◌, List, [], ◌∷◌, ◌++◌, length, map, get_or, slice_get, Some, arith, refl, ap, sym, subst, IsAt, Arc, Map, is-at_one, map_of, is-at_get, Vertex, Edge, Complex, HasEnds, complex_of, edge_of, vertex_of, Tie, AreArcsAlong, edge_tie, IsTieFromArc, IsTieOfEdge, IsTieAlong, Any, Adds}
use Rattle.std.proofs.lemmas.List.{length-map}
use Rattle.nef_complex.specs.declared.complex.Complex.{Complex as ProgramComplex}
use Rattle.nef_index.specs.declared.skeleton.Edge.{Edge as ProgramEdge}
use Rattle.nef_complex.specs.declared.complex.Vertex.{Vertex as ProgramVertex}
use Rattle.nef_facets.proofs.Adding.{adds-one, adds-none, adds-as}
use Rattle.nef_space.proofs.Lists.{is-at_within, map-is_at}

-- a place in a list whose elements are images of others
pub image-below : {X Y : Type 0} (f : X → Y) (xs ys : List X) → ys ≡ xs → (n : ℕ) → length ys ≤ n → (k : ℕ) (y : Y) → IsAt (map f xs) k y → k < n
image-below f xs ys e n l k y a = let w = is-at_within (map f xs) k y a in let m = length-map xs f in let o = ap length e in omega (arith, l)

-- the element that a loop over a slice is at
pub at-slice : {X : Type 0} (xs ys : List X) → ys ≡ xs → (n : ℕ) → n < length ys → (d : X) → IsAt xs n (get_or ys n d)
at-slice {X} xs ys e n l d = subst (λ (zs : List X). IsAt zs n (get_or ys n d)) e (is-at_get ys n d l)

module _ (e : Edge) (i : ℕ) (a : Arc) (M : Map) (j : ℕ) (b : Arc) (l : IsAt M.arcs j b) where
  pub arc-added : AreArcsAlong e a b → (ts : List Tie) → Adds (IsTieFromArc e i a M j) ts (ts ++ edge_tie e i j ∷ [])
  arc-added s ts = adds-one (IsTieFromArc e i a M j) ts (edge_tie e i j) (b, l, s, refl) (λ t p. sym p.3)

  pub arc-none : (AreArcsAlong e a b → ⊥) → (ts : List Tie) → Adds (IsTieFromArc e i a M j) ts ts
  arc-none f ts = adds-none (IsTieFromArc e i a M j) ts (λ t p. f (subst (AreArcsAlong e a) (is-at_one M.arcs j p.0 b p.1 l) p.2))

pub arc-as : (e : Edge) (L M : Map) (i : ℕ) (a : Arc) → IsAt L.arcs i a → (xs ys : List Tie) → Adds (Any (IsTieFromArc e i a M)) xs ys → Adds (IsTieOfEdge e L M i) xs ys
arc-as e L M i a l xs ys = adds-as (Any (IsTieFromArc e i a M)) (IsTieOfEdge e L M i) xs ys
    (λ t p. (a, l, p)) (λ t p. subst (λ (r : Arc). Any (IsTieFromArc e i r M) t) (is-at_one L.arcs i p.0 a p.1 l) p.2)

pub edge-as : (C : Complex) (n : ℕ) (e : Edge) (v w : Vertex) → IsAt C.edges n e → HasEnds C e v w → (xs ys : List Tie) → Adds (Any (IsTieOfEdge e v.map w.map)) xs ys → Adds (IsTieAlong C n) xs ys
edge-as C n e v w a H xs ys = adds-as (Any (IsTieOfEdge e v.map w.map)) (IsTieAlong C n) xs ys (λ t p. (e, v, w, a, H, p)) back
  where
    back : (t : Tie) → IsTieAlong C n t → Any (IsTieOfEdge e v.map w.map) t
    back t (f, x, y, b, G, p) =
        let one = is-at_one C.edges n f e b a in
        let G' = subst (λ (r : Edge). HasEnds C r x y) one G in
        let low = is-at_one C.vertices e.low x v G'.low H.low in
        let high = is-at_one C.vertices e.high y w G'.high H.high in
        subst (λ (u : Vertex). Any (IsTieOfEdge e v.map u.map) t) high (subst (λ (u : Vertex). Any (IsTieOfEdge e u.map y.map) t) low (subst (λ (r : Edge). Any (IsTieOfEdge r x.map y.map) t) one p))

-- the ties of an edge that was read, with its ends
pub edge-read : (c : ProgramComplex) (n : ℕ) (e : ProgramEdge) → IsAt c.edges n e → (v w : ProgramVertex) → slice_get c.vertices e.low ≡ Some v → slice_get c.vertices e.high ≡ Some w
    → (xs ys : List Tie) → Adds (Any (IsTieOfEdge (edge_of e) (map_of v.map) (map_of w.map))) xs ys → Adds (IsTieAlong (complex_of c) n) xs ys
edge-read c n e a v w l h = edge-as (complex_of c) n (edge_of e) (vertex_of v) (vertex_of w) (map-is_at edge_of c.edges n e a) (record { low = map-is_at vertex_of c.vertices e.low v l; high = map-is_at vertex_of c.vertices e.high w h })
