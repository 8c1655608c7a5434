-- Which points belong to vertices with edges depends on which edges these are alone, not on their order.
use Rattle.nef_statement.proofs.Prelude.{◌≡◌, ◌↔◌, ℕ, List, inl, inr, subst, SpacePoint, Vector, Label, In, IsAt, Item, dir_of, NearLabel, is-at_one, SpotMark, Towards, Belongs, on_skeleton, off_skeleton, Vertex, Corner, IsCorner, Edges, IsEdgePoint, IsOnEdges, IsFacetPoint, Spot, at_vertex, on_edge, in_facet, IsSpot, IsSkeletonPoint, with_edges, AreAllEdges}
use Rattle.law_geometry.specs.complex.Complexes.{Edge}

-- the sorted edges are the edges
pub sorted-edges : (vs : List Vertex) (es : List Edge) → Edges vs es → AreAllEdges vs es
sorted-edges vs es E e = (E.complete e, λ (k, a). E.edges k e a)

-- each edge of the one list is one of the other
abbrev Within : List Edge → List Edge → Type 0
Within es fs = (k : ℕ) (e : Edge) → IsAt es k e → (j : ℕ) × IsAt fs j e

same-within : (vs : List Vertex) (es fs : List Edge) → AreAllEdges vs es → AreAllEdges vs fs → Within es fs
same-within vs es fs E F k e a = (F e).0 ((E e).1 (k, a))

module _ (vs : List Vertex) where
  edge-point : (es fs : List Edge) → Within es fs → (k : ℕ) (y : SpacePoint) → IsEdgePoint (with_edges vs es) k y → (j : ℕ) × IsEdgePoint (with_edges vs fs) j y
  edge-point es fs W k y (e, v, w, a, h, b) = let (j, c) = W k e a in (j, (e, v, w, c, record { low = h.low; high = h.high }, b))

  on-edges : (es fs : List Edge) → Within es fs → (y : SpacePoint) → IsOnEdges (with_edges vs es) y → IsOnEdges (with_edges vs fs) y
  on-edges es fs W y (k, inl a) = (k, inl a)
  on-edges es fs W y (k, inr a) = let (j, b) = edge-point es fs W k y a in (j, inr b)

  corner : (es fs : List Edge) (k : Corner) (v : Vertex) (x : Item) → IsCorner (with_edges vs es) k v x → IsCorner (with_edges vs fs) k v x
  corner es fs k v x c = record { vertex = c.vertex; item = c.item }

  facet-point : (es fs : List Edge) → Within fs es → (v : Vertex) (x : Item) (y : SpacePoint) → IsFacetPoint (with_edges vs es) v x y → IsFacetPoint (with_edges vs fs) v x y
  facet-point es fs V v x y f = record { off_edges = λ h. f.off_edges (on-edges fs es V y h); on_item = f.on_item; clear = λ q b h. f.clear q b (on-edges fs es V q h) }

  -- a spot with the other edges: at the same points, with the same mark and the same labels
  record Moved (es fs : List Edge) (o : Spot) (y : SpacePoint) : Type 0 where
    spot : Spot
    is : IsSpot (with_edges vs fs) spot y
    mark : (l : Label) → SpotMark (with_edges vs es) o l → SpotMark (with_edges vs fs) spot l
    toward : (d : Vector) (l : Label) → Towards (with_edges vs es) o d l → Towards (with_edges vs fs) spot d l

  moved : (es fs : List Edge) → Within es fs → Within fs es → (o : Spot) (y : SpacePoint) → IsSpot (with_edges vs es) o y → Moved es fs o y
  moved es fs W V (at_vertex k) y h = record { spot = at_vertex k; is = h; mark = λ l m. m; toward = λ d l t. t }
  moved es fs W V (in_facet k) y (v, x, c, f) = record {
    spot = in_facet k;
    is = (v, x, corner es fs k v x c, facet-point es fs V v x y f);
    mark = λ l (u, z, a, m). (u, z, corner es fs k u z a, m);
    toward = λ d l (u, z, a, t). (u, z, corner es fs k u z a, t);
  }
  moved es fs W V (on_edge k) y (e, v, w, a, h, b) =
      let (j, c) = W k e a in
      record {
        spot = on_edge j;
        is = (e, v, w, c, record { low = h.low; high = h.high }, b);
        mark = λ l (g, d, m). (e, c, subst (λ (f : Edge). f.mark ≡ l) (is-at_one es k g e d a) m);
        toward = λ d l (g, u, i, n, t).
            let same = is-at_one es k g e i a in
            (e, u, c, subst (λ (f : Edge). IsAt vs f.low u) same n, subst (λ (f : Edge). NearLabel u.map (dir_of u.map.svertices f.low_svertex) d l) same t);
      }

  skeleton : (es fs : List Edge) → Within es fs → Within fs es → (y : SpacePoint) → IsSkeletonPoint (with_edges vs es) y → IsSkeletonPoint (with_edges vs fs) y
  skeleton es fs W V y (o, h) = let m = moved es fs W V o y h in (m.spot, m.is)

  belongs : (es fs : List Edge) → Within es fs → Within fs es → (p : SpacePoint) → Belongs (with_edges vs es) p → Belongs (with_edges vs fs) p
  belongs es fs W V p (on_skeleton o h m) = let n = moved es fs W V o p h in on_skeleton n.spot n.is (n.mark In m)
  belongs es fs W V p (off_skeleton o y s t) =
      let n = moved es fs W V o y s.spot in
      off_skeleton n.spot y (record { off = λ h. s.off (skeleton fs es V W p h); spot = n.is; clear = λ q b h. s.clear q b (skeleton fs es V W q h) }) (n.toward _ In t)

  -- THE SAME EDGES, THE SAME POINTS
  pub belongs-edged : (es fs : List Edge) (p : SpacePoint) → AreAllEdges vs es → AreAllEdges vs fs → Belongs (with_edges vs es) p ↔ Belongs (with_edges vs fs) p
  belongs-edged es fs p E F =
      let W = same-within vs es fs E F in
      let V = same-within vs fs es F E in
      (belongs es fs W V p, belongs fs es V W p)
