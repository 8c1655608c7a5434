-- Every set whose carriers are planes has a complex that shows it: its vertices are finitely many, each point has a least map, and so there are all edges.
use Rattle.nef_statement.proofs.text.existence.Prelude.{◌≡◌, ℕ, refl, sym, List, subst, map, at, Lies, SpacePoint, Form, normal_of, SamePoint, IsPointBelow, Set, IsVertex, IsDirection, carriers, point_below-trans, same-point_sym, all-vertices, InOrder, Least, Ordered, Cone, IsAt, Mapped, map-list, Sorted, sort, chain-order, same-point_trans, Vertex, Edge, Edges, SamePlane, Carriers, Shows, AreVertices, EverySetHasVertices, VerticesHaveEdges, HasPlanes, EverySetIsShown, lies-at, at-lies}
use Rattle.law_geometry.proofs.sphere.cones.Cones.{point-map}
use Rattle.nef_edges.proofs.Existing.{edges-exist}
use Rattle.nef_statement.proofs.text.existence.Orders.{form-trans}
use Rattle.law_geometry.proofs.turns.ListsExist.{place-either, form-either, FormBelow}
use Rattle.nef_space.proofs.Elementary.{times-comm, same-itself}

-- ---- vertices
pub record IsVertexAt (s : Set) (p : SpacePoint) (v : Vertex) : Type 0 where
  pub point : v.point ≡ p
  pub cone : Cone v.map s v.point
  pub least : Least v.map
  pub ordered : Ordered v.map

vertex-at : (s : Set) (p : SpacePoint) → (v : Vertex) × IsVertexAt s p v
vertex-at s p = let m = point-map s p in (record { point = p; map = m.0 }, record { point = refl; cone = m.1; least = m.2; ordered = m.3 })

abbrev pub AreAllVertices : Set → List SpacePoint → Type 0
AreAllVertices s ps = (q : SpacePoint) → Lies ps q → IsVertex s q

abbrev pub Complete : Set → List SpacePoint → Type 0
Complete s ps = (p : SpacePoint) → IsVertex s p → (q : SpacePoint) × Lies ps q × SamePoint q p

-- the vertices of the set, each at one of the points of the list
pub record VerticesAt (s : Set) (ps : List SpacePoint) : Type 0 where
  pub list : List Vertex
  pub are : AreVertices s list
  pub point : (k : ℕ) (v : Vertex) → IsAt list k v → Lies ps v.point

pub vertices-at : (s : Set) (ps : List SpacePoint) → AreAllVertices s ps → Complete s ps → VerticesAt s ps
vertices-at s ps sound all = then (sort IsPointBelow SamePoint (λ p q r. point_below-trans p q r) same-itself place-either ps)
  where
    then : Sorted IsPointBelow SamePoint ps → VerticesAt s ps
    then r = last (map-list r.list (λ k p v. IsVertexAt s p v) (λ k p l. vertex-at s p))
      where
        order : InOrder IsPointBelow r.list
        order = chain-order IsPointBelow SamePoint r.list r.chain

        last : Mapped r.list (λ k p v. IsVertexAt s p v) → VerticesAt s ps
        last m = record {
          list = m.list;
          are = record {
            vertices = λ k v a. let f = m.sound k v a in subst (IsVertex s) (sym f.2.point) (sound f.0 (r.sound f.0 (at-lies r.list k f.0 f.1)));
            complete = λ p h.
                let f = all p h in
                let g = r.all f.0 f.1 in
                let k = lies-at r.list g.0 g.1 in
                let v = m.all k.0 g.0 k.1 in
                (k.0, v.0, v.1, subst (λ q. SamePoint q p) (sym v.2.point) (same-point_trans g.0 f.0 p (same-point_sym f.0 g.0 g.2) f.2));
            ordered = λ i k u v l a b.
                let f = m.sound i u a in
                let g = m.sound k v b in
                subst (λ q. IsPointBelow q v.point) (sym f.2.point) (subst (λ q. IsPointBelow f.0 q) (sym g.2.point) (order i k f.0 g.0 l f.1 g.1));
            cones = λ k v a. (m.sound k v a).2.cone;
            least = λ k v a. (m.sound k v a).2.least;
            maps_ordered = λ k v a. (m.sound k v a).2.ordered;
          };
          point = λ k v a. let f = m.sound k v a in subst (Lies ps) (sym f.2.point) (r.sound f.0 (at-lies r.list k f.0 f.1));
        }

pub vertices-exist : EverySetHasVertices
vertices-exist s = let a = all-vertices s in let r = vertices-at s a.0 a.1 a.2 in (r.list, r.are)

-- ---- edges
pub all-edges : VerticesHaveEdges
all-edges vs ordered shaped = edges-exist vs ordered shaped

pub vertex_edges : (s : Set) (vs : List Vertex) → AreVertices s vs → (es : List Edge) × Edges vs es
vertex_edges s vs V = edges-exist vs V.ordered (λ k v a. (V.cones k v a).valid.shaped)

-- ---- carriers
plane-itself : (f : Form) → IsDirection (normal_of f) → SamePlane f f
plane-itself f i = record { is_plane = i; is_other_plane = i; ab = times-comm f.a f.b; ac = times-comm f.a f.c; ad = times-comm f.a f.d; bc = times-comm f.b f.c; bd = times-comm f.b f.d; cd = times-comm f.c f.d }

pub carriers-exist : (s : Set) → HasPlanes s → (hs : List Form) × Carriers s hs
carriers-exist s planes = by (sort FormBelow (λ g h. g ≡ h) form-trans (λ g. refl) form-either (carriers s))
  where
    by : Sorted FormBelow (λ g h. g ≡ h) (carriers s) → (hs : List Form) × Carriers s hs
    by r = (
      r.list,
      record {
        each = λ k h a. let l = r.sound h (at-lies r.list k h a) in (h, l, plane-itself h (planes h l));
        all = λ f l. let g = r.all f l in let k = lies-at r.list g.0 g.1 in (k.0, g.0, k.1, subst (λ h. SamePlane h f) g.2 (plane-itself f (planes f l)));
        ordered = chain-order FormBelow (λ g h. g ≡ h) r.list r.chain;
      },
    )

-- vertices, their edges and carriers are a complex that shows the set
pub shown-by : (s : Set) (hs : List Form) (vs : List Vertex) (es : List Edge) → Carriers s hs → AreVertices s vs → Edges vs es → Shows s (record { carriers = hs; vertices = vs; edges = es })
shown-by s hs vs es H V E = record {
  vertices = V.vertices;
  complete = V.complete;
  ordered = V.ordered;
  cones = V.cones;
  least = V.least;
  maps_ordered = V.maps_ordered;
  edges = E;
  carriers = H;
}

-- EVERY SET IS SHOWN
pub shown : EverySetIsShown
shown s planes =
    let (vs, V) = vertices-exist s in
    let (es, E) = vertex_edges s vs V in
    let (hs, H) = carriers-exist s planes in
    (record { carriers = hs; vertices = vs; edges = es }, shown-by s hs vs es H V E)
