-- The corners are the vertices of a set that holds all of the frame or nothing of it.
use Rattle.nef_result.proofs.Prelude.{◌≡◌, ℕ, zero, suc, pos, neg_ℤ, arith, refl, Bool, true, false, subst, List, map, ints, Lies, lies-left, SpacePoint, Form, form, SamePoint, IsPointBelow, half_side, Set, halves, IsVertex, Label, Out, Not, In, point_of, form_of, Plane, frame, carriers, IsAt, Cone, Least, Ordered, InOrder, is-at_map, map-is_at, Edge as PlainEdge, Edges, SamePlane, Carriers, Shows, vertex_of, AreVerticesOf, Vertex, FrameCorner, ends, all_ends, IsFrameCornerOf, AreFrameCorners, sorted_sides, is-at_none, is-at_first}
use Rattle.law_geometry.specs.complex.Complexes.{Vertex as PlainVertex}
use Rattle.nef_result.proofs.Walls.{Axis, on_x, on_y, on_z, wall, wall-listed, listed-wall, IsOneLabelSet, full-whole, empty-whole}
use Rattle.nef_result.proofs.CornerVertices.{corner-vertex, vertex-corner}
use Rattle.nef_result.proofs.CornerCones.{corner-cone}
use Rattle.nef_result.proofs.InOrder.{sides-order, same-corner, vertex-at, corner-at, listed, corners-sorted}
use Rattle.nef_smap.proofs.SortedOnce.{in-order_map}

-- ---- the carriers
-- the normal form of a side's plane
abbrev planed : Axis → Bool → Form
planed on_x true = form (pos 1) (pos 0) (pos 0) (neg_ℤ (pos half_side))
planed on_x false = form (pos 1) (pos 0) (pos 0) (pos half_side)
planed on_y true = form (pos 0) (pos 1) (pos 0) (neg_ℤ (pos half_side))
planed on_y false = form (pos 0) (pos 1) (pos 0) (pos half_side)
planed on_z true = form (pos 0) (pos 0) (pos 1) (neg_ℤ (pos half_side))
planed on_z false = form (pos 0) (pos 0) (pos 1) (pos half_side)

side-plane : (a : Axis) (b : Bool) → SamePlane (planed a b) (wall a b)
side-plane on_x true = record { is_plane = (λ z. let e = z.0 in omega (arith, ints)); is_other_plane = (λ z. let e = z.0 in omega (arith, ints)); ab = refl; ac = refl; ad = refl; bc = refl; bd = refl; cd = refl }
side-plane on_x false = record { is_plane = (λ z. let e = z.0 in omega (arith, ints)); is_other_plane = (λ z. let e = z.0 in omega (arith, ints)); ab = refl; ac = refl; ad = refl; bc = refl; bd = refl; cd = refl }
side-plane on_y true = record { is_plane = (λ z. let e = z.1 in omega (arith, ints)); is_other_plane = (λ z. let e = z.1 in omega (arith, ints)); ab = refl; ac = refl; ad = refl; bc = refl; bd = refl; cd = refl }
side-plane on_y false = record { is_plane = (λ z. let e = z.1 in omega (arith, ints)); is_other_plane = (λ z. let e = z.1 in omega (arith, ints)); ab = refl; ac = refl; ad = refl; bc = refl; bd = refl; cd = refl }
side-plane on_z true = record { is_plane = (λ z. let e = z.2 in omega (arith, ints)); is_other_plane = (λ z. let e = z.2 in omega (arith, ints)); ab = refl; ac = refl; ad = refl; bc = refl; bd = refl; cd = refl }
side-plane on_z false = record { is_plane = (λ z. let e = z.2 in omega (arith, ints)); is_other_plane = (λ z. let e = z.2 in omega (arith, ints)); ab = refl; ac = refl; ad = refl; bc = refl; bd = refl; cd = refl }

side-at : (k : ℕ) (h : Form) → IsAt sorted_sides k h → (a : Axis) × (b : Bool) × (planed a b ≡ h)
side-at zero h e = (on_z, true, is-at_first e)
side-at (suc zero) h e = (on_z, false, is-at_first e)
side-at (suc (suc zero)) h e = (on_y, true, is-at_first e)
side-at (suc (suc (suc zero))) h e = (on_y, false, is-at_first e)
side-at (suc (suc (suc (suc zero)))) h e = (on_x, true, is-at_first e)
side-at (suc (suc (suc (suc (suc zero))))) h e = (on_x, false, is-at_first e)
side-at (suc (suc (suc (suc (suc (suc k)))))) h e = absurd (is-at_none e)

place-of_side : (a : Axis) (b : Bool) → (k : ℕ) × IsAt sorted_sides k (planed a b)
place-of_side on_z true = (0, refl)
place-of_side on_z false = (1, refl)
place-of_side on_y true = (2, refl)
place-of_side on_y false = (3, refl)
place-of_side on_x true = (4, refl)
place-of_side on_x false = (5, refl)

side-carriers : (s : Set) (l : Label) → IsOneLabelSet s l → Carriers s sorted_sides
side-carriers s l W = record { each = λ k h e. each h (side-at k h e); all = λ f i. all f (listed-wall f (W.only f i)); ordered = sides-order }
  where
    each : (h : Form) → (a : Axis) × (b : Bool) × (planed a b ≡ h) → (f : Form) × Lies (carriers s) f × SamePlane h f
    each h (a, b, e) = (wall a b, lies-left frame (halves s) (wall a b) (wall-listed a b), subst (λ (g : Form). SamePlane g (wall a b)) e (side-plane a b))

    all : (f : Form) → (a : Axis) × (b : Bool) × (wall a b ≡ f) → (k : ℕ) × (h : Form) × IsAt sorted_sides k h × SamePlane h f
    all f (a, b, e) = let k = place-of_side a b in (k.0, planed a b, k.1, subst (SamePlane (planed a b)) e (side-plane a b))

-- ---- the vertices
module _ (s : Set) (l : Label) (W : IsOneLabelSet s l) (hs : List Plane) (vs : List Vertex) (H : map form_of hs ≡ sorted_sides) (V : AreFrameCorners l all_ends vs) where
  -- what holds of each vertex of the program holds of each vertex
  each-vertex : (P : PlainVertex → Type 0) → ((k : FrameCorner) (v : Vertex) → IsFrameCornerOf l k v → P (vertex_of v)) → (n : ℕ) (v : PlainVertex) → IsAt (map vertex_of vs) n v → P v
  each-vertex P f n v a =
      let u = is-at_map vertex_of vs n v a in
      let k = vertex-at l all_ends vs V n u.0 u.1 in
      subst P u.2 (f k.0 u.0 k.2)

  complete : (p : SpacePoint) → IsVertex s p → (n : ℕ) × (v : PlainVertex) × IsAt (map vertex_of vs) n v × SamePoint v.point p
  complete p i =
      let k = vertex-corner s l W p i in
      let n = listed k.0.x k.0.y k.0.z in
      let v = corner-at l all_ends vs V n.0 (ends k.0.x k.0.y k.0.z) n.1 in
      (n.0, vertex_of v.0, map-is_at vertex_of vs n.0 v.0 v.1, same-corner k.0 (point_of v.0.point) p v.2.place k.1)

  placed : InOrder (λ u v. IsPointBelow u.point v.point) (map vertex_of vs)
  placed = in-order_map (λ u v. IsPointBelow u.point v.point) vertex_of vs (corners-sorted l vs V)

  shown : (es : List PlainEdge) → Edges (map vertex_of vs) es → Shows s (record { carriers = map form_of hs; vertices = map vertex_of vs; edges = es })
  shown es E = record {
    vertices = each-vertex (λ v. IsVertex s v.point) (λ k v c. corner-vertex s k (point_of v.point) c.place);
    complete = complete;
    ordered = placed;
    cones = each-vertex (λ v. Cone v.map s v.point) (λ k v c. corner-cone s l k v W c);
    least = each-vertex (λ v. Least v.map) (λ k v c. c.map.least);
    maps_ordered = each-vertex (λ v. Ordered v.map) (λ k v c. c.map.sphere_map.ordered);
    edges = E;
    carriers = rw H (side-carriers s l W);
  }

  pub whole-vertices : AreVerticesOf s hs vs
  whole-vertices = record {
    sorted = corners-sorted l vs V;
    maps = λ n v a. (vertex-at l all_ends vs V n v a).2.map;
    shown = shown;
  }

-- the set of a label
pub whole-set : (l : Label) → (l ≡ Out → ⊥) → (s : Set) × IsOneLabelSet s l
whole-set Out n = absurd (n refl)
whole-set Not n = (Set.empty, empty-whole)
whole-set In n = (Set.full, full-whole)
