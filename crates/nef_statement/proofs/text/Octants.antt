-- The maps at the corners of the frame, written out: three svertices and three arcs, by the axes. Each is the image of that at the lowest corner.
use Rattle.nef_statement.proofs.text.Prelude.{◌≡◌, ℕ, zero, suc, ◌+◌, pos, arith, refl, inl, inr, Bool, true, false, cond, List, [], ◌∷◌, map, length, get_or, Some, None, slice_get, subst, ints, Vector, vector, dot, IsNormal, Label, Out, InOrder, ArcBelow, Ordered, IsAt, MapVertex, Arc, Map, Item, arc_item, items, item_normal, IsPrimitive, VectorBelow, turned_vector, differ, is_odd, turned_svertex, IsTurnedArc, IsTurnedItem, IsTurnedMap, map-is_at, FrameCorner, ends, Axis, on_x, on_y, on_z, in-order, is_high_on, inward, axis_of}
use Rattle.law_geometry.specs.turns.Turned.{signed}
use Rattle.nef_statement.proofs.text.Corners.{each-axis, each-corner, each-slot, seek, count_from, each-listed}

-- ---- the axes
abbrev pub next : Axis → Axis
next on_x = on_y
next on_y = on_z
next on_z = on_x

abbrev pub axis_after : Axis → Axis
axis_after a = next (next a)

abbrev pub axes_down : List Axis
axes_down = on_z ∷ on_y ∷ on_x ∷ []

-- the place of the arc with an axis for its normal
abbrev pub slot : Axis → ℕ
slot on_z = 0
slot on_y = 1
slot on_x = 2

-- the direction inward along an axis
abbrev pub way : Axis → Bool → Vector
way on_x b = vector (inward b) (pos 0) (pos 0)
way on_y b = vector (pos 0) (inward b) (pos 0)
way on_z b = vector (pos 0) (pos 0) (inward b)

-- the axes in the order of their svertices, by the ends of the axes of x and y
abbrev pub order : Bool → Bool → List Axis
order true true = on_x ∷ on_y ∷ on_z ∷ []
order true false = on_x ∷ on_z ∷ on_y ∷ []
order false true = on_y ∷ on_z ∷ on_x ∷ []
order false false = axes_down

abbrev pub axis_slot : Bool → Bool → Axis → ℕ
axis_slot x y a = seek slot (slot a) (order x y)

-- ---- the map
abbrev pub svertex : FrameCorner → Axis → MapVertex
svertex k a = record { dir = way a (is_high_on k a); mark = Out; around = None }

-- the axes at which the arc begins and ends
abbrev pub source_of : FrameCorner → Axis → Axis
source_of k a = cond (differ (is_high_on k (next a)) (is_high_on k (axis_after a))) (axis_after a) (next a)

abbrev pub target_of : FrameCorner → Axis → Axis
target_of k a = cond (differ (is_high_on k (next a)) (is_high_on k (axis_after a))) (next a) (axis_after a)

abbrev pub arc : Label → FrameCorner → Axis → Arc
arc l k a = record {
  normal = axis_of a;
  source = axis_slot k.x k.y (source_of k a);
  target = axis_slot k.x k.y (target_of k a);
  pos = cond (is_high_on k a) Out l;
  mark = Out;
  neg = cond (is_high_on k a) l Out;
}

abbrev pub octant : Label → FrameCorner → Map
octant l k = record { mark = Out; svertices = map (svertex k) (order k.x k.y); arcs = map (arc l k) axes_down; sloop = None; ground = None }

-- ---- its svertices and arcs by their axes
pub each-svertex : (l : Label) (k : FrameCorner) (P : ℕ → MapVertex → Type 0) → ((a : Axis) → P (axis_slot k.x k.y a) (svertex k a)) → (n : ℕ) (v : MapVertex) → IsAt (octant l k).svertices n v → P n v
each-svertex l k = each-listed (svertex k) (axis_slot k.x k.y) (order k.x k.y) (each-corner (λ j. map (axis_slot j.x j.y) (order j.x j.y)) (λ j. count_from 0 (length (order j.x j.y))) refl k)

pub svertex-at : (l : Label) (k : FrameCorner) (a : Axis) → IsAt (octant l k).svertices (axis_slot k.x k.y a) (svertex k a)
svertex-at l k a = map-is_at (svertex k) (order k.x k.y) (axis_slot k.x k.y a) a (each-slot (λ j o. slice_get (order j.x j.y) (axis_slot j.x j.y o)) (λ j o. Some o) refl k a)

pub each-item : (l : Label) (k : FrameCorner) (P : ℕ → Item → Type 0) → ((a : Axis) → P (slot a) (arc_item (arc l k a))) → (n : ℕ) (x : Item) → IsAt (items (octant l k)) n x → P n x
each-item l k = each-listed (λ a. arc_item (arc l k a)) slot axes_down refl

pub axis-at : (a : Axis) → IsAt axes_down (slot a) a
axis-at a = (each-axis (λ o. slice_get axes_down (slot o)) (λ o. Some o) refl a)

pub arc-at : (l : Label) (k : FrameCorner) (a : Axis) → IsAt (octant l k).arcs (slot a) (arc l k a)
arc-at l k a = map-is_at (arc l k) axes_down (slot a) a (axis-at a)

pub item-at : (l : Label) (k : FrameCorner) (a : Axis) → IsAt (items (octant l k)) (slot a) (arc_item (arc l k a))
item-at l k a = map-is_at (λ o. arc_item (arc l k o)) axes_down (slot a) a (axis-at a)

-- ---- it is in order
pub axis-normal : (a : Axis) → IsNormal (axis_of a)
axis-normal on_x = record { first = omega (arith, ints); second = λ e. omega (arith, ints, e); third = λ e f. omega (arith, ints, e) }
axis-normal on_y = record { first = omega (arith, ints); second = λ e. omega (arith, ints); third = λ e f. omega (arith, ints, f) }
axis-normal on_z = record { first = omega (arith, ints); second = λ e. omega (arith, ints); third = λ e f. omega (arith, ints) }

svertices-ordered : (x y z : Bool) → InOrder (λ (u v : MapVertex). VectorBelow u.dir v.dir) (octant Out (ends x y z)).svertices
svertices-ordered true true z = in-order (λ (u v : MapVertex). VectorBelow u.dir v.dir) (octant Out (ends true true z)).svertices ((inl (omega (arith, ints)), (inl (omega (arith, ints)), tt)), ((inr (inl (refl, omega (arith, ints))), tt), (tt, tt)))
svertices-ordered true false z = in-order (λ (u v : MapVertex). VectorBelow u.dir v.dir) (octant Out (ends true false z)).svertices ((inl (omega (arith, ints)), (inl (omega (arith, ints)), tt)), ((inr (inl (refl, omega (arith, ints))), tt), (tt, tt)))
svertices-ordered false true z = in-order (λ (u v : MapVertex). VectorBelow u.dir v.dir) (octant Out (ends false true z)).svertices ((inr (inl (refl, omega (arith, ints))), (inl (omega (arith, ints)), tt)), ((inl (omega (arith, ints)), tt), (tt, tt)))
svertices-ordered false false z = in-order (λ (u v : MapVertex). VectorBelow u.dir v.dir) (octant Out (ends false false z)).svertices ((inr (inl (refl, omega (arith, ints))), (inl (omega (arith, ints)), tt)), ((inl (omega (arith, ints)), tt), (tt, tt)))

arcs-ordered : (l : Label) (k : FrameCorner) → InOrder ArcBelow (octant l k).arcs
arcs-ordered l k = in-order ArcBelow (octant l k).arcs ((inl (inr (inl (refl, omega (arith, ints)))), (inl (inl (omega (arith, ints))), tt)), ((inl (inl (omega (arith, ints))), tt), (tt, tt)))

pub octant-ordered : (l : Label) (k : FrameCorner) → Ordered (octant l k)
octant-ordered l k = record {
  dirs_lowest = each-svertex l k (λ n v. IsPrimitive v.dir) (λ a. record { by = way a (is_high_on k a); one = each-slot (λ j o. dot (way o (is_high_on j o)) (way o (is_high_on j o))) (λ j o. pos 1) refl k a });
  normals_lowest = each-item l k (λ n x. IsPrimitive (item_normal x)) (λ a. record { by = axis_of a; one = each-axis (λ o. dot (axis_of o) (axis_of o)) (λ o. pos 1) refl a });
  svertices = svertices-ordered k.x k.y k.z;
  arcs = arcs-ordered l k;
}

-- ---- it is the image of the lowest corner's map
abbrev pub lowest : FrameCorner
lowest = ends false false false

-- the turn that negates the axes that are at their high ends
abbrev pub turn_to : FrameCorner → ℕ
turn_to k = cond k.x 1 0 + cond k.y 2 0 + cond k.z 4 0

-- the axis with this place
abbrev pub axis_number : ℕ → Axis
axis_number zero = on_z
axis_number (suc zero) = on_y
axis_number (suc (suc n)) = on_x

module _ (l : Label) (k : FrameCorner) where
  abbrev pub vertex : ℕ → ℕ
  vertex i = axis_slot k.x k.y (axis_number i)

  abbrev pub vertex_back : ℕ → ℕ
  vertex_back j = slot (get_or (order k.x k.y) j on_x)

  pub svertex-turned : (a : Axis) → IsAt (octant l k).svertices (vertex (axis_slot false false a)) (turned_svertex (turn_to k) (svertex lowest a))
  svertex-turned a = subst (λ (v : MapVertex). IsAt (octant l k).svertices (vertex (axis_slot false false a)) v) (each-slot svertex (λ j o. turned_svertex (turn_to j) (svertex lowest o)) refl k a)
      (subst (λ (o : Axis). IsAt (octant l k).svertices (axis_slot k.x k.y o) (svertex k a)) (each-axis (λ o. o) (λ o. axis_number (axis_slot false false o)) refl a) (svertex-at l k a))

  pub svertex-from : (a : Axis) → (v : MapVertex) × IsAt (octant l lowest).svertices (vertex_back (axis_slot k.x k.y a)) v × (vertex (vertex_back (axis_slot k.x k.y a)) ≡ axis_slot k.x k.y a)
  svertex-from a = (
    svertex lowest a,
    subst (λ (i : ℕ). IsAt (octant l lowest).svertices i (svertex lowest a)) (each-slot (λ j o. axis_slot false false o) (λ j o. slot (get_or (order j.x j.y) (axis_slot j.x j.y o) on_x)) refl k a) (svertex-at l lowest a),
    each-slot (λ j o. axis_slot j.x j.y (axis_number (slot (get_or (order j.x j.y) (axis_slot j.x j.y o) on_x)))) (λ j o. axis_slot j.x j.y o) refl k a,
  )

  pub arc-turned : (a : Axis) → IsTurnedArc (turn_to k) vertex (is_high_on k (axis_number (slot a))) (arc l lowest a) (arc l k a)
  arc-turned a = record {
    normal = each-slot (λ j o. axis_of o) (λ j o. signed (is_high_on j (axis_number (slot o))) (turned_vector (turn_to j) (axis_of o))) refl k a;
    source = each-slot (λ j o. (arc Out j o).source) (λ j o. axis_slot j.x j.y (axis_number (cond (differ (is_odd (turn_to j)) (is_high_on j (axis_number (slot o)))) (arc Out lowest o).target (arc Out lowest o).source))) refl k a;
    target = each-slot (λ j o. (arc Out j o).target) (λ j o. axis_slot j.x j.y (axis_number (cond (differ (is_odd (turn_to j)) (is_high_on j (axis_number (slot o)))) (arc Out lowest o).source (arc Out lowest o).target))) refl k a;
    pos = each-slot (λ j o. (arc l j o).pos) (λ j o. cond (is_high_on j (axis_number (slot o))) (arc l lowest o).neg (arc l lowest o).pos) refl k a;
    mark = refl;
    neg = each-slot (λ j o. (arc l j o).neg) (λ j o. cond (is_high_on j (axis_number (slot o))) (arc l lowest o).pos (arc l lowest o).neg) refl k a;
  }

  abbrev pub octant_turned : IsTurnedMap (turn_to k) (octant l lowest) (octant l k)
  octant_turned = record {
    vertex = vertex;
    vertex_back = vertex_back;
    item = λ i. i;
    item_back = λ j. j;
    flip = λ i. is_high_on k (axis_number i);
    svertices = each-svertex l lowest (λ n v. IsAt (octant l k).svertices (vertex n) (turned_svertex (turn_to k) v)) svertex-turned;
    svertices_from = each-svertex l k (λ n u. (v : MapVertex) × IsAt (octant l lowest).svertices (vertex_back n) v × (vertex (vertex_back n) ≡ n)) svertex-from;
    items_there = each-item l lowest (λ n x. (y : Item) × IsAt (items (octant l k)) n y × IsTurnedItem (turn_to k) vertex (is_high_on k (axis_number n)) x y) (λ a. (arc_item (arc l k a), item-at l k a, arc-turned a));
    items_from = each-item l k (λ n y. (x : Item) × IsAt (items (octant l lowest)) n x × (n ≡ n)) (λ a. (arc_item (arc l lowest a), item-at l lowest a, refl));
    normals = each-item l k (λ n x. IsNormal (item_normal x)) axis-normal;
    mark = refl;
    same_ground = refl;
  }
