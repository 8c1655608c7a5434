-- The links of the complexes of the whole frame and of the empty set: items in one side of the frame are linked, and so are all sides inward.
use Rattle.nef_statement.proofs.text.Prelude.{◌≡◌, ℕ, ◌+◌, ◌==◌, ◌<◌, ℤ, pos, ◌+ℤ◌, ◌*ℤ◌, ◌<ℤ◌, arith, refl, sym, ap, inl, inr, Bool, true, false, cond, eqb, List, [], ◌∷◌, Some, slice_get, subst, ints, eq-eqb, Chained, Form, Vector, dot, blend, SameDirection, Label, Out, IsAt, MapVertex, Map, Item, arc_item, OnItem, IsFree, Side, pos_item, neg_item, HasSide, IsClear, Reaches, Sees, directly, InOneSface, here, link, dot-comb, turned_vector, unturned_vector, differ, is_odd, item-on, image, image_back, chain-here, chain-link, chain-trans, chain-turned, Leads, NextCorner, next-linked, Complex, Corner, VertexSide, HasSideLabel, FacetLink, VolumeLink, FrameCorner, ends, Axis, on_x, on_y, is_high_on, inward, inward_way, axis_of, each-bool, dir-self, dot-zero}
use Rattle.law_geometry.proofs.turns.Images.{clear-there}
use Rattle.law_geometry.proofs.turns.Vectors.{turning, vector-back, back-vector}
use Rattle.nef_volumes.proofs.FacetSides.{chain-pos, chain-neg}
use Rattle.nef_statement.proofs.text.Corners.{each-pair, seek, of-four, on_axes, each-axis, each-slot}
use Rattle.nef_statement.proofs.text.Octants.{next, axis_after, axis_slot, slot, source_of, target_of, axis_number, arc, octant, arc-at, item-at, lowest, turn_to, arc-turned, octant_turned}
use Rattle.nef_statement.proofs.text.LowestCorner.{part, level-ray, some-direction, quarter, each-ray, each-quarter, on-quarter, quarter-on, lowest-shaped}
use Rattle.nef_statement.proofs.text.FrameVertices.{corner_vertex, number, frame_vertices, frame-vertex}
use Rattle.nef_statement.proofs.text.FrameEdges.{at_end, edge_at, edge_slot, frame_edges, edge-there}
use Rattle.nef_space.proofs.Elementary.{nought-not_positive}

abbrev pub frame_complex : Label → List Form → Complex
frame_complex l hs = record { carriers = hs; vertices = frame_vertices l; edges = frame_edges }

-- the item of a corner in a side of the frame
abbrev pub corner : FrameCorner → Axis → Corner
corner k a = record { vertex = number k; item = slot a }

-- the side of an item
abbrev pub side_of : Bool → ℕ → Side
side_of true n = neg_item n
side_of false n = pos_item n

abbrev pub item_side : FrameCorner → Axis → Bool → VertexSide
item_side k a b = record { vertex = number k; side = side_of b (slot a) }

-- the side that looks inward
abbrev pub inner_side : FrameCorner → Axis → VertexSide
inner_side k a = item_side k a (is_high_on k a)

pub axis-self : (a : Axis) → SameDirection (axis_of a) (axis_of a)
axis-self a = dir-self (axis_of a) (some-direction (axis_of a) 0 (each-axis (λ o. dot (axis_of o) (axis_of o)) (λ o. pos 1) refl a))

-- ---- sides
module _ (l : Label) where
  -- the label of a side
  abbrev pub label_of : FrameCorner → Axis → Bool → Label
  label_of k a b = cond (differ (is_high_on k a) b) Out l

  pub has-side : (k : FrameCorner) (a : Axis) (b : Bool) → HasSide (octant l k) (side_of b (slot a)) (label_of k a b)
  has-side k a true = (arc_item (arc l k a), item-at l k a, each-bool (λ e. cond e l Out) (λ e. cond (differ e true) Out l) refl (is_high_on k a))
  has-side k a false = (arc_item (arc l k a), item-at l k a, each-bool (λ e. cond e Out l) (λ e. cond (differ e false) Out l) refl (is_high_on k a))

  pub inner-is : (k : FrameCorner) (a : Axis) → label_of k a (is_high_on k a) ≡ l
  inner-is k a = each-bool (λ e. cond (differ e e) Out l) (λ e. l) refl (is_high_on k a)

  has-inner : (k : FrameCorner) (a : Axis) → HasSide (octant l k) (side_of (is_high_on k a) (slot a)) l
  has-inner k a = subst (HasSide (octant l k) (side_of (is_high_on k a) (slot a))) (inner-is k a) (has-side k a (is_high_on k a))

-- ---- the sides inward see one direction, at the lowest corner
-- a direction of the item
abbrev flank : Axis → Vector
flank a = blend 1 (axis_of (next a)) 1 (axis_of (axis_after a))

some-part : (i j n : ℕ) (u v : ℤ) → 0 < i → u ≡ pos 1 → v ≡ pos n → pos 0 <ℤ (pos i *ℤ u +ℤ pos j *ℤ v)
some-part i j n u v h e f = rw (e, f) (omega (arith, ints, h))

module _ (l : Label) where
  abbrev M : Map
  M = octant l lowest

  deep-free : (d : Vector) → ((a : Axis) → pos 0 <ℤ part a d) → IsFree M d
  deep-free d f = record {
    direction = λ z. nought-not_positive (part on_x d) (dot-zero (axis_of on_x) d z) (f on_x);
    off_svertices = each-ray l (λ n (v : MapVertex). SameDirection v.dir d → ⊥) (λ a w. nought-not_positive (part (next a) d) (level-ray a d w).0 (f (next a)));
    off_items = each-quarter l (λ n (x : Item). OnItem M x d → ⊥) (λ a o. nought-not_positive (part a d) (on-quarter l a d o).0 (f a));
  }

  on-flank : (a : Axis) → OnItem M (arc_item (arc l lowest a)) (flank a)
  on-flank a = subst (λ c. OnItem M (arc_item c) (flank a)) (each-axis (quarter l) (arc l lowest) refl a)
      (quarter-on l a (flank a) (each-axis (λ o. part o (flank o)) (λ o. pos 0) refl a, one _ (each-axis (λ o. part (next o) (flank o)) (λ o. pos 1) refl a), one _ (each-axis (λ o. part (axis_after o) (flank o)) (λ o. pos 1) refl a)))
    where
      one : (i : ℤ) → i ≡ pos 1 → pos 0 <ℤ i
      one i e = omega (arith, ints)

  clear : (a : Axis) → IsClear M (inward_way lowest) (flank a)
  clear a = record {
    start = deep-free (inward_way lowest) (λ o. let e = inward-part o in omega (arith, ints, e));
    direction = some-direction (flank a) 1 (each-axis (λ o. dot (flank o) (flank o)) (λ o. pos 2) refl a);
    short = λ w. let b = w.backward in let e = each-axis (λ o. dot (inward_way lowest) (flank o)) (λ o. pos 2) refl a in omega (arith, ints, b, e);
    between = λ i j g h. deep-free (blend i (inward_way lowest) j (flank a)) (λ o. subst (λ u. pos 0 <ℤ u) (sym (dot-comb (axis_of o) (pos i) (inward_way lowest) (pos j) (flank a)))
        (some-part i j (cond (slot o == slot a) 0 1) _ _ g (inward-part o)
        (each-axis (λ b. part o (flank b)) (λ b. pos (cond (slot o == slot b) 0 1)) (each-axis (λ c. on_axes (λ b. part c (flank b))) (λ c. on_axes (λ b. pos (cond (slot c == slot b) 0 1))) refl o) a)));
  }
    where
      inward-part : (o : Axis) → part o (inward_way lowest) ≡ pos 1
      inward-part o = each-axis (λ b. part b (inward_way lowest)) (λ b. pos 1) refl o

  -- and so at each corner
  module _ (k : FrameCorner) where
    abbrev t : ℕ
    t = turn_to k

    abbrev inside : Vector
    inside = turned_vector t (inward_way lowest)

    facing : (a : Axis) (b : Bool) → dot (axis_of a) inside ≡ inward b → Reaches (octant l k) (side_of b (slot a)) inside (turned_vector t (flank a))
    facing a b e = by b e
      where
        on : OnItem (octant l k) (arc_item (arc l k a)) (turned_vector t (flank a))
        on = (item-on t M (octant l k) (lowest-shaped l) (octant_turned l k) (slot a) (is_high_on k (axis_number (slot a))) (arc_item (arc l lowest a)) (arc_item (arc l k a)) (item-at l lowest a) (arc-turned l k a) (flank a)).1 (on-flank a)

        by : (b : Bool) → dot (axis_of a) inside ≡ inward b → Reaches (octant l k) (side_of b (slot a)) inside (turned_vector t (flank a))
        by true e = (arc_item (arc l k a), item-at l k a, on, omega (arith, ints, e))
        by false e = (arc_item (arc l k a), item-at l k a, on, omega (arith, ints, e))

    sees : (a : Axis) → Sees (octant l k) (side_of (is_high_on k a) (slot a)) inside
    sees a = directly (turned_vector t (flank a))
        (clear-there (turned_vector t) (unturned_vector t) (is_odd t) (turning t) (vector-back t) (back-vector t) M (octant l k) (image t M (octant l k) (lowest-shaped l) (octant_turned l k)) (image_back t M (octant l k) (lowest-shaped l) (octant_turned l k)) (inward_way lowest) (flank a) (clear a))
        (facing a (is_high_on k a) (each-slot (λ j o. dot (axis_of o) (turned_vector (turn_to j) (inward_way lowest))) (λ j o. inward (is_high_on j o)) refl k a))

    pub one-sface : (a b : Axis) → InOneSface (octant l k) (side_of (is_high_on k a) (slot a)) (side_of (is_high_on k b) (slot b))
    one-sface a b = link (side_of (is_high_on k a) (slot a)) (side_of (is_high_on k b) (slot b)) (side_of (is_high_on k b) (slot b)) l (has-inner l k b) (inside, sees a, sees b) (here (side_of (is_high_on k b) (slot b)))

-- ---- the corners of a side of the frame, each with the next of its facet
-- the number of the facet
abbrev pub face : FrameCorner → Axis → ℕ
face k a = slot a + cond (is_high_on k a) 3 0

-- the first corner
abbrev pub first : FrameCorner → Axis → FrameCorner
first k a = at_end lowest a (is_high_on k a)

abbrev pub are_one : FrameCorner → Axis → FrameCorner → Axis → Bool
are_one k a j o = eqb (face k a) (face j o)

one-first : (k : FrameCorner) (a : Axis) (j : FrameCorner) (o : Axis) → face k a ≡ face j o → corner (first j o) o ≡ corner (first k a) a
one-first k a j o e = subst (λ b. cond b (corner (first j o) o) (corner (first k a) a) ≡ corner (first k a) a) (eq-eqb (face k a) (face j o) e) (each-pair (λ i c m d. cond (are_one i c m d) (corner (first m d) d) (corner (first i c) c)) (λ i c m d. corner (first i c) c) refl k a j o)

abbrev pub next_corner : FrameCorner → Axis → FrameCorner
next_corner k a = at_end k (source_of k a) (cond (is_high_on k (source_of k a)) false true)

abbrev pub second : FrameCorner → Axis → FrameCorner
second k a = next_corner (first k a) a

abbrev pub third : FrameCorner → Axis → FrameCorner
third k a = next_corner (second k a) a

abbrev pub fourth : FrameCorner → Axis → FrameCorner
fourth k a = next_corner (third k a) a

abbrev pub ring : FrameCorner → Axis → List FrameCorner
ring k a = first k a ∷ second k a ∷ third k a ∷ fourth k a ∷ []

pub on-ring : (k : FrameCorner) (a : Axis) → (m : ℕ) × IsAt (ring k a) m k
on-ring k a = let m = seek number (number k) (ring k a) in (m, (each-slot (λ j o. slice_get (ring j o) (seek number (number j) (ring j o))) (λ j o. Some j) refl k a))

-- an edge that leads from this end of it, or from the other
either-end : (b : Bool) (i s j t p q r u : ℕ) → cond b r p ≡ i → cond b u q ≡ s → cond b p r ≡ j → cond b q u ≡ t → Leads (record { low = p; low_svertex = q; high = r; high_svertex = u; mark = Out }) i s j t
either-end true i s j t p q r u d e f g = inr (d, e, f, g)
either-end false i s j t p q r u d e f g = inl (d, e, f, g)

module _ (l : Label) (hs : List Form) where
  abbrev C : Complex
  C = frame_complex l hs

  pub frame_step : (k : FrameCorner) (a : Axis) → NextCorner C (corner k a) (corner (next_corner k a) a)
  frame_step k a =
      let o = source_of k a in
      let j = next_corner k a in
      inl (record {
        here = corner_vertex l k;
        there = corner_vertex l j;
        this_arc = arc l k a;
        that_arc = arc l j a;
        is_here = frame-vertex l k;
        is_there = frame-vertex l j;
        is_this = arc-at l k a;
        is_that = arc-at l j a;
        number = edge_slot k o;
        edge = edge_at k o;
        is_edge = edge-there k o;
        leads = either-end (is_high_on k o) (number k) (axis_slot k.x k.y o) (number j) (axis_slot j.x j.y (target_of j a)) (edge_at k o).low (edge_at k o).low_svertex (edge_at k o).high (edge_at k o).high_svertex
            (each-slot (λ i c. cond (is_high_on i c) (edge_at i c).high (edge_at i c).low) (λ i c. number i) refl k o)
            (each-slot (λ i c. cond (is_high_on i c) (edge_at i c).high_svertex (edge_at i c).low_svertex) (λ i c. axis_slot i.x i.y c) refl k o)
            (each-slot (λ i c. cond (is_high_on i (source_of i c)) (edge_at i (source_of i c)).low (edge_at i (source_of i c)).high) (λ i c. number (next_corner i c)) refl k a)
            (each-slot (λ i c. cond (is_high_on i (source_of i c)) (edge_at i (source_of i c)).low_svertex (edge_at i (source_of i c)).high_svertex) (λ i c. (arc Out (next_corner i c) c).target) refl k a);
        one_normal = axis-self a;
      })

  from-first : (k : FrameCorner) (a : Axis) → Chained (FacetLink C) (corner (first k a) a) (corner k a)
  from-first k a =
      let L = FacetLink C in
      let two = next-linked C (corner (first k a) a) (corner (second k a) a) (frame_step (first k a) a) in
      let three = chain-trans L (corner (first k a) a) (corner (second k a) a) (corner (third k a) a) two (next-linked C (corner (second k a) a) (corner (third k a) a) (frame_step (second k a) a)) in
      let four = chain-trans L (corner (first k a) a) (corner (third k a) a) (corner (fourth k a) a) three (next-linked C (corner (third k a) a) (corner (fourth k a) a) (frame_step (third k a) a)) in
      let m = on-ring k a in
      of-four (λ j. Chained L (corner (first k a) a) (corner j a)) (first k a) (second k a) (third k a) (fourth k a) (chain-here L (corner (first k a) a)) two three four m.0 k m.1

  pub facet-chain : (k : FrameCorner) (a : Axis) (j : FrameCorner) (o : Axis) → face k a ≡ face j o → Chained (FacetLink C) (corner k a) (corner j o)
  facet-chain k a j o e = chain-trans (FacetLink C) (corner k a) (corner (first k a) a) (corner j o) (chain-turned (FacetLink C) (corner (first k a) a) (corner k a) (from-first k a))
      (subst (λ (c : Corner). Chained (FacetLink C) c (corner j o)) (one-first k a j o e) (from-first j o))

  -- ---- sides inward
  pub inner-label : (k : FrameCorner) (a : Axis) → HasSideLabel C (inner_side k a) l
  inner-label k a = (corner_vertex l k, frame-vertex l k, has-inner l k a)

  sides-chain : (a : Axis) (k j : FrameCorner) → is_high_on k a ≡ is_high_on j a → Chained (VolumeLink C) (inner_side k a) (inner_side j a)
  sides-chain a k j e = subst (λ b. Chained (VolumeLink C) (inner_side k a) (item_side j a b)) e (by (is_high_on k a))
    where
      by : (b : Bool) → Chained (VolumeLink C) (item_side k a b) (item_side j a b)
      by true = chain-neg C (corner k a) (corner j a) (facet-chain k a j a (ap (λ b. slot a + cond b 3 0) e))
      by false = chain-pos C (corner k a) (corner j a) (facet-chain k a j a (ap (λ b. slot a + cond b 3 0) e))

  at-corner : (k : FrameCorner) (a b : Axis) → Chained (VolumeLink C) (inner_side k a) (inner_side k b)
  at-corner k a b = chain-link (VolumeLink C) (inner_side k a) (inner_side k b) (inl (record {
    vertex = corner_vertex l k;
    is_vertex = frame-vertex l k;
    one_vertex = refl;
    one = l;
    other = l;
    has = has-inner l k a;
    has_other = has-inner l k b;
    one_sface = one-sface l k a b;
  }))

  pub volume-chain : (k j : FrameCorner) (a b : Axis) → Chained (VolumeLink C) (inner_side k a) (inner_side j b)
  volume-chain k j a b =
      let L = VolumeLink C in
      let i = ends k.x j.y j.z in
      chain-trans L (inner_side k a) (inner_side k on_x) (inner_side j b) (at-corner k a on_x)
      (chain-trans L (inner_side k on_x) (inner_side i on_x) (inner_side j b) (sides-chain on_x k i refl)
      (chain-trans L (inner_side i on_x) (inner_side i on_y) (inner_side j b) (at-corner i on_x on_y)
      (chain-trans L (inner_side i on_y) (inner_side j on_y) (inner_side j b) (sides-chain on_y i j refl) (at-corner j on_y b))))
