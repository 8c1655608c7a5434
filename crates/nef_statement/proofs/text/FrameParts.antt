-- The parts of the complexes of the whole frame and of the empty set: six facets of one cycle each, and two volumes.
use Rattle.nef_statement.proofs.text.Prelude.{◌≡◌, ℕ, zero, suc, ◌+◌, ◌*◌, ltb, ◌<◌, ◌≤◌, pos, neg_ℤ, nat_abs, arith, refl, sym, ◌∙◌, ap, ⊎_elim, Bool, true, false, cond, List, [], ◌∷◌, ◌++◌, length, map, subst, Option, Some, None, ints, ltb-true, lt-ltb, eq-eqb, All, offset_limit, IsAt, Chained, NumbersClasses, Form, form_at, normal_of, Vector, cross, IsZero, Label, Out, point_of, form_of, Plane, InOrder, Item, arc_item, items, item_pos, item_neg, Side, around_svertex, pos_item, neg_item, whole, HasSide, MapVertex, differ, is-at_within, is-at_some, map-is_at, side-number, side_number, sides_of, Vertex, Complex, Corner, VertexSide, HasSideLabel, FacetLink, VolumeLink, NextCorner, IsCornerBelow, IsCycle, IsCycleBelow, Cycles, IsFacetOf, IsVolumeOf, IsFacetAt, IsFacet, IsParts, cycle_corners, Facet, Parts, frame_end, FrameCorner, Axis, on_x, on_y, on_z, is_high_on, axis_of, corner_point, each-bool, is-at_none, is-at_first}
use Rattle.std.proofs.Math.Nat.{eq-one_of_dvd-one}
use Rattle.nef_complex.proofs.SamePlanes.{parallel-equal}
use Rattle.nef_facets.proofs.FirstCorners.{facet-item, item-facet}
use Rattle.nef_case.specs.Between.{is_positive}
use Rattle.nef_statement.proofs.text.Corners.{of-four, each-axis, each-corner, each-slot, each-pair, each-listed, named, pair-below}
use Rattle.nef_statement.proofs.text.Octants.{axes_down, slot, arc, octant, each-svertex, each-item, item-at, lowest}
use Rattle.nef_statement.proofs.text.FrameVertices.{corner_vertex, number, frame-vertex, each-vertex}
use Rattle.nef_statement.proofs.text.FrameEdges.{at_end}
use Rattle.nef_statement.proofs.text.FrameLinks.{frame_complex, corner, face, first, are_one, side_of, item_side, inner_side, label_of, has-side, next_corner, second, third, fourth, ring, on-ring, frame_step, facet-chain, inner-label, volume-chain}
use Rattle.nef_statement.proofs.text.Numbering.{IsEarlier, numbers-one}
use Rattle.nef_statement.proofs.text.OneCycles.{HasOneNext, cycles-one}
use Rattle.nef_statement.proofs.text.OneParts.{as-many, has-label}
use Rattle.nef_statement.proofs.text.Rows.{list-one}
use Rattle.nef_space.proofs.Elementary.{three-ways}

-- ---- the sides of the frame, by a corner and an axis
abbrev pub Wall : Type 0
Wall = FrameCorner × Axis

-- the sides by their first corners, by their numbers
abbrev pub walls : List Wall
walls = map (λ (a : Axis). (lowest, a)) axes_down ++ map (λ (a : Axis). (at_end lowest a true, a)) axes_down

pub wall-number : (n : ℕ) (w : Wall) → IsAt walls n w → n ≡ face w.0 w.1
wall-number = each-listed (λ (w : Wall). w) (λ w. face w.0 w.1) walls refl (λ n w. n ≡ face w.0 w.1) (λ w. refl)

slot-small : (a : Axis) → slot a < 3
slot-small a = ltb-true (slot a) 3 (each-axis (λ o. ltb (slot o) 3) (λ o. true) refl a)

number-small : (k : FrameCorner) → number k < 8
number-small k = ltb-true (number k) 8 (each-corner (λ j. ltb (number j) 8) (λ j. true) refl k)

face-small : (k : FrameCorner) (a : Axis) → face k a < 6
face-small k a = ltb-true (face k a) 6 (each-slot (λ j o. ltb (face j o) 6) (λ j o. true) refl k a)

abbrev spot : FrameCorner → Axis → ℕ
spot k a = number k * 3 + slot a

spot-below : (k : FrameCorner) (a : Axis) (j : FrameCorner) (o : Axis) → ltb (spot k a) (spot j o) ≡ true → IsCornerBelow (corner k a) (corner j o)
spot-below k a j o h = pair-below (number k) (slot a) (number j) (slot o) (slot-small a) (slot-small o) (ltb-true (spot k a) (spot j o) h)

-- the first corner of a side with a lower number stands below
first-below : (k : FrameCorner) (a : Axis) (j : FrameCorner) (o : Axis) → face k a < face j o → IsCornerBelow (corner (first k a) a) (corner j o)
first-below k a j o h = spot-below (first k a) a j o (subst (λ b. cond b (ltb (spot (first k a) a) (spot j o)) true ≡ true) (lt-ltb (face k a) (face j o) h)
    (each-pair (λ i c m d. cond (ltb (face i c) (face m d)) (ltb (spot (first i c) c) (spot m d)) true) (λ i c m d. true) refl k a j o))

-- ---- the planes
pub small-end : (e : Bool) → nat_abs (neg_ℤ (frame_end e)) ≤ offset_limit
small-end true = omega arith
small-end false = omega arith

abbrev pub wall_plane : Axis → Bool → Plane
wall_plane on_x e = record { a = pos 1; b = pos 0; c = pos 0; d = neg_ℤ (frame_end e); a_small = omega arith; b_small = omega arith; c_small = omega arith; d_small = small-end e; lowest = λ n h. eq-one_of_dvd-one h.0; normal = record { first = omega (arith, ints); second = λ e. absurd (omega (arith, ints, e)); third = λ e f. absurd (omega (arith, ints, e)) } }
wall_plane on_y e = record { a = pos 0; b = pos 1; c = pos 0; d = neg_ℤ (frame_end e); a_small = omega arith; b_small = omega arith; c_small = omega arith; d_small = small-end e; lowest = λ n h. eq-one_of_dvd-one h.1.0; normal = record { first = omega (arith, ints); second = λ e. omega (arith, ints); third = λ e f. absurd (omega (arith, ints, f)) } }
wall_plane on_z e = record { a = pos 0; b = pos 0; c = pos 1; d = neg_ℤ (frame_end e); a_small = omega arith; b_small = omega arith; c_small = omega arith; d_small = small-end e; lowest = λ n h. eq-one_of_dvd-one h.1.1.0; normal = record { first = omega (arith, ints); second = λ e. omega (arith, ints); third = λ e f. omega (arith, ints) } }

abbrev plane_at : FrameCorner → Axis → Plane
plane_at k a = wall_plane a (is_high_on k a)

abbrev plane_face : Plane → ℕ
plane_face g = nat_abs g.b + nat_abs g.a * 2 + cond (is_positive g.d) 0 3

planes-face : (k : FrameCorner) (a : Axis) (j : FrameCorner) (o : Axis) → plane_at k a ≡ plane_at j o → face k a ≡ face j o
planes-face k a j o h = plane-face k a ∙ ap plane_face h ∙ sym (plane-face j o)
  where
    plane-face : (k : FrameCorner) (a : Axis) → face k a ≡ plane_face (plane_at k a)
    plane-face k a = each-slot face (λ i c. plane_face (plane_at i c)) refl k a

-- ---- the cycle of a side
abbrev pub wall_cycle : FrameCorner → Axis → List Corner
wall_cycle k a = map (λ j. corner j a) (ring k a)

on-cycle : (k : FrameCorner) (a : Axis) → (m : ℕ) × IsAt (wall_cycle k a) m (corner k a)
on-cycle k a = let m = on-ring k a in (m.0, map-is_at (λ j. corner j a) (ring k a) m.0 k m.1)

one-cycle : (k : FrameCorner) (a : Axis) (j : FrameCorner) (o : Axis) → face k a ≡ face j o → wall_cycle j o ≡ wall_cycle k a
one-cycle k a j o e = subst (λ b. cond b (wall_cycle j o) (wall_cycle k a) ≡ wall_cycle k a) (eq-eqb (face k a) (face j o) e) (each-pair (λ i c m d. cond (are_one i c m d) (wall_cycle m d) (wall_cycle i c)) (λ i c m d. wall_cycle i c) refl k a j o)

each-cycle : (k : FrameCorner) (a : Axis) (Q : Corner → Type 0) → ((j : FrameCorner) → face j a ≡ face k a → Q (corner j a)) → (m : ℕ) (j : Corner) → IsAt (wall_cycle k a) m j → Q j
each-cycle k a Q f = of-four Q (corner (first k a) a) (corner (second k a) a) (corner (third k a) a) (corner (fourth k a) a)
    (f (first k a) (each-slot (λ i o. face (first i o) o) face refl k a)) (f (second k a) (each-slot (λ i o. face (second i o) o) face refl k a))
    (f (third k a) (each-slot (λ i o. face (third i o) o) face refl k a)) (f (fourth k a) (each-slot (λ i o. face (fourth i o) o) face refl k a))

-- ---- facets
-- the number of the volume at a side of an item
abbrev pub volume_beside : Bool → Bool → ℕ
volume_beside e b = cond (differ e b) 0 1

-- the facet in a side of the frame
abbrev pub IsWallFacet : FrameCorner → Axis → Facet → Type 0
IsWallFacet k a f = (f.plane ≡ wall_plane a (is_high_on k a)) × (f.mark ≡ Out) × (f.pos ≡ volume_beside (is_high_on k a) false) × (f.neg ≡ volume_beside (is_high_on k a) true) × (cycle_corners f.cycles ≡ wall_cycle k a ∷ [])

module _ (l : Label) (hs : List Form) where
  abbrev C : Complex
  C = frame_complex l hs

  is-cycle : (k : FrameCorner) (a : Axis) → IsCycle C (wall_cycle k a)
  is-cycle k a =
      let last = subst (λ j. NextCorner C (corner (fourth k a) a) (corner j a)) (each-slot (λ i o. next_corner (fourth i o) o) first refl k a) (frame_step l hs (fourth k a) a) in
      ((frame_step l hs (first k a) a, (frame_step l hs (second k a) a, (frame_step l hs (third k a) a, last))), least)
    where
      least : All (IsCornerBelow (corner (first k a) a)) (corner (second k a) a ∷ corner (third k a) a ∷ corner (fourth k a) a ∷ [])
      least zero d h = spot-below (first k a) a (second k a) a (each-slot (λ i o. ltb (spot (first i o) o) (spot (second i o) o)) (λ i o. true) refl k a)
      least (suc zero) d h = spot-below (first k a) a (third k a) a (each-slot (λ i o. ltb (spot (first i o) o) (spot (third i o) o)) (λ i o. true) refl k a)
      least (suc (suc zero)) d h = spot-below (first k a) a (fourth k a) a (each-slot (λ i o. ltb (spot (first i o) o) (spot (fourth i o) o)) (λ i o. true) refl k a)
      least (suc (suc (suc n))) d h = absurd (omega (arith, h))

  module _ (some : l ≡ Out → ⊥) (one : HasOneNext C) (p : Parts) (P : IsParts C p) where
    -- ---- the numbers of facets
    abbrev Numbered : Corner → ℕ → Type 0
    Numbered = IsFacetOf p.facet_of

    facet-there : (k : FrameCorner) (a : Axis) → (n : ℕ) × Numbered (corner k a) n
    facet-there k a = item-facet C p.facet_of P.facet_numbers (corner k a) (corner_vertex l k, arc_item (arc l k a), record { vertex = frame-vertex l k; item = item-at l k a })

    abbrev IsNamed : ℕ → ℕ → Type 0
    IsNamed i n = (k : FrameCorner) × (a : Axis) × (corner k a ≡ record { vertex = i; item = n })

    find : (j : Corner) (n : ℕ) → Numbered j n → IsNamed j.vertex j.item
    find j n h =
        let (v, x, c) = facet-item C p.facet_of P.facet_numbers j n h in
        each-vertex l (λ i (u : Vertex). (y : Item) → IsAt (items u.map) j.item y → IsNamed i j.item) (λ k. each-item l k (λ m y. IsNamed (number k) m) (λ a. (k, a, refl)) j.item) j.vertex v c.vertex x c.item

    facet-at : (n : ℕ) (f : Facet) (k : FrameCorner) (a : Axis) → IsFacet C p n f → Numbered (corner k a) n → IsFacetAt C p f (corner k a) (corner_vertex l k) (arc_item (arc l k a))
    facet-at n f k a F h = F.corners (corner k a) (corner_vertex l k) (arc_item (arc l k a)) h (record { vertex = frame-vertex l k; item = item-at l k a })

    plane-is : (n : ℕ) (f : Facet) (k : FrameCorner) (a : Axis) → IsFacet C p n f → Numbered (corner k a) n → f.plane ≡ plane_at k a
    plane-is n f k a F h =
        let A = facet-at n f k a F h in
        parallel-equal f.plane (plane_at k a) (point_of (corner_point k))
        (subst (λ (v : Vector). IsZero (cross (normal_of (form_of f.plane)) v)) (each-slot (λ j o. axis_of o) (λ j o. normal_of (form_of (plane_at j o))) refl k a) A.normal.parallel)
        A.through (each-slot (λ j o. form_at (form_of (plane_at j o)) (point_of (corner_point j))) (λ j o. pos 0) refl k a)

    one-wall : (k : FrameCorner) (a : Axis) (j : FrameCorner) (b : Axis) (n : ℕ) → Numbered (corner k a) n → Numbered (corner j b) n → face k a ≡ face j b
    one-wall k a j b n g h =
        let f = is-at_some p.facets n (P.all_facets (corner k a) n g) in
        let F = P.facets n f.0 f.1 in
        planes-face k a j b (sym (plane-is n f.0 k a F g) ∙ plane-is n f.0 j b F h)

    -- the corner with the number of its side of the frame
    abbrev IsOfFace : Corner → ℕ → Type 0
    IsOfFace j n = (k : FrameCorner) × (a : Axis) × (corner k a ≡ j) × (face k a ≡ n)

    faces : NumbersClasses (FacetLink C) IsCornerBelow 0 IsOfFace
    faces = record {
      by_class = λ x y m n (k, a, e, f) (j, b, g, h). (
        λ q. subst (λ (z : Corner). Chained (FacetLink C) z y) e (subst (λ (z : Corner). Chained (FacetLink C) (corner k a) z) g (facet-chain l hs k a j b (f ∙ q ∙ sym h))),
        λ c.
            let d = subst (λ (z : Corner). Chained (FacetLink C) z (corner j b)) (sym e) (subst (λ (z : Corner). Chained (FacetLink C) x z) (sym g) c) in
            let s = facet-there k a in
            let t = facet-there j b in
            let q = (P.facet_numbers.numbered.by_class (corner k a) (corner j b) s.0 t.0 s.1 t.1).1 d in
            sym f ∙ one-wall k a j b t.0 (subst (Numbered (corner k a)) q s.1) t.1 ∙ h,
      );
      by_appearance = λ x m n (k, a, e, f) g h.
          let s = face-small k a in
          let w = named (λ (v : Wall). face v.0 v.1) walls refl m (omega (arith, h, f, s)) in
          let i = w.0.0 in
          let o = w.0.1 in
          (corner (first i o) o, subst (IsCornerBelow (corner (first i o) o)) e (first-below i o k a (let q = w.1 in omega (arith, h, f, q))), (first i o, o, refl, each-slot (λ j c. face (first j c) c) face refl i o ∙ w.1));
    }

    abbrev CornerPlace : Corner → ℕ → ℕ → Type 0
    CornerPlace x i n = (x.vertex ≡ i) × (x.item ≡ n)

    facet-number : (k : FrameCorner) (a : Axis) (n : ℕ) → Numbered (corner k a) n → n ≡ face k a
    facet-number k a n h = numbers-one (FacetLink C) IsCornerBelow 0 Numbered IsOfFace CornerPlace
        (λ x y i j b (e, f). (y.vertex, y.item, (refl, refl), subst (λ (r : ℕ). IsEarlier y.vertex y.item r j) e (subst (λ (r : ℕ). IsEarlier y.vertex y.item x.vertex r) f b)))
        P.facet_numbers.numbered faces
        (λ x m g. let s = find x m g in (face s.0 s.1, (s.0, s.1, s.2, refl)))
        (λ x m (k, a, e, f). let s = facet-there k a in (s.0, subst (λ (z : Corner). Numbered z s.0) e s.1))
        (λ x m n f g i. ⊎_elim (λ r. absurd (omega (arith, r))) (λ r. absurd (omega (arith, r))) i)
        (number k) (slot a) (corner k a) n (face k a) (refl, refl) h (k, a, refl, refl)

    facet-of : (k : FrameCorner) (a : Axis) → Numbered (corner k a) (face k a)
    facet-of k a = let s = facet-there k a in subst (Numbered (corner k a)) (facet-number k a s.0 s.1) s.1

    wall-cycles : (k : FrameCorner) (a : Axis) → Cycles C (λ j. Numbered j (face k a)) (wall_cycle k a ∷ [])
    wall-cycles k a = record {
      cycles = only (IsCycle C) (is-cycle k a);
      within = λ i m x j g h. only (λ (y : List Corner). IsAt y m j → Numbered j (face k a)) (each-cycle k a (λ (z : Corner). Numbered z (face k a)) (λ i e. subst (Numbered (corner i a)) e (facet-of i a)) m j) i x g h;
      complete = λ j h.
          let s = find j (face k a) h in
          let e = facet-number s.0 s.1 (face k a) (subst (λ (z : Corner). Numbered z (face k a)) (sym s.2) h) in
          let m = on-cycle s.0 s.1 in
          (0, m.0, wall_cycle k a, refl, subst (IsAt (wall_cycle k a) m.0) s.2 (subst (λ (y : List Corner). IsAt y m.0 (corner s.0 s.1)) (one-cycle k a s.0 s.1 e) m.1));
      ordered = single;
    }
      where
        only : (Q : List Corner → Type 0) → Q (wall_cycle k a) → (i : ℕ) (x : List Corner) → IsAt (wall_cycle k a ∷ []) i x → Q x
        only Q q zero x h = subst Q (is-at_first h) q
        only Q q (suc i) x h = absurd (is-at_none h)

        single : InOrder IsCycleBelow (wall_cycle k a ∷ [])
        single zero zero x y h g f = absurd (omega (arith, h))
        single zero (suc k) x y h g f = absurd (is-at_none f)
        single (suc i) k x y h g f = absurd (is-at_none g)

    -- ---- the numbers of volumes
    abbrev IsOf : VertexSide → ℕ → Type 0
    IsOf = IsVolumeOf C p.volume_of

    -- each side of a corner's map is a side of an item
    abbrev IsItemSide : FrameCorner → Side → Label → Type 0
    IsItemSide k o m = (a : Axis) × (b : Bool) × (side_of b (slot a) ≡ o) × (label_of l k a b ≡ m)

    item-side : (k : FrameCorner) (o : Side) (m : Label) → HasSide (octant l k) o m → IsItemSide k o m
    item-side k (around_svertex i) m (v, h, e) = absurd (each-svertex l k (λ n (u : MapVertex). u.around ≡ Some m → ⊥) (λ a (q : None ≡ Some m). cc) i v h e)
    item-side k (pos_item i) m (x, h, e) = each-item l k (λ n (y : Item). item_pos y ≡ m → IsItemSide k (pos_item n) m) (λ a e. (a, false, refl, each-bool (λ c. cond (differ c false) Out l) (λ c. cond c Out l) refl (is_high_on k a) ∙ e)) i x h e
    item-side k (neg_item i) m (x, h, e) = each-item l k (λ n (y : Item). item_neg y ≡ m → IsItemSide k (neg_item n) m) (λ a e. (a, true, refl, each-bool (λ c. cond (differ c true) Out l) (λ c. cond c l Out) refl (is_high_on k a) ∙ e)) i x h e
    item-side k whole m e = let f : None ≡ Some m = e in absurd cc

    has-label_of : (k : FrameCorner) (a : Axis) (b : Bool) → HasSideLabel C (item_side k a b) (label_of l k a b)
    has-label_of k a b = (corner_vertex l k, frame-vertex l k, has-side l k a b)

    -- a side with a number but 0 is one that looks inward
    looks-inward : (x : VertexSide) (n : ℕ) → IsOf x n → (n ≡ 0 → ⊥) → (k : FrameCorner) × (a : Axis) × (inner_side k a ≡ x)
    looks-inward x n h f =
        let m = has-label C x h.0 h.1 in
        let v = m.1 in
        each-vertex l (λ i (u : Vertex). HasSide u.map x.side m.0 → i ≡ x.vertex → (k : FrameCorner) × (a : Axis) × (inner_side k a ≡ x))
        (λ k s e.
        let o = item-side k x.side m.0 s in
        (k, o.0, ap (λ (b : Bool). item_side k o.0 b) (inner o.1 (is_high_on k o.0) (λ q. f ((P.volume_numbers.outside x n m.0 h m.1).1 (sym o.3 ∙ q)))) ∙ ap (λ (i : ℕ). record { vertex = i; side = side_of o.1 (slot o.0) }) e ∙ ap (λ (r : Side). record { vertex = x.vertex; side = r }) o.2))
        x.vertex v.0 v.1 v.2 refl
      where
        inner : (b e : Bool) → (cond (differ e b) Out l ≡ Out → ⊥) → e ≡ b
        inner true true f = refl
        inner true false f = absurd (f refl)
        inner false true f = absurd (f refl)
        inner false false f = refl

    -- sides that look inward have number 1, and the others 0
    inner-number : (k : FrameCorner) (a : Axis) (n : ℕ) → IsOf (inner_side k a) n → n ≡ 1
    inner-number k a n h = ⊎_elim (λ g. absurd (some ((P.volume_numbers.outside (inner_side k a) n l h (inner-label l hs k a)).0 (omega (arith, g))))) (λ o. ⊎_elim (λ e. e)
        (λ g.
        let y = P.volume_numbers.numbered.by_appearance (inner_side k a) 1 n h (omega arith) g in
        let s = looks-inward y.0 1 y.2 (λ e. omega (arith, e)) in
        (P.volume_numbers.numbered.by_class (inner_side k a) y.0 n 1 h y.2).1 (subst (λ (z : VertexSide). Chained (VolumeLink C) (inner_side k a) z) s.2 (volume-chain l hs k s.0 a s.1))) o)
        (three-ways n 1)

    volume-number : (k : FrameCorner) (a : Axis) (b : Bool) (n : ℕ) → IsOf (item_side k a b) n → n ≡ volume_beside (is_high_on k a) b
    volume-number k a b n h = by (is_high_on k a) b (refl, refl) (has-label_of k a b)
      where
        outer : HasSideLabel C (item_side k a b) Out → n ≡ 0
        outer s = (P.volume_numbers.outside (item_side k a b) n Out h s).1 refl

        inner : is_high_on k a ≡ b → n ≡ 1
        inner e = inner-number k a n (subst (λ (c : Bool). IsOf (item_side k a c) n) (sym e) h)

        by : (e c : Bool) → (is_high_on k a ≡ e) × (b ≡ c) → HasSideLabel C (item_side k a b) (cond (differ e c) Out l) → n ≡ volume_beside e c
        by true true (f, g) s = inner (f ∙ sym g)
        by true false (f, g) s = outer s
        by false true (f, g) s = outer s
        by false false (f, g) s = inner (f ∙ sym g)

    -- ---- the facets
    pub facet-is : (k : FrameCorner) (a : Axis) (f : Facet) → IsFacet C p (face k a) f → IsWallFacet k a f
    facet-is k a f F =
        let A = facet-at (face k a) f k a F (facet-of k a) in
        let cycles = cycles-one C one (λ j. Numbered j (face k a)) (cycle_corners f.cycles) (wall_cycle k a ∷ []) F.cycles (wall-cycles k a) in
        (plane-is (face k a) f k a F (facet-of k a), A.mark, volume-number k a false f.pos A.pos, volume-number k a true f.neg A.neg, cycles)

    pub six-facets : length p.facets ≡ 6
    six-facets = as-many (length p.facets) 6
        (λ n h.
        let f = is-at_some p.facets n h in
        let s = (P.facets n f.0 f.1).some in
        let k = find s.0 n s.1 in
        let e = facet-number k.0 k.1 n (subst (λ (z : Corner). Numbered z n) (sym k.2) s.1) in
        let g = face-small k.0 k.1 in
        omega (arith, e, g))
        (λ n h. let w = named (λ (v : Wall). face v.0 v.1) walls refl n h in P.all_facets (corner w.0.0 w.0.1) n (subst (Numbered (corner w.0.0 w.0.1)) w.1 (facet-of w.0.0 w.0.1)))

    -- ---- the volumes
    -- each side has its number
    side-there : (k : FrameCorner) (a : Axis) (b : Bool) → IsOf (item_side k a b) (volume_beside (is_high_on k a) b)
    side-there k a b =
        let o = side_of b (slot a) in
        let S = P.volume_numbers.shape in
        let i = side-number (octant l k) o (label_of l k a b) (has-side l k a b) in
        let many : length p.volume_of ≡ 8 = S.as_many in
        let g = number-small k in
        let row = is-at_some p.volume_of (number k) (omega (arith, many, g)) in
        let e = S.row (number k) (corner_vertex l k) row.0 (frame-vertex l k) row.1 in
        let w = is-at_within (sides_of (octant l k)) (side_number (octant l k) o) (o, label_of l k a b) i in
        let n = is-at_some row.0 (side_number (octant l k) o) (omega (arith, e, w)) in
        let h : IsOf (item_side k a b) n.0 = (side_number (octant l k) o, record { vertex = corner_vertex l k; is_vertex = frame-vertex l k; label = label_of l k a b; is_side = i }, (row.0, row.1, n.1)) in
        subst (IsOf (item_side k a b)) (volume-number k a b n.0 h) h

    few-numbers : (x : VertexSide) (n : ℕ) → IsOf x n → n < 2
    few-numbers x n h = ⊎_elim (λ g. omega (arith, g)) (λ o. ⊎_elim (λ e. omega (arith, e))
        (λ g. let s = looks-inward x n h (λ e. omega (arith, e, g)) in let e = inner-number s.0 s.1 n (subst (λ (z : VertexSide). IsOf z n) (sym s.2) h) in omega (arith, e)) o)
        (three-ways n 1)

    two-volumes : length p.volumes ≡ 2
    two-volumes = as-many (length p.volumes) 2 (λ n h. let m = is-at_some p.volumes n h in let s = (P.volumes n m.0 m.1).some in few-numbers s.0 n s.1) small
      where
        small : (n : ℕ) → n < 2 → n < length p.volumes
        small zero h = P.all_volumes (item_side lowest on_z true) 0 (side-there lowest on_z true)
        small (suc zero) h = P.all_volumes (item_side lowest on_z false) 1 (side-there lowest on_z false)
        small (suc (suc n)) h = absurd (omega (arith, h))

    pub volumes-are : p.volumes ≡ Out ∷ l ∷ []
    volumes-are = list-one p.volumes (Out ∷ l ∷ []) two-volumes by
      where
        by : (n : ℕ) (m o : Label) → IsAt p.volumes n m → IsAt (Out ∷ l ∷ []) n o → m ≡ o
        by zero m o h g = let e : ◌≡◌ {A = Option Label} (Some Out) (Some o) = g in let f : Out ≡ o = cc in (P.volumes 0 m h).labels (item_side lowest on_z true) Out (side-there lowest on_z true) (has-label_of lowest on_z true) ∙ f
        by (suc zero) m o h g = let e : ◌≡◌ {A = Option Label} (Some l) (Some o) = g in let f : l ≡ o = cc in (P.volumes 1 m h).labels (item_side lowest on_z false) l (side-there lowest on_z false) (has-label_of lowest on_z false) ∙ f
        by (suc (suc n)) m o h g = let e : ◌≡◌ {A = Option Label} None (Some o) = g in absurd cc
