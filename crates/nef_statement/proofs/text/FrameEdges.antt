-- The edges of a set that holds all of the frame or nothing of it, written out.
use Rattle.nef_statement.proofs.text.Prelude.{◌∙◌, ◌≡◌, ℕ, ◌+◌, ◌*◌, ◌<◌, ltb, ◌==◌, ◌&&◌, pos, neg_ℤ, arith, refl, sym, ap, Bool, true, false, cond, List, [], ◌∷◌, map, drop, subst, Some, slice_get, ints, ltb-true, lt-ltb, flat_map, IsBetween, IsAhead, toward, Vector, vector, dot, cross, IsZero, IsOpposite, SameDirection, Label, Out, point_of, InOrder, IsAt, MapVertex, Vertex, Edge, IsEdge, Edges, IsEdgeBelow, map-is_at, is-at_map, FrameCorner, ends, all_ends, Axis, on_x, on_y, on_z, is_high_on, corner_point}
use Rattle.law_geometry.proofs.near.Near.{length_of}
use Rattle.nef_case.specs.Between.{is_positive}
use Rattle.nef_statement.proofs.text.Corners.{each-slot, each-pair, positive-is, is-positive, seek, pair-below, rising}
use Rattle.nef_statement.proofs.text.Octants.{way, order, axis_slot, svertex, each-svertex, svertex-at}
use Rattle.nef_statement.proofs.text.FrameVertices.{corner_vertex, number, frame_vertices, frame-vertex, each-vertex}
use Rattle.std.proofs.lemmas.Bool.{false≢true}

-- the corner at this end of the axis
abbrev pub at_end : FrameCorner → Axis → Bool → FrameCorner
at_end k on_x b = ends b k.y k.z
at_end k on_y b = ends k.x b k.z
at_end k on_z b = ends k.x k.y b

abbrev pub between : FrameCorner → Axis → FrameCorner → Axis → Edge
between k a j o = record { low = number k; low_svertex = axis_slot k.x k.y a; high = number j; high_svertex = axis_slot j.x j.y o; mark = Out }

-- the edge of a corner along an axis
abbrev pub edge_at : FrameCorner → Axis → Edge
edge_at k a = between (at_end k a false) a (at_end k a true) a

-- the axes that lead up from the corner
abbrev rising_axes : FrameCorner → List Axis → List Axis
rising_axes k [] = []
rising_axes k (a ∷ as') = cond (is_high_on k a) (rising_axes k as') (a ∷ rising_axes k as')

abbrev edge_places : List (FrameCorner × Axis)
edge_places = flat_map (λ k. map (λ (a : Axis). (k, a)) (rising_axes k (order k.x k.y))) all_ends

abbrev pub frame_edges : List Edge
frame_edges = map (λ (w : FrameCorner × Axis). edge_at w.0 w.1) edge_places

abbrev key : Edge → ℕ
key e = e.low * 3 + e.low_svertex

abbrev pub edge_slot : FrameCorner → Axis → ℕ
edge_slot k a = seek key (key (edge_at k a)) frame_edges

pub edge-there : (k : FrameCorner) (a : Axis) → IsAt frame_edges (edge_slot k a) (edge_at k a)
edge-there k a = (each-slot (λ j o. slice_get frame_edges (edge_slot j o)) (λ j o. Some (edge_at j o)) refl k a)

each-edge : (P : Edge → Type 0) → ((k : FrameCorner) (a : Axis) → P (edge_at k a)) → (n : ℕ) (e : Edge) → IsAt frame_edges n e → P e
each-edge P f n e h = let w = is-at_map (λ (v : FrameCorner × Axis). edge_at v.0 v.1) edge_places n e h in subst P w.2 (f w.0.0 w.0.1)

-- ---- directions
same-way : (u v : Vector) → cross u v ≡ vector (pos 0) (pos 0) (pos 0) → is_positive (dot u v) ≡ true → SameDirection u v
same-way u v e h = record { parallel = (ap (λ (d : Vector). d.x) e, ap (λ (d : Vector). d.y) e, ap (λ (d : Vector). d.z) e); forward = is-positive (dot u v) h }

opposite-way : (u v : Vector) → cross u v ≡ vector (pos 0) (pos 0) (pos 0) → is_positive (neg_ℤ (dot u v)) ≡ true → IsOpposite u v
opposite-way u v e h = record { parallel = (ap (λ (d : Vector). d.x) e, ap (λ (d : Vector). d.y) e, ap (λ (d : Vector). d.z) e); backward = let p = is-positive (neg_ℤ (dot u v)) h in omega (arith, ints, p) }

none-size : (d : Vector) → IsZero d → length_of d ≡ 0
none-size d (e, f, g) = omega (arith, ints, e, f, g)

-- the way from one corner to another, and inward along an axis
abbrev lead : FrameCorner → FrameCorner → Vector
lead k j = toward (point_of (corner_point k)) (point_of (corner_point j))

abbrev inward : FrameCorner → Axis → Vector
inward k a = way a (is_high_on k a)

-- ---- the edges, and no other
no-corner : (k : FrameCorner) (a : Axis) (j : FrameCorner) → IsBetween (point_of (corner_point (at_end k a false))) (point_of (corner_point j)) (point_of (corner_point (at_end k a true))) → ⊥
no-corner k a j w = false≢true (
    sym (each-pair (λ i b m o. is_positive (dot (lead (at_end i b false) m) (lead m (at_end i b true)))) (λ i b m o. false) refl k a j on_x)
    ∙ positive-is (dot (lead (at_end k a false) j) (lead j (at_end k a true))) w.forward)

-- an svertex leads up to a corner with an opposite one along the edge alone
abbrev leads_up : FrameCorner → Axis → FrameCorner → Axis → Bool
leads_up k a j o = ltb (number k) (number j) && is_positive (dot (lead k j) (inward k a)) && is_positive (neg_ℤ (dot (inward k a) (inward j o))) && length_of (cross (lead k j) (inward k a)) == 0

one-edge : (k : FrameCorner) (a : Axis) (j : FrameCorner) (o : Axis) → number k < number j → SameDirection (lead k j) (inward k a) → IsOpposite (inward k a) (inward j o) → between k a j o ≡ edge_at k a
one-edge k a j o h w v = subst (λ b. cond b (between k a j o) (edge_at k a) ≡ edge_at k a) up (each-pair (λ i b m c. cond (leads_up i b m c) (between i b m c) (edge_at i b)) (λ i b m c. edge_at i b) refl k a j o)
  where
    up : leads_up k a j o ≡ true
    up = rw (lt-ltb (number k) (number j) h, positive-is (dot (lead k j) (inward k a)) w.forward, positive-is (neg_ℤ (dot (inward k a) (inward j o))) (let b = v.backward in omega (arith, ints, b)), none-size (cross (lead k j) (inward k a)) w.parallel) refl

abbrev IsListed : Edge → Type 0
IsListed e = (n : ℕ) × IsAt frame_edges n e

module _ (l : Label) where
  is-edge : (k : FrameCorner) (a : Axis) → IsEdge (frame_vertices l) (edge_at k a)
  is-edge k a =
      let low = at_end k a false in let high = at_end k a true in
      record {
        low_vertex = corner_vertex l low;
        high_vertex = corner_vertex l high;
        low_end = svertex low a;
        high_end = svertex high a;
        is_low = frame-vertex l low;
        is_high = frame-vertex l high;
        leaves = svertex-at l low a;
        arrives = svertex-at l high a;
        upward = ltb-true (number low) (number high) (each-slot (λ j o. ltb (number (at_end j o false)) (number (at_end j o true))) (λ j o. true) refl k a);
        ahead = same-way (lead low high) (inward low a) (each-slot (λ j o. cross (lead (at_end j o false) (at_end j o true)) (inward (at_end j o false) o)) (λ j o. vector (pos 0) (pos 0) (pos 0)) refl k a)
            (each-slot (λ j o. is_positive (dot (lead (at_end j o false) (at_end j o true)) (inward (at_end j o false) o))) (λ j o. true) refl k a);
        first = each-vertex l (λ n v. IsBetween (point_of (corner_point low)) v.point (point_of (corner_point high)) → ⊥) (no-corner k a);
        back = opposite-way (inward low a) (inward high a) (each-slot (λ j o. cross (inward (at_end j o false) o) (inward (at_end j o true) o)) (λ j o. vector (pos 0) (pos 0) (pos 0)) refl k a)
            (each-slot (λ j o. is_positive (neg_ℤ (dot (inward (at_end j o false) o) (inward (at_end j o true) o)))) (λ j o. true) refl k a);
        mark = refl;
      }

  -- an edge from these ends is one of the list
  abbrev AreEnds : ℕ → Vertex → ℕ → MapVertex → ℕ → Vertex → ℕ → MapVertex → Type 0
  AreEnds i v m u j w n t = i < j → IsAhead v.point u.dir w.point → IsOpposite u.dir t.dir → IsListed (record { low = i; low_svertex = m; high = j; high_svertex = n; mark = u.mark })

  all-ends : (i : ℕ) (v : Vertex) → IsAt (frame_vertices l) i v → (m : ℕ) (u : MapVertex) → IsAt v.map.svertices m u → (j : ℕ) (w : Vertex) → IsAt (frame_vertices l) j w → (n : ℕ) (t : MapVertex) → IsAt w.map.svertices n t → AreEnds i v m u j w n t
  all-ends = each-vertex l (λ i v. (m : ℕ) (u : MapVertex) → IsAt v.map.svertices m u → (j : ℕ) (w : Vertex) → IsAt (frame_vertices l) j w → (n : ℕ) (t : MapVertex) → IsAt w.map.svertices n t → AreEnds i v m u j w n t) (λ k.
      each-svertex l k (λ m u. (j : ℕ) (w : Vertex) → IsAt (frame_vertices l) j w → (n : ℕ) (t : MapVertex) → IsAt w.map.svertices n t → AreEnds (number k) (corner_vertex l k) m u j w n t) (λ a.
      each-vertex l (λ j w. (n : ℕ) (t : MapVertex) → IsAt w.map.svertices n t → AreEnds (number k) (corner_vertex l k) (axis_slot k.x k.y a) (svertex k a) j w n t) (λ j.
      each-svertex l j (AreEnds (number k) (corner_vertex l k) (axis_slot k.x k.y a) (svertex k a) (number j) (corner_vertex l j))
      (λ o h w b. subst IsListed (sym (one-edge k a j o h w b)) (edge_slot k a, edge-there k a)))))

  complete : (e : Edge) → IsEdge (frame_vertices l) e → IsListed e
  complete e I = subst (λ m. IsListed (record { low = e.low; low_svertex = e.low_svertex; high = e.high; high_svertex = e.high_svertex; mark = m })) (sym I.mark)
      (all-ends e.low I.low_vertex I.is_low e.low_svertex I.low_end I.leaves e.high I.high_vertex I.is_high e.high_svertex I.high_end I.arrives I.upward I.ahead I.back)

edges-ordered : InOrder IsEdgeBelow frame_edges
edges-ordered i k x y h a b = pair-below x.low x.low_svertex y.low y.low_svertex (small i x a) (small k y b)
    (rising 0 (drop 1 (map key frame_edges)) (refl, (refl, (refl, (refl, (refl, (refl, (refl, (refl, (refl, (refl, (refl, tt))))))))))) i k (key x) (key y) h (map-is_at key frame_edges i x a) (map-is_at key frame_edges k y b))
  where
    small : (n : ℕ) (e : Edge) → IsAt frame_edges n e → e.low_svertex < 3
    small = each-edge (λ e. e.low_svertex < 3) (λ j o. ltb-true (edge_at j o).low_svertex 3 (each-slot (λ m c. ltb (edge_at m c).low_svertex 3) (λ m c. true) refl j o))

pub frame-edges : (l : Label) → Edges (frame_vertices l) frame_edges
frame-edges l = record { edges = λ n. each-edge (IsEdge (frame_vertices l)) (is-edge l) n; complete = complete l; ordered = edges-ordered }
