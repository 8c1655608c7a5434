-- The orders of planes, directions and points by which turned items are sorted.
use Rattle.nef_turn.proofs.Prelude.{◌≡◌, List, Ordering, Less, Equal, Greater, refl, sym, ap, ◌∙◌, MatchOrdering, IsTotalOrder, IsPermutation, IsSorted, on_total, tied_itself, IsBelow, direction_numbers, point_of, vector_of, Plane, plane_order, plane_total, plane-ordered, IsPlaneBelow, dir_order, dir_total, dir-ordered, InOrder, below-vectors, Vertex, one-order, point_order, point-ordered, point_total, sorted-in_order, still-apart, Moved, AreApart, IsMovedBelow, HaveSameWay, IsVertexBelow, AreAtOnePoint}

-- ---- planes
abbrev pub IsOnePlane : Plane → Plane → Type 0
IsOnePlane g h = g ≡ h

pub planes-in_order : (xs ys : List Plane) → IsPermutation xs ys → AreApart IsOnePlane xs → IsSorted plane_order ys → InOrder IsPlaneBelow ys
planes-in_order = sorted-in_order plane_order plane_total IsPlaneBelow IsOnePlane (λ g h. plane-ordered g h (plane_order g h) refl)
    (λ g h e. ap (plane_order g) (sym e) ∙ tied_itself plane_total g)

-- ---- directions
abbrev pub moved_order : Moved → Moved → Ordering
moved_order u w = dir_order u.svertex.dir w.svertex.dir

moved_total : IsTotalOrder moved_order
moved_total = on_total (λ (u : Moved). u.svertex.dir) dir_total

moved-ranks : (u w : Moved) → MatchOrdering (moved_order u w) (IsMovedBelow u w) (HaveSameWay u w) (IsMovedBelow w u)
moved-ranks u w = by (moved_order u w) (dir-ordered u.svertex.dir w.svertex.dir (moved_order u w) refl)
  where
    by : (o : Ordering) → MatchOrdering o (IsBelow (direction_numbers (vector_of u.svertex.dir)) (direction_numbers (vector_of w.svertex.dir))) (HaveSameWay u w) (IsBelow (direction_numbers (vector_of w.svertex.dir)) (direction_numbers (vector_of u.svertex.dir)))
        → MatchOrdering o (IsMovedBelow u w) (HaveSameWay u w) (IsMovedBelow w u)
    by Less h = below-vectors (vector_of u.svertex.dir) (vector_of w.svertex.dir) h
    by Equal h = h
    by Greater h = below-vectors (vector_of w.svertex.dir) (vector_of u.svertex.dir) h

moved-equal : (u w : Moved) → HaveSameWay u w → moved_order u w ≡ Equal
moved-equal u w e = ap (dir_order u.svertex.dir) (sym e) ∙ tied_itself dir_total u.svertex.dir

pub moved-in_order : (xs ys : List Moved) → IsPermutation xs ys → AreApart HaveSameWay xs → IsSorted moved_order ys → InOrder IsMovedBelow ys
moved-in_order = sorted-in_order moved_order moved_total IsMovedBelow HaveSameWay moved-ranks moved-equal

pub moved-apart : (xs ys : List Moved) → IsPermutation xs ys → AreApart HaveSameWay xs → AreApart HaveSameWay ys
moved-apart = still-apart moved_order moved_total IsMovedBelow HaveSameWay moved-ranks moved-equal

-- ---- points
abbrev pub vertex_order : Vertex → Vertex → Ordering
vertex_order u v = point_order u.point v.point

pub vertex_total : IsTotalOrder vertex_order
vertex_total = on_total (λ (v : Vertex). v.point) point_total

pub vertices-in_order : (xs ys : List Vertex) → IsPermutation xs ys → AreApart AreAtOnePoint xs → IsSorted vertex_order ys → InOrder IsVertexBelow ys
vertices-in_order = sorted-in_order vertex_order vertex_total IsVertexBelow AreAtOnePoint (λ u v. point-ordered u.point v.point)
    (λ u v s. one-order (point_of u.point) (point_of v.point) (point_order u.point v.point) Equal (point-ordered u.point v.point) s)
