-- What an operation gathers: its candidates, the right map at each, and its carriers.
use Rattle.nef_ops.proofs.Prelude.{◌≡◌, Bool, ℕ, zero, suc, ◌<◌, List, [], ◌∷◌, map, length, get_or, slice_get, Some, ap, sym, subst, ◌∙◌, inl, inr, Contains, length-map, IsVertex, SpacePoint, Form, SamePoint, IsPointBelow, InClosedFrame, Set, form_of, point_of, Plane, Point, InOrder, Cone, IsAt, is-at_one, Op, And, Or, Diff, Xor, op_set, SphereMap, map_of, map-is_at, is-at_map, is-at_within, is-at_is, is-at_get, Carriers, SamePlane, Vertex, Complex, vertex_of, ShowsSet, IsVertexOfBoth, Named, IsListed, AreFramed, named_point, IsNamed, AreNamed, ListsNear, moved_if, IsOutcomeAt, AreOutcomesOf, UnaryOp, unary_set, IsRight, IsWorkedBy}
use Rattle.law_geometry.specs.complex.Complexes.{Vertex as PlainVertex, Complex as PlainComplex}
use Rattle.nef_cand.specs.Points.{points_of}
use Rattle.nef_result.specs.declared.outcome.Outcome.{Outcome}
use Rattle.nef_ops.proofs.OneSet.{unary-carriers, unary-vertex}
use Rattle.nef_smap.proofs.Lists.{at-contains}

-- ---- a right outcome
pub right-at : (s : Set) (us vs : List Vertex) (ps : List Point) (i : ℕ) (q : Point) (o : Outcome) → i < length ps → IsOutcomeAt us vs s (point_of (get_or ps i q)) o → IsRight s us vs ps i o
right-at s us vs ps i q o l r p a = subst (λ (k : Point). IsOutcomeAt us vs s (point_of k) o) (is-at_one ps i (get_or ps i q) p (is-at_get ps i q l) a) r

pub right-named : (s : Set) (us vs : List Vertex) (ns : List Named) (i : ℕ) (n : Named) (o : Outcome) → i < length ns → IsOutcomeAt us vs s (point_of (get_or ns i n).point) o → IsRight s us vs (map named_point ns) i o
right-named s us vs ns i n o l r p a =
    let u = is-at_map named_point ns i p a in
    subst (λ (k : Point). IsOutcomeAt us vs s (point_of k) o) (ap named_point (is-at_one ns i (get_or ns i n) u.0 (is-at_get ns i n l) u.1) ∙ u.2) r

-- ---- a listed candidate
pub named-framed : (ns : List Named) (i : ℕ) (n : Named) → i < length ns → AreFramed (map named_point ns) → InClosedFrame (point_of (get_or ns i n).point)
named-framed ns i n l F = F (get_or ns i n).point (at-contains (map named_point ns) i (get_or ns i n).point (map-is_at named_point ns i (get_or ns i n) (is-at_get ns i n l)))

pub named-at : (C D : PlainComplex) (ns : List Named) (i : ℕ) (n : Named) → i < length ns → AreNamed C D ns → IsNamed C D (get_or ns i n)
named-at C D ns i n l N = N (get_or ns i n) (at-contains ns i (get_or ns i n) (is-at_get ns i n l))

-- ---- the results of all jobs
pub worked-outcomes : (Right : ℕ → Outcome → Type 0) (us vs : List Vertex) (s : Set) (hs : List Plane) (ps : List Point) (os : List Outcome) → IsWorkedBy Right us vs s hs ps → length os ≡ length ps
    → ((i : ℕ) (o : Outcome) → slice_get os i ≡ Some o → Right i o) → AreOutcomesOf s hs ps us vs os
worked-outcomes Right us vs s hs ps os W alike each = record {
  carriers = W.carriers;
  alike = alike;
  ordered = W.ordered;
  right = λ k p o a h. W.right k o (each k o h) p a;
  complete = W.complete;
}

-- ---- a vertex of a combination
pub vertex-of_both : (op : Op) (s t : Set) (y : SpacePoint) → IsVertex (op_set op s t) y → IsVertexOfBoth s t y
vertex-of_both And s t y v = inl v
vertex-of_both Or s t y v = inr (inl v)
vertex-of_both Diff s t y v = inr (inr (inl v))
vertex-of_both Xor s t y v = inr (inr (inr v))

-- ---- what the operations gather
abbrev pub PointsAreInOrder : List Point → Type 0
PointsAreInOrder ps = InOrder (λ (p q : Point). IsPointBelow (point_of p) (point_of q)) ps

-- of a combination of two sets, by the candidates ns, lent as ks and js, and their points qs
pub both-outcomes : (op : Op) (a b : Complex) (hs : List Plane) (ns ks js : List Named) (qs : List Point) (us vs : List Vertex) (os : List Outcome) → ks ≡ ns → js ≡ ns → qs ≡ map named_point ks → ListsNear a b ns
    → ((s t : Set) (o : Op) → ShowsSet s a → ShowsSet t b → Carriers (op_set o s t) (map form_of hs)) → length os ≡ length js
    → ((i : ℕ) (o : Outcome) → slice_get os i ≡ Some o → (s t : Set) → ShowsSet s a → ShowsSet t b → IsRight (op_set op s t) us vs (map named_point js) i o)
    → (s t : Set) → ShowsSet s a → ShowsSet t b → AreOutcomesOf (op_set op s t) hs qs us vs os
both-outcomes op a b hs ns ks js qs us vs os asked worked made L carried alike each s t S T = record {
  carriers = carried s t op S T;
  alike = alike ∙ sym (length-map js named_point) ∙ ap length of-jobs;
  ordered = subst PointsAreInOrder same L.ordered;
  right = λ k p o a h. each k o h s t S T p (subst (λ (rs : List Point). IsAt rs k p) (sym of-jobs) a);
  complete = λ y v. subst (λ (rs : List Point). IsListed rs y) same (L.complete s t y S T (vertex-of_both op s t y v));
}
  where
    same : map named_point ns ≡ qs
    same = sym (made ∙ ap (map named_point) asked)

    of-jobs : map named_point js ≡ qs
    of-jobs = ap (map named_point) worked ∙ same

-- the same where the two complexes are given
pub both-given : (r : Set) (hs : List Plane) (qs ps : List Point) (own-a own-b : Bool) (a b first second : Complex) (us vs : List Vertex) (os : List Outcome) → ps ≡ qs → first ≡ a → second ≡ b → moved_if own-a a ≡ us → moved_if own-b b ≡ vs
    → AreOutcomesOf r hs qs (moved_if own-a first) (moved_if own-b second) os → AreOutcomesOf r hs ps us vs os
both-given r hs qs ps own-a own-b a b first second us vs os lent is-first is-second of-a of-b A =
    subst (λ (rs : List Point). AreOutcomesOf r hs rs us vs os) (sym lent)
    (subst (λ (ws : List Vertex). AreOutcomesOf r hs qs ws vs os) (ap (moved_if own-a) is-first ∙ of-a)
    (subst (λ (ws : List Vertex). AreOutcomesOf r hs qs (moved_if own-a first) ws os) (ap (moved_if own-b) is-second ∙ of-b) A))

-- of a half
pub half-worked : (f : Form) (closed : Bool) (h : Plane) (whole : Complex) (hs : List Plane) (vs ps : List Point) → ShowsSet Set.full whole → SamePlane (form_of h) f → ps ≡ vs → PointsAreInOrder vs
    → ((g : Form) (c : Bool) (y : SpacePoint) → SamePlane (form_of h) g → ShowsSet Set.full whole → IsVertex (Set.half g c) y → IsListed vs y)
    → ((g : Form) (c : Bool) → ShowsSet Set.full whole → SamePlane (form_of h) g → Carriers (Set.half g c) (map form_of hs))
    → IsWorkedBy (λ i o. IsRight (Set.half f closed) [] [] ps i o) [] [] (Set.half f closed) hs ps
half-worked f closed h whole hs vs ps S P same order complete carried = record {
  carriers = carried f closed S P;
  ordered = subst PointsAreInOrder (sym same) order;
  complete = λ y v. subst (λ (qs : List Point). IsListed qs y) (sym same) (complete f closed y P S v);
  right = λ i o r. r;
}

-- ---- the vertices of a complex
module _ (s : Set) (c : Complex) (S : ShowsSet s c) where
  pub points-ordered : InOrder (λ (p q : Point). IsPointBelow (point_of p) (point_of q)) (points_of c)
  points-ordered i k p q l a b =
      let u = is-at_map (λ (v : Vertex). v.point) c.vertices i p a in
      let w = is-at_map (λ (v : Vertex). v.point) c.vertices k q b in
      subst (λ (r : Point). IsPointBelow (point_of r) (point_of q)) u.2 (subst (λ (r : Point). IsPointBelow (point_of u.0.point) (point_of r)) w.2
      (S.shows.ordered i k (vertex_of u.0) (vertex_of w.0) l (map-is_at vertex_of c.vertices i u.0 u.1) (map-is_at vertex_of c.vertices k w.0 w.1)))

  pub vertices-listed : (y : SpacePoint) → IsVertex s y → IsListed (points_of c) y
  vertices-listed y v =
      let f = S.shows.complete y v in
      let u = is-at_map vertex_of c.vertices f.0 f.1 f.2 in
      (u.0.point, at-contains (points_of c) f.0 u.0.point (map-is_at (λ (w : Vertex). w.point) c.vertices f.0 u.0 u.1), subst (λ (w : PlainVertex). SamePoint w.point y) (sym u.2) f.3)

  -- what the map that the operation makes of that of a vertex says is right at its point
  pub vertex-right : (op : UnaryOp) (k : ℕ) (v : Vertex) (m : SphereMap) (o : Outcome) → IsAt c.vertices k v → ((p : SpacePoint) → Cone (map_of m) (unary_set op s) p → IsOutcomeAt [] [] (unary_set op s) p o)
      → (Cone (map_of v.map) s (point_of v.point) → Cone (map_of m) (unary_set op s) (point_of v.point)) → IsRight (unary_set op s) [] [] (points_of c) k o
  vertex-right op k v m o h of f p a =
      subst (λ (r : Point). IsOutcomeAt [] [] (unary_set op s) (point_of r) o) (is-at_one (points_of c) k v.point p (map-is_at (λ (w : Vertex). w.point) c.vertices k v h) a)
      (of (point_of v.point) (f (S.shows.cones k (vertex_of v) (map-is_at vertex_of c.vertices k v h))))

-- of an operation on one set
pub one-worked : (op : UnaryOp) (a : Complex) (hs : List Plane) (vs ps : List Point) → ps ≡ vs → vs ≡ points_of a → hs ≡ a.carriers → (s : Set) → ShowsSet s a
    → IsWorkedBy (λ i o. (s : Set) → ShowsSet s a → IsRight (unary_set op s) [] [] (points_of a) i o) [] [] (unary_set op s) hs ps
one-worked op a hs vs ps same listed copied s S = record {
  carriers = subst (λ (gs : List Plane). Carriers (unary_set op s) (map form_of gs)) (sym copied) (unary-carriers op s (map form_of a.carriers) S.shows.carriers);
  ordered = subst PointsAreInOrder (sym (same ∙ listed)) (points-ordered s a S);
  complete = λ y v. subst (λ (qs : List Point). IsListed qs y) (sym (same ∙ listed)) (vertices-listed s a S y (unary-vertex op s y v));
  right = λ i o r. subst (λ (qs : List Point). IsRight (unary_set op s) [] [] qs i o) (sym (same ∙ listed)) (r s S);
}
