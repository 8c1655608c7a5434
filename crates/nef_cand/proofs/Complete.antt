-- What is listed, and that all vertices of a combination are.
use Rattle.nef_cand.proofs.Prelude.{◌≡◌, ℕ, pos, List, [], ◌++◌, map, arith, refl, sym, subst, ◌⊎◌, inl, inr, ⊎_elim, Contains, IsVertex, SpacePoint, Form, form_at, SamePoint, IsPointBelow, IsBetween, Set, point_of, form_of, Plane, Point, point-decided, IsAt, InOrder, search_list, Found, is-at_within, is-at_is, map-is_at, is-at_map, contains-at, at-contains, HasEnds, Shows, IsCut, IsNearCut, HoldsEdge, IsVertexOfBoth, candidates-suffice, Complex as ProgramComplex, complex_of, ShowsSet, Named, First, Second, named_point, IsAmong, IsNamed, IsNamedIn, AreNamed, IsOnceEach, IsListed, AreExactly, IsVertexOf, AreCandidates, AddsPoints, AddsAll, CutsOne, ListsCandidates, HasTogether, IsCandidate, is-at_read}
use Rattle.law_geometry.specs.complex.Complexes.{Vertex, Edge, Complex}
use Rattle.nef_cand.proofs.Adding.{adds-both, adds-with}
use Rattle.nef_cand.proofs.Apart.{adds-after}
use Rattle.nef_cand.proofs.Framed.{each-framed}

-- ---- whether a place is listed is decided
pub listed-decided : (ps : List Point) (y : SpacePoint) → IsListed ps y ⊎ (IsListed ps y → ⊥)
listed-decided ps y = ⊎_elim (λ f. inl (found f)) (λ n. inr (none n)) (search_list ps (λ k p. SamePoint (point_of p) y) (λ k p. point-decided (point_of p) y))
  where
    found : Found ps (λ k p. SamePoint (point_of p) y) → IsListed ps y
    found f = (f.element, (f.number, is-at_within ps f.number f.element f.listed, is-at_is ps f.number f.element f.element f.listed), f.holds)

    none : ((k : ℕ) (p : Point) → IsAt ps k p → SamePoint (point_of p) y → ⊥) → IsListed ps y → ⊥
    none n (p, (k, l, e), s) = n k p (is-at_read ps k p l (sym e)) s

-- ---- what was added to nothing and then sorted
module _ (P Q : SpacePoint → Type 0) (N : Named → Type 0) (ns ms : List Named) (a : AddsAll P Q N [] ns) (o : IsOnceEach ns ms) where
  added-new : (n : Named) → Contains [] n ⊎ (P (point_of n.point) × N n) → P (point_of n.point) × N n
  added-new n (inl (k, l, e)) = absurd (omega (arith, l))
  added-new n (inr h) = h

  listed-new : (m : Named) → Contains ms m → P (point_of m.point) × N m
  listed-new m h = added-new m (a.added m (o.among m h))

  points-exactly : (y : SpacePoint) → IsAmong ns y → IsListed (map named_point ms) y
  points-exactly y (n, h, s) =
      let m = o.each n h in
      (n.point, subst (Contains (map named_point ms)) m.2 (let k = contains-at ms m.0 m.1 in at-contains (map named_point ms) k.0 m.0.point (map-is_at named_point ms k.0 m.0 k.1)), s)

  pub added-ordered : InOrder (λ (p q : Point). IsPointBelow (point_of p) (point_of q)) (map named_point ms)
  added-ordered i k p q l b c =
      let m = is-at_map named_point ms i p b in let n = is-at_map named_point ms k q c in
      subst (λ (r : Point). IsPointBelow (point_of r) (point_of q)) m.2 (subst (λ (r : Point). IsPointBelow (point_of m.0.point) (point_of r)) n.2 (o.ordered i k m.0 n.0 l m.1 n.1))

  pub added-each : (p : Point) → Contains (map named_point ms) p → P (point_of p)
  added-each p h = let k = contains-at (map named_point ms) p h in let m = is-at_map named_point ms k.0 p k.1 in subst (λ (r : Point). P (point_of r)) m.2 (listed-new m.0 (at-contains ms k.0 m.0 m.1)).0

  pub added-all : (y : SpacePoint) → Q y → IsListed (map named_point ms) y
  added-all y h = points-exactly y (a.all y h)

  pub added-named : (m : Named) → Contains ms m → N m
  added-named m h = (listed-new m h).1

pub added-exactly : (P : SpacePoint → Type 0) (N : Named → Type 0) (ns ms : List Named) → AddsPoints P N [] ns → IsOnceEach ns ms → AreExactly P (map named_point ms)
added-exactly P N ns ms a o = record { ordered = added-ordered P P N ns ms a o; each = added-each P P N ns ms a o; all = added-all P P N ns ms a o }

-- ---- all vertices of the combinations
pub vertex-of : (s : Set) (C : Complex) (y : SpacePoint) → Shows s C → IsVertex s y → IsVertexOf C y
vertex-of s C y S v = let f = S.complete y v in (f.0, (f.1, f.2, f.3))

pub vertices-listed : (s t : Set) (C D : Complex) (ps : List Point) (y : SpacePoint) → AreCandidates C D ps → Shows s C → Shows t D → IsVertexOfBoth s t y → IsListed ps y
vertices-listed s t C D ps y A S T v = A.all y (candidate (candidates-suffice s t C D y S T v))
  where
    cut : (E F : Complex) (r : Set) → IsNearCut E r F y → IsCut E F y
    cut E F r (k, e, p, q, i, h, a, H, b, l, o, n, x) = (k, e, p, q, i, h, a, H, b, l, o, n)

    candidate : IsVertex s y ⊎ IsVertex t y ⊎ IsNearCut C t D y ⊎ IsNearCut D s C y → IsCandidate C D y
    candidate (inl u) = inl (vertex-of s C y S u)
    candidate (inr (inl u)) = inr (inl (vertex-of t D y T u))
    candidate (inr (inr (inl u))) = inr (inr (inl (cut C D t u)))
    candidate (inr (inr (inr u))) = inr (inr (inr (cut D C s u)))

-- ---- what the program collects
-- y lies strictly inside an edge of C, on one of these planes, which doesn't hold the edge
abbrev IsCutByAny : Complex → List Form → SpacePoint → Type 0
IsCutByAny C hs y = (k : ℕ) × (e : Edge) × (v : Vertex) × (w : Vertex) × (i : ℕ) × (h : Form) × IsAt C.edges k e × HasEnds C e v w × IsBetween v.point y w.point
    × IsAt hs i h × (form_at h y ≡ pos 0) × (HoldsEdge h v w → ⊥)

pub cuts-any : (C : Complex) (hs : List Plane) (y : SpacePoint) → CutsOne C hs y → IsCutByAny C (map form_of hs) y
cuts-any C hs y (i, h, a, (k, e, v, w, b, H, m, o, n)) = (k, e, v, w, i, form_of h, b, H, m, map-is_at form_of hs i h a, o, n)

any-cuts : (C : Complex) (hs : List Plane) (y : SpacePoint) → IsCutByAny C (map form_of hs) y → CutsOne C hs y
any-cuts C hs y (k, e, v, w, i, h, b, H, m, a, o, n) =
    let g = is-at_map form_of hs i h a in
    (i, g.0, g.1, (k, e, v, w, b, H, m, subst (λ (f : Form). form_at f y ≡ pos 0) (sym g.2) o, subst (λ (f : Form). HoldsEdge f v w → ⊥) (sym g.2) n))

-- the vertices of both complexes, and points with P and with Q
abbrev pub Has : ProgramComplex → ProgramComplex → (SpacePoint → Type 0) → (SpacePoint → Type 0) → SpacePoint → Type 0
Has a b P Q y = IsVertexOf (complex_of a) y ⊎ IsVertexOf (complex_of b) y ⊎ P y ⊎ Q y

-- points of the first with P, among them all with R, and of the second with Q, among them all with T
module _ (a b : ProgramComplex) (P R Q T : SpacePoint → Type 0) (xs ys ns : List Named) (t : HasTogether a b xs ys ns)
    (third : AddsAll P R (IsNamed (complex_of a) (complex_of b)) [] xs) (fourth : AddsAll Q T (IsNamed (complex_of a) (complex_of b)) [] ys) where
  abbrev N : Named → Type 0
  N = IsNamed (complex_of a) (complex_of b)

  abbrev V : SpacePoint → Type 0
  V y = IsVertexOf (complex_of a) y ⊎ IsVertexOf (complex_of b) y

  vertices-added : AddsPoints V N [] (t.us ++ t.vs)
  vertices-added = adds-both (IsVertexOf (complex_of a)) (IsVertexOf (complex_of a)) (IsVertexOf (complex_of b)) (IsVertexOf (complex_of b)) V V N [] t.us (t.us ++ t.vs)
      (adds-with (IsVertexOf (complex_of a)) (IsVertexOf (complex_of a)) (IsNamedIn First (complex_of a)) N [] t.us (λ n h. h (complex_of a) (complex_of b) refl) t.of_first)
      (adds-after (IsVertexOf (complex_of b)) (IsVertexOf (complex_of b)) N t.us t.vs (adds-with (IsVertexOf (complex_of b)) (IsVertexOf (complex_of b)) (IsNamedIn Second (complex_of b)) N [] t.vs (λ n h. h (complex_of a) (complex_of b) refl) t.of_second))
      (λ y h. h) (λ y h. h)

  others-added : AddsAll (λ y. P y ⊎ Q y) (λ y. R y ⊎ T y) N (t.us ++ t.vs) (((t.us ++ t.vs) ++ xs) ++ ys)
  others-added = adds-both P R Q T (λ y. P y ⊎ Q y) (λ y. R y ⊎ T y) N (t.us ++ t.vs) ((t.us ++ t.vs) ++ xs) (((t.us ++ t.vs) ++ xs) ++ ys)
      (adds-after P R N (t.us ++ t.vs) xs third) (adds-after Q T N ((t.us ++ t.vs) ++ xs) ys fourth) (λ y h. h) (λ y h. h)

  all-added : AddsAll (Has a b P Q) (Has a b R T) N [] (((t.us ++ t.vs) ++ xs) ++ ys)
  all-added = adds-both V V (λ y. P y ⊎ Q y) (λ y. R y ⊎ T y) (Has a b P Q) (Has a b R T) N [] (t.us ++ t.vs) (((t.us ++ t.vs) ++ xs) ++ ys) vertices-added others-added
      (λ y. ⊎_elim (⊎_elim (λ h. inl h) (λ h. inr (inl h))) (λ h. inr (inr h))) (λ y. ⊎_elim (λ h. inl (inl h)) (⊎_elim (λ h. inl (inr h)) (λ h. inr h)))

  pub together-ordered : InOrder (λ (p q : Point). IsPointBelow (point_of p) (point_of q)) (map named_point ns)
  together-ordered = added-ordered (Has a b P Q) (Has a b R T) N (((t.us ++ t.vs) ++ xs) ++ ys) ns all-added t.once

  pub together-each : (p : Point) → Contains (map named_point ns) p → Has a b P Q (point_of p)
  together-each = added-each (Has a b P Q) (Has a b R T) N (((t.us ++ t.vs) ++ xs) ++ ys) ns all-added t.once

  pub together-all : (y : SpacePoint) → Has a b R T y → IsListed (map named_point ns) y
  together-all = added-all (Has a b P Q) (Has a b R T) N (((t.us ++ t.vs) ++ xs) ++ ys) ns all-added t.once

  pub together-named : AreNamed (complex_of a) (complex_of b) ns
  together-named = added-named (Has a b P Q) (Has a b R T) N (((t.us ++ t.vs) ++ xs) ++ ys) ns all-added t.once

-- of all cuts by carriers of the other
pub lists-candidates : (s t : Set) (a b : ProgramComplex) (xs ys ns : List Named) → ShowsSet s a → ShowsSet t b → HasTogether a b xs ys ns
    → AddsPoints (CutsOne (complex_of a) b.carriers) (IsNamedIn First (complex_of a)) [] xs → AddsPoints (CutsOne (complex_of b) a.carriers) (IsNamedIn Second (complex_of b)) [] ys → ListsCandidates a b (map named_point ns)
lists-candidates s t a b xs ys ns S T all third fourth = record {
  exactly = exactly;
  framed = each-framed s t a b (map named_point ns) S.shows T.shows exactly.each;
  complete = λ r u y X Y v. vertices-listed r u (complex_of a) (complex_of b) (map named_point ns) y exactly X.shows Y.shows v;
}
  where
    P : SpacePoint → Type 0
    P = CutsOne (complex_of a) b.carriers

    Q : SpacePoint → Type 0
    Q = CutsOne (complex_of b) a.carriers

    N : Named → Type 0
    N = IsNamed (complex_of a) (complex_of b)

    of-first : AddsPoints P N [] xs
    of-first = adds-with P P (IsNamedIn First (complex_of a)) N [] xs (λ n h. h (complex_of a) (complex_of b) refl) third

    of-second : AddsPoints Q N [] ys
    of-second = adds-with Q Q (IsNamedIn Second (complex_of b)) N [] ys (λ n h. h (complex_of a) (complex_of b) refl) fourth

    forth : (y : SpacePoint) → Has a b P Q y → IsCandidate (complex_of a) (complex_of b) y
    forth y (inl h) = inl h
    forth y (inr (inl h)) = inr (inl h)
    forth y (inr (inr (inl h))) = inr (inr (inl (cuts-any (complex_of a) b.carriers y h)))
    forth y (inr (inr (inr h))) = inr (inr (inr (cuts-any (complex_of b) a.carriers y h)))

    back : (y : SpacePoint) → IsCandidate (complex_of a) (complex_of b) y → Has a b P Q y
    back y (inl h) = inl h
    back y (inr (inl h)) = inr (inl h)
    back y (inr (inr (inl h))) = inr (inr (inl (any-cuts (complex_of a) b.carriers y h)))
    back y (inr (inr (inr h))) = inr (inr (inr (any-cuts (complex_of b) a.carriers y h)))

    exactly : AreCandidates (complex_of a) (complex_of b) (map named_point ns)
    exactly = record {
      ordered = together-ordered a b P P Q Q xs ys ns all of-first of-second;
      each = λ p h. forth (point_of p) (together-each a b P P Q Q xs ys ns all of-first of-second p h);
      all = λ y h. together-all a b P P Q Q xs ys ns all of-first of-second y (back y h);
    }
