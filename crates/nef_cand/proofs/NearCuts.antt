-- Cuts where the other set has something in the carrier that cuts.
use Rattle.nef_cand.proofs.Prelude.{◌≡◌, ℕ, ◌+◌, ◌<◌, pos, List, [], ◌∷◌, ◌++◌, length, map, None, arith, refl, sym, subst, ◌⊎◌, inl, inr, Contains, eq-or-lt_of_le, Contains-append_left, Contains-append_right, Contains-push, Contains-push_cases, IsAt, IsVertex, SpacePoint, Form, form_at, SamePoint, Set, point_of, form_of, Plane, Point, same-point_sym, is-at_one, is-at_within, is-at_map, at-contains, contains-at, IsNearCut, IsSkeletonIn, HoldsEdge, IsEdgePoint, candidates-suffice, same-point_trans, Complex, Edge, Span, complex_of, ShowsSet, AreAlone, IsInSpan, IsNarrower, span-between, spanned, span-wider, narrower-still, is-at_some, IsSkeletonAt, held-same, skeleton-same, Named, Operand, First, Second, Spanned, IsVertexOf, IsCutBy, named_point, IsNamedBetween, AddsAll, HasBoth, CutsEdge, MissesFrame, IsSpannedIn, AreSpannedIn, IsSpanned, AreSpannedCarriers, AreWithinSpan, AreThoseNear, IsApart, IsHeldIn, IsCarrierCut, IsHeldCut, CutsBy, CutsHeld, ListsCuts, CutsEdgeHeld, CutsEdgeByOne, CutsEdgeHeldOne, IsHeldCutOf, HasTogether, IsCandidate, ListsNear}
use Rattle.law_geometry.specs.complex.Complexes.{Complex as PlainComplex}
use Rattle.nef_locate.specs.declared.point.Place.{Place as FoundPlace}
use Rattle.nef_cand.specs.declared.named.CandidateName.TheVariants as name
use Rattle.nef_cand.proofs.Adding.{AnyAt, adds-none, adds-as}
use Rattle.nef_cand.proofs.Apart.{cuts-merged}
use Rattle.nef_cand.proofs.Complete.{Has, vertex-of, cuts-any, together-ordered, together-each, together-all, together-named}
use Rattle.nef_cand.proofs.Framed.{each-framed}
use Rattle.nef_cand.proofs.Held.{edge-crosses, edge-named, some-cut, cut-some}
use Rattle.nef_cand.proofs.Missing.{never-cut}

-- ---- the carriers one after the other
pub spanned-none : (c : Complex) (xs : List Spanned) → xs ≡ [] → AreSpannedCarriers c 0 xs
spanned-none c xs e = subst (AreSpannedCarriers c 0) (sym e) (record { each = λ x (k, l, o). absurd (omega (arith, l)); all = λ k h l a. absurd (omega (arith, l)) })

module _ (c : Complex) (n : ℕ) (xs : List Spanned) (A : AreSpannedCarriers c n xs) where
  pub spanned-same : (g : Plane) → IsAt c.carriers n g → MissesFrame (form_of g) → AreSpannedCarriers c (n + 1) xs
  spanned-same g here m = record { each = A.each; all = λ k h l a. by k h (eq-or-lt_of_le {n = k} {m = n} (omega (arith, l))) a }
    where
      by : (k : ℕ) (h : Plane) → (k ≡ n) ⊎ (k < n) → IsAt c.carriers k h → MissesFrame (form_of h) ⊎ IsSpanned xs h
      by k h (inl e) a = inl (subst (λ (p : Plane). MissesFrame (form_of p)) (is-at_one c.carriers n g h here (subst (λ (j : ℕ). IsAt c.carriers j h) e a)) m)
      by k h (inr l) a = A.all k h l a

  pub spanned-more : (x : Spanned) → IsAt c.carriers n x.plane → IsSpannedIn c x → AreSpannedCarriers c (n + 1) (xs ++ x ∷ [])
  spanned-more x here span = record {
    each = λ y h. from y (Contains-push_cases xs x y h);
    all = λ k h l a. by k h (eq-or-lt_of_le {n = k} {m = n} (omega (arith, l))) a;
  }
    where
      at : IsAt c.carriers n x.plane
      at = here

      from : (y : Spanned) → Contains xs y ⊎ (x ≡ y) → IsSpannedIn c y
      from y (inl h) = A.each y h
      from y (inr e) = subst (IsSpannedIn c) e span

      still : (h : Plane) → MissesFrame (form_of h) ⊎ IsSpanned xs h → MissesFrame (form_of h) ⊎ IsSpanned (xs ++ x ∷ []) h
      still h (inl m) = inl m
      still h (inr (z, i, e)) = inr (z, Contains-append_left xs (x ∷ []) z i, e)

      by : (k : ℕ) (h : Plane) → (k ≡ n) ⊎ (k < n) → IsAt c.carriers k h → MissesFrame (form_of h) ⊎ IsSpanned (xs ++ x ∷ []) h
      by k h (inl e) a = inr (x, Contains-push xs x, is-at_one c.carriers n x.plane h at (subst (λ (j : ℕ). IsAt c.carriers j h) e a))
      by k h (inr l) a = still h (A.all k h l a)

-- those of a list are listed with spans, and so are those of its parts
pub listed-carriers : (c : Complex) (n : ℕ) (xs ys : List Spanned) → ys ≡ xs → AreSpannedCarriers c n xs → AreSpannedIn c ys
listed-carriers c n xs ys e A = subst (AreSpannedIn c) (sym e) A.each

pub parts-spanned : (c : Complex) (xs hs gs : List Spanned) → xs ≡ hs ++ gs → AreSpannedIn c xs → AreSpannedIn c hs × AreSpannedIn c gs
parts-spanned c xs hs gs e A =
    let B : AreSpannedIn c (hs ++ gs) = subst (AreSpannedIn c) e A in
    (λ x h. B x (Contains-append_left hs gs x h), λ x h. B x (Contains-append_right hs gs x h))

-- ---- an edge
module _ (c : Complex) (o : Operand) (d : Complex) (e : Edge) (x : Spanned) where
  -- the plane of the carrier crosses the edge nowhere
  pub never-held : ((y : SpacePoint) → CutsEdge c x.plane e y → ⊥) → IsHeldCutOf c o d e x None
  never-held n = λ y h. n y h.0

  -- or at one point, where the other set has nothing in it
  pub nothing-held : (p : Point) (q : SpacePoint) → SamePoint q (point_of p) → ((y : SpacePoint) → CutsEdge c x.plane e y → SamePoint (point_of p) y) → ((t : Set) → ShowsSet t d → IsSkeletonIn t (complex_of d) (form_of x.plane) q → ⊥)
      → IsHeldCutOf c o d e x None
  nothing-held p q same one n = λ y (cut, (t, T, i)).
      n t T (held-same t (complex_of d) (form_of x.plane) y q (same-point_sym q y (same-point_trans q (point_of p) y same (one y cut))) i)

named-between : (o : Operand) (C D : PlainComplex) (k : ℕ) (p : Point) (a : FoundPlace) → IsEdgePoint C k (point_of p) → IsSkeletonAt D (point_of p) a → IsNamedBetween o C D (record { point = p; name = name.Cut o k a })
named-between First C D k p a e s = (e, s.has, s.at)
named-between Second C D k p a e s = (e, s.has, s.at)

edge-at-cut : (o : Operand) (c : Complex) (h : Plane) (k : ℕ) (e : Edge) → IsAt c.edges k e → (p : Point) → CutsEdge c h e (point_of p) → IsEdgePoint (complex_of c) k (point_of p)
edge-at-cut First c h k e a p (u, v, f, g, t) = edge-named First c h k e u v a f g p t (complex_of c) (complex_of c) refl
edge-at-cut Second c h k e a p (u, v, f, g, t) = edge-named Second c h k e u v a f g p t (complex_of c) (complex_of c) refl

-- a cut that is found is named by the edge and by the place in the other set
pub held-named : (o : Operand) (c d : Complex) (h : Plane) (k : ℕ) (e : Edge) → IsAt c.edges k e → (p : Point) (q : SpacePoint) → SamePoint q (point_of p) → CutsEdge c h e (point_of p)
    → (a : FoundPlace) → IsSkeletonAt (complex_of d) q a → IsNamedBetween o (complex_of c) (complex_of d) (record { point = p; name = name.Cut o k a })
held-named o c d h k e l p q same cut a s = named-between o (complex_of c) (complex_of d) k p a (edge-at-cut o c h k e l p cut) (skeleton-same (complex_of d) q (point_of p) same a s)

-- the points of an edge lie within what is as wide as the spans of its ends
pub ends-spanned : (c : Complex) (ss : List Span) → AreAlone c.vertices ss → (h : Plane) (e : Edge) (s t r : Span) → IsAt ss e.low s → IsAt ss e.high t → IsNarrower s r → IsNarrower t r
    → (y : SpacePoint) → CutsEdge c h e y → IsInSpan r y
ends-spanned c ss A h e s t r i j n m y (u, v, a, b, o) =
    let w = edge-crosses c h e u v a b y (u, v, a, b, o) in
    span-between s t r (point_of u.point) y (point_of v.point) w.between (A.each e.low u s a i) (A.each e.high v t b j) n m

-- what the other set has in a carrier lies within the carrier's span
pub held-spanned : (c d : Complex) (e : Edge) (x : Spanned) → IsSpannedIn d x → (y : SpacePoint) → CutsEdgeHeld c d e x y → IsInSpan x.span y
held-spanned c d e x s y ((u, v, a, b, o), (t, T, i)) =
    spanned t d T (form_of x.plane) x.span s.1 y (edge-crosses c x.plane e u v a b y (u, v, a, b, o)).on i

-- all edges lie within what is as wide as the spans of all vertices
pub edge-around : (c : Complex) (ss : List Span) → AreAlone c.vertices ss → (r : Span) → ((k : ℕ) (s : Span) → IsAt ss k s → IsNarrower s r) → (h : Plane) (e : Edge) (y : SpacePoint) → CutsEdge c h e y → IsInSpan r y
edge-around c ss A r wide h e y (u, v, a, b, o) =
    let m = A.as_many in
    let i = is-at_within c.vertices e.low u a in let j = is-at_within c.vertices e.high v b in
    let s = is-at_some ss e.low (omega (arith, i, m)) in let t = is-at_some ss e.high (omega (arith, j, m)) in
    ends-spanned c ss A h e s.0 t.0 r s.1 t.1 (wide e.low s.0 s.1) (wide e.high t.0 t.1) y (u, v, a, b, o)

-- an edge that has no point of the span around all carriers is cut nowhere where the other set has something
pub edge-passed : (c d : Complex) (e : Edge) (xs : List Spanned) → AreSpannedIn d xs → (around : Span) → AreWithinSpan xs around → IsApart c e around → (y : SpacePoint) → CutsEdgeHeldOne c d xs e y → ⊥
edge-passed c d e xs A around W far y (i, x, a, h) =
    let has = at-contains xs i x a in
    far y x.plane h.0 (span-wider x.span around y (W x has) (held-spanned c d e x (A x has) y h))

-- so nothing is added for it
pub edge-apart : (c d : Complex) (k : ℕ) (g e : Edge) → IsAt c.edges k g → IsAt c.edges k e → (xs : List Spanned) → AreSpannedIn d xs → (around : Span) → AreWithinSpan xs around
    → IsApart c g around → (N : Named → Type 0) (ps : List Named) → AddsAll (CutsEdgeByOne c xs e) (CutsEdgeHeldOne c d xs e) N ps ps
edge-apart c d k g e a b xs A around W far N ps = subst (λ (f : Edge). AddsAll (CutsEdgeByOne c xs f) (CutsEdgeHeldOne c d xs f) N ps ps) (is-at_one c.edges k g e a b)
    (adds-none (CutsEdgeByOne c xs g) (CutsEdgeHeldOne c d xs g) N ps (edge-passed c d g xs A around W far))

-- ---- a span around carriers, one after the other
pub around-none : (s : Span) → AreWithinSpan [] s
around-none s x (k, l, e) = absurd (omega (arith, l))

pub around-more : (xs : List Spanned) (s : Span) (x : Spanned) (t : Span) → AreWithinSpan xs s → IsNarrower s t → IsNarrower x.span t → AreWithinSpan (xs ++ x ∷ []) t
around-more xs s x t W n m z h = by (Contains-push_cases xs x z h)
  where
    by : Contains xs z ⊎ (x ≡ z) → IsNarrower z.span t
    by (inl i) = narrower-still z.span s t (W z i) n
    by (inr e) = subst (λ (w : Spanned). IsNarrower w.span t) e m

-- ---- the carriers near a span, one after the other
pub near-none : (s : Span) → AreThoseNear [] s []
near-none s = record { only = λ x h. h; all = λ x h y i j. h }

module _ (xs : List Spanned) (s : Span) (ys : List Spanned) (A : AreThoseNear xs s ys) (x : Spanned) where
  pub near-more : AreThoseNear (xs ++ x ∷ []) s (ys ++ x ∷ [])
  near-more = record { only = λ z h. only z (Contains-push_cases ys x z h); all = λ z h y i j. all z y i j (Contains-push_cases xs x z h) }
    where
      only : (z : Spanned) → Contains ys z ⊎ (x ≡ z) → Contains (xs ++ x ∷ []) z
      only z (inl h) = Contains-append_left xs (x ∷ []) z (A.only z h)
      only z (inr e) = subst (Contains (xs ++ x ∷ [])) e (Contains-push xs x)

      all : (z : Spanned) (y : SpacePoint) → IsInSpan z.span y → IsInSpan s y → Contains xs z ⊎ (x ≡ z) → Contains (ys ++ x ∷ []) z
      all z y i j (inl h) = Contains-append_left ys (x ∷ []) z (A.all z h y i j)
      all z y i j (inr e) = subst (Contains (ys ++ x ∷ [])) e (Contains-push ys x)

  pub near-passed : ((y : SpacePoint) → IsInSpan x.span y → IsInSpan s y → ⊥) → AreThoseNear (xs ++ x ∷ []) s ys
  near-passed far = record { only = λ z h. Contains-append_left xs (x ∷ []) z (A.only z h); all = λ z h y i j. all z y i j (Contains-push_cases xs x z h) }
    where
      all : (z : Spanned) (y : SpacePoint) → IsInSpan z.span y → IsInSpan s y → Contains xs z ⊎ (x ≡ z) → Contains ys z
      all z y i j (inl h) = A.all z h y i j
      all z y i j (inr e) = absurd (far y (subst (λ (w : Spanned). IsInSpan w.span y) (sym e) i) j)

-- ---- the carriers near the span of the vertices: their cuts are those by all
pub close-spanned : (d : Complex) (r : Span) (xs ys : List Spanned) → AreSpannedIn d xs → AreThoseNear xs r ys → AreSpannedIn d ys
close-spanned d r xs ys A T x h = A x (T.only x h)

module _ (c d : Complex) (ss : List Span) (E : AreAlone c.vertices ss) (r : Span) (wide : (k : ℕ) (s : Span) → IsAt ss k s → IsNarrower s r) (xs ys : List Spanned) (A : AreSpannedIn d xs) (T : AreThoseNear xs r ys) where
  pub close-all : (N : Named → Type 0) (ps qs : List Named) → AddsAll (CutsBy (complex_of c) ys) (CutsHeld (complex_of c) d ys) N ps qs → AddsAll (CutsBy (complex_of c) xs) (CutsHeld (complex_of c) d xs) N ps qs
  close-all N ps qs = adds-as (CutsBy (complex_of c) ys) (CutsHeld (complex_of c) d ys) (CutsBy (complex_of c) xs) (CutsHeld (complex_of c) d xs) N ps qs forth back
    where
      forth : (y : SpacePoint) → CutsBy (complex_of c) ys y → CutsBy (complex_of c) xs y
      forth y (i, x, a, h) = let k = contains-at xs x (T.only x (at-contains ys i x a)) in (k.0, x, k.1, h)

      back : (y : SpacePoint) → CutsHeld (complex_of c) d xs y → CutsHeld (complex_of c) d ys y
      back y (i, x, a, (h, s)) =
          let has = at-contains xs i x a in
          let z = cut-some c x.plane y h in
          let k = contains-at ys x (T.all x has y (held-spanned c d z.1 x (A x has) y (z.3, s)) (edge-around c ss E r wide x.plane z.1 y z.3)) in
          (k.0, x, k.1, (h, s))

-- ---- all edges
pub near-all : (c d : Complex) (xs : List Spanned) (N : Named → Type 0) (ps qs : List Named) → AddsAll (AnyAt (CutsEdgeByOne c xs) c.edges) (AnyAt (CutsEdgeHeldOne c d xs) c.edges) N ps qs
    → AddsAll (CutsBy (complex_of c) xs) (CutsHeld (complex_of c) d xs) N ps qs
near-all c d xs N ps qs = adds-as (AnyAt (CutsEdgeByOne c xs) c.edges) (AnyAt (CutsEdgeHeldOne c d xs) c.edges) (CutsBy (complex_of c) xs) (CutsHeld (complex_of c) d xs) N ps qs forth back
  where
    forth : (y : SpacePoint) → AnyAt (CutsEdgeByOne c xs) c.edges y → CutsBy (complex_of c) xs y
    forth y (k, e, a, (i, x, b, h)) = (i, x, b, some-cut c x.plane y (k, e, a, h))

    back : (y : SpacePoint) → CutsHeld (complex_of c) d xs y → AnyAt (CutsEdgeHeldOne c d xs) c.edges y
    back y (i, x, b, (h, s)) = let z = cut-some c x.plane y h in (z.0, z.1, z.2, (i, x, b, (z.3, s)))

-- ---- all that is listed
module _ (a b : Complex) (xs : List Spanned) (A : AreSpannedCarriers b (length b.carriers) xs) where
  pub near-cut : (y : SpacePoint) → CutsBy (complex_of a) xs y → (i : ℕ) × (h : Plane) × IsAt b.carriers i h × IsCutBy (complex_of a) (form_of h) y
  near-cut y (i, x, l, d) = (x.number, x.plane, (A.each x (at-contains xs i x l)).0, d)

  -- a cut by a carrier that holds something of the other set there is one by a listed carrier
  pub cut-near : (s t : Set) → ShowsSet s a → ShowsSet t b → (y : SpacePoint) → IsNearCut (complex_of a) t (complex_of b) y → CutsHeld (complex_of a) b xs y
  cut-near s t S T y (k, e, v, w, i, h, l, H, m, r, o, n, f) =
      let g = is-at_map form_of b.carriers i h r in
      let on = subst (λ (j : Form). form_at j y ≡ pos 0) (sym g.2) o in
      by g.0 (subst (λ (j : Form). IsSkeletonIn t (complex_of b) j y) (sym g.2) f) (k, e, v, w, l, H, m, on, subst (λ (j : Form). HoldsEdge j v w → ⊥) (sym g.2) n)
      (A.all i g.0 (is-at_within b.carriers i g.0 g.1) g.1)
    where
      by : (g : Plane) → IsSkeletonIn t (complex_of b) (form_of g) y → IsCutBy (complex_of a) (form_of g) y → MissesFrame (form_of g) ⊎ IsSpanned xs g → CutsHeld (complex_of a) b xs y
      by g f d (inl q) = absurd (never-cut s (complex_of a) (form_of g) S.shows q y d)
      by g f d (inr (x, q, same)) =
          let j = contains-at xs x q in
          (j.0, x, j.1, subst (λ (p : Plane). IsCutBy (complex_of a) (form_of p) y × IsHeldIn b p y) (sym same) (d, (t, T, f)))

module _ (s t : Set) (a b : Complex) (S : ShowsSet s a) (T : ShowsSet t b) (us vs ns : List Named) (all : HasTogether a b us vs ns)
    (xs : List Spanned) (X : AreSpannedCarriers b (length b.carriers) xs) (third : AddsAll (CutsBy (complex_of a) xs) (CutsHeld (complex_of a) b xs) (IsNamedBetween First (complex_of a) (complex_of b)) [] us)
    (ys : List Spanned) (Y : AreSpannedCarriers a (length a.carriers) ys) (fourth : AddsAll (CutsBy (complex_of b) ys) (CutsHeld (complex_of b) a ys) (IsNamedBetween Second (complex_of b) (complex_of a)) [] vs) where
  abbrev P : SpacePoint → Type 0
  P = CutsBy (complex_of a) xs

  abbrev R : SpacePoint → Type 0
  R = CutsHeld (complex_of a) b xs

  abbrev Q : SpacePoint → Type 0
  Q = CutsBy (complex_of b) ys

  abbrev O : SpacePoint → Type 0
  O = CutsHeld (complex_of b) a ys

  candidate : (y : SpacePoint) → Has a b P Q y → IsCandidate (complex_of a) (complex_of b) y
  candidate y (inl h) = inl h
  candidate y (inr (inl h)) = inr (inl h)
  candidate y (inr (inr (inl h))) = inr (inr (inl (cuts-any (complex_of a) b.carriers y (near-cut a b xs X y h))))
  candidate y (inr (inr (inr h))) = inr (inr (inr (cuts-any (complex_of b) a.carriers y (near-cut b a ys Y y h))))

  vertex-near : (r q : Set) → ShowsSet r a → ShowsSet q b → (y : SpacePoint) → IsVertex r y ⊎ IsVertex q y ⊎ IsNearCut (complex_of a) q (complex_of b) y ⊎ IsNearCut (complex_of b) r (complex_of a) y → Has a b R O y
  vertex-near r q E F y (inl h) = inl (vertex-of r (complex_of a) y E.shows h)
  vertex-near r q E F y (inr (inl h)) = inr (inl (vertex-of q (complex_of b) y F.shows h))
  vertex-near r q E F y (inr (inr (inl h))) = inr (inr (inl (cut-near a b xs X r q E F y h)))
  vertex-near r q E F y (inr (inr (inr h))) = inr (inr (inr (cut-near b a ys Y q r F E y h)))

  pub lists-near : ListsNear a b ns
  lists-near =
      let each = together-each a b P R Q O us vs ns all third fourth in
      let listed = together-all a b P R Q O us vs ns all third fourth in
      record {
        ordered = together-ordered a b P R Q O us vs ns all third fourth;
        each = λ p h. candidate (point_of p) (each p h);
        vertices = λ y h. listed y (vertex y h);
        framed = each-framed s t a b (map named_point ns) S.shows T.shows (λ p h. candidate (point_of p) (each p h));
        named = together-named a b P R Q O us vs ns all third fourth;
        complete = λ r q y E F v. listed y (vertex-near r q E F y (candidates-suffice r q (complex_of a) (complex_of b) y E.shows F.shows v));
      }
    where
      vertex : (y : SpacePoint) → IsVertexOf (complex_of a) y ⊎ IsVertexOf (complex_of b) y → Has a b R O y
      vertex y (inl h) = inl h
      vertex y (inr h) = inr (inl h)

-- the same of lists that are read as slices
pub near-listed : (s t : Set) (a b : Complex) → ShowsSet s a → ShowsSet t b → (xs hs ys gs : List Spanned) → hs ≡ xs → gs ≡ ys → AreSpannedCarriers b (length b.carriers) xs → AreSpannedCarriers a (length a.carriers) ys
    → (ps us qs vs ns : List Named) → us ≡ ps → vs ≡ qs → ListsCuts First a b hs ps → ListsCuts Second b a gs qs → HasTogether a b us vs ns → ListsNear a b ns
near-listed s t a b S T xs hs ys gs ex ey X Y ps us qs vs ns eu ev third fourth all = lists-near s t a b S T us vs ns all
    xs X (subst (λ (zs : List Named). ListsCuts First a b xs zs) (sym eu) (subst (λ (zs : List Spanned). ListsCuts First a b zs ps) ex third))
    ys Y (subst (λ (zs : List Named). ListsCuts Second b a ys zs) (sym ev) (subst (λ (zs : List Spanned). ListsCuts Second b a zs qs) ey fourth))

-- what the carriers of two halves cut, merged
pub cuts-halved : (o : Operand) (c d : Complex) (hs gs ks : List Spanned) → ks ≡ hs ++ gs → (ps us qs vs rs : List Named) → us ≡ ps → vs ≡ qs → ListsCuts o c d hs ps → ListsCuts o c d gs qs → HasBoth us vs rs → ListsCuts o c d ks rs
cuts-halved o c d hs gs ks e ps us qs vs rs eu ev A B = cuts-merged (IsCarrierCut (complex_of c)) (IsHeldCut (complex_of c) d) (IsNamedBetween o (complex_of c) (complex_of d)) hs gs ks us vs rs e
    (subst (λ (zs : List Named). ListsCuts o c d hs zs) (sym eu) A) (subst (λ (zs : List Named). ListsCuts o c d gs zs) (sym ev) B)
