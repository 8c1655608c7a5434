-- Candidates near what the sets have in the planes that cut.
use Rattle.std.specs.Prelude.{◌≡◌, ◌<◌, ◌≤◌, ◌⊎◌, ◌++◌, ℕ, List, [], take, map, Option}
use Rattle.std.specs.List.{Contains}
use Rattle.nef_complex.specs.Prelude.{MatchOption, IsAt, SpacePoint, SamePoint, IsPointBelow, Set, point_of, form_of, Plane, Point, complex_of, ShowsSet, IsInSpan, IsNarrower}
use Rattle.law_geometry.specs.sphere.Least.{InOrder}
use Rattle.law_geometry.specs.complex.Complexes.{Complex as PlainComplex}
use Rattle.law_geometry.specs.complex.Laws.{IsCut, IsSkeletonIn, IsVertexOfBoth}
use Rattle.nef_complex.specs.declared.complex.Complex.{Complex}
use Rattle.nef_index.specs.declared.skeleton.Edge.{Edge}
use Rattle.nef_complex.specs.declared.complex.Vertex.{Vertex}
use Rattle.nef_complex.specs.Index.{IsSpanOn}
use Rattle.nef_index.specs.declared.spans.Span.{Span}
use Rattle.nef_cand.specs.declared.named.Named.{Named}
use Rattle.nef_cand.specs.declared.named.Operand.{Operand}
use Rattle.nef_cand.specs.declared.named.Operand.TheVariants.{First, Second}
use Rattle.nef_cand.specs.declared.listing.Spanned.{Spanned}
use Rattle.nef_cand.specs.Candidates.{IsListed, IsVertexOf, IsCutBy, AreFramed}
use Rattle.nef_cand.specs.Names.{named_point, AreNamed, IsNamedIn, IsNamedBetween, IsOnceEach, AreNamedBelow}
use Rattle.nef_cand.specs.Points.{AddsAll, AddsPoints, CutsEdge, MissesFrame}

-- ---- carriers with their spans
-- the number is that of the carrier, and the span holds the vertices on it
abbrev pub IsSpannedIn : Complex → Spanned → Type 0
IsSpannedIn c x = IsAt c.carriers x.number x.plane × IsSpanOn c.vertices (form_of x.plane) x.span

abbrev pub AreSpannedIn : Complex → List Spanned → Type 0
AreSpannedIn c xs = (x : Spanned) → Contains xs x → IsSpannedIn c x

-- both complexes show sets, and the carriers are some of the second one's
abbrev pub MayBeCut : Complex → Complex → List Spanned → Type 0
MayBeCut c d xs = ((s : Set) × ShowsSet s c) × ((t : Set) × ShowsSet t d) × AreSpannedIn d xs

-- the carrier is listed
abbrev pub IsSpanned : List Spanned → Plane → Type 0
IsSpanned xs h = (x : Spanned) × Contains xs x × (x.plane ≡ h)

-- these are some of the first n carriers; of the others each misses the frame
pub record AreSpannedCarriers (c : Complex) (n : ℕ) (xs : List Spanned) : Type 0 where
  pub each : AreSpannedIn c xs
  pub all : (k : ℕ) (h : Plane) → k < n → IsAt c.carriers k h → MissesFrame (form_of h) ⊎ IsSpanned xs h

-- the span is as wide as those of all these carriers
abbrev pub AreWithinSpan : List Spanned → Span → Type 0
AreWithinSpan xs s = (x : Spanned) → Contains xs x → IsNarrower x.span s

-- these are some of the carriers, among them all whose spans have a point of this span
pub record AreThoseNear (xs : List Spanned) (s : Span) (ys : List Spanned) : Type 0 where
  pub only : (x : Spanned) → Contains ys x → Contains xs x
  pub all : (x : Spanned) → Contains xs x → (y : SpacePoint) → IsInSpan x.span y → IsInSpan s y → Contains ys x

-- ---- cuts where the other set has something
-- the set that the complex shows has something in the plane at y
abbrev pub IsHeldIn : Complex → Plane → SpacePoint → Type 0
IsHeldIn d h y = (t : Set) × ShowsSet t d × IsSkeletonIn t (complex_of d) (form_of h) y

-- y is a cut of an edge by the carrier
abbrev pub IsCarrierCut : PlainComplex → Spanned → SpacePoint → Type 0
IsCarrierCut C x y = IsCutBy C (form_of x.plane) y

-- and the other complex has something in the carrier there
abbrev pub IsHeldCut : PlainComplex → Complex → Spanned → SpacePoint → Type 0
IsHeldCut C d x y = IsCarrierCut C x y × IsHeldIn d x.plane y

-- the same of one of the carriers
abbrev pub CutsBy : PlainComplex → List Spanned → SpacePoint → Type 0
CutsBy C xs y = (i : ℕ) × (x : Spanned) × IsAt xs i x × IsCarrierCut C x y

abbrev pub CutsHeld : PlainComplex → Complex → List Spanned → SpacePoint → Type 0
CutsHeld C d xs y = (i : ℕ) × (x : Spanned) × IsAt xs i x × IsHeldCut C d x y

-- the cuts of c, which is this operand, by carriers of the other complex d, among them all where that has something in the carrier
abbrev pub ListsCuts : Operand → Complex → Complex → List Spanned → List Named → Type 0
ListsCuts o c d xs ns = AddsAll (CutsBy (complex_of c) xs) (CutsHeld (complex_of c) d xs) (IsNamedBetween o (complex_of c) (complex_of d)) [] ns

-- the carrier crosses this edge at y
abbrev pub CutsEdgeBy : Complex → Edge → Spanned → SpacePoint → Type 0
CutsEdgeBy c e x y = CutsEdge c x.plane e y

-- and the other complex has something in it there
abbrev pub CutsEdgeHeld : Complex → Complex → Edge → Spanned → SpacePoint → Type 0
CutsEdgeHeld c d e x y = CutsEdge c x.plane e y × IsHeldIn d x.plane y

-- no plane crosses the edge within the span
abbrev pub IsApart : Complex → Edge → Span → Type 0
IsApart c e s = (y : SpacePoint) (h : Plane) → CutsEdge c h e y → IsInSpan s y → ⊥

-- one of the carriers does
abbrev pub CutsEdgeByOne : Complex → List Spanned → Edge → SpacePoint → Type 0
CutsEdgeByOne c xs e y = (i : ℕ) × (x : Spanned) × IsAt xs i x × CutsEdgeBy c e x y

abbrev pub CutsEdgeHeldOne : Complex → Complex → List Spanned → Edge → SpacePoint → Type 0
CutsEdgeHeldOne c d xs e y = (i : ℕ) × (x : Spanned) × IsAt xs i x × CutsEdgeHeld c d e x y

-- the one point where the carrier crosses this edge is named in both complexes, or the other has nothing in the carrier there
abbrev pub IsHeldCutOf : Complex → Operand → Complex → Edge → Spanned → Option Named → Type 0
IsHeldCutOf c o d e x cut = MatchOption cut ((y : SpacePoint) → CutsEdgeHeld c d e x y → ⊥)
    (λ n. CutsEdgeBy c e x (point_of n.point) × IsNamedBetween o (complex_of c) (complex_of d) n × ((y : SpacePoint) → CutsEdgeBy c e x y → SamePoint (point_of n.point) y))

-- ---- two lists in order, merged
-- ns are us and the first m of xs, in order, once each, and below the others of xs
pub record AreMergedFirst (us xs : List Named) (m : ℕ) (ns : List Named) : Type 0 where
  pub once : IsOnceEach (us ++ take m xs) ns
  pub ahead : (k : ℕ) (x : Named) → m ≤ k → IsAt xs k x → AreNamedBelow ns (point_of x.point)

-- y is one of the first n vertices
abbrev pub IsOneOfFirst : Complex → ℕ → SpacePoint → Type 0
IsOneOfFirst c n y = (k : ℕ) × (v : Vertex) × (k < n) × IsAt c.vertices k v × SamePoint (point_of v.point) y

-- ns are the first n vertices of c, which is this operand, and the first m of xs, in order, once each, and below the others of both
pub record AreMergedTo (o : Operand) (c : Complex) (n : ℕ) (xs : List Named) (m : ℕ) (ns : List Named) : Type 0 where
  pub us : List Named
  pub vertices : AddsPoints (IsOneOfFirst c n) (IsNamedIn o (complex_of c)) [] us
  pub merged : AreMergedFirst us xs m ns
  pub below : (k : ℕ) (v : Vertex) → n ≤ k → IsAt c.vertices k v → AreNamedBelow ns (point_of v.point)

-- the first n vertices are below those of xs from number m on
abbrev pub ArePassed : Complex → ℕ → List Named → ℕ → Type 0
ArePassed c n xs m = (k : ℕ) (v : Vertex) (j : ℕ) (x : Named) → k < n → IsAt c.vertices k v → m ≤ j → IsAt xs j x → IsPointBelow (point_of v.point) (point_of x.point)

-- the vertices of the complex, which is this operand, and what is given, in order, once each
pub record HasVertices (o : Operand) (c : Complex) (xs ns : List Named) : Type 0 where
  pub us : List Named
  pub vertices : AddsPoints (IsVertexOf (complex_of c)) (IsNamedIn o (complex_of c)) [] us
  pub once : IsOnceEach (us ++ xs) ns

-- and the same of two complexes
pub record HasBothVertices (o : Operand) (c : Complex) (p : Operand) (d : Complex) (xs ns : List Named) : Type 0 where
  pub us : List Named
  pub vs : List Named
  pub of_first : AddsPoints (IsVertexOf (complex_of c)) (IsNamedIn o (complex_of c)) [] us
  pub of_second : AddsPoints (IsVertexOf (complex_of d)) (IsNamedIn p (complex_of d)) [] vs
  pub once : IsOnceEach ((us ++ vs) ++ xs) ns

-- ---- what is listed
-- the vertices of both complexes, and those given for each, in order, once each
pub record HasTogether (a b : Complex) (xs ys ns : List Named) : Type 0 where
  pub us : List Named
  pub vs : List Named
  pub of_first : AddsPoints (IsVertexOf (complex_of a)) (IsNamedIn First (complex_of a)) [] us
  pub of_second : AddsPoints (IsVertexOf (complex_of b)) (IsNamedIn Second (complex_of b)) [] vs
  pub once : IsOnceEach (((us ++ vs) ++ xs) ++ ys) ns

-- y is a vertex of one of the complexes, or a cut of an edge of the one by a carrier of the other
abbrev pub IsCandidate : PlainComplex → PlainComplex → SpacePoint → Type 0
IsCandidate C D y = IsVertexOf C y ⊎ IsVertexOf D y ⊎ IsCut C D y ⊎ IsCut D C y

-- these are candidates of the two complexes, in order, once each; they lie in the closed frame and where their names tell, and the vertices of both complexes and of all combinations of the sets are among them
pub record ListsNear (a b : Complex) (ns : List Named) : Type 0 where
  pub ordered : InOrder (λ (p q : Point). IsPointBelow (point_of p) (point_of q)) (map named_point ns)
  pub each : (p : Point) → Contains (map named_point ns) p → IsCandidate (complex_of a) (complex_of b) (point_of p)
  pub vertices : (y : SpacePoint) → IsVertexOf (complex_of a) y ⊎ IsVertexOf (complex_of b) y → IsListed (map named_point ns) y
  pub framed : AreFramed (map named_point ns)
  pub named : AreNamed (complex_of a) (complex_of b) ns
  pub complete : (s t : Set) (y : SpacePoint) → ShowsSet s a → ShowsSet t b → IsVertexOfBoth s t y → IsListed (map named_point ns) y
