-- What a ray along an upright direction meets in one plane, and what it meets first.
use Rattle.nef_locate.proofs.Prelude.{◌≡◌, ℕ, ◌<◌, length, neg_ℤ, arith, Option, Some, None, IfSome, List, [], ◌∷◌, ◌⊎◌, inl, inr, slice_get, refl, sym, subst, ints, ring, at, neg, ◌⊕◌, ◌⊗◌, IsAt, SpacePoint, InClosedFrame, SamePoint, toward, IsAhead, IsBetween, Set, Vector, dot, opposite, IsVertical, IsCrossing, form_of, hit_point, Hit, Plane, point-toward, between-inner, IsSkeletonPoint, ahead-back, one-crossing, Complex, Span, complex_of, ShowsSet, AreSpans, IsInSpan, skeleton-framed, spanned, is-at_one, is-at_within, IsSkeletonIn, MetPlace, IsFirstHit, IsMet, IsReachedMet, IsSooner, IsNotBefore, HasNoneOn, HasNoneOnCarrier, HasNotAt, HasNotAtCarrier, ahead-from, self-pos, SameDirection-turned, SameDirection-trans, direction-left, direction-right}
use Rattle.std.specs.Option.{option_or}
use Rattle.law_geometry.specs.complex.Complexes.{Complex as PlainComplex}
use Rattle.nef_plane.proofs.Found.{not-end}
use Rattle.nef_plane.proofs.Nearest.{between-ahead}
use Rattle.nef_locate.proofs.CarrierPoints.{skeleton-carrier, crossed}
use Rattle.nef_locate.proofs.Located.{held-same}

-- ---- the order along a ray
pub never-same : (y z : SpacePoint) (d : Vector) → IsAhead y d z → SamePoint y z → ⊥
never-same y z d w e = direction-left (toward y z) d w (point-toward y z e)

pub never-both : (y z : SpacePoint) (d : Vector) → IsAhead y d z → IsAhead z d y → ⊥
never-both y z d v w =
    let t = SameDirection-trans d (toward y z) (opposite d) (SameDirection-turned (toward y z) d v) (ahead-back z y d w) in
    let f = t.forward in
    let r : dot d (opposite d) ≡ neg_ℤ (dot d d) = ring (d.x ∷ d.y ∷ d.z ∷ []) (at 0 ⊗ neg (at 0) ⊕ at 1 ⊗ neg (at 1) ⊕ at 2 ⊗ neg (at 2)) (neg (at 0 ⊗ at 0 ⊕ at 1 ⊗ at 1 ⊕ at 2 ⊗ at 2)) tt in
    let s = self-pos d (direction-right (toward y z) d v) in
    omega (arith, ints)

-- what is met stands at its step
pub reached-of : (D : PlainComplex) (p : SpacePoint) (d : Vector) (best : Option MetPlace) → IfSome best (IsMet D p d) → IfSome best (IsReachedMet p d)
reached-of D p d None M = tt
reached-of D p d (Some m) M = M.reached

-- ---- what the carrier with this number holds
pub on-carrier : (c : Complex) (p : SpacePoint) (d : Vector) (best : Option MetPlace) (k : ℕ) (g : Plane) → slice_get c.carriers k ≡ Some g → HasNoneOn c p d best g → HasNoneOnCarrier c p d best k
on-carrier c p d best k g e N h a = subst (HasNoneOn c p d best) (is-at_one c.carriers k g h e a) N

pub at-carrier : (c : Complex) (y : SpacePoint) (k : ℕ) (g : Plane) → slice_get c.carriers k ≡ Some g → HasNotAt c y g → HasNotAtCarrier c y k
at-carrier c y k g e N h a = subst (HasNotAt c y) (is-at_one c.carriers k g h e a) N

-- what is met so far, or else the guess
pub begun-met : (P : MetPlace → Type 0) (old guess new : Option MetPlace) → new ≡ option_or old guess → IfSome old P → IfSome guess P → IfSome new P
begun-met P None guess new e h g = subst (λ (o : Option MetPlace). IfSome o P) (sym e) g
begun-met P (Some m) guess new e h g = subst (λ (o : Option MetPlace). IfSome o P) (sym e) h

pub begun-kept : (old guess new : Option MetPlace) → new ≡ option_or old guess → (old ≡ None) ⊎ (new ≡ old)
begun-kept None guess new e = inl refl
begun-kept (Some m) guess new e = inr e

-- it stays so where what is known to be met is taken over
pub kept-begun : (c : Complex) (p : SpacePoint) (d : Vector) (old new : Option MetPlace) → (old ≡ None) ⊎ (new ≡ old) → (k : ℕ) → HasNoneOnCarrier c p d old k → HasNoneOnCarrier c p d new k
kept-begun c p d old new (inl e) k N h a s y S X I = absurd (subst (IsNotBefore p y) e (N h a s y S X I))
kept-begun c p d old new (inr e) k N h a s y S X I = subst (IsNotBefore p y) (sym e) (N h a s y S X I)

-- a carrier whose span the ray doesn't lead into has nothing ahead
pub span-passed : (c : Complex) (p : SpacePoint) (d : Vector) (best : Option MetPlace) (k : ℕ) (spans : List Span) (span : Span) → AreSpans c.carriers c.vertices spans → IsAt spans k span
    → ((y : SpacePoint) → InClosedFrame y → IsAhead p d y → IsInSpan span y → ⊥) → HasNoneOnCarrier c p d best k
span-passed c p d best k spans span A b off h a s y S X I = absurd (off y (skeleton-framed s c S (form_of h) y I) X.ahead (spanned s c S (form_of h) span (A.each k h span a b) y X.on I))

-- ---- one plane
module _ (p : SpacePoint) (d : Vector) (h : Plane) (hit : Hit) (X : IsCrossing p d (form_of h) (hit_point hit)) where
  abbrev x : SpacePoint
  x = hit_point hit

  -- the ray crosses the plane at the hit alone
  pub at-hit : (y : SpacePoint) → IsCrossing p d (form_of h) y → SamePoint y x
  at-hit y Y = let v = Y.ahead in let w = X.ahead in one-crossing (form_of h) d p y x v.parallel w.parallel (Y.on, X.on) X.passes

  -- what was met stays where the hit doesn't lie before it
  pub stays : (best : Option MetPlace) → (IsSooner d hit best → ⊥) → (y : SpacePoint) → IsCrossing p d (form_of h) y → IsNotBefore p y best
  stays None n y Y = absurd (n tt)
  stays (Some m) n y Y = λ b. n (ahead-from y x (hit_point m.at) d (at-hit y Y) (SameDirection-trans (toward y (hit_point m.at)) (toward p y) d (SameDirection-turned (toward p y) (toward y (hit_point m.at)) b) Y.ahead))

  -- else the hit is met first
  pub taken : (y : SpacePoint) → IsCrossing p d (form_of h) y → IsBetween p y x → ⊥
  taken y Y b = not-end p y x b (at-hit y Y)

  pub passed : (best : Option MetPlace) → IsSooner d hit best → (y : SpacePoint) → IsNotBefore p y best → IsBetween p y x → ⊥
  passed None w y n b = n
  passed (Some m) w y n b = n (between-inner p x (hit_point m.at) y (SameDirection-trans (toward p x) d (toward x (hit_point m.at)) X.ahead (SameDirection-turned (toward x (hit_point m.at)) d w)) b)

  -- what the plane holds of the skeleton at a crossing it holds at the hit
  pub found : (s : Set) (D : PlainComplex) (y : SpacePoint) → IsCrossing p d (form_of h) y → IsSkeletonIn s D (form_of h) y → IsSkeletonIn s D (form_of h) x
  found s D y Y = held-same s D (form_of h) y x (at-hit y Y)

-- ---- all planes
module _ (s : Set) (c : Complex) (S : ShowsSet s c) (p : SpacePoint) (d : Vector) (u : IsVertical d) where
  -- nothing that the carriers hold of the skeleton lies before what is met
  abbrev AllMet : Option MetPlace → Type 0
  AllMet best = (k : ℕ) → k < length c.carriers → HasNoneOnCarrier c p d best k

  not-before : (best : Option MetPlace) → AllMet best → (y : SpacePoint) → IsAhead p d y → IsSkeletonPoint (complex_of c) y → IsNotBefore p y best
  not-before best A y w o = let k = skeleton-carrier s c S y o in A k.number (is-at_within c.carriers k.number k.plane k.listed) k.plane k.listed s y S (crossed s c S p y d u w k) k.found

  pub first-none : AllMet None → (y : SpacePoint) → IsAhead p d y → IsSkeletonPoint (complex_of c) y → ⊥
  first-none A = not-before None A

  pub first-some : (m : MetPlace) → IsMet (complex_of c) p d m → AllMet (Some m) → IsFirstHit (complex_of c) p d m.place
  first-some m M A = record {
    place = hit_point m.at;
    ahead = M.ahead;
    skeleton = M.on.skeleton;
    at = M.on.at;
    first = λ q b o. not-before (Some m) A q (between-ahead p q (hit_point m.at) d b M.ahead) o b;
  }
