-- What a ray meets of the skeleton, carrier by carrier.
use Rattle.std.specs.Prelude.{◌≡◌, ℕ, pos, Option, Some, None}
use Rattle.nef_complex.specs.Prelude.{IsAt, Set, Vector, Label, IsReached, IsCrossing, form_of, hit_point, Plane, Side, IsSkeletonIn, complex_of, ShowsSet}
use Rattle.nef_space.specs.Points.{SpacePoint, form_at, IsAhead, IsBetween}
use Rattle.nef_geo.specs.declared.hit.Hit.{Hit}
use Rattle.law_geometry.specs.complex.Complexes.{Complex}
use Rattle.law_geometry.specs.complex.Rays.{IsAbove}
use Rattle.law_geometry.specs.complex.Skeleton.{Spot, IsSpot, IsSkeletonPoint}
use Rattle.nef_complex.specs.declared.complex.Complex.{Complex as ProgramComplex}
use Rattle.nef_locate.specs.declared.point.Place.{Place}
use Rattle.nef_locate.specs.declared.beam.MetPlace.{MetPlace}
use Rattle.nef_locate.specs.Places.{IsPlaceIn, IsPlaceAt, IsSideWithLabel}

-- y is a skeleton point, and lies at the place
pub record IsSkeletonAt (C : Complex) (y : SpacePoint) (a : Place) : Type 0 where
  pub has : IsPlaceIn C a
  pub at : IsPlaceAt C y a
  pub skeleton : IsSkeletonPoint C y

-- the hit of what is met lies at its step along the ray
abbrev pub IsReachedMet : SpacePoint → Vector → MetPlace → Type 0
IsReachedMet p d m = IsReached p d m.at.num m.at.den m.at.den_sign (hit_point m.at)

-- the ray meets the skeleton at the hit, at the place
pub record IsMet (C : Complex) (p : SpacePoint) (d : Vector) (m : MetPlace) : Type 0 where
  pub reached : IsReachedMet p d m
  pub ahead : IsAhead p d (hit_point m.at)
  pub on : IsSkeletonAt C (hit_point m.at) m.place

-- something is met, and y doesn't lie before it
abbrev pub IsNotBefore : SpacePoint → SpacePoint → Option MetPlace → Type 0
IsNotBefore p y None = ⊥
IsNotBefore p y (Some m) = IsBetween p y (hit_point m.at) → ⊥

-- no skeleton point that the plane holds and the ray crosses lies before what is met
abbrev pub HasNoneOn : ProgramComplex → SpacePoint → Vector → Option MetPlace → Plane → Type 0
HasNoneOn c p d best h = (s : Set) (y : SpacePoint) → ShowsSet s c → IsCrossing p d (form_of h) y → IsSkeletonIn s (complex_of c) (form_of h) y → IsNotBefore p y best

-- no skeleton point that carrier k holds and the ray crosses lies before what is met
abbrev pub HasNoneOnCarrier : ProgramComplex → SpacePoint → Vector → Option MetPlace → ℕ → Type 0
HasNoneOnCarrier c p d best k = (h : Plane) → IsAt c.carriers k h → HasNoneOn c p d best h

-- y is no skeleton point of the plane
abbrev pub HasNotAt : ProgramComplex → SpacePoint → Plane → Type 0
HasNotAt c y h = (s : Set) → ShowsSet s c → form_at (form_of h) y ≡ pos 0 → IsSkeletonIn s (complex_of c) (form_of h) y → ⊥

-- y is no skeleton point of carrier k
abbrev pub HasNotAtCarrier : ProgramComplex → SpacePoint → ℕ → Type 0
HasNotAtCarrier c y k = (h : Plane) → IsAt c.carriers k h → HasNotAt c y h

-- the hit lies before what is met, or nothing is met
abbrev pub IsSooner : Vector → Hit → Option MetPlace → Type 0
IsSooner d q None = Unit {0}
IsSooner d q (Some m) = IsAhead (hit_point q) d (hit_point m.at)

-- side j of vertex i lies above each skeleton point that lies at the place
abbrev pub IsSideAbove : Complex → Place → ℕ → ℕ → Type 0
IsSideAbove C floor i j = (o : Side) × (l : Label) × IsSideWithLabel C i j o l × ((y : SpacePoint) → IsSkeletonPoint C y → IsPlaceAt C y floor → (t : Spot) × IsSpot C t y × IsAbove C y t (record { vertex = i; side = o }))
