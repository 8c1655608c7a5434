-- The carriers that hold points.
use Rattle.std.specs.Prelude.{◌<◌}
use Rattle.nef_space.specs.Prelude.{ℕ, List, IsAt, IsBelow, SpacePoint, form_numbers}
use Rattle.nef_geo.specs.Shapes.{form_of}
use Rattle.nef_geo.specs.declared.plane.Plane.{Plane}
use Rattle.nef_index.specs.Numbers.{AreNumbersWith}
use Rattle.nef_index.specs.Skeleton.{HoldsBoth}

-- the planes stand in order of their four numbers, once each
abbrev pub AreInOrder : List Plane → Type 0
AreInOrder hs = (i j : ℕ) (g h : Plane) → i < j → IsAt hs i g → IsAt hs j h → IsBelow (form_numbers (form_of g)) (form_numbers (form_of h))

-- the carrier with this number holds both points
abbrev pub IsHolder : List Plane → SpacePoint → SpacePoint → ℕ → Type 0
IsHolder hs a b k = (h : Plane) × IsAt hs k h × HoldsBoth (form_of h) a b

-- the list has the numbers of the carriers that hold both points, in increasing order
abbrev pub AreHolders : List Plane → SpacePoint → SpacePoint → List ℕ → Type 0
AreHolders hs a b ns = AreNumbersWith (IsHolder hs a b) ns
