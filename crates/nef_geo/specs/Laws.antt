-- Normal forms are unique.
use Rattle.std.specs.Prelude.{◌≡◌}
use Rattle.nef_space.specs.Prelude.{SameDirection, SamePoint}
use Rattle.nef_geo.specs.declared.plane.Plane.{Plane}
use Rattle.nef_geo.specs.declared.point.Point.{Point}
use Rattle.nef_geo.specs.declared.dir.Dir.{Dir}
use Rattle.nef_geo.specs.Meet.{IsSamePlane}
use Rattle.nef_geo.specs.Shapes.{form_of, point_of, vector_of}

abbrev pub SamePointsAreEqual : Type 0
SamePointsAreEqual = (p q : Point) → SamePoint (point_of p) (point_of q) → p ≡ q

abbrev pub SameDirectionsAreEqual : Type 0
SameDirectionsAreEqual = (a b : Dir) → SameDirection (vector_of a) (vector_of b) → a ≡ b

abbrev pub SamePlanesAreEqual : Type 0
SamePlanesAreEqual = (g h : Plane) → IsSamePlane (form_of g) (form_of h) → g ≡ h
