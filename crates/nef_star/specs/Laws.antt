-- The laws of stars.
use Rattle.std.specs.Prelude.{◌≡◌}
use Rattle.nef_geo.specs.Prelude.{Vector, cross, IsDirection, Label, vector_of}
use Rattle.law_geometry.specs.sphere.Stars.{StarLabel}
use Rattle.nef_star.specs.declared.star.Star.{Star}
use Rattle.nef_star.specs.Stars.{star_of, BeginsAnywhere}

-- each direction that isn't parallel to the axis has exactly one label
abbrev pub EachHasOneLabel : Type 0
EachHasOneLabel = (t : Star) → BeginsAnywhere t → (e : Vector) → IsDirection (cross (vector_of t.axis) e) → (l : Label) × StarLabel (star_of t) e l × ((m : Label) → StarLabel (star_of t) e m → m ≡ l)
