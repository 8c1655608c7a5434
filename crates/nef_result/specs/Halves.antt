-- The labels of a half by the side of its plane.
use Rattle.std.specs.Prelude.{◌≡◌}
use Rattle.nef_complex.specs.Prelude.{Bool, true, false, Form, slope, Vector, IsDirection, Label, Not, In}
use Rattle.nef_space.specs.Signs.{Sign, minus, nought, plus, sign}
use Rattle.nef_smap.specs.Prelude.{MapLabel, map_of, IsSphereMap}
use Rattle.nef_smap.specs.declared.map.SphereMap.{SphereMap}

-- the label of a point of the frame, by whether a set holds there
abbrev pub inside_label : Bool → Label
inside_label true = In
inside_label false = Not

-- the label of a half, in the frame, where its form has the sign
abbrev pub side_label : Bool → Sign → Label
side_label closed minus = In
side_label closed nought = inside_label closed
side_label closed plus = Not

-- the map of the half at a point of its plane, without the frame
pub record IsMapOfPlane (f : Form) (closed : Bool) (m : SphereMap) : Type 0 where
  pub map : IsSphereMap m
  pub mark : m.mark ≡ side_label closed nought
  pub labels : (d : Vector) → IsDirection d → MapLabel (map_of m) d (side_label closed (sign (slope f d)))
