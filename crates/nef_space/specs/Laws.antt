-- Closed examples, which show what the definitions mean.
use Rattle.std.specs.Prelude.{pos, negsuc, false, true}
use Rattle.std.proofs.Common.{lit<}
use Rattle.nef_space.specs.Vectors.{Vector, vector}
use Rattle.nef_space.specs.Points.{SpacePoint, Form, form, InClosedFrame}
use Rattle.nef_space.specs.Sets.{Set, Holds}
use Rattle.nef_space.specs.Local.{Germ, HasLabel}
use Rattle.nef_space.specs.Limits.{half_side}
use Rattle.nef_space.specs.declared.label.Label.TheVariants.{Out, Not, In}

-- the half-space x < 0
abbrev pub left : Form
left = form (pos 1) (pos 0) (pos 0) (pos 0)

abbrev pub space_origin : SpacePoint
space_origin = record { x = pos 0; y = pos 0; z = pos 0; w = 1; proper = lit< tt }

-- the middle of the frame's side x = half_side
abbrev pub side_middle : SpacePoint
side_middle = record { x = pos half_side; y = pos 0; z = pos 0; w = 1; proper = lit< tt }

abbrev pub backward : Vector
backward = vector (negsuc 0) (pos 0) (pos 0)

-- the interior of the whole holds everywhere
abbrev pub InteriorOfWhole : Type 0
InteriorOfWhole = (p : SpacePoint) → Holds (Set.inside Set.full) p

-- the half-space x < 0 doesn't hold at the origin
abbrev pub OpenHalfAtBoundary : Type 0
OpenHalfAtBoundary = Holds (Set.half left false) space_origin → ⊥

-- the closure of the half-space x < 0 holds at the origin
abbrev pub ClosureAtBoundary : Type 0
ClosureAtBoundary = Holds (Set.closed (Set.half left false)) space_origin

-- the whole without the half-space x <= 0 has the label Not at the origin
abbrev pub MissingPoint : Type 0
MissingPoint = HasLabel (Set.less Set.full (Set.half left true)) space_origin Not

-- a point on the frame's side is in the closed frame but not in the frame: its label is Out
abbrev pub FrameIsOpen : Type 0
FrameIsOpen = InClosedFrame side_middle × HasLabel Set.full side_middle Out

-- from the origin toward negative x the germ of the half-space x < 0 is In
abbrev pub GermBesideHalf : Type 0
GermBesideHalf = Germ (Set.half left false) space_origin backward In
