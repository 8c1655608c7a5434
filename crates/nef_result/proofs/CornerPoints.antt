-- The program's points at the corners of the frame.
use Rattle.nef_result.proofs.Prelude.{◌≡◌, ◌≤◌, ℤ, pos, nat_abs, ◌*ℤ◌, arith, ◌∙◌, Bool, true, false, ints, point_limit, SpacePoint, SamePoint, point_of, Point, frame_end, FrameCorner, IsFrameCornerAt}
use Rattle.std.proofs.Math.Nat.{eq-one_of_dvd-one}

pub small-end : (b : Bool) → nat_abs (frame_end b) ≤ point_limit
small-end true = omega arith
small-end false = omega arith

abbrev pub corner_point : FrameCorner → Point
corner_point k = record {
  x = frame_end k.x;
  y = frame_end k.y;
  z = frame_end k.z;
  w = pos 1;
  x_small = small-end k.x;
  y_small = small-end k.y;
  z_small = small-end k.z;
  w_small = omega arith;
  proper = omega (arith, ints);
  lowest = λ n h. eq-one_of_dvd-one h.1.1.1.0;
}

times-one : (x : ℤ) → x ≡ x *ℤ pos 1
times-one x = omega (arith, ints)

pub corner-is : (k : FrameCorner) → IsFrameCornerAt k (point_of (corner_point k))
corner-is k = record { along_x = times-one (frame_end k.x); along_y = times-one (frame_end k.y); along_z = times-one (frame_end k.z) }

pub corner-same : (k : FrameCorner) (p : SpacePoint) → SamePoint p (point_of (corner_point k)) → IsFrameCornerAt k p
corner-same k p e = record { along_x = times-one p.x ∙ e.along_x; along_y = times-one p.y ∙ e.along_y; along_z = times-one p.z ∙ e.along_z }
