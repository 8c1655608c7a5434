use Rattle.std.specs.Prelude.{◌≡◌}
use Rattle.nef_plane.proofs.Prelude.{form_at, point_of, hit_point, form_of, sign_of, Plane, AllListed}
use Rattle.nef_plane.proofs.places.sides_with.Given as goal

abbrev pub invariant-loop-number : goal.invariant-loop-number
invariant-loop-number l = AllListed l.carriers l.holders l.number-index (λ (h : Plane). sign_of (form_at (form_of h) (hit_point l.q)) ≡ sign_of (form_at (form_of h) (point_of l.b)))
