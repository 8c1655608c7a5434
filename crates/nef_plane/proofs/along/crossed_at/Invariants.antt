use Rattle.std.specs.Prelude.{◌≡◌, pos}
use Rattle.nef_plane.proofs.Prelude.{slope, form_of, vector_of, Plane, AllListed}
use Rattle.nef_plane.proofs.along.crossed_at.Given as goal

abbrev pub invariant-loop-number : goal.invariant-loop-number
invariant-loop-number l = AllListed l.carriers l.holders l.number-index (λ (g : Plane). slope (form_of g) (vector_of l.ray.direction.now) ≡ pos 0)
