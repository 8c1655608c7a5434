use Rattle.nef_plane.proofs.Prelude.{SpacePoint, IsCrossing, form_of, hit_point, vector_of, Plane, AllListed}
use Rattle.nef_plane.proofs.plane.hit_through.Given as goal

abbrev pub invariant-loop-number : goal.invariant-loop-number
invariant-loop-number l = AllListed l.carriers l.holders l.number-index (λ (g : Plane). (q : SpacePoint) → IsCrossing (hit_point l.ray.start.now) (vector_of l.ray.direction.now) (form_of g) q → ⊥)
