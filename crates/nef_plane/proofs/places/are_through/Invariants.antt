use Rattle.std.specs.Prelude.{◌≡◌, pos}
use Rattle.nef_plane.proofs.Prelude.{form_at, hit_point, form_of, Plane, AllListed}
use Rattle.nef_plane.proofs.places.are_through.Given as goal

abbrev pub invariant-loop-number : goal.invariant-loop-number
invariant-loop-number l = AllListed l.carriers l.holders l.number-index (λ (h : Plane). form_at (form_of h) (hit_point l.q) ≡ pos 0)
