use Rattle.nef_ray.proofs.Prelude.{ℕ, ◌<◌, Set, IsAt, ShowsSet, Crossed, IsUnchangedOn}
use Rattle.nef_ray.proofs.ray.ray_end.Given as goal

-- at the crossings so far nothing changes
abbrev pub invariant-loop-next : goal.invariant-loop-next
invariant-loop-next l = (k : ℕ) (x : Crossed) → k < l.next-index → IsAt l.next-items k x → (s : Set) → ShowsSet s l.c → IsUnchangedOn s l.ray x.plane
