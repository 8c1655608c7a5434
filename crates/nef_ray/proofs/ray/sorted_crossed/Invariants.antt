use Rattle.nef_ray.proofs.Prelude.{All, IsHitOf}
use Rattle.nef_ray.proofs.Listed.{AreFirstCrossed}
use Rattle.nef_ray.proofs.ray.sorted_crossed.Given as goal

-- the carriers so far that the ray crosses are listed with the hits there
abbrev pub invariant-loop-number : goal.invariant-loop-number
invariant-loop-number l = record { all : AreFirstCrossed l.c.carriers l.ray l.number l.crossed.items; hits : All (IsHitOf l.ray) l.crossed.items }
