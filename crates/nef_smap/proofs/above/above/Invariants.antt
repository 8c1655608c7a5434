use Rattle.nef_smap.proofs.Prelude.{◌<◌, IfSome, length, Vector, up, items, map_of, IsFirstOf, IsClose}
use Rattle.nef_smap.proofs.above.above.Given as goal

pub record IsFirstSoFar (within first : Type 0) : Type 0 where
  pub is_within : within
  pub is_first : first

abbrev pub invariant-loop-number : goal.invariant-loop-number
invariant-loop-number l = IsFirstSoFar (IfSome l.first (λ k. k < length (items (map_of l.map)))) ((d : Vector) → IsClose l.map l.way d → IsFirstOf (map_of l.map) up d l.number l.first)
