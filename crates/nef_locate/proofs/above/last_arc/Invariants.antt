use Rattle.nef_locate.proofs.Prelude.{dir_of, map_of, IsLast}
use Rattle.nef_locate.proofs.above.last_arc.Given as goal

abbrev pub invariant-loop-number : goal.invariant-loop-number
invariant-loop-number l = IsLast (map_of l.map) (dir_of (map_of l.map).svertices l.svertex) l.svertex l.begins l.number l.last
