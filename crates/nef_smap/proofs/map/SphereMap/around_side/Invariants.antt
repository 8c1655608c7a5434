use Rattle.nef_smap.proofs.Prelude.{◌≡◌, ◌≤◌, map_of, arounds_before}
use Rattle.nef_smap.proofs.map.SphereMap.around_side.Given as goal

abbrev pub invariant-loop-number : goal.invariant-loop-number
invariant-loop-number l = (l.found ≡ arounds_before (map_of l.self).svertices l.number) × (l.found ≤ l.number)
