use Rattle.nef_result.proofs.Prelude.{◌≡◌, map, take, form_of, sorted_sides}
use Rattle.nef_result.proofs.whole.sorted_planes.Given as goal

abbrev pub invariant-loop-k : goal.invariant-loop-k
invariant-loop-k l = record { taken : map form_of l.planes ≡ take l.k sorted_sides }
