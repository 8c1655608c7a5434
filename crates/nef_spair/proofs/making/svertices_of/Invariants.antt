use Rattle.nef_spair.proofs.Prelude.{◌≡◌, map, take, svertex_at, star_of, svertex_of}
use Rattle.nef_spair.proofs.making.svertices_of.Given as goal

abbrev pub invariant-loop-star : goal.invariant-loop-star
invariant-loop-star l = map svertex_of l.svertices.items ≡ map svertex_at (map star_of (take l.star-index l.kept))
