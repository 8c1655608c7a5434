use Rattle.nef_smap.proofs.Prelude.{◌≡◌, ◌≤◌, map_of, arounds_before, AreArounds}
use Rattle.nef_smap.proofs.sface.around_links.Given as goal

pub record AreSoFar (links side few : Type 0) : Type 0 where
  pub all_links : links
  pub side_number : side
  pub few_sides : few

abbrev pub invariant-loop-number : goal.invariant-loop-number
invariant-loop-number l = AreSoFar (AreArounds (map_of l.map) l.number l.links.items) (l.side ≡ arounds_before (map_of l.map).svertices l.number) (l.side ≤ l.number)
