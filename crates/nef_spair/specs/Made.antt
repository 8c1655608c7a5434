-- The map that is made of stars and circles.
use Rattle.std.specs.Prelude.{◌≡◌, [], map, length, Some, None, MatchOption}
use Rattle.nef_space.specs.declared.label.Label.{Label}
use Rattle.law_geometry.specs.sphere.Least.{InOrder}
use Rattle.law_geometry.specs.sphere.building.From.{svertex_at}
use Rattle.nef_star.specs.Stars.{star_of}
use Rattle.nef_smap.specs.declared.map.SLoop.{SLoop}
use Rattle.nef_smap.specs.declared.map.RawStars.{RawStars}
use Rattle.nef_smap.specs.declared.map.SphereMap.{SphereMap}
use Rattle.nef_smap.specs.Maps.{svertex_of}
use Rattle.nef_spair.specs.Arcs.{AreArcs, IsArcBelow}
use Rattle.nef_spair.specs.Pieces.{Pieces, IsChosen, AreSimple, ArePiecesOf}

-- the map has the svertices of the kept stars, their arcs, the chosen sloop, and the ground where there is neither
pub record IsMadeOf (r : RawStars) (p : Pieces) (m : SphereMap) : Type 0 where
  pub mark : m.mark ≡ r.mark
  pub svertices : map svertex_of m.svertices ≡ map svertex_at (map star_of p.kept)
  pub arcs : AreArcs p.kept (length p.kept) 0 m.arcs
  pub ordered : InOrder IsArcBelow m.arcs
  pub sloop : MatchOption m.sloop ((c : SLoop) → IsChosen p.kept p.circles r.sloop c → ⊥) (IsChosen p.kept p.circles r.sloop)
  pub ground : m.svertices ≡ [] → m.sloop ≡ None → m.ground ≡ p.ground
  pub ground_not : (l : Label) → m.ground ≡ Some l → (m.svertices ≡ []) × (m.sloop ≡ None)

-- the map is made of the pieces of simplified stars
pub record IsMadeOfSimple (r : RawStars) (m : SphereMap) : Type 0 where
  pub pieces : Pieces
  pub are_pieces : ArePiecesOf r pieces
  pub made : IsMadeOf r pieces m

-- the map is made of the simplified stars of r
pub record IsMadeFrom (r : RawStars) (m : SphereMap) : Type 0 where
  pub simple : RawStars
  pub mark : simple.mark ≡ r.mark
  pub stars : AreSimple r.stars simple.stars
  pub sloop : simple.sloop ≡ r.sloop
  pub ground : simple.ground ≡ r.ground
  pub of_simple : IsMadeOfSimple simple m
