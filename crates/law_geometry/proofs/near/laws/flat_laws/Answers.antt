use Rattle.law_geometry.proofs.near.Flats.{Flat-from_cone, FlatCone-from_flat, FlatCone-from_carriers}
use Rattle.law_geometry.proofs.near.FlatOperations.{flat-combination}
use Rattle.law_geometry.proofs.near.Frames.{flat-outside, flat_dim-outside}
use Rattle.law_geometry.proofs.near.Alike.{FlatDim-one}
use Rattle.law_geometry.proofs.near.Meets.{vertex-meets}
use Rattle.law_geometry.proofs.near.Prelude.{toward, carriers}
use Rattle.law_geometry.proofs.near.Cells.{reach-some}
use Rattle.law_geometry.proofs.near.Near.{reach_all}
use Rattle.law_geometry.proofs.near.FlatDecided.{near-of_flat, flat-of_near, flat-by_signs}
use Rattle.law_geometry.proofs.near.Even.{flat-toward, flat-nearby, span-3}
use Rattle.law_geometry.proofs.near.Supports.{flat-held, flat-line, flat-plane, edge-support, facet-support}
use Rattle.law_geometry.proofs.near.laws.flat_laws.Goals as goal

pub returns-clause-flat_is_flat_cone : goal.returns-clause-flat_is_flat_cone
returns-clause-flat_is_flat_cone c = λ s p d. (FlatCone-from_flat s p d, Flat-from_cone s p d)

pub returns-clause-flat_in_carriers : goal.returns-clause-flat_in_carriers
returns-clause-flat_in_carriers c = λ s p d f. Flat-from_cone s p d (FlatCone-from_carriers s p d f)

pub returns-clause-flat_combination : goal.returns-clause-flat_combination
returns-clause-flat_combination c = flat-combination

pub returns-clause-flat_is_near_cone : goal.returns-clause-flat_is_near_cone
returns-clause-flat_is_near_cone c = λ s p d. (λ f. near-of_flat s p d (FlatCone-from_flat s p d f), λ f. Flat-from_cone s p d (flat-of_near s p d f))

pub returns-clause-flat_by_slopes : goal.returns-clause-flat_by_slopes
returns-clause-flat_by_slopes c = λ s p d e same f. Flat-from_cone s p e (flat-by_signs s p d e same (FlatCone-from_flat s p d f))

pub returns-clause-flat_nearby : goal.returns-clause-flat_nearby
returns-clause-flat_nearby c = λ s p. (
  reach_all (carriers s) p,
  reach-some (carriers s) p,
  λ q c. (Flat-from_cone s q (toward p q) (flat-toward s p q c), λ d f. Flat-from_cone s q d (flat-nearby s p q c d (FlatCone-from_flat s p d f))),
)

pub returns-clause-all_flat : goal.returns-clause-all_flat
returns-clause-all_flat c = λ s p d f. let h = f.0 in span-3 s p h.0 h.1 h.2 d h.3 h.4 h.5 h.6

pub returns-clause-flat_outside : goal.returns-clause-flat_outside
returns-clause-flat_outside c = flat-outside

pub returns-clause-flat_dim_outside : goal.returns-clause-flat_dim_outside
returns-clause-flat_dim_outside c = flat_dim-outside

pub returns-clause-flat_dim_is_unique : goal.returns-clause-flat_dim_is_unique
returns-clause-flat_dim_is_unique c = FlatDim-one

pub returns-clause-flat_where_held : goal.returns-clause-flat_where_held
returns-clause-flat_where_held c = flat-held

pub returns-clause-flat_line : goal.returns-clause-flat_line
returns-clause-flat_line c = flat-line

pub returns-clause-flat_plane : goal.returns-clause-flat_plane
returns-clause-flat_plane c = flat-plane

pub returns-clause-vertex_is_meet : goal.returns-clause-vertex_is_meet
returns-clause-vertex_is_meet c = vertex-meets

pub returns-clause-edge_in_carriers : goal.returns-clause-edge_in_carriers
returns-clause-edge_in_carriers c = edge-support

pub returns-clause-facet_in_carrier : goal.returns-clause-facet_in_carrier
returns-clause-facet_in_carrier c = facet-support
