use Rattle.law_geometry.proofs.near.Determined.{same-set_of}
use Rattle.law_geometry.proofs.near.Alike.{cones-of_same, same-near, same-cone, Flat-by_cone, FlatDim-by_cone, NearGerm-by_cone, Joined-same}
use Rattle.law_geometry.proofs.near.laws.same_set_laws.Goals as goal

pub returns-clause-same_set_by_same_cones : goal.returns-clause-same_set_by_same_cones
returns-clause-same_set_by_same_cones c = λ s t. (cones-of_same s t, λ f p. (f p).label)

pub returns-clause-same_cone_is_same_near : goal.returns-clause-same_cone_is_same_near
returns-clause-same_cone_is_same_near c = λ s t p. (same-near s t p, same-cone s t p)

pub returns-clause-flat_by_same_cone : goal.returns-clause-flat_by_same_cone
returns-clause-flat_by_same_cone c = Flat-by_cone

pub returns-clause-flat_dim_by_same_cone : goal.returns-clause-flat_dim_by_same_cone
returns-clause-flat_dim_by_same_cone c = FlatDim-by_cone

pub returns-clause-near_germ_by_same_cone : goal.returns-clause-near_germ_by_same_cone
returns-clause-near_germ_by_same_cone c = NearGerm-by_cone

pub returns-clause-joined_by_same_set : goal.returns-clause-joined_by_same_set
returns-clause-joined_by_same_set c = Joined-same

pub returns-clause-same_set_by_vertices : goal.returns-clause-same_set_by_vertices
returns-clause-same_set_by_vertices c = same-set_of
