use Rattle.law_geometry.proofs.near.Decisions.{holds-decided, label-decided, germ-decided, near-germ_decided, representatives, germ-representatives, all-germs, all-directions, all-near_germs, same-cone_decided}
use Rattle.law_geometry.proofs.near.Prelude.{inl, inr, ⊎_elim}
use Rattle.law_geometry.proofs.near.Flats.{Flat-from_cone, FlatCone-from_flat}
use Rattle.law_geometry.proofs.near.FlatDecided.{flat-decided, flat_dim-of}
use Rattle.law_geometry.proofs.near.laws.decision_laws.Goals as goal

pub returns-clause-holds_is_decided : goal.returns-clause-holds_is_decided
returns-clause-holds_is_decided c = holds-decided

pub returns-clause-label_is_decided : goal.returns-clause-label_is_decided
returns-clause-label_is_decided c = label-decided

pub returns-clause-germ_is_decided : goal.returns-clause-germ_is_decided
returns-clause-germ_is_decided c = germ-decided

pub returns-clause-near_germ_is_decided : goal.returns-clause-near_germ_is_decided
returns-clause-near_germ_is_decided c = near-germ_decided

pub returns-clause-representatives : goal.returns-clause-representatives
returns-clause-representatives c = representatives

pub returns-clause-germ_representatives : goal.returns-clause-germ_representatives
returns-clause-germ_representatives c = germ-representatives

pub returns-clause-all_germs : goal.returns-clause-all_germs
returns-clause-all_germs c = all-germs

pub returns-clause-all_directions : goal.returns-clause-all_directions
returns-clause-all_directions c = all-directions

pub returns-clause-all_near_germs : goal.returns-clause-all_near_germs
returns-clause-all_near_germs c = all-near_germs

pub returns-clause-same_cone : goal.returns-clause-same_cone
returns-clause-same_cone c = same-cone_decided

pub returns-clause-flat_is_decided : goal.returns-clause-flat_is_decided
returns-clause-flat_is_decided c = λ s p d. ⊎_elim (λ f. inl (Flat-from_cone s p d f)) (λ n. inr (λ f. n (FlatCone-from_flat s p d f))) (flat-decided s p d)

pub returns-clause-flat_dim_exists : goal.returns-clause-flat_dim_exists
returns-clause-flat_dim_exists c = flat_dim-of
