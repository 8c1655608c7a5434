use Rattle.law_geometry.proofs.near.Prelude.{HasLabel, FlatDim, carriers}
use Rattle.law_geometry.proofs.near.Cells.{reach-some}
use Rattle.law_geometry.proofs.near.Near.{reach_all}
use Rattle.law_geometry.proofs.near.Skeleton.{flat_dim-nearby, flat-below_first}
use Rattle.law_geometry.proofs.near.Germs.{Label-cells}
use Rattle.law_geometry.proofs.near.Alike.{germs-by_cell, FlatDim-by_germs}
use Rattle.law_geometry.proofs.near.Decisions.{label-decided}
use Rattle.law_geometry.proofs.near.FirstChange.{settled-along, first-change}
use Rattle.law_geometry.proofs.near.FlatDecided.{flat_dim-decided}
use Rattle.law_geometry.proofs.near.laws.segment_laws.Goals as goal

pub returns-clause-label_along_segment : goal.returns-clause-label_along_segment
returns-clause-label_along_segment c = λ s l p q S h. settled-along (carriers s) (λ r. HasLabel s r l) (Label-cells s l) p q S h

pub returns-clause-flat_dim_along_segment : goal.returns-clause-flat_dim_along_segment
returns-clause-flat_dim_along_segment c = λ s k p q S h. settled-along (carriers s) (λ r. FlatDim s r k) (λ r t same. FlatDim-by_germs s s r t (germs-by_cell s r t same) k) p q S h

pub returns-clause-label_changes_first : goal.returns-clause-label_changes_first
returns-clause-label_changes_first c = λ s l p q h. first-change (carriers s) (λ r. HasLabel s r l) (Label-cells s l) (λ r. label-decided s r l) p q h

pub returns-clause-flat_dim_changes_first : goal.returns-clause-flat_dim_changes_first
returns-clause-flat_dim_changes_first c = λ s k p q h. first-change (carriers s) (λ r. FlatDim s r k) (λ r t same. FlatDim-by_germs s s r t (germs-by_cell s r t same) k) (λ r. flat_dim-decided s r k) p q h

pub returns-clause-flat_dim_nearby : goal.returns-clause-flat_dim_nearby
returns-clause-flat_dim_nearby c = λ s p k f. (reach_all (carriers s) p, reach-some (carriers s) p, λ q c j g. flat_dim-nearby s p q c j k f g)

pub returns-clause-flat_below_first : goal.returns-clause-flat_below_first
returns-clause-flat_below_first c = flat-below_first
