use Rattle.law_geometry.proofs.near.Germs.{Label-cells}
use Rattle.law_geometry.proofs.near.Rays.{signs-same, Holds-same, Germ-same}
use Rattle.law_geometry.proofs.near.Alike.{germs-by_cell, Flat-by_germs, FlatDim-by_germs}
use Rattle.law_geometry.proofs.near.Prelude.{carriers}
use Rattle.law_geometry.proofs.near.laws.cell_laws.Goals as goal

pub returns-clause-holds_by_cell : goal.returns-clause-holds_by_cell
returns-clause-holds_by_cell c = Holds-same

pub returns-clause-label_by_cell : goal.returns-clause-label_by_cell
returns-clause-label_by_cell c = λ s p q l same. Label-cells s l p q same

pub returns-clause-germ_by_cell : goal.returns-clause-germ_by_cell
returns-clause-germ_by_cell c = λ s p q d l same. (germs-by_cell s p q same d l).0

pub returns-clause-flat_by_cell : goal.returns-clause-flat_by_cell
returns-clause-flat_by_cell c = λ s p q d same. Flat-by_germs s s p q (germs-by_cell s p q same) d

pub returns-clause-flat_dim_by_cell : goal.returns-clause-flat_dim_by_cell
returns-clause-flat_dim_by_cell c = λ s p q k same. FlatDim-by_germs s s p q (germs-by_cell s p q same) k

pub returns-clause-signs_at_same_place : goal.returns-clause-signs_at_same_place
returns-clause-signs_at_same_place c = signs-same

pub returns-clause-holds_at_same_place : goal.returns-clause-holds_at_same_place
returns-clause-holds_at_same_place c = λ s p q same. Holds-same s p q (signs-same (carriers s) p q same)

pub returns-clause-label_at_same_place : goal.returns-clause-label_at_same_place
returns-clause-label_at_same_place c = λ s p q l same. Label-cells s l p q (signs-same (carriers s) p q same)

pub returns-clause-germ_at_same_place : goal.returns-clause-germ_at_same_place
returns-clause-germ_at_same_place c = Germ-same

pub returns-clause-flat_dim_at_same_place : goal.returns-clause-flat_dim_at_same_place
returns-clause-flat_dim_at_same_place c = λ s p q k same. FlatDim-by_germs s s p q (germs-by_cell s p q (signs-same (carriers s) p q same)) k
