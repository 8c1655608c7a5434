use Rattle.law_geometry.proofs.near.Prelude.{carriers}
use Rattle.law_geometry.proofs.near.Cells.{reach-some}
use Rattle.law_geometry.proofs.near.Near.{reach_all}
use Rattle.law_geometry.proofs.near.Germs.{label-one, Germ-unique}
use Rattle.law_geometry.proofs.near.Flats.{germ-toward, label-toward, Germ-by_signs}
use Rattle.law_geometry.proofs.near.Decided.{label_of, germ_of}
use Rattle.law_geometry.proofs.near.Rays.{Germ-zero}
use Rattle.law_geometry.proofs.near.Frames.{no-germ_out}
use Rattle.law_geometry.proofs.near.Between.{label-along_ray}
use Rattle.law_geometry.proofs.near.laws.cone_laws.Goals as goal

pub returns-clause-label_exists : goal.returns-clause-label_exists
returns-clause-label_exists c = label_of

pub returns-clause-label_is_unique : goal.returns-clause-label_is_unique
returns-clause-label_is_unique c = label-one

pub returns-clause-germ_exists : goal.returns-clause-germ_exists
returns-clause-germ_exists c = germ_of

pub returns-clause-germ_is_unique : goal.returns-clause-germ_is_unique
returns-clause-germ_is_unique c = Germ-unique

pub returns-clause-set_is_its_cone : goal.returns-clause-set_is_its_cone
returns-clause-set_is_its_cone c = λ s p. (reach_all (carriers s) p, reach-some (carriers s) p, λ q c l. (germ-toward s l p q c, label-toward s l p q c))

pub returns-clause-label_along_ray : goal.returns-clause-label_along_ray
returns-clause-label_along_ray c = λ s p. (reach_all (carriers s) p, reach-some (carriers s) p, label-along_ray s p)

pub returns-clause-germ_by_slopes : goal.returns-clause-germ_by_slopes
returns-clause-germ_by_slopes c = λ s p d e l same. Germ-by_signs s p d e same l

pub returns-clause-germ_toward_zero : goal.returns-clause-germ_toward_zero
returns-clause-germ_toward_zero c = λ s p d l z. Germ-zero s p d l z

pub returns-clause-no_germ_out_in_frame : goal.returns-clause-no_germ_out_in_frame
returns-clause-no_germ_out_in_frame c = no-germ_out

pub returns-clause-germ_out_for_all : goal.returns-clause-germ_out_for_all
returns-clause-germ_out_for_all c = λ s t p d g. g
