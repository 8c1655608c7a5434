use Rattle.nef_star.proofs.Labelled.{each_has_one_label}
use Rattle.nef_star.proofs.star.star_laws.Goals as goal

pub returns : goal.returns
returns c = record { one_label = each_has_one_label }
