use Rattle.law_geometry.proofs.near.Even.{even-germs, joined-germs, labels-by_germs, joined-itself, joined-turned, joined-both}
use Rattle.law_geometry.proofs.near.laws.joined_laws.Goals as goal

pub returns-clause-one_cone_along_even : goal.returns-clause-one_cone_along_even
returns-clause-one_cone_along_even c = even-germs

pub returns-clause-one_cone_of_joined : goal.returns-clause-one_cone_of_joined
returns-clause-one_cone_of_joined c = joined-germs

pub returns-clause-one_label_of_joined : goal.returns-clause-one_label_of_joined
returns-clause-one_label_of_joined c = λ s p q l j. (labels-by_germs s p q (joined-germs s p q j) l).0

pub returns-clause-joined_to_itself : goal.returns-clause-joined_to_itself
returns-clause-joined_to_itself c = joined-itself

pub returns-clause-joined_turned : goal.returns-clause-joined_turned
returns-clause-joined_turned c = joined-turned

pub returns-clause-joined_through : goal.returns-clause-joined_through
returns-clause-joined_through c = joined-both
