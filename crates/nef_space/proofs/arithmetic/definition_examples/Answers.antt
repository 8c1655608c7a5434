use Rattle.nef_space.proofs.Examples.{inside-full, not-at_origin, closure-at_origin, missing-point, germ-backward}
use Rattle.nef_space.proofs.arithmetic.definition_examples.Goals as goal

pub returns-clause-interior_of_whole : goal.returns-clause-interior_of_whole
returns-clause-interior_of_whole c = inside-full

pub returns-clause-open_half : goal.returns-clause-open_half
returns-clause-open_half c = not-at_origin

pub returns-clause-closure : goal.returns-clause-closure
returns-clause-closure c = closure-at_origin

pub returns-clause-missing_point : goal.returns-clause-missing_point
returns-clause-missing_point c = missing-point

pub returns-clause-germ : goal.returns-clause-germ
returns-clause-germ c = germ-backward
