use Rattle.law_geometry.proofs.near.Prelude.{Set, label_and, label_or, label_less, label_one_of}
use Rattle.law_geometry.proofs.near.Combine.{and-label, or-label, less-label, one_of-label, not-label, germ-combines, near_germ-combines}
use Rattle.law_geometry.proofs.near.FlatOperations.{flat-of_two, flat-of, flat-not, flat-inside, flat-closed, flat-border, flat-regular}
use Rattle.law_geometry.proofs.near.laws.combination_laws.Goals as goal

pub returns-clause-label_of_combination : goal.returns-clause-label_of_combination
returns-clause-label_of_combination c = λ a b p l m h i. record {
  both = and-label a b p l m h i;
  either = or-label a b p l m h i;
  less = less-label a b p l m h i;
  one_of = one_of-label a b p l m h i;
  other = not-label a p l h;
}

pub returns-clause-germ_of_combination : goal.returns-clause-germ_of_combination
returns-clause-germ_of_combination c = germ-combines

pub returns-clause-near_germ_of_combination : goal.returns-clause-near_germ_of_combination
returns-clause-near_germ_of_combination c = near_germ-combines

pub returns-clause-flat_of_two : goal.returns-clause-flat_of_two
returns-clause-flat_of_two c = λ a b p d f g. record {
  both = flat-of_two Set.both label_and and-label a b p d f g;
  either = flat-of_two Set.either label_or or-label a b p d f g;
  less = flat-of_two Set.less label_less less-label a b p d f g;
  one_of = flat-of_two Set.one_of label_one_of one_of-label a b p d f g;
}

pub returns-clause-flat_of_one : goal.returns-clause-flat_of_one
returns-clause-flat_of_one c = λ a p d f. record {
  other = flat-not a p d f;
  inside = flat-of a (Set.inside a) p d (flat-inside a p d) f;
  closed = flat-of a (Set.closed a) p d (flat-closed a p d) f;
  border = flat-of a (Set.border a) p d (flat-border a p d) f;
  regular = flat-of a (Set.regular a) p d (flat-regular a p d) f;
}
