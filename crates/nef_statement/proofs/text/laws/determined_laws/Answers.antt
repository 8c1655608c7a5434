use Rattle.nef_statement.proofs.text.Prelude.{subst, Set, Shows, complex_of, facet-of}
use Rattle.law_geometry.proofs.turns.Twice.{set-back}
use Rattle.law_geometry.proofs.complex.FacetNames.{facet-at}
use Rattle.law_geometry.proofs.complex.Skeletons.{belongs-holds}
use Rattle.nef_statement.proofs.text.SameText.{same-parts, same-set_text, text-set, spelled-holds}
use Rattle.nef_statement.proofs.text.laws.determined_laws.Goals as goal

pub returns-clause-same_parts : goal.returns-clause-same_parts
returns-clause-same_parts x = same-parts

pub returns-clause-same_text : goal.returns-clause-same_text
returns-clause-same_text x = same-set_text

pub returns-clause-turned_back : goal.returns-clause-turned_back
returns-clause-turned_back x = λ version j k s c d p q h S T P Q. (same-set_text version s s c d p q S (subst (λ (t : Set). Shows t (complex_of d)) (set-back j k s h) T) (λ y i. (λ a. a, λ a. a)) P Q).1

pub returns-clause-same_set : goal.returns-clause-same_set
returns-clause-same_set x = text-set

pub returns-clause-spelled : goal.returns-clause-spelled
returns-clause-spelled x = spelled-holds (λ s C p S inside. belongs-holds s C S (facet-at s C S) (facet-of s C S) p inside)
