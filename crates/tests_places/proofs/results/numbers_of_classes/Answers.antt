use Rattle.tests_places.proofs.Prelude.{sym, subst, AreRoots}
use Rattle.tests_places.proofs.results.numbers_of_classes.Goals as goal

pub class_numbers-requires : goal.class_numbers-requires
class_numbers-requires c = record { roots = subst AreRoots (sym c.as_slice-2.ensures.value) c.in_ok-classes.ensures.roots }
