use Rattle.tests_places.proofs.Prelude.{List, sym, subst, Plane, AreInOrder}
use Rattle.nef_cand.proofs.Held.{carriers-ordered}
use Rattle.tests_places.proofs.pairs.carriers_of.Goals as goal

pub of-requires : goal.of-requires
of-requires c = record {
  ordered = let S = c.requires.shows in subst (λ (hs : List Plane). AreInOrder hs) (sym c.in_ok-copy_carriers.ensures.same) (carriers-ordered S.0 c.args.c.now S.1);
}
