use Rattle.nef_complex.proofs.Prelude.{◌<◌, length, sym, subst, IsAt, Edge, IndexedLists, AreEndHolders}
use Rattle.nef_complex.proofs.Pointed.{point-at}
use Rattle.nef_complex.proofs.complex.edge_holders.Goals as goal

pub edge_holders-requires : goal.edge_holders-requires
edge_holders-requires c = record { within = subst (λ (x : IndexedLists). c.args.number < length x.edges) (sym c.requires.indexed.is) c.requires.within }

pub returns : goal.returns
returns c = record {
  holders = λ e a u w i j.
      let vs = c.args.c.now.vertices in
      subst (λ (x : IndexedLists). (f : Edge) → IsAt x.edges c.args.number f → AreEndHolders x.carriers x.points f c.edge_holders.result.now) c.requires.indexed.is c.edge_holders.ensures.holders e a u.point w.point
      (point-at vs e.low u i) (point-at vs e.high w j);
}
