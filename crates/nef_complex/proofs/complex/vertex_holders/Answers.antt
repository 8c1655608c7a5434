use Rattle.nef_complex.proofs.Prelude.{◌<◌, length, sym, subst, IsAt, point_of, Point, IndexedLists, AreHolders}
use Rattle.nef_complex.proofs.Pointed.{as-many, point-at}
use Rattle.nef_complex.proofs.complex.vertex_holders.Goals as goal

pub point_holders-requires : goal.point_holders-requires
point_holders-requires c =
    let l = subst (λ n. c.args.number < n) (sym (as-many c.args.c.now.vertices)) c.requires.within in
    record { within = subst (λ (x : IndexedLists). c.args.number < length x.points) (sym c.requires.indexed.is) l }

pub returns : goal.returns
returns c = record {
  holders = λ v a.
      subst (λ (x : IndexedLists). (p : Point) → IsAt x.points c.args.number p → AreHolders x.carriers (point_of p) (point_of p) c.point_holders.result.now) c.requires.indexed.is c.point_holders.ensures.holders v.point
      (point-at c.args.c.now.vertices c.args.number v a);
}
