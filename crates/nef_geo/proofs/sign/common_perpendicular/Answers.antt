use Rattle.nef_geo.proofs.Prelude.{arith, sym, subst, svertex_limit, direction_limit, Vector, IsDirection, SameDirection, cross, vector_of, triple_vector}
use Rattle.nef_geo.proofs.Products.{passed, passed_small, IsAtMost-weaken}
use Rattle.nef_geo.proofs.sign.common_perpendicular.Goals as goal

pub reduced-requires-clause-small : goal.reduced-requires-clause-small
reduced-requires-clause-small c =
    let p = c.cross_narrow-product in
    IsAtMost-weaken svertex_limit direction_limit _ (omega arith) (passed_small (triple_vector p.result) p.ensures.small)

pub reduced-requires-clause-some : goal.reduced-requires-clause-some
reduced-requires-clause-some c =
    let p = c.cross_narrow-product in
    let e = passed (vector_of c.args.a.now) (vector_of c.args.b.now) (triple_vector c.narrow.result) (triple_vector c.narrow-2.result) p.result.0 p.result.1 p.result.2 c.narrow.ensures.narrow c.narrow-2.ensures.narrow p.ensures.cross p.ensures.small in
    subst IsDirection (sym e) c.requires.apart

pub returns : goal.returns
returns c =
    let p = c.cross_narrow-product in
    let e = passed (vector_of c.args.a.now) (vector_of c.args.b.now) (triple_vector c.narrow.result) (triple_vector c.narrow-2.result) p.result.0 p.result.1 p.result.2 c.narrow.ensures.narrow c.narrow-2.ensures.narrow p.ensures.cross p.ensures.small in
    record {
      cross = subst (λ (v : Vector). SameDirection v (vector_of c.reduced.result)) e c.reduced.ensures.same;
      small = c.reduced.ensures.size svertex_limit (passed_small (triple_vector p.result) p.ensures.small);
    }
