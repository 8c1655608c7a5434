use Rattle.nef_cand.proofs.Prelude.{refl, sym, subst, point_of, form_of, hit_point, same-point_sym, is-at_some, level-same_point, IsHeldCutOf}
use Rattle.nef_cand.proofs.NearCuts.{never-held, nothing-held, held-named}
use Rattle.nef_cand.proofs.listing.held_cut.Goals as goal

pub place_on-requires-clause-on : goal.place_on-requires-clause-on
place_on-requires-clause-on c =
    let e = is-at_some c.args.c.now.edges c.args.number c.requires.within in
    let p = point_of c.in_ok-point.point in let q = hit_point c.hit_at.result in
    let (u, v, a, b, o) = (c.in_ok-point.ensures.crossing e.0 e.1).0 in
    level-same_point (form_of c.args.carrier.now.plane) p q (same-point_sym q p c.hit_at.ensures.same) o.on

pub returns-in_err-point : goal.returns-in_err-point
returns-in_err-point c =
    let C = c.args.c.now in let o = c.args.operand in let D = c.args.other.now in let x = c.args.carrier.now in
    record { cut = λ e i. subst (IsHeldCutOf C o D e x) (sym c.from_residual.ensures) (never-held C o D e x (c.in_err-point.ensures.crossing e i)) }

pub returns-in_err-place : goal.returns-in_err-place
returns-in_err-place c =
    let C = c.args.c.now in let o = c.args.operand in let D = c.args.other.now in let x = c.args.carrier.now in
    record {
      cut = λ e i. subst (IsHeldCutOf C o D e x) (sym c.from_residual-in_err-place.ensures)
          (nothing-held C o D e x c.in_ok-point.point (hit_point c.hit_at.result) c.hit_at.ensures.same (c.in_ok-point.ensures.crossing e i).1 (c.in_err-place.ensures.none refl));
    }

pub returns : goal.returns
returns c = record {
  cut = λ e i.
      let C = c.args.c.now in let x = c.in_ok-point.ensures.crossing e i in (
        x.0,
        held-named c.args.operand C c.args.other.now c.args.carrier.now.plane c.args.number e i c.in_ok-point.point (hit_point c.hit_at.result) c.hit_at.ensures.same x.0
            c.in_ok-place.place c.in_ok-place.ensures.at,
        x.1,
      );
}
