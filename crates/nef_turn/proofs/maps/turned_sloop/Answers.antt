-- The turned circle has the sides in the order that its normal form asks for.
use Rattle.nef_turn.proofs.Prelude.{Option, Some, option_map, refl, sym, subst, sloop_of, SLoop, IsTurnedOption}
use Rattle.nef_turn.proofs.maps.turned_sloop.Goals as goal

pub returns : goal.returns
returns c =
    let n = c.turned_normal-flipped in let e = c.exchanged_if-pos in
    let m : SLoop = record { normal = n.result.0; mark = c.in_ok-circle.circle.mark; pos = e.result.0; neg = e.result.1 } in
    record {
      turned = subst (λ (o : Option SLoop). IsTurnedOption c.args.turn.now.number (option_map sloop_of o) (Some (sloop_of m))) (sym c.in_ok-circle.was)
          (n.result.1, record { normal = n.ensures.turned; pos = e.ensures.first; mark = refl; neg = e.ensures.second });
      normal = n.ensures.normal;
    }
