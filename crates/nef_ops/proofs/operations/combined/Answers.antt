use Rattle.nef_ops.proofs.Prelude.{sym, subst, IfOk-weaker, op_set, ShowsSet, given_of, moved_of}
use Rattle.nef_ops.proofs.Gathered.{both-given}
use Rattle.nef_ops.proofs.operations.combined.Goals as goal

pub gather-requires-clause-first : goal.gather-requires-clause-first
gather-requires-clause-first g c = λ κs within. let S = c.requires.first in (S.0, subst (ShowsSet S.0) (sym c.complex-first.ensures.complex) S.1)

pub gather-requires-clause-second : goal.gather-requires-clause-second
gather-requires-clause-second g c = λ κs within. let T = c.requires.second in (T.0, subst (ShowsSet T.0) (sym c.complex-second.ensures.complex) T.1)

pub assemble-requires : goal.assemble-requires
assemble-requires g c =
    let S = c.requires.first in let T = c.requires.second in let x = c.args.a.now in let y = c.args.b.now in
    let own-a = c.is_own-own_first in let own-b = c.is_own-own_second in let p = c.in_ok-parts.parts in
    record {
      first = S;
      second = T;
      outcomes = (
        op_set c.args.op S.0 T.0,
        both-given (op_set c.args.op S.0 T.0) p.carriers p.points.items c.as_slice.result.now own-a.result own-b.result (given_of x) (given_of y) c.complex-first.result.now c.complex-second.result.now (moved_of x) (moved_of y)
            p.outcomes.items c.as_slice.ensures.value c.complex-first.ensures.complex c.complex-second.ensures.complex own-a.ensures.own own-b.ensures.own
            (c.in_ok-parts.ensures.gathered S.0 T.0 (subst (ShowsSet S.0) (sym c.complex-first.ensures.complex) S.1) (subst (ShowsSet T.0) (sym c.complex-second.ensures.complex) T.1)),
      );
    }

pub returns : goal.returns
returns g c =
    let x = c.args.a.now in let y = c.args.b.now in
    let own-a = c.is_own-own_first in let own-b = c.is_own-own_second in let p = c.in_ok-parts.parts in
    record {
      shows = IfOk-weaker c.assemble.result _ _ (λ d shown s t S T. shown (op_set c.args.op s t)
          (both-given (op_set c.args.op s t) p.carriers p.points.items c.as_slice.result.now own-a.result own-b.result (given_of x) (given_of y) c.complex-first.result.now c.complex-second.result.now (moved_of x) (moved_of y)
          p.outcomes.items c.as_slice.ensures.value c.complex-first.ensures.complex c.complex-second.ensures.complex own-a.ensures.own own-b.ensures.own
          (c.in_ok-parts.ensures.gathered s t (subst (ShowsSet s) (sym c.complex-first.ensures.complex) S) (subst (ShowsSet t) (sym c.complex-second.ensures.complex) T)))) c.assemble.ensures.shows;
    }
