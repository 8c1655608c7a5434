use Rattle.nef_plan.proofs.Prelude.{arith}
use Rattle.std.proofs.lemmas.Result.{IfOk-from_err}
use Rattle.nef_plan.proofs.planning.unbound.Goals as goal

pub returns : goal.returns
returns c = let e = c.loop.invariant.count in let f = c.loop-test.false in let g = c.loop.auto.counter-end in record { count = omega (arith, e, f, g); unbound = c.loop.invariant.none }

pub returns-in_err-push : goal.returns-in_err-push
returns-in_err-push c = let e = c.from_residual-in_err-push.ensures.0 in record { count = IfOk-from_err _ _ e; unbound = IfOk-from_err _ _ e }

pub returns-in_err-bounds : goal.returns-in_err-bounds
returns-in_err-bounds c = let e = c.from_residual.ensures.0 in record { count = IfOk-from_err _ _ e; unbound = IfOk-from_err _ _ e }
