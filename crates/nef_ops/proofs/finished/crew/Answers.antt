use Rattle.nef_ops.proofs.Prelude.{ℕ, ◌≤◌, sym, subst}
use Rattle.nef_ops.proofs.Crews.{crew-few}
use Rattle.nef_ops.proofs.finished.crew.Goals as goal

pub returns-else-holds-clause-few : goal.returns-else-holds-clause-few
returns-else-holds-clause-few c = subst (λ (n : ℕ). n ≤ 64) (sym c.crew.ensures.crew) (crew-few c.args.work c.how.inside.workers c.how.invariant.1)
