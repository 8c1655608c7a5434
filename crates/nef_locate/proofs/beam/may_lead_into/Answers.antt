use Rattle.nef_locate.proofs.Prelude.{IsTrue, rules}
use Rattle.nef_locate.proofs.Windows.{reaches-y, reaches-z}
use Rattle.nef_locate.proofs.beam.may_lead_into.Goals as goal

pub returns-then-not-reach_into : goal.returns-then-not-reach_into
returns-then-not-reach_into c =
    let off : IsTrue c.reach_into.result → ⊥ = search rules in
    record { leads = λ q a i. absurd (off (c.reach_into.ensures.reach.1 (reaches-y c.args.window.now c.args.span.now q a i))) }

pub returns : goal.returns
returns c = record { leads = λ q a i. c.reach_into-2.ensures.reach.1 (reaches-z c.args.window.now c.args.span.now q a i) }
