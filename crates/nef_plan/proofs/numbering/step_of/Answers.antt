use Rattle.nef_plan.proofs.Prelude.{inl, inr, length, refl}
use Rattle.nef_plan.proofs.Ended.{if-some}
use Rattle.nef_plan.proofs.numbering.step_of.Goals as goal

pub is_used_by-requires : goal.is_used_by-requires
is_used_by-requires c =
    let n = length c.args.uses.now in
    record { within = if-some c.looked_at-first.result.0 n n refl (λ k e. c.requires.looks k ((c.looked_at-first.ensures.looked_at k).1 (inl e))) }

pub is_used_by-requires-2 : goal.is_used_by-requires-2
is_used_by-requires-2 c =
    let n = length c.args.uses.now in
    record { within = if-some c.looked_at-first.result.1 n n refl (λ k e. c.requires.looks k ((c.looked_at-first.ensures.looked_at k).1 (inr e))) }
