use Rattle.nef_smap.proofs.map.SLoop.holds.Goals as goal

pub returns : goal.returns
returns c = let p = c.is_perpendicular.ensures.perpendicular in record { on = (λ h. record { direction = c.args.d.now.some; level = p.0 h }, λ o. p.1 o.level) }
