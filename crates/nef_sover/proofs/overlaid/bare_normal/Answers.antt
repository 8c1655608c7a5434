use Rattle.nef_sover.proofs.Prelude.{refl}
use Rattle.nef_sover.proofs.overlaid.bare_normal.Goals as goal

pub returns-then-is_bare : goal.returns-then-is_bare
returns-then-is_bare c = record { bare = (c.in-Some.sloop, c.in-Some.is, refl, c.is_bare.ensures.bare.0 c.if-is_bare.true) }
