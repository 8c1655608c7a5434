use Rattle.nef_ops.proofs.Prelude.{rules, point_of}
use Rattle.std.proofs.lemmas.Option.{IfSome_then}
use Rattle.nef_ops.proofs.regions.Region.label_at.Goals as goal

pub returns-then-has-clause-told : goal.returns-then-has-clause-told
returns-then-has-clause-told c C told = IfSome_then c.args.self.now.label told (λ l f. f (point_of c.args.point.now) (c.requires.framed, c.has.ensures.past.0 c.if-has.true))

pub returns-else-has-clause-none : goal.returns-else-has-clause-none
returns-else-has-clause-none c none f = absurd (search (rules, c.has.ensures.past.1 f.1, c.if-has.false))
