use Rattle.nef_ops.proofs.Prelude.{Bool, sym, subst, SpacePoint, Set, Cone, map_of, complement_if}
use Rattle.nef_ops.proofs.local.turned_if.Goals as goal

pub returns-then-turned-clause-cone : goal.returns-then-turned-clause-cone
returns-then-turned-clause-cone c = subst (λ (t : Bool). (s : Set) (y : SpacePoint) → Cone (map_of c.args.map) s y → Cone (map_of c.exchanged.result) (complement_if t s) y) (sym c.if-turned.true) c.exchanged.ensures.cone
