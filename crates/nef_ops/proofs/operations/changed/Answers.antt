use Rattle.nef_ops.proofs.Prelude.{sym, subst, SpacePoint, Set, Cone, interior, closure, boundary, complement, map_of, SphereMap, UnaryOp, unary_set}
use Rattle.std.specs.Prelude.{IfOk}
use Rattle.nef_ops.proofs.OneSet.{made-cone, made-least, regular-cone}
use Rattle.nef_ops.proofs.operations.changed.Goals as goal

-- the map n shows what the operation makes of each set that m shows
abbrev ShowsChanged : SphereMap → UnaryOp → SphereMap → Type 0
ShowsChanged m op n = (s : Set) (p : SpacePoint) → Cone (map_of m) s p → Cone (map_of n) (unary_set op s) p

pub returns-in-Not-clause-least : goal.returns-in-Not-clause-least
returns-in-Not-clause-least c = made-least complement Set.other c.args.map.now c.complement.result c.complement.ensures.made

pub returns-in-Not-clause-cone : goal.returns-in-Not-clause-cone
returns-in-Not-clause-cone c = subst (λ (op : UnaryOp). IfOk c.complement.result (ShowsChanged c.args.map.now op)) (sym c.in-Not.is) (made-cone complement Set.other c.args.map.now c.complement.result c.complement.ensures.made)

pub returns-in-Int-clause-least : goal.returns-in-Int-clause-least
returns-in-Int-clause-least c = made-least interior Set.inside c.args.map.now c.interior.result c.interior.ensures.made

pub returns-in-Int-clause-cone : goal.returns-in-Int-clause-cone
returns-in-Int-clause-cone c = subst (λ (op : UnaryOp). IfOk c.interior.result (ShowsChanged c.args.map.now op)) (sym c.in-Int.is) (made-cone interior Set.inside c.args.map.now c.interior.result c.interior.ensures.made)

pub returns-in-Cl-clause-least : goal.returns-in-Cl-clause-least
returns-in-Cl-clause-least c = made-least closure Set.closed c.args.map.now c.closure.result c.closure.ensures.made

pub returns-in-Cl-clause-cone : goal.returns-in-Cl-clause-cone
returns-in-Cl-clause-cone c = subst (λ (op : UnaryOp). IfOk c.closure.result (ShowsChanged c.args.map.now op)) (sym c.in-Cl.is) (made-cone closure Set.closed c.args.map.now c.closure.result c.closure.ensures.made)

pub returns-in-Bd-clause-least : goal.returns-in-Bd-clause-least
returns-in-Bd-clause-least c = made-least boundary Set.border c.args.map.now c.boundary.result c.boundary.ensures.made

pub returns-in-Bd-clause-cone : goal.returns-in-Bd-clause-cone
returns-in-Bd-clause-cone c = subst (λ (op : UnaryOp). IfOk c.boundary.result (ShowsChanged c.args.map.now op)) (sym c.in-Bd.is) (made-cone boundary Set.border c.args.map.now c.boundary.result c.boundary.ensures.made)

pub returns-in_ok-map-in-Reg-clause-cone : goal.returns-in_ok-map-in-Reg-clause-cone
returns-in_ok-map-in-Reg-clause-cone c = λ s p K.
    subst (λ (op : UnaryOp). Cone (map_of c.in_ok-map-in-Reg.map) (unary_set op s) p) (sym c.in-Reg.is)
    (regular-cone (map_of c.in_ok-map-in-Reg.map) s p (c.in_ok-map-in-Reg.ensures.made.cone (Set.inside s) p (c.in_ok-inside-in-Reg.ensures.made.cone s p K)))
