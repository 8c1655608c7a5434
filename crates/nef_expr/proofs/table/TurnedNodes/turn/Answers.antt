-- The copies of all nodes that are needed, one after the other.
use Rattle.nef_expr.proofs.Prelude.{◌≡◌, ℕ, ◌+◌, List, false, length, ap, sym, subst, ◌∙◌, arith, false≢true, get_or_read, Node, NodeTable, IsTable, TurnOf, Stays, AreWithOperands, IsMarked, OperandsTurned}
use Rattle.nef_expr.proofs.Tables.{IsCopying, copying-start, copying-length, copying-operands, copying-more, stays-same, stays-twice}
use Rattle.nef_expr.proofs.table.TurnedNodes.turn.Goals as goal
use Rattle.nef_expr.proofs.table.TurnedNodes.turn.Goals.{then-index+in_ok-copy, else-index}
use Rattle.nef_space.proofs.Elementary.{if-ok}

pub loop-i-init : goal.loop-i-init
loop-i-init c = copying-start c.args.self.now c.args.t c.in_ok-needed.needed.items c.new-copies.result.items c.new-copies.ensures.items

pub copy-requires-clause-existing : goal.copy-requires-clause-existing
copy-requires-clause-existing c =
    let more = copying-length _ _ _ _ _ _ c.loop-i.invariant in
    let l = c.loop-i-test.true in let e = c.requires.existing in
    omega (arith, more, l, e)

pub copy-requires-clause-all : goal.copy-requires-clause-all
copy-requires-clause-all c = let C = c.loop-i.invariant in ap length c.deref-then-index.ensures.value ∙ C.count

pub copy-requires-clause-operands : goal.copy-requires-clause-operands
copy-requires-clause-operands c =
    let now = c.args.self.now in
    let T = subst (λ (t : NodeTable). IsTable t.nodes t.origins t.bases c.self.inside.places) c.self.view_is c.self.invariant in
    let needed = c.in_ok-needed.needed.items in
    let N : AreWithOperands now.nodes c.args.k needed = subst (λ (xs : List Node). AreWithOperands xs c.args.k needed) (c.deref.ensures.value ∙ ap (λ (t : NodeTable). t.nodes) c.self.view_is) c.in_ok-needed.ensures.needed in
    let l = c.loop-i-test.true in let count = N.count in
    let marked : IsMarked needed c.loop-i.i = sym (get_or_read needed c.loop-i.i c.index.result.now (omega (arith, l, count)) c.index.ensures false) ∙ c.if-index.true in
    let turned = copying-operands _ _ _ _ _ _ c.loop-i.invariant c.args.k T.ordered N (omega (arith, l)) c.requires.existing marked in
    λ n at. subst (λ (xs : List ℕ). OperandsTurned c.loop-i.self.nodes c.args.t xs n) (sym c.deref-then-index.ensures.value) (turned n at)

pub loop-i-preserved : goal.loop-i-preserved
loop-i-preserved c =
    let now = c.args.self.now in
    let needed = c.in_ok-needed.needed.items in
    let N : AreWithOperands now.nodes c.args.k needed = subst (λ (xs : List Node). AreWithOperands xs c.args.k needed) (c.deref.ensures.value ∙ ap (λ (t : NodeTable). t.nodes) c.self.view_is) c.in_ok-needed.ensures.needed in
    let l = c.loop-i-test.true in let count = N.count in
    let stays_turned : Stays c.loop-i.self c.if-index.self × (IsMarked needed c.loop-i.i → TurnOf c.if-index.self.nodes c.args.t c.loop-i.i c.if-index.copy) = elim c.if-index.branch [
      | then-index+in_ok-copy w ↦ (
        subst (Stays c.loop-i.self) (sym w.self-is) w.in_ok-copy.ensures.stay,
        λ marked. subst (λ (t : NodeTable). TurnOf t.nodes c.args.t c.loop-i.i c.if-index.copy) (sym w.self-is) (subst (λ (x : ℕ). TurnOf w.copy.new.self.nodes c.args.t c.loop-i.i x) (sym w.copy-is) w.in_ok-copy.ensures.turned),
      )
      | else-index w ↦ (
        subst (Stays c.loop-i.self) (sym w.self-is) (stays-same c.loop-i.self),
        λ marked. absurd (false≢true (sym w.if-index.false ∙ (get_or_read needed c.loop-i.i c.index.result.now (omega (arith, l, count)) c.index.ensures false ∙ marked))),
      )
    ] in
    subst (λ (xs : List ℕ). IsCopying now c.args.t (c.loop-i.i + 1) needed c.if-index.self xs) (sym c.in_ok-push.ensures.items)
    (copying-more _ _ _ _ _ _ c.loop-i.invariant c.if-index.self c.if-index.copy stays_turned.0 stays_turned.1)

pub copy-requires-2-clause-existing : goal.copy-requires-2-clause-existing
copy-requires-2-clause-existing c =
    let more = copying-length _ _ _ _ _ _ c.loop-i.invariant in
    let e = c.requires.existing in
    omega (arith, more, e)

pub copy-requires-2-clause-all : goal.copy-requires-2-clause-all
copy-requires-2-clause-all c =
    let C = c.loop-i.invariant in let count = C.count in
    let e = ap length c.deref-2.ensures.value in
    let low = c.loop-i-test.false in let high = c.loop-i.auto.i-end in
    omega (arith, count, e, low, high)

pub copy-requires-2-clause-operands : goal.copy-requires-2-clause-operands
copy-requires-2-clause-operands c =
    let now = c.args.self.now in
    let T = subst (λ (t : NodeTable). IsTable t.nodes t.origins t.bases c.self.inside.places) c.self.view_is c.self.invariant in
    let needed = c.in_ok-needed.needed.items in
    let N : AreWithOperands now.nodes c.args.k needed = subst (λ (xs : List Node). AreWithOperands xs c.args.k needed) (c.deref.ensures.value ∙ ap (λ (t : NodeTable). t.nodes) c.self.view_is) c.in_ok-needed.ensures.needed in
    let low = c.loop-i-test.false in let high = c.loop-i.auto.i-end in
    let last : c.loop-i.i ≡ c.args.k = omega (arith, low, high) in
    let C = subst (λ (i : ℕ). IsCopying now c.args.t i needed c.loop-i.self c.loop-i.copies.items) last c.loop-i.invariant in
    let turned = copying-operands now c.args.t c.args.k needed c.loop-i.self c.loop-i.copies.items C c.args.k T.ordered N (omega arith) c.requires.existing N.itself in
    λ n at. subst (λ (xs : List ℕ). OperandsTurned c.loop-i.self.nodes c.args.t xs n) (sym c.deref-2.ensures.value) (turned n at)

pub returns-clause-stay : goal.returns-clause-stay
returns-clause-stay c =
    let C = c.loop-i.invariant in
    if-ok (λ (n : ℕ). Stays c.loop-i.self c.copy-2.new.self) (λ (n : ℕ). Stays c.args.self.now c.copy-2.new.self) c.copy-2.result (λ n s. stays-twice _ _ _ C.stays s) c.copy-2.ensures.stay
