use Rattle.nef_expr.proofs.Prelude.{true, false, point_of}
use Rattle.nef_expr.proofs.Holding.{half-minus, half-zero, half-plus, half-told, empty-told, full-told, and-told, or-told, diff-told, xor-told, not-told}
use Rattle.nef_expr.proofs.plain.node_holds.Goals as goal

pub returns-in-Minus : goal.returns-in-Minus
returns-in-Minus c =
    let p = point_of c.args.p.now in
    record { told = rw c.in-Half.is (half-told c.args.holding.now c.in-Half.oriented c.in-Half.closed true p (half-minus _ _ p c.in-Minus.ensures.side)) }

pub returns-in-Zero : goal.returns-in-Zero
returns-in-Zero c =
    let p = point_of c.args.p.now in
    record { told = rw c.in-Half.is (half-told c.args.holding.now c.in-Half.oriented c.in-Half.closed c.in-Half.closed p (half-zero _ _ p c.in-Zero.ensures.side)) }

pub returns-in-Plus : goal.returns-in-Plus
returns-in-Plus c =
    let p = point_of c.args.p.now in
    record { told = rw c.in-Half.is (half-told c.args.holding.now c.in-Half.oriented c.in-Half.closed false p (half-plus _ _ p c.in-Plus.ensures.side)) }

pub returns-in-Full : goal.returns-in-Full
returns-in-Full c = record { told = rw c.in-Full.is (full-told c.args.holding.now (point_of c.args.p.now)) }

pub returns-then-holding-i : goal.returns-then-holding-i
returns-then-holding-i c =
    let told = and-told c.args.holding.now c.in-And.i c.in-And.j (point_of c.args.p.now) (rw c.in-And.is at c.requires.operands) in
    record { told = rw c.in-And.is (rw c.if-holding-i.true at told) }

pub returns-else-holding-i : goal.returns-else-holding-i
returns-else-holding-i c =
    let told = and-told c.args.holding.now c.in-And.i c.in-And.j (point_of c.args.p.now) (rw c.in-And.is at c.requires.operands) in
    record { told = rw (c.in-And.is, c.if-holding-i.false) (rw c.if-holding-i.false at told) }

pub returns-then-holding-i-2 : goal.returns-then-holding-i-2
returns-then-holding-i-2 c =
    let told = or-told c.args.holding.now c.in-Or.i c.in-Or.j (point_of c.args.p.now) (rw c.in-Or.is at c.requires.operands) in
    record { told = rw (c.in-Or.is, c.if-holding-i-2.true) (rw c.if-holding-i-2.true at told) }

pub returns-else-holding-i-2 : goal.returns-else-holding-i-2
returns-else-holding-i-2 c =
    let told = or-told c.args.holding.now c.in-Or.i c.in-Or.j (point_of c.args.p.now) (rw c.in-Or.is at c.requires.operands) in
    record { told = rw c.in-Or.is (rw c.if-holding-i-2.false at told) }

pub returns-then-holding-i-3 : goal.returns-then-holding-i-3
returns-then-holding-i-3 c =
    let told = diff-told c.args.holding.now c.in-Diff.i c.in-Diff.j (point_of c.args.p.now) (rw c.in-Diff.is at c.requires.operands) in
    record { told = rw c.in-Diff.is (rw c.if-holding-i-3.true at told) }

pub returns-else-holding-i-3 : goal.returns-else-holding-i-3
returns-else-holding-i-3 c =
    let told = diff-told c.args.holding.now c.in-Diff.i c.in-Diff.j (point_of c.args.p.now) (rw c.in-Diff.is at c.requires.operands) in
    record { told = rw (c.in-Diff.is, c.if-holding-i-3.false) (rw c.if-holding-i-3.false at told) }

pub returns-in-Xor : goal.returns-in-Xor
returns-in-Xor c = record { told = rw c.in-Xor.is (xor-told _ _ _ _ (rw c.in-Xor.is at c.requires.operands)) }

pub returns-in-Not : goal.returns-in-Not
returns-in-Not c = record { told = rw c.in-Not.is (not-told _ _ _ (rw c.in-Not.is at c.requires.operands)) }

pub returns-in-Empty : goal.returns-in-Empty
returns-in-Empty c = record { told = rw c.in-Empty.is (empty-told c.args.holding.now (point_of c.args.p.now)) }
