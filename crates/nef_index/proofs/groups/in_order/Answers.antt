use Rattle.nef_index.proofs.Prelude.{◌≡◌, ℕ, List, ◌+◌, length, arith, sym, subst, AreKeyed}
use Rattle.nef_index.proofs.Grouped.{keyed-none, keyed-more, keyed-moved}
use Rattle.nef_index.proofs.groups.in_order.Goals as goal

pub loop-number-init : goal.loop-number-init
loop-number-init c = record { keyed = subst (AreKeyed 0) (sym c.in_ok-keyed.ensures.items) keyed-none }

pub loop-number-preserved : goal.loop-number-preserved
loop-number-preserved c =
    let n = c.loop-number.number in
    record { keyed = subst (AreKeyed (n + 1)) (sym {A = List (ℕ × ℕ)} c.in_ok-push.ensures.items) (keyed-more n c.place_key.result c.loop-number.keyed.items c.loop-number.invariant.keyed) }

pub returns : goal.returns
returns c =
    let n = c.loop-number.number in
    let all : n ≡ length c.args.spans.now = let f = c.loop-number-test.false in let e = c.loop-number.auto in omega arith in
    record { keyed = subst (λ (m : ℕ). AreKeyed m c.sort_unstable.new.self.items) all (keyed-moved n c.loop-number.keyed.items c.sort_unstable.new.self.items c.sort_unstable.ensures.permutation c.loop-number.invariant.keyed) }
