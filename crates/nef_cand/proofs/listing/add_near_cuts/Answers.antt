use Rattle.nef_cand.proofs.Prelude.{◌<◌, length, arith, is-at_some, complex_of, IsNamedBetween, CutsEdgeByOne, CutsEdgeHeldOne}
use Rattle.nef_cand.proofs.Adding.{adds-none, any-next, any-until, any-all}
use Rattle.nef_cand.proofs.NearCuts.{near-all, edge-passed}
use Rattle.nef_cand.proofs.listing.add_near_cuts.Goals as goal

pub loop-number-init : goal.loop-number-init
loop-number-init c = record { added = adds-none _ _ _ _ (λ y (k, x, l, a, p). absurd (omega (arith, l))) }

pub loop-number-preserved : goal.loop-number-preserved
loop-number-preserved c =
    let C = c.args.c.now in let i = c.loop-number.number in let D = c.args.other.now in let N = IsNamedBetween c.args.operand (complex_of C) (complex_of D) in
    let l : i < length C.edges = (let t = c.loop-number-test.true in let n = c.len-number-end.ensures.len in omega arith) in
    let e = is-at_some C.edges i l in
    record {
      added = any-next (CutsEdgeByOne C c.args.near.now) (CutsEdgeHeldOne C D c.args.near.now) N C.edges i e.0 c.args.listed.now.items c.loop-number.listed.items c.add_edge_cuts.new.listed.items e.1 c.loop-number.invariant.added
          (c.in_ok-add_edge_cuts.ensures.added e.0 e.1);
    }

pub returns-then-is_past : goal.returns-then-is_past
returns-then-is_past c =
    let C = c.args.c.now in let i = c.loop-number.number in let D = c.args.other.now in let N = IsNamedBetween c.args.operand (complex_of C) (complex_of D) in
    let xs = c.args.near.now in let around = c.around_carriers-around.result in
    record {
      added = near-all C D xs N c.args.listed.now.items c.loop-number.listed.items
          (any-until (CutsEdgeByOne C xs) (CutsEdgeHeldOne C D xs) N C.edges i c.args.listed.now.items c.loop-number.listed.items
          (λ k e y l a h. edge-passed C D e xs c.requires.near around c.around_carriers-around.ensures.wide (c.is_past.ensures.past c.if-is_past.true k e l a) y h)
          c.loop-number.invariant.added);
    }

pub returns : goal.returns
returns c =
    let C = c.args.c.now in let i = c.loop-number.number in let D = c.args.other.now in let N = IsNamedBetween c.args.operand (complex_of C) (complex_of D) in
    record {
      added = near-all C D c.args.near.now N c.args.listed.now.items c.loop-number.listed.items
          (any-all (CutsEdgeByOne C c.args.near.now) (CutsEdgeHeldOne C D c.args.near.now) N C.edges i c.args.listed.now.items c.loop-number.listed.items (let f = c.loop-number-test.false in let e = c.len-number-end.ensures.len in omega arith) c.loop-number.invariant.added);
    }
