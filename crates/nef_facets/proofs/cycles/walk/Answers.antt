use Rattle.nef_facets.proofs.Prelude.{ℕ, List, get_or, set, Bool, true, false, arith, refl, sym, subst, IsAt, is-at_get, read}
use Rattle.nef_facets.proofs.Walks.{IsWalk, fewer, walk-more, walk-back}
use Rattle.nef_facets.proofs.cycles.walk.Goals as goal

pub loop-marks-smaller : goal.loop-marks-smaller
loop-marks-smaller c =
    let bs : List Bool = c.loop-marks.marks.items in
    let now = c.loop-marks.now in
    let I = c.loop-marks.invariant in
    let e = I.as_many in
    let w = I.within in
    let free : IsAt bs now false = subst (λ (b : Bool). IsAt bs now b) c.loop-marks-test.true (read bs bs now c.index.result.now refl (omega arith) c.index.ensures) in
    fewer bs now free

pub loop-marks-preserved : goal.loop-marks-preserved
loop-marks-preserved c =
    let bs : List Bool = c.loop-marks.marks.items in
    let ns : List ℕ = c.args.next.now in
    let now = c.loop-marks.now in
    let I = c.loop-marks.invariant in
    let e = I.as_many in
    let w = I.within in
    let free : IsAt bs now false = subst (λ (b : Bool). IsAt bs now b) c.loop-marks-test.true (read bs bs now c.index.result.now refl (omega arith) c.index.ensures) in
    let y = get_or ns now 0 in
    subst (λ (xs : List ℕ). IsWalk ns c.args.start c.args.marks.now.items xs y (set bs now true)) (sym c.in_ok-push.ensures.ok)
    (walk-more ns c.requires.step c.args.start c.args.marks.now.items c.requires.as_many c.loop-marks.orbit now bs I free y (is-at_get ns now 0 w))

pub returns-clause-back : goal.returns-clause-back
returns-clause-back c =
    let bs : List Bool = c.loop-marks.marks.items in
    let now = c.loop-marks.now in
    let I = c.loop-marks.invariant in
    let e = I.as_many in
    let w = I.within in
    let stop : IsAt bs now true = subst (λ (b : Bool). IsAt bs now b) c.loop-marks-test.false (read bs bs now c.index.result.now refl (omega arith) c.index.ensures) in
    walk-back c.args.next.now c.requires.step c.args.start c.args.marks.now.items c.requires.start c.requires.closed now bs stop c.loop-marks.orbit I
