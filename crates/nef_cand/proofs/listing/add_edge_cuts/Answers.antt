use Rattle.nef_cand.proofs.Prelude.{◌<◌, pos, get_or, rules, ap, sym, ◌∙◌, subst, arith, length, is-at_one, is-at_get, at-contains, Edge, Bounds, Span, complex_of, Plane, low-within, high-within, is-at_read, IsNamedBetween, AddsAll, IsSpannedIn, CutsEdgeBy, CutsEdgeHeld}
use Rattle.nef_cand.proofs.Adding.{adds-none, adds-one, any-more, any-all}
use Rattle.nef_cand.proofs.Beside.{edge-reaches}
use Rattle.nef_cand.proofs.NearCuts.{ends-spanned, held-spanned, edge-apart}
use Rattle.nef_cand.proofs.listing.add_edge_cuts.Goals.{then-may_meet+in-Some+in_ok-push, then-may_meet+in_default, else-may_meet}
use Rattle.nef_cand.proofs.listing.add_edge_cuts.Goals as goal

abbrev none : Span
none = let b : Bounds = record { low = pos 0; high = pos 0 } in record { x = b; y = b; z = b }

pub bounds-ends-edge : goal.bounds-ends-edge
bounds-ends-edge c =
    let S = c.requires.shows in let m = c.requires.ends.as_many in
    let l = low-within S.0 c.args.c.now S.1.shows c.args.number c.at-edge.result.now c.at-edge.ensures.element in omega (arith, l, m)

pub bounds-ends-edge-2 : goal.bounds-ends-edge-2
bounds-ends-edge-2 c =
    let S = c.requires.shows in let m = c.requires.ends.as_many in
    let l = high-within S.0 c.args.c.now S.1.shows c.args.number c.at-edge.result.now c.at-edge.ensures.element in omega (arith, l, m)

pub offset_bounds-ends-edge : goal.offset_bounds-ends-edge
offset_bounds-ends-edge c =
    let S = c.requires.shows in let m = c.requires.ends.as_many in
    let l : c.at-edge.result.now.low < length c.args.ends.now = (let r = low-within S.0 c.args.c.now S.1.shows c.args.number c.at-edge.result.now c.at-edge.ensures.element in omega (arith, r, m)) in
    search rules

pub offset_bounds-ends-edge-2 : goal.offset_bounds-ends-edge-2
offset_bounds-ends-edge-2 c =
    let S = c.requires.shows in let m = c.requires.ends.as_many in
    let l : c.at-edge.result.now.high < length c.args.ends.now = (let r = high-within S.0 c.args.c.now S.1.shows c.args.number c.at-edge.result.now c.at-edge.ensures.element in omega (arith, r, m)) in
    search rules

pub held_cut-requires-clause-carrier : goal.held_cut-requires-clause-carrier
held_cut-requires-clause-carrier c =
    let xs = c.args.near.now in let i = c.loop-carrier.carrier-index in let x = c.carrier-item.result in
    (c.requires.near x (at-contains xs i x (is-at_read xs i x c.loop-carrier-test.true c.carrier-item.is))).0

pub loop-carrier-init : goal.loop-carrier-init
loop-carrier-init c = record { added = λ e i. adds-none _ _ _ _ (λ y (k, x, l, a, p). absurd (omega (arith, l))) }

pub loop-carrier-preserved : goal.loop-carrier-preserved
loop-carrier-preserved c =
    let C = c.args.c.now in let D = c.args.other.now in let k = c.args.number in let N = IsNamedBetween c.args.operand (complex_of C) (complex_of D) in
    let old = c.loop-carrier.listed.items in let x = c.carrier-item.result in
    let xs = c.args.near.now in let i = c.loop-carrier.carrier-index in
    let spanned : IsSpannedIn D x = c.requires.near x (at-contains xs i x (is-at_read xs i x c.loop-carrier-test.true c.carrier-item.is)) in
    let g = c.at-edge.result.now in
    record {
      added = λ e j.
          let same = is-at_one C.edges k g e c.at-edge.ensures.element j in
          let S = c.requires.shows in let m = c.requires.ends.as_many in
          let at = c.at-edge.ensures.element in
          let low = low-within S.0 C S.1.shows k g at in let high = high-within S.0 C S.1.shows k g at in
          let s : Span = get_or c.args.ends.now g.low none in let t : Span = get_or c.args.ends.now g.high none in
          let within = ends-spanned C c.args.ends.now c.requires.ends x.plane g s t c.with_span-span.result
          (is-at_get c.args.ends.now g.low none (omega (arith, low, m)))
          (is-at_get c.args.ends.now g.high none (omega (arith, high, m)))
          c.with_span-span.ensures.wider c.with_span-span.ensures.other in
          let P = CutsEdgeBy C e in let Q = CutsEdgeHeld C D e in
          any-more P Q N xs i x c.args.listed.now.items old c.if-may_meet.listed.items c.loop-carrier-test.true c.carrier-item.is (c.loop-carrier.invariant.added e j)
          (elim c.if-may_meet.branch [
            | then-may_meet+in-Some+in_ok-push w ↦
                let cut = w.in-Some.ensures.cut e j in
                subst (AddsAll (P x) (Q x) N old) (sym (ap (λ v. v.items) w.listed-is ∙ w.in_ok-push.ensures.items))
                (adds-one (P x) (Q x) N old w.in-Some.cut cut.0 cut.1 (λ y h. cut.2 y h.0))
            | then-may_meet+in_default w ↦ subst (AddsAll (P x) (Q x) N old) (sym (ap (λ v. v.items) w.listed-is)) (adds-none (P x) (Q x) N old (w.in_default.ensures.cut e j))
            | else-may_meet w ↦ subst (AddsAll (P x) (Q x) N old) (sym (ap (λ v. v.items) w.listed-is))
                (subst (λ (f : Edge). AddsAll (CutsEdgeBy C f x) (CutsEdgeHeld C D f x) N old old) same
                (adds-none (CutsEdgeBy C g x) (CutsEdgeHeld C D g x) N old (λ y d. absurd (search (rules, c.may_meet-in-loop-carrier.ensures.meets y (within y d.0) (held-spanned C D g x spanned y d), w.if-may_meet.false)))))
          ]);
    }

pub returns-then-not-may_reach : goal.returns-then-not-may_reach
returns-then-not-may_reach c =
    let C = c.args.c.now in let D = c.args.other.now in let k = c.args.number in let N = IsNamedBetween c.args.operand (complex_of C) (complex_of D) in
    let xs = c.args.near.now in let ss = c.args.ends.now in let g = c.at-edge.result.now in
    let S = c.requires.shows in let m = c.requires.ends.as_many in
    let at = c.at-edge.ensures.element in
    let low = low-within S.0 C S.1.shows k g at in let high = high-within S.0 C S.1.shows k g at in
    let s : Span = get_or ss g.low none in let t : Span = get_or ss g.high none in
    let i = is-at_get ss g.low none (omega (arith, low, m)) in let j = is-at_get ss g.high none (omega (arith, high, m)) in
    let reaches = edge-reaches S.0 C S.1 k g at ss c.requires.ends s t c.args.around.now i j in
    record {
      added = λ e l. edge-apart C D k g e at l xs c.requires.near c.args.around.now c.requires.around
          (λ y h d o. absurd (search (rules, c.may_reach.ensures.reaches.1 (reaches y h d o), c.if-not-may_reach.true))) N c.args.listed.now.items;
    }

pub returns-then-not-may_meet : goal.returns-then-not-may_meet
returns-then-not-may_meet c =
    let C = c.args.c.now in let D = c.args.other.now in let k = c.args.number in let N = IsNamedBetween c.args.operand (complex_of C) (complex_of D) in
    let xs = c.args.near.now in let ss = c.args.ends.now in let g = c.at-edge.result.now in
    let S = c.requires.shows in let m = c.requires.ends.as_many in
    let at = c.at-edge.ensures.element in
    let low = low-within S.0 C S.1.shows k g at in let high = high-within S.0 C S.1.shows k g at in
    let s : Span = get_or ss g.low none in let t : Span = get_or ss g.high none in
    let i = is-at_get ss g.low none (omega (arith, low, m)) in let j = is-at_get ss g.high none (omega (arith, high, m)) in
    let spanned = λ (h : Plane). ends-spanned C ss c.requires.ends h g s t c.with_span-span.result i j c.with_span-span.ensures.wider c.with_span-span.ensures.other in
    record {
      added = λ e l. edge-apart C D k g e at l xs c.requires.near c.args.around.now c.requires.around
          (λ y h d o. absurd (search (rules, c.may_meet.ensures.meets y (spanned h y d) o, c.if-not-may_meet.true))) N c.args.listed.now.items;
    }

pub returns : goal.returns
returns c =
    let C = c.args.c.now in let D = c.args.other.now in let N = IsNamedBetween c.args.operand (complex_of C) (complex_of D) in
    record { added = λ e i. any-all (CutsEdgeBy C e) (CutsEdgeHeld C D e) N c.args.near.now c.loop-carrier.carrier-index c.args.listed.now.items c.loop-carrier.listed.items c.loop-carrier-test.false (c.loop-carrier.invariant.added e i) }
