use Rattle.nef_locate.proofs.Prelude.{◌≡◌, ◌+◌, ◌*◌, List, length, Vec, Global, arith, sym, ap, subst, ◌∙◌, IsAt, SArc, is-at_read, AreHalves}
use Rattle.nef_locate.proofs.EdgeHalves.{halves-none, halves-past, halves-more}
use Rattle.nef_locate.proofs.maps.half_circles.Goals as goal
use Rattle.nef_locate.proofs.maps.half_circles.Goals.{then-arc-svertex+in_ok-push, else-arc-svertex, then-arc-svertex-2+in_ok-push-2, else-arc-svertex-2}

pub loop-arc-init : goal.loop-arc-init
loop-arc-init c = halves-none c.args.map.now.arcs c.args.svertex c.in_ok-halves.halves.items c.in_ok-halves.ensures.items

pub loop-arc-preserved : goal.loop-arc-preserved
loop-arc-preserved c =
    let m = c.args.map.now in
    let k = c.args.svertex in
    let u = c.requires.svertex in
    let a = c.arc-item.result in
    let i = c.loop-arc.arc-index in
    let V = c.requires.map.valid in
    let arcs = c.as_slice-arc-items.result.now in
    let here = subst (λ (l : List SArc). IsAt l i a) c.as_slice-arc-items.ensures.all (is-at_read arcs i a c.loop-arc-test.true c.arc-item.is) in
    let old = c.loop-arc.halves.items in
    let mid = c.if-arc-svertex.halves.items in
    let first : AreHalves m.arcs k (2 * i + 1) mid =
    elim c.if-arc-svertex.branch [
      | then-arc-svertex+in_ok-push w ↦
          subst (AreHalves m.arcs k (2 * i + 1)) (sym {A = List SArc} (ap (λ (v : Vec SArc Global). v.items) w.halves-is ∙ w.in_ok-push.ensures.items))
          (halves-more m V k u.0 u.1 (2 * i) i 0 old a c.loop-arc.invariant here (omega arith) (omega arith) w.half_circle.result w.if-arc-svertex.true w.half_circle.ensures.half)
      | else-arc-svertex w ↦
          subst (AreHalves m.arcs k (2 * i + 1)) (sym {A = List SArc} (ap (λ (v : Vec SArc Global). v.items) w.halves-is))
          (halves-past m V k u.0 u.1 (2 * i) i 0 old a c.loop-arc.invariant here (omega arith) (omega arith) w.if-arc-svertex.false)
    ] in
    let n : 2 * i + 1 + 1 ≡ 2 * (i + 1) = omega arith in
    subst (λ n. AreHalves m.arcs k n c.if-arc-svertex-2.halves.items) n
    (elim c.if-arc-svertex-2.branch [
      | then-arc-svertex-2+in_ok-push-2 w ↦
          subst (AreHalves m.arcs k (2 * i + 1 + 1)) (sym {A = List SArc} (ap (λ (v : Vec SArc Global). v.items) w.halves-is ∙ w.in_ok-push-2.ensures.items))
          (halves-more m V k u.0 u.1 (2 * i + 1) i 1 mid a first here (omega arith) (omega arith) w.half_circle-then-arc-svertex-2.result w.if-arc-svertex-2.true w.half_circle-then-arc-svertex-2.ensures.half)
      | else-arc-svertex-2 w ↦
          subst (AreHalves m.arcs k (2 * i + 1 + 1)) (sym {A = List SArc} (ap (λ (v : Vec SArc Global). v.items) w.halves-is))
          (halves-past m V k u.0 u.1 (2 * i + 1) i 1 mid a first here (omega arith) (omega arith) w.if-arc-svertex-2.false)
    ])

pub returns : goal.returns
returns c =
    let m = c.args.map.now in
    let i = c.loop-arc.arc-index in
    let all = c.as_slice-arc-items.ensures.all in
    let low = c.loop-arc-test.false in
    let high = c.loop-arc.auto.arc-index-end in
    let e : 2 * i ≡ 2 * length m.arcs = (let f = ap length all in omega (arith, f, low, high)) in
    record { halves = subst (λ n. AreHalves m.arcs c.args.svertex n c.loop-arc.halves.items) e c.loop-arc.invariant }
