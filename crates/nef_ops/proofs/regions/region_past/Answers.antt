use Rattle.nef_ops.proofs.Prelude.{ℤ, pos, FitsSigned, w64, to_z, of_z, arith, rules, sym, subst, ⊎_elim, to_z-of_z, point_of, Point, is-at_within, SpanSide, coordinate_of, axis_coordinate, IsFar, IsWithinEnd}
use Rattle.nef_ops.proofs.FarLabels.{clear-past, far-uniform, none-past}
use Rattle.nef_ops.proofs.Lacking.{all-more}
use Rattle.nef_ops.proofs.regions.region_past.Goals.{else-has-via-then-has+else-in_frame, else-has-via-else-has}
use Rattle.nef_ops.proofs.regions.region_past.Goals as goal

-- the side has its end as it is read
pub returns-then-in_frame-clause-told : goal.returns-then-in_frame-clause-told
returns-then-in_frame-clause-told c p f s S =
    let q = point_of c.point-item.result in
    let side : SpanSide = record { axis = c.args.axis; way = c.args.way; end = to_z w64 (of_z w64 c.end_of-end.result) } in
    let clear = clear-past c.args.c.now c.args.core.now c.requires.core c.args.axis c.args.way c.end_of-end.result (search rules) c.end_of-end.ensures.end in
    far-uniform s c.args.c.now S side clear q p c.place_label-label.result
    (c.in_frame.ensures.in_frame.0 c.if-in_frame.true, c.has.ensures.past.0 c.if-has.true) (c.place_label-label.ensures.set s q S c.locate.ensures.at) f

pub loop-point-preserved : goal.loop-point-preserved
loop-point-preserved c =
    let p = c.point-item.result in
    let side : SpanSide = record { axis = c.args.axis; way = c.args.way; end = to_z w64 (of_z w64 c.end_of-end.result) } in
    let off : IsFar side (point_of p) → ⊥ = elim c.else-has.branch [
      | else-has-via-then-has+else-in_frame w ↦ λ f. absurd (search (rules, w.in_frame.ensures.in_frame.1 f.0, w.if-in_frame.false))
      | else-has-via-else-has w ↦ λ f. absurd (search (rules, c.has.ensures.past.1 f.1, w.if-has.false))
    ] in
    all-more (λ (r : Point). IsFar side (point_of r) → ⊥) c.args.points.now c.loop-point.point-index p c.point-item.is off c.loop-point.invariant

pub returns-clause-none : goal.returns-clause-none
returns-clause-none c none k p a f = c.loop-point.invariant k p (let l = is-at_within c.args.points.now k p a in let t = c.loop-point-test.false in omega (arith, l, t)) a f

-- where the other span's end isn't past the end, no point is
pub returns-then-not-is_past-clause-none : goal.returns-then-not-is_past-clause-none
returns-then-not-is_past-clause-none c e k p a f =
    let q = point_of p in let n = coordinate_of (axis_coordinate c.args.axis) q in let o = c.end_of.result in
    let fits : FitsSigned w64 o = search rules in
    let clear = clear-past c.args.c.now c.args.core.now c.requires.core c.args.axis c.args.way c.end_of-end.result (search rules) c.end_of-end.ensures.end in
    let held : IsWithinEnd c.args.way o n (pos q.w) = ⊎_elim (λ on. absurd (clear c.requires.shows.0 q c.requires.shows.1 f on)) (λ i. c.end_of.ensures.end q i) (c.requires.held k p a f.0) in
    none-past c.args.way (to_z w64 (of_z w64 c.end_of-end.result)) (to_z w64 (of_z w64 o)) n q.w (λ b. absurd (search (rules, c.is_past.ensures.past.1 b, c.if-not-is_past.true)))
    (subst (λ (z : ℤ). IsWithinEnd c.args.way z n (pos q.w)) (sym (to_z-of_z w64 o fits)) held) f.1
