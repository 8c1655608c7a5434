use Rattle.nef_plane.proofs.Prelude.{◌≡◌, ℕ, ◌-◌, ◌+◌, ◌<◌, length, get_or, arith, rules, refl, sym, subst, ⊎_elim, Option, IfSome, cases_lt, is-at_get, complex_of, AtEdge, IsInSpan, Span, AtEdgeNumber, IsNearest, met_of, HoldsBefore}
use Rattle.nef_plane.proofs.Listed.{met-lies}
use Rattle.nef_plane.proofs.Nearest.{From, asked-none, asked-before, asked-apart, asked-over, asked-each}
use Rattle.nef_plane.proofs.Windowed.{best-has, best-held}
use Rattle.nef_plane.proofs.Rising.{edges-within, both-below}
use Rattle.nef_plane.proofs.first.nearest_edge.Goals.{then-may_meet_within, else-may_meet_within}
use Rattle.nef_plane.proofs.first.nearest_edge.Goals as goal

pub edges_before-count-requires : goal.edges_before-count-requires
edges_before-count-requires g c = record { shows = c.requires.shows; edges = (g.R.PlaneRay.plane c.args.ray.now, c.requires.items.edges) }

pub last_reaching-place-requires : goal.last_reaching-place-requires
last_reaching-place-requires g c =
    let I = c.requires.items in record { within = edges-within c.args.c.now (g.R.PlaneRay.plane c.args.ray.now) c.args.items.now.edges.now I.edges; peaks = I.peaks; count = c.edges_before-count.ensures.within }

pub last_reaching-place-requires-in-loop-place : goal.last_reaching-place-requires-in-loop-place
last_reaching-place-requires-in-loop-place g c =
    let I = c.requires.items in let w = c.loop-place.invariant.0 in
    record { within = edges-within c.args.c.now (g.R.PlaneRay.plane c.args.ray.now) c.args.items.now.edges.now I.edges; peaks = I.peaks; count = omega (arith, w) }

pub may_meet_within-requires-clause-lies : goal.may_meet_within-requires-clause-lies
may_meet_within-requires-clause-lies g c =
    let ns = c.args.items.now.edges.now in let i = c.loop-place.place - 1 in let t = c.loop-place-test.true in let e = c.loop-place.invariant.0 in
    let inside : i < length ns = omega (arith, t, e) in
    c.requires.items.edges.each i (get_or ns i 0) (is-at_get ns i 0 inside)

pub met-requires-clause-told : goal.met-requires-clause-told
met-requires-clause-told g c = c.may_meet_within.ensures.told c.if-may_meet_within.true

pub loop-place-init : goal.loop-place-init
loop-place-init g c =
    let C = c.args.c.now in let ray = c.args.ray.now in let h = g.R.PlaneRay.plane ray in let p = g.R.PlaneRay.start ray in let d = g.R.PlaneRay.way ray in
    let ns = c.args.items.now.edges.now in let S = c.requires.shows in let N = c.requires.items.edges in
    let n = c.last_reaching-place.result in let count = c.edges_before-count.result in let b = c.edges_before-count.ensures.within in let f = c.last_reaching-place.ensures.count in
    let E = g.met.R.PlaneRay.excludes ray C c.args.course.now c.requires.course in (
      omega (arith, b, f),
      asked-none (met_of g.R.At.Stepped.reach) p d ns (λ k. AtEdgeNumber (complex_of C) h d k) n (λ j k l a.
          let L = N.each j k a in
          ⊎_elim
          (λ t. let B = both-below S.0 C S.1.shows h ns n count c.args.course.now.first c.last_reaching-place.ensures.passed j k l t a L in E.first (AtEdge k) B.0 B.1 B.2 L B.3 B.4)
          (λ t. E.past (AtEdge k) L.0.low L.0.high (L.0, L.1, refl, refl) L (c.edges_before-count.ensures.beyond j k L.0 t a L.1))
          (cases_lt j count)),
      tt,
      tt,
    )

pub known_start-start-requires : goal.known_start-start-requires
known_start-start-requires g c = record { known = c.loop-place.invariant.2 }

pub window_to-window-requires-clause-within : goal.window_to-window-requires-clause-within
window_to-window-requires-clause-within g c =
    let C = c.args.c.now in let ray = c.args.ray.now in let h = g.R.PlaneRay.plane ray in let p = g.R.PlaneRay.start ray in let d = g.R.PlaneRay.way ray in
    let ns = c.args.items.now.edges.now in let n = c.loop-place.place in let i = n - 1 in let k = get_or ns i 0 in let t = c.loop-place-test.true in let e = c.loop-place.invariant.0 in
    let inside : i < length ns = omega (arith, t, e) in
    let next : n ≡ i + 1 = omega (arith, t) in
    best-has C h d g.R.At.Stepped.reach p ns i c.nearer-best.result
    (asked-before (met_of g.R.At.Stepped.reach) p d ns (λ (k : ℕ). AtEdgeNumber (complex_of C) h d k) i n k c.loop-place.best c.met.result c.nearer-best.result c.nearer-best.result refl next (is-at_get ns i 0 inside)
    (c.nearer-best.ensures.nearer p d (g.met.R.PlaneRay.leads ray)) c.loop-place.invariant.1 c.met.ensures.nearest)

pub loop-place-preserved : goal.loop-place-preserved
loop-place-preserved g c =
    let C = c.args.c.now in let ray = c.args.ray.now in let h = g.R.PlaneRay.plane ray in let p = g.R.PlaneRay.start ray in let d = g.R.PlaneRay.way ray in let seen = met_of g.R.At.Stepped.reach in
    let ns = c.args.items.now.edges.now in let S = c.requires.shows in let N = c.requires.items.edges in
    let n = c.loop-place.place in let i = n - 1 in let k = get_or ns i 0 in let t = c.loop-place-test.true in let e = c.loop-place.invariant.0 in
    let inside : i < length ns = omega (arith, t, e) in
    let next : n ≡ i + 1 = omega (arith, t) in
    let l = is-at_get ns i 0 inside in let a = c.loop-place.best in let A = c.loop-place.invariant.1 in
    let R = λ (k : ℕ). AtEdgeNumber (complex_of C) h d k in
    let m = c.last_reaching-place-in-loop-place.result in let f = c.last_reaching-place-in-loop-place.ensures.count in
    let J = c.if-may_meet_within in
    let B : IsNearest seen p d (From seen p d ns R i) J.best × IfSome J.start (λ s. IsInSpan s p) × HoldsBefore seen p J.best J.window = elim J.branch [
      | then-may_meet_within w ↦
          let r = w.nearer-best.result in
          let near : IsNearest seen p d (From seen p d ns R i) r = asked-before seen p d ns R i n k a w.met.result r r refl next l (w.nearer-best.ensures.nearer p d (g.met.R.PlaneRay.leads ray)) A w.met.ensures.nearest in
          let from = w.known_start-start.ensures.start in (
            subst (λ (o : Option _). IsNearest seen p d (From seen p d ns R i) o) (sym w.best-is) near,
            subst (λ (o : Option Span). IfSome o (λ s. IsInSpan s p)) (sym w.start-is) from,
            subst (λ (o : Option _). HoldsBefore seen p o J.window) (sym w.best-is) (subst (λ (o : Option Span). HoldsBefore seen p r o) (sym w.window-is)
                (best-held C h d g.R.At.Stepped.reach p ns i r w.known_start-start.result w.window_to-window.result near from w.window_to-window.ensures.window)),
          )
      | else-may_meet_within w ↦ (
        asked-apart seen p d ns R i n k a J.best c.loop-place.window w.best-is next l c.loop-place.invariant.3 A (c.may_meet_within.ensures.outside (λ t. absurd (search (rules, t, w.if-may_meet_within.false)))),
        subst (λ (o : Option Span). IfSome o (λ s. IsInSpan s p)) (sym w.start-is) c.loop-place.invariant.2,
        subst (λ (o : Option _). HoldsBefore seen p o J.window) (sym w.best-is) (subst (λ (o : Option Span). HoldsBefore seen p a o) (sym w.window-is) c.loop-place.invariant.3),
      )
    ] in (
      omega (arith, e, f, t),
      asked-over seen p d ns R m i J.best J.best refl f
          (λ j r o u b. let L = N.each j r b in let B = both-below S.0 C S.1.shows h ns m i c.args.course.now.first c.last_reaching-place-in-loop-place.ensures.passed j r o u b L in (g.met.R.PlaneRay.excludes ray C c.args.course.now c.requires.course).first (AtEdge r) B.0 B.1 B.2 L B.3 B.4)
          B.0,
      B.1,
      B.2,
    )

pub returns : goal.returns
returns g c =
    let C = c.args.c.now in let ray = c.args.ray.now in let h = g.R.PlaneRay.plane ray in let p = g.R.PlaneRay.start ray in let d = g.R.PlaneRay.way ray in
    let t = c.loop-place-test.false in
    record {
      nearest = asked-each (met_of g.R.At.Stepped.reach) p d c.args.items.now.edges.now (λ k. AtEdgeNumber (complex_of C) h d k) c.loop-place.place c.loop-place.best (omega (arith, t))
          (λ k m q w x. c.requires.items.edges.all k (met-lies C h d m q p (g.met.R.PlaneRay.leads ray) (g.met.R.PlaneRay.excludes ray C c.args.course.now c.requires.course).holds w (AtEdge k) x)) c.loop-place.invariant.1;
    }
