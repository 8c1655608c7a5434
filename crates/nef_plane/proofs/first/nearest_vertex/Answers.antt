use Rattle.nef_plane.proofs.Prelude.{◌<◌, length, get_or, arith, rules, refl, is-at_get, complex_of, AtVertex, AtVertexNumber, met_of}
use Rattle.nef_plane.proofs.Listed.{met-lies}
use Rattle.nef_plane.proofs.Nearest.{asked-more, asked-past, asked-all}
use Rattle.nef_plane.proofs.first.nearest_vertex.Goals.{then-may_meet, else-may_meet}
use Rattle.nef_plane.proofs.first.nearest_vertex.Goals as goal

pub count_below-first-requires : goal.count_below-first-requires
count_below-first-requires g c = record { ordered = c.requires.listed.ordered }

pub count_below-end-requires : goal.count_below-end-requires
count_below-end-requires g c = record { ordered = c.requires.listed.ordered }

pub may_meet-requires-clause-lies : goal.may_meet-requires-clause-lies
may_meet-requires-clause-lies g c =
    let ns = c.args.numbers.now in let i = c.loop-place.place in let t = c.loop-place-test.true in let e = c.count_below-end.ensures.within in
    let inside : i < length ns = omega (arith, t, e) in
    c.requires.listed.each i (get_or ns i 0) (is-at_get ns i 0 inside)

pub met-requires-clause-told : goal.met-requires-clause-told
met-requires-clause-told g c = c.may_meet.ensures.told c.if-may_meet.true

pub loop-place-init : goal.loop-place-init
loop-place-init g c = λ m q w (i, l, (k, a, x)).
    let H = c.requires.listed.each i k a in let b = c.count_below-first.ensures.below i k l a in (g.met.R.PlaneRay.excludes c.args.ray.now c.args.c.now c.args.course.now c.requires.course).first (AtVertex k) k k (refl, refl) H b b m q w x

pub loop-place-preserved : goal.loop-place-preserved
loop-place-preserved g c =
    let C = complex_of c.args.c.now in let ray = c.args.ray.now in let p = g.R.PlaneRay.start ray in let d = g.R.PlaneRay.way ray in let seen = met_of g.R.At.Stepped.reach in
    let ns = c.args.numbers.now in let i = c.loop-place.place in let k = get_or ns i 0 in let b = c.loop-place-test.true in let f = c.count_below-end.ensures.within in
    let inside : i < length ns = omega (arith, b, f) in
    let l = is-at_get ns i 0 inside in let a = c.loop-place.best in let A = c.loop-place.invariant in
    elim c.if-may_meet.branch [
      | then-may_meet w ↦ asked-more seen p d ns (λ k. AtVertexNumber C k) i k a w.met.result w.nearer-best.result c.if-may_meet.best w.best-is l (w.nearer-best.ensures.nearer p d (g.met.R.PlaneRay.leads ray)) A w.met.ensures.nearest
      | else-may_meet w ↦ asked-past seen p d ns (λ k. AtVertexNumber C k) i k a c.if-may_meet.best w.best-is l A (c.may_meet.ensures.off (λ t. absurd (search (rules, t, w.if-may_meet.false))))
    ]

pub returns : goal.returns
returns g c =
    let C = c.args.c.now in let ray = c.args.ray.now in let h = g.R.PlaneRay.plane ray in let p = g.R.PlaneRay.start ray in let d = g.R.PlaneRay.way ray in let A = c.requires.listed in let E = g.met.R.PlaneRay.excludes ray C c.args.course.now c.requires.course in
    record {
      nearest = asked-all (met_of g.R.At.Stepped.reach) p d c.args.numbers.now (λ k. AtVertexNumber (complex_of C) k) c.count_below-end.result c.loop-place.place c.loop-place.best (let f = c.loop-place-test.false in omega (arith, f))
          (λ j k l a. E.past (AtVertex k) k k (refl, refl) (A.each j k a) (c.count_below-end.ensures.beyond j k l a))
          (λ k m q w x. A.all k (met-lies C h d m q p (g.met.R.PlaneRay.leads ray) E.holds w (AtVertex k) x)) c.loop-place.invariant;
    }
