use Rattle.nef_plane.proofs.Prelude.{inl, rules, sym, subst, SpacePoint, IsAhead, form_of, point_of, vector_of, map-is_at, Meets, IsFirstInPlane, complex_of, meet_of, vertex_of, AreItems, IsNearest, near_met_of}
use Rattle.law_geometry.specs.complex.Skeleton.{PlaneMeet as PlainMeet}
use Rattle.nef_plane.proofs.Choosing.{some-at}
use Rattle.nef_plane.proofs.Found.{MeetsAny, from-vertex, first-some, first-none}
use Rattle.nef_plane.proofs.Passed.{excluding-course}
use Rattle.nef_plane.proofs.along.first_along_dir.Goals.{in-Some, in_default}
use Rattle.nef_plane.proofs.along.first_along_dir.Goals as goal
use Rattle.nef_space.proofs.Elementary.{same-itself}

pub of-course-requires-clause-holds : goal.of-course-requires-clause-holds
of-course-requires-clause-holds c = c.is_held-held.ensures.holds.0 c.if-held.true

pub of-course-requires-clause-listed : goal.of-course-requires-clause-listed
of-course-requires-clause-listed c = (some-at (AreItems c.args.c.now (form_of c.args.h.now)) c.args.items c.in-Some.listed (search rules) c.requires.items).vertices

pub nearest_met-met-requires-clause-course : goal.nearest_met-met-requires-clause-course
nearest_met-met-requires-clause-course c =
    let S = c.requires.shows in
    (c.of-course.ensures.course, excluding-course S.0 c.args.c.now S.1.shows c.args.h.now c.at.result.now.point (vector_of c.args.d.now) c.args.d.now.some c.of-course.result c.of-course.ensures.course)

pub nearest_met-met-requires-clause-items : goal.nearest_met-met-requires-clause-items
nearest_met-met-requires-clause-items c = some-at (AreItems c.args.c.now (form_of c.args.h.now)) c.args.items c.in-Some.listed (search rules) c.requires.items

pub returns-clause-some : goal.returns-clause-some
returns-clause-some c =
    let S = c.requires.shows in let v = c.at.result.now in let p = point_of v.point in let d = vector_of c.args.d.now in let C = c.args.c.now in let h = c.args.h.now in
    let a = c.at.ensures.element in let listed = map-is_at vertex_of C.vertices c.args.vertex v a in
    let N : IsNearest near_met_of p d (MeetsAny C (form_of h) d) c.match-items.met = elim c.match-items.branch [
      | in-Some w ↦ subst (IsNearest near_met_of p d (MeetsAny C (form_of h) d)) (sym w.met-is) w.nearest_met-met.ensures.nearest
      | in_default w ↦ subst (IsNearest near_met_of p d (MeetsAny C (form_of h) d)) (sym w.met-is) w.met_of_all-met.ensures.nearest
    ] in
    from-vertex C c.args.vertex v a (λ q. IsFirstInPlane (complex_of C) (form_of h) q d (meet_of c.in_ok-first.first.meet))
    (first-some S.0 C S.1.shows (form_of h) p d c.args.d.now.some (inl (c.args.vertex, (vertex_of v, listed, same-itself p))) (c.requires.no_svertex (vertex_of v) listed) (near_met_of c.in_ok-first.first)
    (subst (IsNearest near_met_of p d (MeetsAny C (form_of h) d)) c.in_ok-first.was N))

pub returns-in_err-first-clause-none : goal.returns-in_err-first-clause-none
returns-in_err-first-clause-none c _ =
    let S = c.requires.shows in let v = c.at.result.now in let p = point_of v.point in let d = vector_of c.args.d.now in let C = c.args.c.now in let h = c.args.h.now in
    let a = c.at.ensures.element in let listed = map-is_at vertex_of C.vertices c.args.vertex v a in
    let N : IsNearest near_met_of p d (MeetsAny C (form_of h) d) c.match-items.met = elim c.match-items.branch [
      | in-Some w ↦ subst (IsNearest near_met_of p d (MeetsAny C (form_of h) d)) (sym w.met-is) w.nearest_met-met.ensures.nearest
      | in_default w ↦ subst (IsNearest near_met_of p d (MeetsAny C (form_of h) d)) (sym w.met-is) w.met_of_all-met.ensures.nearest
    ] in
    from-vertex C c.args.vertex v a (λ r. (m : PlainMeet) (q : SpacePoint) → IsAhead r d q → Meets (complex_of C) (form_of h) m q → ⊥)
    (first-none S.0 C S.1.shows (form_of h) p d c.args.d.now.some (inl (c.args.vertex, (vertex_of v, listed, same-itself p))) (c.requires.no_svertex (vertex_of v) listed)
    (subst (IsNearest near_met_of p d (MeetsAny C (form_of h) d)) c.in_err-first.was N))
