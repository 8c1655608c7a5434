use Rattle.nef_plane.proofs.Prelude.{None, rules, sym, subst, form_of, hit_point, vector_of, AreItems, IsLevel, IsNearest, far_met_of}
use Rattle.nef_plane.specs.declared.course.Course.{Course}
use Rattle.nef_plane.proofs.Axes.{along-parallel}
use Rattle.nef_plane.proofs.AxisSizes.{axis-small}
use Rattle.nef_plane.proofs.Choosing.{some-at}
use Rattle.nef_plane.proofs.Found.{MeetsAny, first-some, first-none}
use Rattle.nef_plane.proofs.Leveled.{excluding-level}
use Rattle.nef_plane.proofs.Ordered.{swept}
use Rattle.nef_plane.proofs.plane.first_along_axis.Goals.{in-Some, in-None}
use Rattle.nef_plane.proofs.plane.first_along_axis.Goals as goal

pub first_far-requires-clause-listed : goal.first_far-requires-clause-listed
first_far-requires-clause-listed c = (some-at (AreItems c.args.c.now (form_of c.args.h.now)) c.args.items c.in-Some.listed (search rules) c.requires.items).vertices

pub first_far-requires-in-Some-clause-listed : goal.first_far-requires-in-Some-clause-listed
first_far-requires-in-Some-clause-listed c = (some-at (AreItems c.args.c.now (form_of c.args.h.now)) c.args.items c.in-Some.listed (search rules) c.requires.items).vertices

pub first_far-requires-clause-swept : goal.first_far-requires-clause-swept
first_far-requires-clause-swept c = swept (form_of c.args.h.now) (hit_point c.args.p.now)

pub first_far-requires-in-Some-clause-swept : goal.first_far-requires-in-Some-clause-swept
first_far-requires-in-Some-clause-swept c = swept (form_of c.args.h.now) (hit_point c.args.p.now)

pub nearest_met-met-requires-clause-course : goal.nearest_met-met-requires-clause-course
nearest_met-met-requires-clause-course c =
    let S = c.requires.shows in let C = c.args.c.now in let h = c.args.h.now in let p = hit_point c.args.p.now in let d = vector_of c.args.d.now in
    let x : Course = record { first = c.first_far.result; past = c.first_far-in-Some.result; normal = None } in
    let L : IsLevel C.vertices (form_of h) p x = record { before = c.first_far.ensures.short; not_before = c.first_far.ensures.far; not_past = c.first_far-in-Some.ensures.short; past = c.first_far-in-Some.ensures.far } in
    (L, excluding-level S.0 C S.1.shows h p d (along-parallel h d c.requires.direction) c.requires.on x L)

pub nearest_met-met-requires-clause-items : goal.nearest_met-met-requires-clause-items
nearest_met-met-requires-clause-items c = some-at (AreItems c.args.c.now (form_of c.args.h.now)) c.args.items c.in-Some.listed (search rules) c.requires.items

pub returns-clause-some : goal.returns-clause-some
returns-clause-some c =
    let S = c.requires.shows in let p = hit_point c.args.p.now in let d = vector_of c.args.d.now in let C = c.args.c.now in let h = c.args.h.now in
    let N : IsNearest far_met_of p d (MeetsAny C (form_of h) d) c.match-items.met = elim c.match-items.branch [
      | in-Some w ↦ subst (IsNearest far_met_of p d (MeetsAny C (form_of h) d)) (sym w.met-is) w.nearest_met-met.ensures.nearest
      | in-None w ↦ subst (IsNearest far_met_of p d (MeetsAny C (form_of h) d)) (sym w.met-is) w.met_of_all-met.ensures.nearest
    ] in
    first-some S.0 C S.1.shows (form_of h) p d c.args.d.now.some c.requires.off c.requires.no_svertex (far_met_of c.in_ok-first.first)
    (subst (IsNearest far_met_of p d (MeetsAny C (form_of h) d)) c.in_ok-first.was N)

pub returns-in_err-first-clause-none : goal.returns-in_err-first-clause-none
returns-in_err-first-clause-none c _ =
    let S = c.requires.shows in let p = hit_point c.args.p.now in let d = vector_of c.args.d.now in let C = c.args.c.now in let h = c.args.h.now in
    let N : IsNearest far_met_of p d (MeetsAny C (form_of h) d) c.match-items.met = elim c.match-items.branch [
      | in-Some w ↦ subst (IsNearest far_met_of p d (MeetsAny C (form_of h) d)) (sym w.met-is) w.nearest_met-met.ensures.nearest
      | in-None w ↦ subst (IsNearest far_met_of p d (MeetsAny C (form_of h) d)) (sym w.met-is) w.met_of_all-met.ensures.nearest
    ] in
    first-none S.0 C S.1.shows (form_of h) p d c.args.d.now.some c.requires.off c.requires.no_svertex
    (subst (IsNearest far_met_of p d (MeetsAny C (form_of h) d)) c.in_err-first.was N)

pub invariant_of-ray : goal.invariant_of-ray
invariant_of-ray c = record {
  on = c.requires.on;
  numbers = c.requires.numbers;
  axis = along-parallel c.args.h.now (vector_of c.args.d.now) c.requires.direction;
  small = axis-small c.args.h.now c.args.d.now c.requires.direction;
}

pub invariant_of-ray-in-None : goal.invariant_of-ray-in-None
invariant_of-ray-in-None c = record {
  on = c.requires.on;
  numbers = c.requires.numbers;
  axis = along-parallel c.args.h.now (vector_of c.args.d.now) c.requires.direction;
  small = axis-small c.args.h.now c.args.d.now c.requires.direction;
}
