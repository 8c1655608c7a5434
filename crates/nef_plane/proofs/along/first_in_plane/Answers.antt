use Rattle.nef_plane.proofs.Prelude.{subst, IfSome, SamePoint, form_of, hit_point, vector_of, same-point_sym, is-at_one, same-point_trans, complex_of, meet_of}
use Rattle.std.specs.Prelude.{Option, Some, None}
use Rattle.law_geometry.specs.complex.Complexes.{Vertex}
use Rattle.law_geometry.proofs.complex.EqualPoints.{ahead-from, first-same}
use Rattle.nef_plane.proofs.AxisSizes.{within-small}
use Rattle.nef_plane.proofs.Listed.{are-items}
use Rattle.nef_plane.proofs.along.first_in_plane.Goals as goal

if-some : {T : Type 0} (o : Option T) (P Q : T → Type 0) → ((x : T) → P x → Q x) → IfSome o P → IfSome o Q
if-some (Some x) P Q f h = f x h
if-some None P Q f h = h

pub first_along_dir-requires-clause-items : goal.first_along_dir-requires-clause-items
first_along_dir-requires-clause-items c = are-items c.args.c.now (form_of c.args.h.now) c.plane_items-items.result c.plane_items-items.ensures.edges c.plane_items-items.ensures.vertices c.plane_items-items.ensures.peaks

pub first_along_axis-requires-clause-items : goal.first_along_axis-requires-clause-items
first_along_axis-requires-clause-items c = are-items c.args.c.now (form_of c.args.h.now) c.plane_items-items.result c.plane_items-items.ensures.edges c.plane_items-items.ensures.vertices c.plane_items-items.ensures.peaks

pub first_along_dir-requires-clause-small : goal.first_along_dir-requires-clause-small
first_along_dir-requires-clause-small c = within-small (complex_of c.args.c.now) (hit_point c.args.p.now) c.args.h.now c.args.d.now c.requires.direction

pub first_along_dir-requires-clause-no_svertex : goal.first_along_dir-requires-clause-no_svertex
first_along_dir-requires-clause-no_svertex c = λ v a k j w u b e s.
    let p = hit_point c.args.p.now in
    let P = c.in-Some.ensures.some.1 in
    let same = subst (λ (r : Vertex). SamePoint r.point p) (is-at_one (complex_of c.args.c.now).vertices c.in-Some.number P.0 v P.1 a) P.2 in
    c.requires.no_svertex k j w u b (same-point_trans w.point v.point p e same) s

pub returns-in-Some-clause-some : goal.returns-in-Some-clause-some
returns-in-Some-clause-some c =
    let C = complex_of c.args.c.now in
    let P = c.in-Some.ensures.some.1 in
    if-some c.first_along_dir.result _ _ (λ m F. first-same P.0.point (hit_point c.args.p.now) P.2 C (form_of c.args.h.now) (vector_of c.args.d.now) (meet_of m) (F P.0 P.1)) c.first_along_dir.ensures.some

pub returns-in-Some-clause-none : goal.returns-in-Some-clause-none
returns-in-Some-clause-none c n = λ m q w o.
    let p = hit_point c.args.p.now in
    let P = c.in-Some.ensures.some.1 in
    c.first_along_dir.ensures.none n P.0 P.1 m q (ahead-from p P.0.point q (vector_of c.args.d.now) (same-point_sym P.0.point p P.2) w) o
