use Rattle.nef_locate.proofs.Prelude.{Option, IfSome, subst, vector_of, point_of, complex_of, MetPlace, IsMet, IsNotBefore}
use Rattle.nef_locate.proofs.RayMeets.{first-some, first-none}
use Rattle.nef_locate.proofs.beam.first_hit.Goals as goal

pub invariant_of-beam : goal.invariant_of-beam
invariant_of-beam c = record { ahead = λ q f a. c.ray_window-window.ensures.ahead q c.requires.framed f a; amid = λ q f a. c.ray_window-window.ensures.amid q c.requires.framed f a }

pub search_carriers-requires-clause-right : goal.search_carriers-requires-clause-right
search_carriers-requires-clause-right c = (c.requires.upright, tt, c.first_guess-guess.ensures.met, c.first_guess-guess.ensures.none)

pub returns-clause-place : goal.returns-clause-place
returns-clause-place c =
    let M = subst (λ (o : Option MetPlace). IfSome o (IsMet (complex_of c.args.c.now) (point_of c.args.p.now) (vector_of c.args.d.now))) c.in_ok-met.was c.search_carriers.ensures.right.1 in
    let on = M.on in
    on.has

pub returns-clause-some : goal.returns-clause-some
returns-clause-some c =
    let C = c.args.c.now in let p = point_of c.args.p.now in let d = vector_of c.args.d.now in let S = c.requires.shows in
    first-some S.0 C S.1 p d c.requires.upright c.in_ok-met.met
    (subst (λ (o : Option MetPlace). IfSome o (IsMet (complex_of C) p d)) c.in_ok-met.was c.search_carriers.ensures.right.1)
    (λ k l h a s y T X I. subst (IsNotBefore p y) c.in_ok-met.was (c.search_carriers.ensures.passed k l h a s y T X I))

pub returns-in_err-met-clause-none : goal.returns-in_err-met-clause-none
returns-in_err-met-clause-none c _ =
    let C = c.args.c.now in let p = point_of c.args.p.now in let d = vector_of c.args.d.now in let S = c.requires.shows in
    first-none S.0 C S.1 p d c.requires.upright (λ k l h a s y T X I. subst (IsNotBefore p y) c.in_err-met.was (c.search_carriers.ensures.passed k l h a s y T X I))
