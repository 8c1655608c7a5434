use Rattle.nef_locate.proofs.Prelude.{refl, None, vector_of, point_of, complex_of}
use Rattle.nef_locate.proofs.RayMeets.{on-carrier, found}
use Rattle.nef_locate.proofs.beam.met_on.Goals as goal

pub returns-in_err-place-clause-none : goal.returns-in_err-place-clause-none
returns-in_err-place-clause-none c = λ e.
    let C = c.args.c.now in let p = point_of c.args.p.now in let d = vector_of c.args.d.now in let h = c.at-h.result.now in
    on-carrier C p d None c.args.number h c.at-h.ensures.element (λ s y S X I. absurd (c.in_err-place.ensures.none refl s S (found p d h c.in_ok-hit.hit c.in_ok-hit.ensures.crossing s (complex_of C) y X I)))
