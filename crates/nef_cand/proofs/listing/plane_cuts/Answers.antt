use Rattle.nef_cand.proofs.Prelude.{List, [], arith, sym, subst, SpacePoint, form_of, Plane, complex_of, Named, IsCutBy, IsNamedIn, AddsPoints}
use Rattle.nef_cand.proofs.Adding.{AnyFirst, adds-none, any-more, any-all}
use Rattle.nef_cand.proofs.listing.plane_cuts.Goals as goal

pub loop-h-init : goal.loop-h-init
loop-h-init c =
    let P : Plane → SpacePoint → Type 0 = λ h y. IsCutBy (complex_of c.args.c.now) (form_of h) y in let hs : List Plane = c.args.planes.now in
    let N = IsNamedIn c.args.operand (complex_of c.args.c.now) in
    record { added = subst (λ (ns : List Named). AddsPoints (AnyFirst P hs 0) N [] ns) (sym c.new-listed.ensures.items) (adds-none (AnyFirst P hs 0) (AnyFirst P hs 0) N [] (λ y (k, x, l, a, p). absurd (omega (arith, l)))) }

pub loop-h-preserved : goal.loop-h-preserved
loop-h-preserved c =
    let P : Plane → SpacePoint → Type 0 = λ h y. IsCutBy (complex_of c.args.c.now) (form_of h) y in
    let N = IsNamedIn c.args.operand (complex_of c.args.c.now) in
    record {
      added = any-more P P N c.args.planes.now c.loop-h.h-index c.h-item.result [] c.loop-h.listed.items c.add_plane_cuts.new.listed.items c.loop-h-test.true c.h-item.is c.loop-h.invariant.added c.in_ok-add_plane_cuts.ensures.added;
    }

pub returns : goal.returns
returns c =
    let P : Plane → SpacePoint → Type 0 = λ h y. IsCutBy (complex_of c.args.c.now) (form_of h) y in
    let N = IsNamedIn c.args.operand (complex_of c.args.c.now) in
    record { cuts = any-all P P N c.args.planes.now c.loop-h.h-index [] c.loop-h.listed.items c.loop-h-test.false c.loop-h.invariant.added }
