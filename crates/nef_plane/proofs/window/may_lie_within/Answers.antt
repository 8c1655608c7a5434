use Rattle.nef_plane.proofs.Prelude.{◌≡◌, Some, rules, sym, subst, Span, IsOutside}
use Rattle.std.specs.Prelude.{Option}
use Rattle.nef_plane.proofs.window.may_lie_within.Goals as goal

pub returns-in-Some : goal.returns-in-Some
returns-in-Some c =
    let e : c.args.window.now ≡ Some c.in-Some.span = search rules in
    record { outside = λ f y m. subst (λ (w : Option Span). IsOutside w y) (sym e) (λ i. f (c.may_meet.ensures.meets y i (c.meet_span.ensures.meet y m))) }
