use Rattle.nef_plane.proofs.Prelude.{get_or, arith, is-at_get, Span}
use Rattle.nef_complex.proofs.Outside.{no_span}
use Rattle.nef_plane.proofs.Windowed.{ends-spanned}
use Rattle.nef_plane.proofs.window.meet_span.Goals as goal

pub returns : goal.returns
returns c =
    let S = c.requires.shows in let ss = c.args.spans.now in let n = c.ends_of-low.result in let E = c.ends_of-low.ensures in
    let many = c.requires.alone.as_many in let l = E.low in let h = E.high in
    let a : Span = get_or ss n.0 no_span in let b : Span = get_or ss n.1 no_span in
    record {
      meet = ends-spanned S.0 c.args.c.now S.1.shows ss c.requires.alone c.args.meet n.0 n.1 E.ends l h a b c.with_span.result (is-at_get ss n.0 no_span (omega (arith, many, l))) (is-at_get ss n.1 no_span (omega (arith, many, h)))
          c.with_span.ensures.wider c.with_span.ensures.other;
    }
