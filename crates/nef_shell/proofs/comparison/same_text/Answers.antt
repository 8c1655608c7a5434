use Rattle.nef_shell.proofs.Prelude.{◌∙◌, refl, sym, Decides-eqb, text, same-texts}
use Rattle.std.proofs.lemmas.Slice.Eq.{slice_eq-Decides}
use Rattle.nef_shell.proofs.comparison.same_text.Goals as goal

pub returns-clause-same : goal.returns-clause-same
returns-clause-same c s t S T =
    let v = c.args.version in
    let a = c.args.a.now in
    let b = c.args.b.now in
    let p = c.args.p.now in
    let q = c.args.q.now in
    let tells = slice_eq-Decides Decides-eqb _ _ _ c.eq.ensures in
    let alike = same-texts v s t (text v a p) (text v b q) (a, p, S.shows, c.requires.first_parts, refl) (b, q, T.shows, c.requires.second_parts, refl) in (
      λ h. alike.0 (sym c.in_ok-first.ensures.text ∙ sym c.as_slice.ensures.value ∙ tells.0 h ∙ c.as_slice-2.ensures.value ∙ c.in_ok-second.ensures.text),
      λ same. tells.1 (c.as_slice.ensures.value ∙ c.in_ok-first.ensures.text ∙ alike.1 same ∙ sym c.in_ok-second.ensures.text ∙ sym c.as_slice-2.ensures.value),
    )
