use Rattle.nef_plan.proofs.Prelude.{◌≡◌, ◌∙◌, ap, arith, length, inl, inr, [], ◌∷◌, ◌++◌, spare}
use Rattle.nef_plan.proofs.Rows.{row-begun, row-begun-less}
use Rattle.nef_plan.proofs.row.Row.begun.Goals as goal
use Rattle.nef_plan.proofs.row.Row.begun.Goals.{in-Union+in_ok-push-in-Union, in-Difference}

pub returns : goal.returns
returns c = record {
  few =
      elim c.match-kind.branch [
        | in-Union+in_ok-push-in-Union w ↦ (let count = ap length (ap (λ z. z.items) w.others-is ∙ w.in_ok-push-in-Union.ensures.items ∙ ap (λ z. z ++ c.args.first ∷ []) c.new-others.ensures.items) in omega (arith, count))
        | in-Difference w ↦ (let count = ap length (ap (λ z. z.items) w.others-is ∙ c.new-others.ensures.items) in omega (arith, count))
      ];
  row = λ plan k within ready ready' is.
      let first = c.args.first in
      let others = c.match-kind.others.items in
      elim c.match-kind.branch [
        | in-Union+in_ok-push-in-Union w ↦ (
            let free : spare c.args.kind ≡ 1 = elim w.in-Union.is [ inl e ↦ ap spare e | inr e ↦ ap spare e ] in
            let items : others ≡ [] ++ first ∷ [] = ap (λ z. z.items) w.others-is ∙ w.in_ok-push-in-Union.ensures.items ∙ ap (λ z. z ++ first ∷ []) c.new-others.ensures.items in
            row-begun plan c.args.kind others first c.args.second k free items ready ready' within is)
        | in-Difference w ↦ (
            let none : spare c.args.kind ≡ 0 = ap spare w.in-Difference.is in
            let items : others ≡ [] = ap (λ z. z.items) w.others-is ∙ c.new-others.ensures.items in
            row-begun-less plan c.args.kind others first c.args.second k none c.requires.begins items ready ready' within is)
      ];
}
