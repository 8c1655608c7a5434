use Rattle.nef_plan.proofs.Prelude.{◌≡◌, ◌-◌, ◌≤◌, ℕ, ap, sym, subst, refl, List, [], ◌∷◌, ◌++◌, Some, None, length, inl, inr, slice_get, sets_after, RowKind, RowMakesSet, row_parts, spare, IsMade}
use Rattle.nef_plan.proofs.Rows.{Each, made-less, made-joined, made-one, last-one, last-none}
use Rattle.nef_plan.proofs.row.Row.ending.Goals as goal

pub returns-in-Difference-clause-made : goal.returns-in-Difference-clause-made
returns-in-Difference-clause-made c plan k row =
    let self = c.args.self.now in
    let few : length self.others.items ≤ 0 = subst (λ (z : RowKind). length self.others.items ≤ spare z) c.in-Difference.is c.requires.few in
    made-less plan c.in-Difference.from self.others.items self.last k few (subst (λ (z : RowKind). RowMakesSet plan z (row_parts self) k) c.in-Difference.is row)

pub returns-in-Some : goal.returns-in-Some
returns-in-Some c =
    let self = c.args.self.now in
    let others = self.others.items in
    let p = c.in-Some.part.now in
    let q = self.last in
    let free : spare self.kind ≡ 1 = elim c.in-Union.is [ inl e ↦ ap spare e | inr e ↦ ap spare e ] in
    let few : length others ≤ 1 = subst (λ z. length others ≤ z) free c.requires.few in
    let at : Some p ≡ slice_get others (length others - 1) = subst (λ (z : List ℕ). Some p ≡ slice_get z (length z - 1)) c.deref.ensures.value c.in-Some.ensures.value in
    let both : row_parts self ≡ p ∷ q ∷ [] = ap (λ (z : List ℕ). z ++ q ∷ []) (last-one others p few at) in
    record {
      made = λ plan k row.
          let now = subst (λ (z : List ℕ). RowMakesSet plan self.kind z k) both row in
          let names = c.join.ensures.within (length plan.nodes) (now.ready.each 0 p refl).within (now.ready.each 1 q refl).within in
          made-joined plan self.kind p q k c.join.result free names (c.join.ensures.set (sets_after [] plan.nodes)) now;
      operands = λ plan k ready is.
          let each = subst (Each plan) both ready.each in
          elim (c.join.ensures.operands k is) [
            | inl e ↦ subst (IsMade plan.steps.items) (sym e) (each 0 p refl).made
            | inr e ↦ subst (IsMade plan.steps.items) (sym e) (each 1 q refl).made
          ];
    }

pub returns-in-None : goal.returns-in-None
returns-in-None c =
    let self = c.args.self.now in
    let others = self.others.items in
    let q = self.last in
    let free : spare self.kind ≡ 1 = elim c.in-Union.is [ inl e ↦ ap spare e | inr e ↦ ap spare e ] in
    let few : length others ≤ 1 = subst (λ z. length others ≤ z) free c.requires.few in
    let at : None ≡ slice_get others (length others - 1) = subst (λ (z : List ℕ). None ≡ slice_get z (length z - 1)) c.deref.ensures.value c.in-None.ensures.value in
    let one : row_parts self ≡ q ∷ [] = ap (λ (z : List ℕ). z ++ q ∷ []) (last-none others few at) in
    record {
      made = λ plan k row. made-one plan self.kind q k free (subst (λ (z : List ℕ). RowMakesSet plan self.kind z k) one row);
      operands = λ plan k ready is.
          let each = subst (Each plan) one ready.each in
          elim is [
            | inl e ↦ subst (IsMade plan.steps.items) (sym e) (each 0 q refl).made
            | inr e ↦ subst (IsMade plan.steps.items) (sym e) (each 0 q refl).made
          ];
    }
