use Rattle.nef_locate.proofs.Prelude.{◌≡◌, sym, ◌∙◌, inl, inr, ⊎_elim, IsTrue, ◌↔◌, nat_eq, rules, not_true, Minus, Zero, Plus}
use Rattle.nef_locate.proofs.facet.leaves_on.Goals as goal

plus-minus : Plus ≡ Minus → ⊥
plus-minus e = cc

zero-plus : Zero ≡ Plus → ⊥
zero-plus e = cc

zero-minus : Zero ≡ Minus → ⊥
zero-minus e = cc

pub returns-in-Plus : goal.returns-in-Plus
returns-in-Plus c =
    let a = c.args.arc.now in
    let test : IsTrue (nat_eq a.source c.args.svertex) ↔ (a.source ≡ c.args.svertex) = search rules in
    record {
      leaves = (
        λ h. (c.is_same.ensures.direction.0 c.if-is_same.true, inl (test.0 h, c.in-Plus.is)),
        λ p. ⊎_elim (λ x. test.1 x.0) (λ x. absurd (plus-minus (sym c.in-Plus.is ∙ x.1))) p.1,
      );
    }

pub returns-in-Minus : goal.returns-in-Minus
returns-in-Minus c =
    let a = c.args.arc.now in
    let test : IsTrue (nat_eq a.target c.args.svertex) ↔ (a.target ≡ c.args.svertex) = search rules in
    record {
      leaves = (
        λ h. (c.is_same.ensures.direction.0 c.if-is_same.true, inr (test.0 h, c.in-Minus.is)),
        λ p. ⊎_elim (λ x. absurd (plus-minus (sym x.1 ∙ c.in-Minus.is))) (λ x. test.1 x.0) p.1,
      );
    }

pub returns-in-Zero : goal.returns-in-Zero
returns-in-Zero c = record {
  leaves = (λ h. absurd (not_true h), λ p. absurd (⊎_elim (λ x. zero-plus (sym c.in-Zero.is ∙ x.1)) (λ x. zero-minus (sym c.in-Zero.is ∙ x.1)) p.1));
}

pub returns-else-is_same : goal.returns-else-is_same
returns-else-is_same c = record {
  leaves = (λ h. absurd (not_true (sym c.if-is_same.false ∙ h)), λ p. c.is_same.ensures.direction.1 p.0);
}
