use Rattle.nef_arc.proofs.Prelude.{refl, sym, subst, ◌∙◌, inl, inr, vector_of, Sign, PastAndBefore, IsPastSource, IsBeforeTarget}
use Rattle.nef_arc.proofs.SignNumbers.{not_true}
use Rattle.nef_arc.proofs.passing.is_inside.Goals as goal

pub returns-then-is_end : goal.returns-then-is_end
returns-then-is_end c = record { inside = (λ h. absurd (not_true h), λ p. absurd (p.0 (c.is_end.ensures.end.0 c.if-is_end.true))) }

pub returns-then-is_same : goal.returns-then-is_same
returns-then-is_same c = record {
  inside = (
    λ h. (λ e. not_true (sym c.if-is_end.false ∙ c.is_end.ensures.end.1 e), inl (c.is_same.ensures.direction.0 c.if-is_same.true)),
    λ p. refl,
  );
}

pub returns : goal.returns
returns c =
    let a = c.args.arc.now in let d = vector_of c.args.d.now in
    let turn = c.triple-turn.ensures.triple in
    record {
      inside = (
        λ h. (
          λ e. not_true (sym c.if-is_end.false ∙ c.is_end.ensures.end.1 e),
          inr (subst (λ (s : Sign). PastAndBefore s (IsPastSource a d) (IsBeforeTarget a d)) turn (c.is_on_way.ensures.way.0 h)),
        ),
        λ p. elim p.1 [
          | inl s ↦ absurd (not_true (sym c.if-is_same.false ∙ c.is_same.ensures.direction.1 s))
          | inr w ↦ c.is_on_way.ensures.way.1 (subst (λ (s : Sign). PastAndBefore s (IsPastSource a d) (IsBeforeTarget a d)) (sym turn) w)
        ],
      );
    }
