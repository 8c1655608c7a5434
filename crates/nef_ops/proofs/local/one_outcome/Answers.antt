use Rattle.nef_ops.proofs.Prelude.{◌≡◌, sym, subst, ◌∙◌, ap, Bool, Option, IfSome, ℕ, IfOk-weaker, map_of, IsVertexPoint, complex_of, moved_if, IsOutcomeAt, movable}
use Rattle.nef_ops.proofs.Kept.{kept}
use Rattle.nef_ops.proofs.local.one_outcome.Goals as goal

pub returns-in-Some : goal.returns-in-Some
returns-in-Some c = record {
  outcome = λ us vs r s y e S a h.
      let b = c.args.input.now.complex.now in
      let own : movable c.args.input.now ≡ b.vertices = ap (λ (o : Bool). moved_if o b) c.if-input.true in
      let at = subst (λ (o : Option ℕ). IfSome o (λ (k : ℕ). IsVertexPoint (complex_of b) k y)) c.in-Some.is (c.found_vertex.ensures.vertex b y a) in
      subst (IsOutcomeAt us vs r y) (sym c.kept.ensures.kept) (kept b c.in-Some.number y r s S at us vs c.args.operand (e ∙ own) c.args.turned h);
}

pub returns : goal.returns
returns c = record {
  outcome = IfOk-weaker c.of.result _ _ (λ o told us vs r s y e S a h. told us vs r y (h (map_of c.turned_if.result) (c.turned_if.ensures.cone s y (c.in_ok-map.ensures.cone s y S a)))) c.of.ensures.outcome;
}
