use Rattle.nef_plan.proofs.Prelude.{refl, sym, ap, inl, ⊎_elim}
use Rattle.nef_plan.specs.Prelude.{joined, operand}
use Rattle.nef_plan.proofs.row.RowKind.join.Goals as goal

pub returns-in-Union : goal.returns-in-Union
returns-in-Union c = record {
  set = λ ss. ⊎_elim (λ e. ap (λ k. joined k (operand ss c.args.first) (operand ss c.args.second)) (sym e)) (λ x. ap (λ k. joined k (operand ss c.args.first) (operand ss c.args.second)) (sym x.1)) c.in-Union.is;
  within = λ n p q. (p, q);
  operands = λ k h. h;
  first = inl refl;
}

pub returns-in-Exclusive : goal.returns-in-Exclusive
returns-in-Exclusive c = record {
  set = λ ss. ap (λ k. joined k (operand ss c.args.first) (operand ss c.args.second)) (sym c.in-Exclusive.is);
  within = λ n p q. (p, q);
  operands = λ k h. h;
  first = inl refl;
}
