use Rattle.nef_star.proofs.Prelude.{sym, ◌∙◌, inl, inr, left_at}
use Rattle.nef_star.proofs.Needed.{true_or_false}
use Rattle.nef_star.proofs.LastAt.{same-as, as-same}
use Rattle.nef_star.proofs.rays.is_under.Goals as goal

pub returns-then-is_same : goal.returns-then-is_same
returns-then-is_same c =
    let v = left_at c.args.star.now.rays.items c.args.k in
    record { under = (λ h. inl (same-as v c.left_of_ray.result c.args.left.now c.left_of_ray.ensures.left (c.is_same.ensures.same.0 c.if-is_same.true)), λ u. c.if-is_same.true) }

pub returns-else-is_same : goal.returns-else-is_same
returns-else-is_same c =
    let v = left_at c.args.star.now.rays.items c.args.k in
    record {
      under = (
        λ h. inr (c.is_past.ensures.past.0 h),
        λ u. elim u [
          | inl s ↦ absurd (true_or_false (sym (c.is_same.ensures.same.1 (as-same v c.left_of_ray.result c.args.left.now c.left_of_ray.ensures.left s)) ∙ c.if-is_same.false))
          | inr p ↦ c.is_past.ensures.past.1 p
        ],
      );
    }
