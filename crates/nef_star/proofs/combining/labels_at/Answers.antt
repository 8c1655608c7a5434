use Rattle.nef_star.proofs.Prelude.{sym, ◌∙◌, vector_of, left_at}
use Rattle.nef_star.proofs.Needed.{true_or_false}
use Rattle.nef_star.proofs.LastAt.{same-as, as-same}
use Rattle.nef_star.proofs.Cuts.{only-past}
use Rattle.nef_star.proofs.Joined.{gives-mark, gives-sector}
use Rattle.nef_star.proofs.combining.labels_at.Goals as goal

pub returns-then-is_same-clause-on : goal.returns-then-is_same-clause-on
returns-then-is_same-clause-on c =
    let t = c.args.star.now in let k = c.place_of-place.result in
    gives-mark t (vector_of c.args.left.now) k c.index-then-is_same.result.now c.place_of-place.ensures.within c.index-then-is_same.ensures
    (same-as (left_at t.rays.items k) c.left_of_ray.result c.args.left.now c.left_of_ray.ensures.left (c.is_same.ensures.same.0 c.if-is_same.true))

pub returns-clause-on : goal.returns-clause-on
returns-clause-on c =
    let t = c.args.star.now in let k = c.place_of-place.result in let v = vector_of c.args.left.now in
    gives-sector t c.requires.turned v k c.index-after.result.now c.place_of-place.ensures.within c.index-after.ensures
    (only-past t v k
    (λ s. true_or_false (sym (c.is_same.ensures.same.1 (as-same (left_at t.rays.items k) c.left_of_ray.result c.args.left.now c.left_of_ray.ensures.left s)) ∙ c.if-is_same.false))
    c.place_of-place.ensures.under)
