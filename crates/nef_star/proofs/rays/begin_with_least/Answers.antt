use Rattle.nef_star.proofs.Prelude.{◌<◌, subst, List, length, Ray}
use Rattle.nef_star.proofs.RayOrder.{LeastOf}
use Rattle.nef_star.proofs.Needed.{counted-least}
use Rattle.nef_star.proofs.rays.begin_with_least.Goals as goal

pub returns-clause-star : goal.returns-clause-star
returns-clause-star c =
    let t = c.args.star.now in let m = c.least_ray-least.result in let rays = c.as_slice.ensures.value in
    let h = subst (λ (l : List Ray). m < length l) rays c.least_ray-least.ensures.within in
    let least = subst (λ (l : List Ray). LeastOf l m (length l)) rays (λ i q r k p p'. c.least_ray-least.ensures.least i q r k p p') in
    record {
      turned = c.count_from.ensures.turned;
      least_first = counted-least t c.count_from.new.star c.requires.turned c.count_from.ensures.kept.axis c.count_from.ensures.kept.mark m h c.count_from.ensures.counted least;
    }
