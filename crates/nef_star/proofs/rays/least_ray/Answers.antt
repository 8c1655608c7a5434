use Rattle.nef_star.proofs.Prelude.{ℕ, ◌+◌, ◌<◌, length, sym, subst, rules}
use Rattle.nef_star.proofs.RayOrder.{LeastOf, least-stays, least-changes}
use Rattle.nef_star.proofs.rays.least_ray.Goals as goal
use Rattle.nef_star.proofs.rays.least_ray.Goals.{then-is_below, else-is_below}

pub loop-k-preserved : goal.loop-k-preserved
loop-k-preserved c =
    let rays = c.args.rays.now in let k = c.loop-k.k in let l = c.loop-k.least in
    let x = c.index-rays-k.result in let y = c.index-rays-least.result in
    let kh : k < length rays = search rules in
    elim c.if-is_below.branch [
      | then-is_below w ↦ record {
        within = subst (λ (i : ℕ). i < length rays) (sym w.least-is) kh;
        least = subst (λ (i : ℕ). LeastOf rays i (k + 1)) (sym w.least-is) (least-changes rays l k x y c.loop-k.invariant.within kh c.index-rays-k.is c.index-rays-least.is c.loop-k.invariant.least (c.is_below.ensures.below.0 w.if-is_below.true));
      }
      | else-is_below w ↦ record {
        within = subst (λ (i : ℕ). i < length rays) (sym w.least-is) c.loop-k.invariant.within;
        least = subst (λ (i : ℕ). LeastOf rays i (k + 1)) (sym w.least-is) (least-stays rays l k x y c.loop-k.invariant.within kh c.index-rays-k.is c.index-rays-least.is c.loop-k.invariant.least (λ b. absurd (search (rules, c.is_below.ensures.below.1 b, w.if-is_below.false))));
      }
    ]
