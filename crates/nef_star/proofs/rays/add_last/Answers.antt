use Rattle.nef_star.proofs.Prelude.{◌≡◌, ℕ, ◌-◌, suc, length, get_or, arith, refl, subst}
use Rattle.nef_star.proofs.Cuts.{cut-last}
use Rattle.nef_star.proofs.rays.add_last.Goals as goal

pub returns : goal.returns
returns c =
    let t = c.args.star.now in let r = c.with_mark.ensures in let l = c.index-label.result.now in
    let n : length t.rays.items ≡ suc (length t.rays.items - 1) = omega (arith, c.requires.some) in
    let last : c.len.result - 1 ≡ length t.rays.items - 1 = omega (arith, c.len.ensures) in
    let label = subst (λ (k : ℕ). l ≡ get_or t.sectors.items k l) last c.index-label.ensures in
    record { cut = cut-last t _ c.requires.turned c.args.ray.now c.with_mark.result c.requires.ray r.normal r.ahead l r.mark refl refl c.in_ok-push.ensures.items (length t.rays.items - 1) n c.requires.past c.in_ok-push-2.ensures.items label }
