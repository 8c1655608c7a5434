use Rattle.nef_star.proofs.Prelude.{◌≡◌, ℕ, length, arith, subst}
use Rattle.nef_star.proofs.Combined.{IsCombinedTo, combined-more, left-combined}
use Rattle.nef_star.proofs.combining.combine_rays.Goals as goal

pub loop-k-preserved : goal.loop-k-preserved
loop-k-preserved c = combined-more c.args.op c.args.other.now c.loop-k.k c.args.star.now c.loop-k.star c.combine_at.new.star c.loop-k.invariant c.combine_at.ensures.combined

pub returns : goal.returns
returns c =
    let t = c.args.star.now in let b = c.args.other.now in
    let end : c.loop-k.k ≡ length t.rays.items = omega (arith, c.loop-k.auto.k-end, c.loop-k-test.false, c.len-k-end.ensures) in
    record {
      combined = left-combined c.args.op b t c.loop-k.star c.requires.other c.requires.turned c.requires.one_axis c.requires.some c.requires.all
          (subst (λ (k : ℕ). IsCombinedTo c.args.op b k t c.loop-k.star) end c.loop-k.invariant);
    }
