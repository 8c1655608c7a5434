use Rattle.nef_io.proofs.Prelude.{◌≡◌, ◌∙◌, ◌-◌, arith, take, drop, length, take-add}
use Rattle.std.proofs.lemmas.Grind.{common_steps}
use Rattle.nef_io.proofs.Told.{Grows-trans}
use Rattle.nef_io.proofs.traits.put_all.Goals as goal

pub loop-at-preserved : goal.loop-at-preserved
loop-at-preserved g c =
    let p = c.args.piece.now in
    let at = c.loop-at.at in
    let rest : take (length p - at) (drop at p) ≡ drop at p = grind (arith, common_steps) in
    record {
      count = omega (arith, c.in_ok-at.ensures.count);
      quiet = c.in_ok-at.ensures.quiet ∙ c.loop-at.invariant.quiet;
      bytes = rw (take-add at c.in_ok-at.field-0 p) (Grows-trans _ _ _ _ _ c.loop-at.invariant.bytes (rw rest at c.in_ok-at.ensures.bytes));
      within = omega (arith, c.in_ok-at.ensures.within);
    }
