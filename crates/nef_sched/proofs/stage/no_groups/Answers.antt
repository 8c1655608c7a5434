use Rattle.nef_sched.proofs.Prelude.{◌≡◌, [], ℕ, Vec, Global, arith}
use Rattle.nef_sched.proofs.Outs.{pushed_fits}
use Rattle.nef_sched.proofs.stage.no_groups.Goals as goal

pub loop-preserved : goal.loop-preserved
loop-preserved c =
    let i = c.loop.invariant in
    let e = c.push_reserved.ensures in
    let len = i.len in
    record {
      len = omega (arith, e.len, len);
      room = rw e.capacity i.room;
      empty = rw e.items (pushed_fits (λ _ (v : Vec ℕ Global). v.items ≡ []) _ _ i.empty c.new.ensures.items);
    }
