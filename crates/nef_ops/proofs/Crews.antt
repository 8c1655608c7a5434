-- No more workers share work than there may be.
use Rattle.nef_ops.proofs.Prelude.{ℕ, ◌≤◌, Bool, true, false, ◌&&◌, arith}
use Rattle.std.specs.Prelude.{nat_le, if◌then◌else◌}
use Rattle.nef_core.specs.declared.work.BoardKind.TheVariants.{Lock, Free}
use Rattle.nef_core.specs.declared.work.Work.{Work}
use Rattle.nef_core.specs.declared.work.Work.TheVariants.{LightJobs, HeavyJobs, Listing, Parts, Round}
use Rattle.nef_core.specs.Work.{crew_of}

either : (b : Bool) (m n : ℕ) → m ≤ 64 → n ≤ 64 → (if b then m else n) ≤ 64
either true m n l r = l
either false m n l r = r

pub crew-few : (w : Work) (n : ℕ) → n ≤ 64 → crew_of w n ≤ 64
crew-few (LightJobs Lock jobs) n l = omega arith
crew-few (LightJobs Free jobs) n l = omega arith
crew-few (HeavyJobs jobs) n l = omega arith
crew-few (Round numbers load) n l = omega arith
crew-few (Listing carriers) n l = either (nat_le 4 n && nat_le 48 carriers) 4 1 (omega arith) (omega arith)
crew-few (Parts vertices) n l = either (nat_le 4 n && nat_le 128 vertices) 4 _ (omega arith) (either (nat_le 2 n && nat_le 128 vertices) 2 1 (omega arith) (omega arith))
