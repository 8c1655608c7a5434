use Rattle.nef_geo.proofs.Prelude.{w64, quot_is, quot_fits}
use Rattle.nef_geo.proofs.Divisors.{quot_exact}
use Rattle.nef_geo.proofs.gcd.part.Goals as goal

pub returns : goal.returns
returns c = record {
  whole = rw (quot_is w64 c.args.x c.args.divisor c.ranges.x c.ranges.divisor (quot_fits w64 c.args.x c.args.divisor c.ranges.x c.requires.positive))
      (quot_exact c.args.x c.args.divisor c.requires.positive c.requires.divides);
}
