use Rattle.nef_plane.proofs.Prelude.{rules, IsPartitionPoint-from_clause}
use Rattle.std.specs.Prelude.{ℕ, ltb}
use Rattle.nef_plane.proofs.Below.{below-parted, below-point, beyond-point}
use Rattle.nef_plane.proofs.first.count_below.Goals as goal

pub returns : goal.returns
returns c =
    let ns = c.args.numbers.now in let n = c.args.limit in let p = c.partition_point.result in
    let point = IsPartitionPoint-from_clause (λ (k : ℕ). ltb k n) ns p c.partition_point.ensures.partitioned (below-parted ns n c.requires.ordered) (λ x r f' q. search rules) in
    record { within = c.partition_point.ensures.bound; below = below-point ns n p point; beyond = beyond-point ns n p point }
