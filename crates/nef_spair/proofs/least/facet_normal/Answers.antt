use Rattle.nef_spair.proofs.Prelude.{rules}
use Rattle.nef_spair.proofs.OneKind.{facet-then}
use Rattle.nef_spair.proofs.least.facet_normal.Goals as goal
use Rattle.nef_spair.proofs.least.facet_normal.Goals.{else-is_empty-via-then-is_empty+else-eq, else-is_empty-via-else-is_empty}

pub returns-else-is_empty : goal.returns-else-is_empty
returns-else-is_empty c =
    let was = c.in_ok-circle.was in
    elim c.else-is_empty.branch [
      | else-is_empty-via-then-is_empty+else-eq w ↦ record { facet = λ n f. let t = facet-then c.args.map.now n f in let e = t.2 in let m = t.3 in absurd (search rules) }
      | else-is_empty-via-else-is_empty w ↦ record { facet = λ n f. let t = facet-then c.args.map.now n f in let e = t.1 in absurd (search rules) }
    ]
