use Rattle.nef_spair.proofs.Prelude.{rules}
use Rattle.nef_spair.proofs.OneKind.{volume-then}
use Rattle.nef_spair.proofs.least.is_in_volume.Goals as goal
use Rattle.nef_spair.proofs.least.is_in_volume.Goals.{then-is_empty, else-is_empty}

pub returns-else-is_none : goal.returns-else-is_none
returns-else-is_none c =
    elim c.if-is_empty.branch [
      | then-is_empty w ↦ record { volume = (λ h. absurd (search rules), λ v. let t = volume-then c.args.map.now v in let n = t.1 in absurd (search rules)) }
      | else-is_empty w ↦ record { volume = (λ h. absurd (search rules), λ v. let t = volume-then c.args.map.now v in let n = t.0 in absurd (search rules)) }
    ]
