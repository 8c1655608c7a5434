-- What is no normal form is opposite to one.
use Rattle.nef_turn.proofs.Prelude.{sym, subst, ◌∙◌, false≢true, IsNormal}
use Rattle.nef_geo.proofs.Normals.{IsNormal-opposite}
use Rattle.nef_turn.proofs.turning.turned_normal.Goals as goal

pub returns-else-is_normal-clause-normal : goal.returns-else-is_normal-clause-normal
returns-else-is_normal-clause-normal c =
    let d = c.turned_dir-dir.result in
    subst IsNormal (sym c.back.ensures.back) (IsNormal-opposite d.x d.y d.z d.some (λ n. false≢true (sym c.if-is_normal.false ∙ c.is_normal.ensures.normal.1 n)))
