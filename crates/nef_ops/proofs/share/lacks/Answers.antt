use Rattle.nef_ops.proofs.Prelude.{◌≡◌, List, Some, rules, refl, sym, subst, IsAt, SVertex}
use Rattle.nef_ops.proofs.Lacking.{map-lacks}
use Rattle.nef_ops.proofs.share.lacks.Goals as goal

pub returns : goal.returns
returns c =
    let own : c.args.map.now.mark ≡ c.args.label → ⊥ = search rules in
    let ground : c.args.map.now.ground ≡ Some c.args.label → ⊥ = search rules in
    record {
      lacks = λ h. map-lacks c.args.label c.args.map.now
          (λ k v a. c.if-not-svertices_lack.ensures.lacks refl k v (subst (λ (vs : List SVertex). IsAt vs k v) (sym c.as_slice.ensures.all) a))
          (c.items_lack.ensures.lacks h) own ground;
    }
