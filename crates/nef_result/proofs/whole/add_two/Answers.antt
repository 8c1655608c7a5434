use Rattle.nef_result.proofs.Prelude.{◌++◌, ◌∷◌, [], true, false, sym, subst, ends, AreFrameCorners}
use Rattle.nef_result.proofs.InOrder.{corners-more}
use Rattle.nef_result.proofs.whole.add_two.Goals as goal

pub returns : goal.returns
returns c =
    let l = c.args.label in let k = ends c.args.x c.args.y false in let j = ends c.args.x c.args.y true in
    record {
      added = λ ks h.
          let first = subst (AreFrameCorners l (ks ++ k ∷ [])) (sym c.in_ok-push.ensures.ok) (corners-more l ks c.args.vertices.now k c.in_ok-corner.field-0 h c.in_ok-corner.ensures.corner) in
          subst (AreFrameCorners l ((ks ++ k ∷ []) ++ j ∷ [])) (sym c.in_ok-push-2.ensures.ok) (corners-more l (ks ++ k ∷ []) c.push.new.self j c.in_ok-corner-2.field-0 first c.in_ok-corner-2.ensures.corner);
    }
