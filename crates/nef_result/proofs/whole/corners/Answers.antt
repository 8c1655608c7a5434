use Rattle.nef_result.proofs.Prelude.{Bool, true, false, List, [], ◌∷◌, ◌++◌, sym, subst, FrameCorner, ends, AreFrameCorners}
use Rattle.nef_result.proofs.whole.corners.Goals as goal

abbrev two : Bool → Bool → List FrameCorner → List FrameCorner
two x y ks = (ks ++ ends x y false ∷ []) ++ ends x y true ∷ []

pub returns : goal.returns
returns c =
    let start = subst (AreFrameCorners c.args.label []) (sym c.new-vertices.ensures.empty) tt in
    let first = c.in_ok-add_two.ensures.added [] start in
    let second = c.in_ok-add_two-2.ensures.added (two false false []) first in
    let third = c.in_ok-add_two-3.ensures.added (two false true (two false false [])) second in
    record { corners = c.in_ok-add_two-4.ensures.added (two true false (two false true (two false false []))) third }
