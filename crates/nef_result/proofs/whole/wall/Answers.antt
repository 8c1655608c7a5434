use Rattle.nef_result.proofs.Prelude.{◌≡◌, Bool, cond, ap, sym, ◌∙◌, Out, vector_of}
use Rattle.nef_result.proofs.CornerMaps.{wall-of}
use Rattle.nef_result.proofs.whole.wall.Goals.{then-high, else-high, then-high-2, else-high-2}
use Rattle.nef_result.proofs.whole.wall.Goals as goal

pub returns : goal.returns
returns c =
    let m = c.plane_map in
    let b = c.args.high in
    let l = c.args.label in
    let pos : c.if-high.pos ≡ cond b Out l = elim c.if-high.branch [
      | then-high w ↦ w.pos-is ∙ ap (λ (x : Bool). cond x Out l) (sym w.if-high.true)
      | else-high w ↦ w.pos-is ∙ ap (λ (x : Bool). cond x Out l) (sym w.if-high.false)
    ] in
    let neg : c.if-high-2.neg ≡ cond b l Out = elim c.if-high-2.branch [
      | then-high-2 w ↦ w.neg-is ∙ ap (λ (x : Bool). cond x l Out) (sym w.if-high-2.true)
      | else-high-2 w ↦ w.neg-is ∙ ap (λ (x : Bool). cond x l Out) (sym w.if-high-2.false)
    ] in
    record { wall = wall-of (vector_of c.args.axis) b l c.if-high.pos c.if-high-2.neg m.result pos neg m.ensures.map m.ensures.mark m.ensures.labels }
