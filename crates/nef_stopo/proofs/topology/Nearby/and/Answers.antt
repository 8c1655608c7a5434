use Rattle.nef_stopo.proofs.Prelude.{Bool, ◌&&◌, ◌||◌, sym, ap, ◌∙◌}
use Rattle.nef_stopo.proofs.Labels.{both-as}
use Rattle.nef_stopo.proofs.topology.Nearby.and.Goals as goal
use Rattle.nef_stopo.proofs.topology.Nearby.and.Goals.{then-self, else-self}

pub returns-then-self-2 : goal.returns-then-self-2
returns-then-self-2 c =
    let m = c.args.self in let n = c.args.other in
    both-as m n c.if-self.result m.some
    (elim c.if-self.branch [
      | then-self w ↦ w.result-is ∙ sym (ap (λ (x : Bool). x && n.all) w.if-self.true)
      | else-self w ↦ w.result-is ∙ w.if-self.false ∙ sym (ap (λ (x : Bool). x && n.all) w.if-self.false)
    ])
    (c.if-self-2.true ∙ sym (ap (λ (x : Bool). x || n.some) c.if-self-2.true))

pub returns-else-self-2 : goal.returns-else-self-2
returns-else-self-2 c =
    let m = c.args.self in let n = c.args.other in
    both-as m n c.if-self.result n.some
    (elim c.if-self.branch [
      | then-self w ↦ w.result-is ∙ sym (ap (λ (x : Bool). x && n.all) w.if-self.true)
      | else-self w ↦ w.result-is ∙ w.if-self.false ∙ sym (ap (λ (x : Bool). x && n.all) w.if-self.false)
    ])
    (sym (ap (λ (x : Bool). x || n.some) c.if-self-2.false))
