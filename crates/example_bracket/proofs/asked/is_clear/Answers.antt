use Rattle.example_bracket.proofs.Prelude.{Decides-at, Out, point_of, vector_of, label-decides}
use Rattle.example_bracket.proofs.Answering.{end-clear}
use Rattle.example_bracket.proofs.asked.is_clear.Goals as goal

pub returns : goal.returns
returns c = record {
  clear = λ s S.
      let e = c.in_ok-end.end in
      let D = Decides-at _ _ c.eq.ensures (label-decides e.label Out) in
      let E = end-clear s (point_of c.args.p.now) (vector_of c.args.d.now) (point_of e.point) e.after e.label (c.in_ok-end.ensures.end s S) in
      (λ t. E.0 (D.0 t), λ h. D.1 (E.1 h));
}
