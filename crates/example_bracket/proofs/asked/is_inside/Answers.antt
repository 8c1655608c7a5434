use Rattle.example_bracket.proofs.Prelude.{Decides-at, In, point_of, label-decides}
use Rattle.example_bracket.proofs.Answering.{label-inside}
use Rattle.example_bracket.proofs.asked.is_inside.Goals as goal
use Rattle.nef_space.proofs.Elementary.{frame-closed}

pub locate-place-requires : goal.locate-place-requires
locate-place-requires c = record { shows = c.requires.shows; framed = frame-closed (point_of c.args.p.now) c.requires.framed }

pub returns : goal.returns
returns c = record {
  inside = λ s S.
      let p = point_of c.args.p.now in
      let l = c.place_label.result in
      let D = Decides-at _ _ c.eq.ensures (label-decides l In) in
      let L = label-inside s p l c.requires.framed (c.place_label.ensures.set s p S c.locate-place.ensures.at) in
      (λ t. L.0 (D.0 t), λ h. D.1 (L.1 h));
}
