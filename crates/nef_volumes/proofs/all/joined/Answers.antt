use Rattle.nef_volumes.proofs.Prelude.{Decides-at, point_of}
use Rattle.nef_volumes.proofs.JoinedParts.{joined-parts, part-decides}
use Rattle.nef_volumes.proofs.all.joined.Goals as goal

pub returns : goal.returns
returns c = record {
  joined = λ s S.
      let a = c.part_at.result in
      let b = c.part_at-2.result in
      let J = joined-parts s c.args.c.now c.args.parts.now S c.requires.parts (point_of c.args.p.now) (point_of c.args.q.now) a b c.part_at.ensures.part c.part_at-2.ensures.part in
      let D = Decides-at _ _ c.eq.ensures (part-decides a b) in
      (λ h. J.0 (D.0 h), λ j. D.1 (J.1 j));
}
