use Rattle.nef_star.proofs.Prelude.{refl, ◌∙◌, vector_of}
use Rattle.nef_star.proofs.RoundStars.{way-of_end, ended-next}
use Rattle.nef_star.proofs.rounds.end_ray.Goals as goal

pub end_with-after-requires : goal.end_with-after-requires
end_with-after-requires c =
    let t = c.requires.ended in
    record { some = way-of_end c.args.ends.now c.args.k t.0 c.args.star.now t.1 t.2 c.index.result.now c.requires.within c.index.ensures (vector_of c.left.result) c.left.ensures.left }

pub returns : goal.returns
returns c = record {
  ended = λ t W E.
      let end = c.end_with-after.result in
      let x = c.end_with-after.ensures.listed in
      ended-next c.args.ends.now c.args.k t c.args.star.now _ E c.requires.within c.index.result.now c.with_mark.result c.index.ensures c.with_mark.ensures.normal c.with_mark.ensures.ahead
      refl refl x.0 end x.1 (c.end_with-after.ensures.left ∙ c.left.ensures.left) c.with_mark.ensures.mark refl refl;
}
