use Rattle.nef_spair.proofs.Prelude.{refl, ◌∙◌, IfOk-weaker, RawStars, IsMadeOfSimple, IsMadeFrom}
use Rattle.nef_spair.proofs.Answered.{built-least, built-labels, built-op, built-only}
use Rattle.nef_spair.proofs.Built.{all-stars}
use Rattle.nef_spair.proofs.least.build.Goals as goal

pub simplified-requires : goal.simplified-requires
simplified-requires c = record { stars = c.requires.raw.stars }

pub map_of_simple-requires : goal.map_of_simple-requires
map_of_simple-requires c =
    let r = c.args.raw in let q : RawStars = record { mark = r.mark; stars = c.simplified.result; sloop = r.sloop; ground = r.ground } in
    record { stars = all-stars r q c.simplified.ensures.simple }

pub returns : goal.returns
returns c =
    let r = c.args.raw in let q : RawStars = record { mark = r.mark; stars = c.simplified.result; sloop = r.sloop; ground = r.ground } in
    let o = c.map_of_simple.result in
    let made = IfOk-weaker o (IsMadeOfSimple q) (IsMadeFrom r)
    (λ m made. record { simple = q; mark = refl; stars = c.simplified.ensures.simple; sloop = refl; ground = refl; of_simple = made })
    c.map_of_simple.ensures.made in
    record {
      least = IfOk-weaker o (IsMadeFrom r) _ (λ m w. built-least r m w c.requires.labels c.requires.raw) made;
      mark = IfOk-weaker o (IsMadeFrom r) _ (λ m w. let s = w.of_simple in let of_pieces = s.made in of_pieces.mark ∙ w.mark) made;
      labels = IfOk-weaker o (IsMadeFrom r) _ (λ m w. built-labels r m w) made;
      op = IfOk-weaker o (IsMadeFrom r) _ (λ m w. built-op r m w) made;
      only = IfOk-weaker o (IsMadeFrom r) _ (λ m w. built-only r m w c.requires.labels) made;
    }
