use Rattle.example_bracket.proofs.Prelude.{point_of, bracket}
use Rattle.example_bracket.proofs.Inside.{bracket-inside}
use Rattle.example_bracket.proofs.asked.is_in_bracket.Goals as goal

pub is_inside-requires : goal.is_inside-requires
is_inside-requires g c = record { shows = (bracket, c.in_ok-bracket.ensures.shows); framed = c.requires.framed }

pub returns : goal.returns
returns g c = record {
  inside =
      let I = c.is_inside.ensures.inside bracket c.in_ok-bracket.ensures.shows in
      let B = bracket-inside (point_of c.args.p.now) in
      (λ t. B.0 (I.0 t), λ n. I.1 (B.1 n));
}
