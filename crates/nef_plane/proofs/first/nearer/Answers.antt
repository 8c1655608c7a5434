use Rattle.nef_plane.proofs.Prelude.{inl, inr, rules, IsReachedEncounter, met_of}
use Rattle.nef_plane.proofs.Choosing.{some-at, take-first, take-second, keep-first, keep-second}
use Rattle.nef_plane.proofs.first.nearer.Goals as goal

pub returns-in-Less : goal.returns-in-Less
returns-in-Less g c =
    let m = met_of g.H.Stepped.reach in let x = c.in-Some-Some.x in let y = c.in-Some-Some.y in
    record {
      nearer = λ p d some A B. take-first m d c.args.one c.args.other x y (search rules) (search rules)
          (inr (c.in-Less.ensures.along p d some (some-at (λ x. IsReachedEncounter p d (m x)) c.args.one x (search rules) A) (some-at (λ x. IsReachedEncounter p d (m x)) c.args.other y (search rules) B)));
    }

pub returns-in-Equal : goal.returns-in-Equal
returns-in-Equal g c =
    let m = met_of g.H.Stepped.reach in let x = c.in-Some-Some.x in let y = c.in-Some-Some.y in
    record {
      nearer = λ p d some A B. take-first m d c.args.one c.args.other x y (search rules) (search rules)
          (inl (c.in-Equal.ensures.along p d some (some-at (λ x. IsReachedEncounter p d (m x)) c.args.one x (search rules) A) (some-at (λ x. IsReachedEncounter p d (m x)) c.args.other y (search rules) B)));
    }

pub returns-in-Greater : goal.returns-in-Greater
returns-in-Greater g c =
    let m = met_of g.H.Stepped.reach in let x = c.in-Some-Some.x in let y = c.in-Some-Some.y in
    record {
      nearer = λ p d some A B. take-second m d c.args.one c.args.other x y (search rules) (search rules)
          (inr (c.in-Greater.ensures.along p d some (some-at (λ x. IsReachedEncounter p d (m x)) c.args.one x (search rules) A) (some-at (λ x. IsReachedEncounter p d (m x)) c.args.other y (search rules) B)));
    }

pub returns-in-None-default : goal.returns-in-None-default
returns-in-None-default g c = record { nearer = λ p d some A B. keep-second (met_of g.H.Stepped.reach) d c.args.one c.args.other (search rules) }

pub returns-in_default-None : goal.returns-in_default-None
returns-in_default-None g c = record { nearer = λ p d some A B. keep-first (met_of g.H.Stepped.reach) d c.args.one c.args.other _ (search rules) (search rules) }
