use Rattle.example_bracket.proofs.Prelude.{subst, Form, Set, given_form, ShowsSet}
use Rattle.example_bracket.proofs.made.Maker.cut.Goals as goal
use Rattle.nef_space.proofs.Elementary.{if-ok}

pub combined-requires-clause-first : goal.combined-requires-clause-first
combined-requires-clause-first g c = λ _ _. c.requires.body

pub combined-requires-clause-second : goal.combined-requires-clause-second
combined-requires-clause-second g c = λ _ _. (Set.half (given_form c.oriented.result) c.args.closed, c.in_ok-side.ensures.shows)

pub returns : goal.returns
returns g c = record {
  shows =
      if-ok _ _ c.combined.result
      (λ x f s S.
      subst (λ (h : Form). ShowsSet (Set.both s (Set.half h c.args.closed)) x) c.oriented.ensures.form
      (f s (Set.half (given_form c.oriented.result) c.args.closed) S c.in_ok-side.ensures.shows))
      c.combined.ensures.shows;
}
