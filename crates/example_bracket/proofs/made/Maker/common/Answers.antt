use Rattle.example_bracket.proofs.Prelude.{sym, subst, take, Set, ShowsSet, common_set}
use Rattle.example_bracket.proofs.Rows.{rows-at, common-more, common-all}
use Rattle.example_bracket.proofs.made.Maker.common.Goals as goal

pub cut-requires-clause-body : goal.cut-requires-clause-body
cut-requires-clause-body g c = λ _ _. (common_set Set.full c.args.closed (take c.loop-row.row-index c.args.rows.now), c.loop-row.invariant)

pub cut-requires-clause-row : goal.cut-requires-clause-row
cut-requires-clause-row g c = λ _ _. rows-at c.args.rows.now c.loop-row.row-index _ c.requires.rows c.loop-row-test.true

pub loop-row-preserved : goal.loop-row-preserved
loop-row-preserved g c =
    let rows = c.args.rows.now in let k = c.loop-row.row-index in
    subst (λ (s : Set). ShowsSet s c.in_ok-body-2.body) (sym (common-more Set.full c.args.closed rows k _ c.loop-row-test.true))
    (c.in_ok-body-2.ensures.shows (common_set Set.full c.args.closed (take k rows)) c.loop-row.invariant)

pub returns : goal.returns
returns g c = record { shows = subst (λ (s : Set). ShowsSet s c.loop-row.body) (common-all Set.full c.args.closed c.args.rows.now c.loop-row.row-index c.loop-row-test.false) c.loop-row.invariant }
