use Rattle.nef_edges.proofs.Prelude.{ℕ, ◌<◌, true, sym, subst, ◌∙◌, false≢true}
use Rattle.nef_edges.proofs.Places.{at-read}
use Rattle.nef_edges.proofs.Walked.{set-one, set-kept}
use Rattle.nef_edges.proofs.guessed.take.Goals as goal

pub returns-then-not-index-clause-free : goal.returns-then-not-index-clause-free
returns-then-not-index-clause-free c = λ t a.
    false≢true (sym c.if-not-index.true ∙ c.index.ensures ∙ at-read c.args.marks.now.items c.args.slot c.index.result.now true a)

pub returns-then-not-index-clause-taken : goal.returns-then-not-index-clause-taken
returns-then-not-index-clause-taken c = λ t. set-one c.args.marks.now.items c.args.slot (subst (λ (n : ℕ). c.args.slot < n) (c.len.ensures ∙ c.args.marks.now.ok.0) c.if-slot-len.true)

pub returns-then-not-index-clause-kept : goal.returns-then-not-index-clause-kept
returns-then-not-index-clause-kept c = λ k a. set-kept c.args.marks.now.items c.args.slot k a
