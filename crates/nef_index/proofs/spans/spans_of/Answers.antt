use Rattle.nef_index.proofs.Prelude.{ℕ, ◌+◌, ◌∙◌, List, length, sym, subst, Span, AreNarrowerListed}
use Rattle.nef_index.proofs.Numbered.{AreValuesTo, values-none, values-more}
use Rattle.nef_index.proofs.spans.spans_of.Goals as goal

-- the span is as wide as those that the row lists
abbrev IsWideFor : List Span → List ℕ → Span → Type 0
IsWideFor alone row span = AreNarrowerListed alone row (length row) span

pub span_of-requires : goal.span_of-requires
span_of-requires c = record { within = c.requires.within c.loop-number.number c.row.result.now c.row.ensures.row }

pub loop-number-init : goal.loop-number-init
loop-number-init c =
    let P = IsWideFor c.args.alone.now in
    subst (AreValuesTo P c.args.rows.now 0) (sym (c.from_vec-spans.ensures.all ∙ c.in_ok-room.ensures.items)) (values-none P c.args.rows.now)

pub loop-number-preserved : goal.loop-number-preserved
loop-number-preserved c =
    let P = IsWideFor c.args.alone.now in let rows : List (List ℕ) = c.args.rows.now in let n = c.loop-number.number in
    subst (AreValuesTo P rows (n + 1)) (sym c.in_ok-push.ensures.ok) (values-more P rows n c.loop-number.spans c.row.result.now c.span_of.result c.row.ensures.row c.span_of.ensures.wide c.loop-number.invariant)
