use Rattle.example_bracket.proofs.Prelude.{sym, subst, Form, normal_of, IsDirection, IsInRange, IsPositiveMultiple, given_form, lowest-read, row_form}
use Rattle.example_bracket.proofs.Rows.{row-range, row-words, row-direction, row-lowest}
use Rattle.example_bracket.proofs.made.oriented.Goals as goal

pub of-requires : goal.of-requires
of-requires c =
    let r = c.args.row.now in let h = c.requires.row in let e = sym (row-words r h) in
    record { in_range = subst IsInRange e (row-range r h); some = subst (λ (f : Form). IsDirection (normal_of f)) e (row-direction r h) }

pub returns : goal.returns
returns c =
    let r = c.args.row.now in let h = c.requires.row in let o = given_form c.of.result in
    record { form = lowest-read (row_form r) o (subst (λ (f : Form). IsPositiveMultiple f o) (row-words r h) c.of.ensures.multiple) (row-lowest r h) }
