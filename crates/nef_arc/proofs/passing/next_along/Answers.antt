use Rattle.nef_arc.proofs.Prelude.{rules, sym, ◌∙◌, vector_of, IsOnBefore}
use Rattle.nef_arc.proofs.SignNumbers.{not_true}
use Rattle.nef_arc.proofs.Ways.{ranked_equal, ranked_less, ranked_greater}
use Rattle.nef_arc.proofs.passing.next_along.Goals as goal

pub returns-then-is_same-clause-less : goal.returns-then-is_same-clause-less
returns-then-is_same-clause-less c =
    let d = c.args.d.now in let e = c.args.e.now in
    (ranked_equal c.args.arc.now (vector_of d) (vector_of e) (c.is_same.ensures.direction.0 c.if-is_same.true)).less

pub returns-then-is_same-clause-equal : goal.returns-then-is_same-clause-equal
returns-then-is_same-clause-equal c =
    let d = c.args.d.now in let e = c.args.e.now in
    (ranked_equal c.args.arc.now (vector_of d) (vector_of e) (c.is_same.ensures.direction.0 c.if-is_same.true)).equal

pub returns-then-is_same-clause-greater : goal.returns-then-is_same-clause-greater
returns-then-is_same-clause-greater c =
    let d = c.args.d.now in let e = c.args.e.now in
    (ranked_equal c.args.arc.now (vector_of d) (vector_of e) (c.is_same.ensures.direction.0 c.if-is_same.true)).greater

pub returns-then-strictly_on-clause-equal : goal.returns-then-strictly_on-clause-equal
returns-then-strictly_on-clause-equal c =
    let a = c.args.arc.now in let d = vector_of c.args.d.now in let e = vector_of c.args.e.now in
    let first : IsOnBefore a e d = search rules in
    (ranked_less a d e c.requires.d_on c.requires.e_on first).equal

pub returns-then-strictly_on-clause-greater : goal.returns-then-strictly_on-clause-greater
returns-then-strictly_on-clause-greater c =
    let a = c.args.arc.now in let d = vector_of c.args.d.now in let e = vector_of c.args.e.now in
    let first : IsOnBefore a e d = search rules in
    (ranked_less a d e c.requires.d_on c.requires.e_on first).greater

pub returns-else-strictly_on-clause-equal : goal.returns-else-strictly_on-clause-equal
returns-else-strictly_on-clause-equal c =
    let a = c.args.arc.now in let d = vector_of c.args.d.now in let e = vector_of c.args.e.now in
    let not_first : IsOnBefore a e d → ⊥ = search rules in
    (ranked_greater a d e c.requires.d_on c.requires.e_on not_first (λ s. not_true (sym c.if-is_same.false ∙ c.is_same.ensures.direction.1 s))).equal

pub returns-else-strictly_on-clause-greater : goal.returns-else-strictly_on-clause-greater
returns-else-strictly_on-clause-greater c =
    let a = c.args.arc.now in let d = vector_of c.args.d.now in let e = vector_of c.args.e.now in
    let not_first : IsOnBefore a e d → ⊥ = search rules in
    (ranked_greater a d e c.requires.d_on c.requires.e_on not_first (λ s. not_true (sym c.if-is_same.false ∙ c.is_same.ensures.direction.1 s))).greater
