use Rattle.nef_star.proofs.Prelude.{rules, ◌<◌, length, arith, refl, sym, ◌∙◌, slice_get_read, slice_get_within, vector_of}
use Rattle.nef_star.proofs.Needed.{true_or_false}
use Rattle.nef_star.proofs.RoundStars.{none-next, first-goes, same-dirs}
use Rattle.nef_star.proofs.rounds.end_with.Goals as goal

pub loop-k-init : goal.loop-k-init
loop-k-init c i e s h a z = absurd (omega (arith, s, h))

pub loop-k-preserved : goal.loop-k-preserved
loop-k-preserved c =
    let a = slice_get_read c.args.ends.now (length c.args.ends.now) c.loop-k.k c.index-ends-k.result refl (search rules) c.index-ends-k.is in
    none-next c.args.ends.now c.loop-k.k (vector_of c.args.left.now) c.index-ends-k.result a
    (λ z. true_or_false (sym (c.is_same.ensures.same.1 (same-dirs c.left.result c.args.left.now (c.left.ensures.left ∙ z))) ∙ c.if-is_same.false))
    c.loop-k.invariant

pub bounds-ends-0 : goal.bounds-ends-0
bounds-ends-0 c = let s = c.requires.some in let l = slice_get_within c.args.ends.now s.0 s.1 s.2 in omega (arith, l)

pub returns-clause-listed : goal.returns-clause-listed
returns-clause-listed c =
    let ends = c.args.ends.now in let s = c.requires.some in let l = slice_get_within ends s.0 s.1 s.2 in
    let some : 0 < length ends = omega (arith, l) in
    (0, slice_get_read ends (length ends) 0 c.index-ends-0.result refl some c.index-ends-0.is)

pub returns-clause-left : goal.returns-clause-left
returns-clause-left c =
    let ends = c.args.ends.now in let s = c.requires.some in let l = slice_get_within ends s.0 s.1 s.2 in
    let some : 0 < length ends = omega (arith, l) in
    first-goes ends c.loop-k.k (vector_of c.args.left.now) c.index-ends-0.result (search rules) c.loop-k.invariant (slice_get_read ends (length ends) 0 c.index-ends-0.result refl some c.index-ends-0.is) s
