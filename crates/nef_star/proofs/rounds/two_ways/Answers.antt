use Rattle.nef_star.proofs.Prelude.{ℕ, ◌<◌, length, arith, refl, sym, subst, ◌∙◌, slice_get_read, svertex_limit, IsAt, IsAtMost, vector_of, Dir, ArcEnd, IsRay}
use Rattle.nef_star.proofs.TwoWays.{two-whole}
use Rattle.nef_star.proofs.rounds.two_ways.Goals as goal

pub returns-clause-whole : goal.returns-clause-whole
returns-clause-whole c =
    let ends = c.args.ends.now in let n = c.requires.two.two in
    let first : 0 < length ends = omega (arith, n) in
    let second : 1 < length ends = omega (arith, n) in
    let at_first = slice_get_read ends (length ends) 0 c.index-ends-0.result refl first c.index-ends-0.is in
    let at_second = slice_get_read ends (length ends) 1 c.index-ends-1.result refl second c.index-ends-1.is in
    let axis = sym {A = Dir} c.of.ensures.axis in
    two-whole ends c.of.result c.index-ends-0.result c.index-ends-1.result n at_first at_second (c.requires.two.apart _ _ at_first at_second)
    (subst (λ (d : Dir). IsAtMost svertex_limit (vector_of d)) axis c.requires.small)
    (subst (λ (d : Dir). (k : ℕ) (e : ArcEnd) → IsAt ends k e → IsRay (vector_of d) e.0) axis c.requires.rays)
    (c.of.ensures.rays ∙ c.in_ok-rays.ensures.items) (c.of.ensures.sectors ∙ c.in_ok-sectors.ensures.items)
