use Rattle.nef_facets.proofs.Prelude.{◌≡◌, ℕ, ◌+◌, ◌<◌, List, length, arith, ap, sym, ◌∙◌, ⊎_elim, not_true, SameDirection, Vector, vector_of, Arc, IsAt, SArc, arc_of, map, read, next-none, all-none, map-is_at}
use Rattle.nef_smap.proofs.Prelude.{cases_lt}
use Rattle.nef_facets.proofs.cycles.arc_into.Goals.{else-arc-svertex-via-then-arc-svertex+else-is_same, else-arc-svertex-via-else-arc-svertex}
use Rattle.nef_facets.proofs.cycles.arc_into.Goals as goal

-- some arc is not yet passed over
arc-left : (xs ys : List SArc) → ys ≡ xs → (b : ℕ) (n : Vector) (number : ℕ) → (k : ℕ) × ((a : Arc) × IsAt (map arc_of xs) k a × (a.target ≡ b) × SameDirection n a.normal)
    → ((k : ℕ) → k < number → (a : Arc) → IsAt (map arc_of xs) k a → (a.target ≡ b) × SameDirection n a.normal → ⊥) → number < length ys
arc-left xs ys e b n number I none = ⊎_elim (λ l. l)
    (λ f. absurd (all-none arc_of xs (λ (a : Arc). (a.target ≡ b) × SameDirection n a.normal) number (let g = ap length e in omega (arith, f, g)) none I.0 I.1.0 I.1.1 (I.1.2, I.1.3))) (cases_lt number (length ys))

pub loop-arc-init : goal.loop-arc-init
loop-arc-init c = (arc-left c.args.map.now.arcs c.as_slice-arcs.result.now c.as_slice-arcs.ensures.all c.args.svertex (vector_of c.args.normal.now) 0 c.requires.some (λ k l. absurd (omega (arith, l))), λ k l. absurd (omega (arith, l)))

pub bounds-arcs-number : goal.bounds-arcs-number
bounds-arcs-number c = c.loop-arc.invariant.0

pub loop-arc-smaller : goal.loop-arc-smaller
loop-arc-smaller c = let l = c.loop-arc.invariant.0 in omega (arith, l)

pub returns-then-is_same : goal.returns-then-is_same
returns-then-is_same c =
    let as' = c.args.map.now.arcs in
    let n = c.loop-arc.number in
    let r = c.index-arcs-number.result in
    record { arc = (arc_of r, map-is_at arc_of as' n r (read as' c.as_slice-arcs.result.now n r c.as_slice-arcs.ensures.all c.loop-arc.invariant.0 c.index-arcs-number.is), c.if-arc-svertex.true, c.is_same.ensures.direction.0 c.if-is_same.true) }

pub loop-arc-preserved : goal.loop-arc-preserved
loop-arc-preserved c =
    let r = c.index-arcs-number.result in
    let a : Arc = arc_of r in
    let off : (a.target ≡ c.args.svertex) × SameDirection (vector_of c.args.normal.now) a.normal → ⊥ = elim c.else-arc-svertex.branch [
      | else-arc-svertex-via-then-arc-svertex+else-is_same w ↦ λ p. not_true (sym w.if-is_same.false ∙ w.is_same.ensures.direction.1 p.1)
      | else-arc-svertex-via-else-arc-svertex w ↦ λ p. w.if-arc-svertex.false p.0
    ] in
    let none = next-none arc_of c.args.map.now.arcs (λ (a : Arc). (a.target ≡ c.args.svertex) × SameDirection (vector_of c.args.normal.now) a.normal) c.loop-arc.number r
    (read c.args.map.now.arcs c.as_slice-arcs.result.now c.loop-arc.number r c.as_slice-arcs.ensures.all c.loop-arc.invariant.0 c.index-arcs-number.is) c.loop-arc.invariant.1 off in
    (arc-left c.args.map.now.arcs c.as_slice-arcs.result.now c.as_slice-arcs.ensures.all c.args.svertex (vector_of c.args.normal.now) (c.loop-arc.number + 1) c.requires.some none, none)
