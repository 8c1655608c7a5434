use Rattle.nef_facets.proofs.Prelude.{ℕ, List, length, sym, subst, IfOk, complex_of, Cycle, IsStep, AreOrbits, AreNumberedOrbits, AreCycleRows}
use Rattle.nef_facets.proofs.CyclesOf.{next-step, are-numbered, cycles-ok}
use Rattle.nef_facets.proofs.cycles.facet_cycles.Goals as goal

pub orbits-requires : goal.orbits-requires
orbits-requires c =
    let S = c.requires.shows in
    record {
      step = subst (λ (ns : List ℕ). IsStep ns) (sym c.deref.ensures.value)
          (next-step S.0 (complex_of c.args.c.now) c.args.corners.now c.in_ok-next.next.items S.1.shows c.requires.corners c.in_ok-next.ensures.next);
    }

pub grouped-requires : goal.grouped-requires
grouped-requires c =
    let ks = c.args.corners.now in
    let ns : List ℕ = c.in_ok-next.next.items in
    let orbits : List (List ℕ) = c.in_ok-orbits.orbits in
    let B : AreOrbits ns orbits = subst (λ (xs : List ℕ). AreOrbits xs orbits) c.deref.ensures.value c.in_ok-orbits.ensures.orbits in
    record {
      numbered = subst (λ (xs : List (List ℕ)). AreNumberedOrbits c.args.rows.now ks xs c.args.count) (sym c.as_slice.ensures.all)
          (are-numbered (complex_of c.args.c.now) c.args.rows.now ks ns orbits c.args.count c.requires.numbers c.requires.corners c.in_ok-next.ensures.next B c.requires.count);
    }

pub returns-clause-cycles : goal.returns-clause-cycles
returns-clause-cycles c =
    let ks = c.args.corners.now in
    let rows : List (List ℕ) = c.args.rows.now in
    let ns : List ℕ = c.in_ok-next.next.items in
    let orbits : List (List ℕ) = c.in_ok-orbits.orbits in
    let r = c.grouped.result in
    let B : AreOrbits ns orbits = subst (λ (xs : List ℕ). AreOrbits xs orbits) c.deref.ensures.value c.in_ok-orbits.ensures.orbits in
    cycles-ok (complex_of c.args.c.now) rows c.requires.numbers ks c.requires.corners ns c.in_ok-next.ensures.next orbits B r
    (subst (λ (xs : List (List ℕ)). IfOk r (λ (ys : List (List Cycle)). AreCycleRows rows ks xs (length xs) ys)) c.as_slice.ensures.all c.grouped.ensures.grouped)
