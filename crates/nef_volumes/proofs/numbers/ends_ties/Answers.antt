use Rattle.nef_volumes.proofs.Prelude.{List, [], arith, sym, ap, ◌∙◌, subst, Tie, complex_of, Adds, AnyBelow, any-start, any-next, any-all, adds-one, adds-none, IsTieOfEnds}
use Rattle.nef_volumes.proofs.ReadVertex.{edge-within}
use Rattle.nef_volumes.proofs.ItemTies.{ends-one, ends-tied}
use Rattle.nef_volumes.proofs.numbers.ends_ties.Goals as goal
use Rattle.nef_volumes.proofs.numbers.ends_ties.Goals.{in-Some+in_ok-push, in_default}

pub loop-number-init : goal.loop-number-init
loop-number-init c =
    let C = complex_of c.args.c.now in
    subst (λ (ts : List Tie). Adds (AnyBelow (IsTieOfEnds C) 0) [] ts) (sym c.new-ties.ensures.items) (any-start (IsTieOfEnds C) [])

pub loop-number-preserved : goal.loop-number-preserved
loop-number-preserved c =
    let C = complex_of c.args.c.now in
    let k = c.loop-number.number in
    let now = c.loop-number.ties.items in
    any-next (IsTieOfEnds C) k [] now c.match-ends_tie.ties.items c.loop-number.invariant
    (elim c.match-ends_tie.branch [
      | in-Some+in_ok-push w ↦ subst (λ (ts : List Tie). Adds (IsTieOfEnds C k) now ts) (sym (ap (λ v. v.items) w.ties-is ∙ w.in_ok-push.ensures.items))
          (adds-one (IsTieOfEnds C k) now w.in-Some.tie w.in-Some.ensures.tie (λ y p. ends-one C k w.in-Some.tie y w.in-Some.ensures.tie p))
      | in_default w ↦ subst (λ (ts : List Tie). Adds (IsTieOfEnds C k) now ts) (sym (ap (λ v. v.items) w.ties-is)) (adds-none (IsTieOfEnds C k) now w.in_default.ensures.tie)
    ])

pub returns : goal.returns
returns c =
    let C = complex_of c.args.c.now in
    record {
      ties = ends-tied C c.loop-number.ties.items (any-all (IsTieOfEnds C) c.loop-number.number [] c.loop-number.ties.items
          (λ k t p. let l = edge-within c.args.c.now k p.0 p.1 in omega (arith, l, c.loop-number-test.false, c.len-number-end.ensures.len)) c.loop-number.invariant);
    }
