use Rattle.nef_facets.proofs.Prelude.{List, sym, ap, ◌∙◌, subst, not_true, map_of, arc_of, map-is_at, read, edge_of, Tie, AreArcsAlong, IsTieFromArc, Adds}
use Rattle.nef_facets.proofs.Adding.{any-next, any-all}
use Rattle.nef_facets.proofs.EdgeTies.{image-below, arc-added, arc-none}
use Rattle.nef_facets.proofs.ties.add_arc_ties.Goals as goal
use Rattle.nef_facets.proofs.ties.add_arc_ties.Goals.{then-is_same+then-begin_and_end+in_ok-push, else-is_same, else-is_same-via-then-is_same+else-begin_and_end, else-is_same-via-else-is_same}

pub loop-number-preserved : goal.loop-number-preserved
loop-number-preserved c =
    let e = edge_of c.args.edge.now in
    let i = c.args.item in
    let a = arc_of c.args.low.now in
    let M = map_of c.args.high.now in
    let j = c.loop-number.number in
    let b = c.arc-item.result in
    let now = c.loop-number.ties.items in
    let listed = map-is_at arc_of c.args.high.now.arcs j b (read c.args.high.now.arcs c.as_slice-arc-items.result.now j b c.as_slice-arc-items.ensures.all c.loop-number-test.true c.arc-item.is) in
    record {
      added = any-next (IsTieFromArc e i a M) j c.args.ties.now.items now c.if-is_same.ties.items c.loop-number.invariant.added
          (elim c.if-is_same.branch [
            | then-is_same+then-begin_and_end+in_ok-push w ↦ subst (λ (ts : List Tie). Adds (IsTieFromArc e i a M j) now ts) (sym (ap (λ v. v.items) w.ties-is ∙ w.in_ok-push.ensures.items))
                (arc-added e i a M j (arc_of b) listed (c.is_same.ensures.direction.0 w.if-is_same.true, w.begin_and_end.ensures.ends.0 w.if-begin_and_end.true) now)
            | else-is_same w ↦
                let off : AreArcsAlong e a (arc_of b) → ⊥ = elim w.else-is_same.branch [
                  | else-is_same-via-then-is_same+else-begin_and_end s ↦ λ p. not_true (sym s.if-begin_and_end.false ∙ s.begin_and_end.ensures.ends.1 p.1)
                  | else-is_same-via-else-is_same s ↦ λ p. not_true (sym s.if-is_same.false ∙ c.is_same.ensures.direction.1 p.0)
                ] in
                subst (λ (ts : List Tie). Adds (IsTieFromArc e i a M j) now ts) (sym (ap (λ v. v.items) w.ties-is)) (arc-none e i a M j (arc_of b) listed off now)
          ]);
    }

pub returns : goal.returns
returns c =
    let j = c.loop-number.number in
    record {
      added = any-all (IsTieFromArc (edge_of c.args.edge.now) c.args.item (arc_of c.args.low.now) (map_of c.args.high.now)) j c.args.ties.now.items c.loop-number.ties.items
          (λ k t p. image-below arc_of c.args.high.now.arcs c.as_slice-arc-items.result.now c.as_slice-arc-items.ensures.all j c.loop-number-test.false k p.0 p.1) c.loop-number.invariant.added;
    }
