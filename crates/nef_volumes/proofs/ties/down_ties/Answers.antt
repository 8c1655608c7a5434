use Rattle.nef_volumes.proofs.Prelude.{◌+◌, List, arith, sym, ap, ◌∙◌, subst, Tie, complex_of, AreDownBetween}
use Rattle.nef_volumes.proofs.DownTies.{down-start, down-more, down-pass, down-fewer}
use Rattle.nef_volumes.proofs.ties.down_ties.Goals as goal
use Rattle.nef_volumes.proofs.ties.down_ties.Goals.{in-Some+in_ok-push, in_default}

pub loop-vertex-init : goal.loop-vertex-init
loop-vertex-init c = subst (λ (ts : List Tie). AreDownBetween (complex_of c.args.c.now) c.args.start c.args.start ts) (sym c.new-ties.ensures.items) (down-start (complex_of c.args.c.now) c.args.start)

pub loop-vertex-preserved : goal.loop-vertex-preserved
loop-vertex-preserved c =
    let C = complex_of c.args.c.now in
    let s = c.args.start in
    let i = c.loop-vertex.vertex in
    let now = c.loop-vertex.ties.items in
    elim c.match-down_tie.branch [
      | in-Some+in_ok-push w ↦ subst (λ (ts : List Tie). AreDownBetween C s (i + 1) ts) (sym (ap (λ v. v.items) w.ties-is ∙ w.in_ok-push.ensures.items)) (down-more C s i now w.in-Some.tie w.in-Some.ensures.tie c.loop-vertex.invariant)
      | in_default w ↦ subst (λ (ts : List Tie). AreDownBetween C s (i + 1) ts) (sym (ap (λ v. v.items) w.ties-is)) (down-pass C s i now w.in_default.ensures.tie c.loop-vertex.invariant)
    ]

pub returns : goal.returns
returns c = record { ties = down-fewer (complex_of c.args.c.now) c.args.start c.loop-vertex.vertex c.args.end c.loop-vertex.ties.items (let l = c.loop-vertex-test.false in omega (arith, l)) c.loop-vertex.invariant }
