use Rattle.nef_edges.proofs.Prelude.{◌≡◌, ℕ, length, arith, subst, IsEarlierSvertex, AreEdges}
use Rattle.nef_edges.proofs.Added.{edges-all}
use Rattle.nef_edges.proofs.pairing.edges_of.Goals as goal

pub returns : goal.returns
returns c =
    let vs = c.args.vertices.now in
    let l = c.loop-i.auto.i-end in let m = c.loop-i-test.false in
    let e : c.loop-i.i ≡ length vs = omega arith in
    record { edges = edges-all vs c.requires.joined c.loop-i.edges.items (subst (λ (n : ℕ). AreEdges vs (IsEarlierSvertex n 0) c.loop-i.edges.items) e c.loop-i.invariant.added) }
