use Rattle.nef_edges.proofs.Prelude.{◌≡◌, ℕ, length, arith, subst, IsEarlierSvertex, AreLaid}
use Rattle.nef_edges.proofs.guesses.lay_edges.Goals as goal

pub returns : goal.returns
returns c =
    let vs = c.args.vertices.now in
    let e : c.loop-i.i ≡ length vs = (let l = c.loop-i.auto.i-end in let m = c.loop-i-test.false in omega arith) in
    record { laid = subst (λ (n : ℕ). AreLaid vs (IsEarlierSvertex n 0) c.loop-i.edges.items c.loop-i.loose.numbers.items 0) e c.loop-i.invariant.laid }
