use Rattle.nef_edges.proofs.Prelude.{List, rules, Edge}
use Rattle.nef_edges.proofs.guessed.joined_edge.Goals as goal
use Rattle.nef_space.proofs.Lists.{is-at_read}

pub returns-clause-matched : goal.returns-clause-matched
returns-clause-matched c = c.are_matched.ensures.matched (search (rules, c.if-not-are_matched.false)) c.args.vertices.now c.in_ok-high.ensures.end c.in_ok-low.ensures.end

pub returns-clause-old : goal.returns-clause-old
returns-clause-old c =
    let es : List Edge = c.args.edges.now in let e : Edge = c.in_ok-edge.edge.now in let a = c.in_ok-edge.ensures.lookup.3 in let o = c.in_ok-low.ensures in
    (e, is-at_read es c.args.number e a.0 (a.1 e), o.vertex, o.svertex)
