use Rattle.nef_edges.proofs.Prelude.{◌<◌, ◌≤◌, ℕ, List, length, arith, get_or, rules, IsEarlierSvertex}
use Rattle.nef_edges.proofs.Walked.{laid-joined, laid-whole}
use Rattle.nef_edges.proofs.guessed.join_loose.Goals as goal
use Rattle.nef_space.proofs.Lists.{is-at_get}

pub loop-j-init : goal.loop-j-init
loop-j-init c = record { laid = c.requires.laid }

pub loop-j-preserved : goal.loop-j-preserved
loop-j-preserved c =
    let vs = c.args.vertices.now in let ns : List ℕ = c.args.numbers.now in let j = c.loop-j.j in let n : ℕ = get_or ns j 0 in
    let within : j < length ns = (let t = c.loop-j-test.true in let u = c.loop-j.auto.j-end in omega arith) in
    record { laid = laid-joined vs (IsEarlierSvertex (length vs) 0) c.loop-j.edges.items c.join.new.edges.items ns j n c.loop-j.invariant.laid (is-at_get ns j 0 within) (c.join.ensures.joined (search (rules, c.if-not-join.false))) }

pub returns : goal.returns
returns c =
    let vs = c.args.vertices.now in let ns : List ℕ = c.args.numbers.now in
    let all : length ns ≤ c.loop-j.j = (let t = c.loop-j-test.false in let u = c.loop-j.auto.j-end in omega arith) in
    record { joined = λ t. laid-whole vs (IsEarlierSvertex (length vs) 0) c.loop-j.edges.items ns c.loop-j.j all c.loop-j.invariant.laid }
