use Rattle.nef_edges.proofs.Prelude.{◌≡◌, ◌<◌, ℕ, List, length, arith, get_or, rules, sym, subst, true, IsTrue, Out, IsAt, Edge, ArriveApart, slot_of}
use Rattle.nef_edges.proofs.Walked.{apart-none, taken-none, apart-more, taken-more}
use Rattle.nef_edges.proofs.guessed.are_apart.Goals as goal
use Rattle.nef_space.proofs.Lists.{is-at_get}

pub loop-k-init : goal.loop-k-init
loop-k-init c = record { apart = apart-none c.args.edges.now; taken = taken-none c.args.starts.now c.args.marks.now.items c.args.edges.now }

pub loop-k-preserved : goal.loop-k-preserved
loop-k-preserved c =
    let starts = c.args.starts.now in let es : List Edge = c.args.edges.now in let k = c.loop-k.k in let e : Edge = get_or es k (record { low = 0; low_svertex = 0; high = 0; high_svertex = 0; mark = Out }) in
    let within : k < length es = (let t = c.loop-k-test.true in let u = c.loop-k.auto.k-end in omega arith) in
    let here = is-at_get es k (record { low = 0; low_svertex = 0; high = 0; high_svertex = 0; mark = Out }) within in
    let right : IsTrue c.take.result = search (rules, c.if-not-take.false) in
    let place : c.slot.result ≡ slot_of starts e.high e.high_svertex = c.slot.ensures.slot in
    let was = c.loop-k.marks.items in
    record {
      apart = apart-more starts es k e here was c.loop-k.invariant.taken (λ a. c.take.ensures.free right (subst (λ (n : ℕ). IsAt was n true) (sym place) a)) c.loop-k.invariant.apart;
      taken = taken-more starts es k e here was c.take.new.marks.items c.loop-k.invariant.taken c.take.ensures.kept (subst (λ (n : ℕ). IsAt c.take.new.marks.items n true) place (c.take.ensures.taken right));
    }

pub returns : goal.returns
returns c =
    let es : List Edge = c.args.edges.now in
    let e : c.loop-k.k ≡ length es = (let t = c.loop-k-test.false in let u = c.loop-k.auto.k-end in omega arith) in
    record { apart = λ t. subst (ArriveApart es) e c.loop-k.invariant.apart }
