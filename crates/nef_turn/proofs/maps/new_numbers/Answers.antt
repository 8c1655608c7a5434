-- Each old number gets its new one.
use Rattle.nef_turn.proofs.Prelude.{arith, ◌∙◌, length-set, is-at_read}
use Rattle.nef_turn.proofs.MovedSvertices.{numbers-none, numbers-step, numbers-end}
use Rattle.nef_turn.proofs.maps.new_numbers.Goals as goal

pub loop-new-init : goal.loop-new-init
loop-new-init c = let e = c.in_ok-numbers.ensures.len in let o = c.in_ok-numbers.numbers.ok in record { count = omega (arith, e, o); numbers = numbers-none c.args.svertices.now c.in_ok-numbers.numbers.items }

pub index_mut-requires : goal.index_mut-requires
index_mut-requires c =
    let us = c.args.svertices.now in
    let w = c.index-svertices-new.result in
    let l = c.requires.within c.loop-new.new w (is-at_read us c.loop-new.new w c.loop-new-test.true c.index-svertices-new.is) in
    let e = c.loop-new.invariant.count in
    let o = c.loop-new.numbers.ok in
    omega (arith, l, e, o)

pub loop-new-preserved : goal.loop-new-preserved
loop-new-preserved c =
    let us = c.args.svertices.now in
    let ns = c.loop-new.numbers.items in
    let w = c.index-svertices-new.result in
    record {
      count = length-set ns w.old c.loop-new.new ∙ c.loop-new.invariant.count;
      numbers = numbers-step us ns c.loop-new.new w c.loop-new.invariant.count c.requires.within c.requires.apart c.loop-new-test.true c.index-svertices-new.is c.loop-new.invariant.numbers;
    }

pub returns-clause-count : goal.returns-clause-count
returns-clause-count c = c.loop-new.invariant.count

pub returns-clause-numbers : goal.returns-clause-numbers
returns-clause-numbers c = numbers-end c.args.svertices.now c.loop-new.numbers.items c.loop-new.new c.loop-new-test.false c.loop-new.invariant.numbers
