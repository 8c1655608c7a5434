use Rattle.nef_script.proofs.Prelude.{◌≡◌, ◌++◌, [], arith, script_of, step_lines, step_box, join_lines}
use Rattle.nef_script.proofs.StairLines.{stairs-accepted}
use Rattle.nef_script.proofs.Writing.{box-next, lines-next, stairs-written}
use Rattle.nef_script.proofs.steps.stairs.Goals as goal

pub loop-i-preserved : goal.loop-i-preserved
loop-i-preserved c =
    let i = c.loop-i.i in
    let old = c.loop-i.text.items in
    let new = c.add_join.new.text.items in
    let added : new ≡ old ++ script_of (step_lines i) = lines-next old c.add_box.new.text.items new (step_box i) (join_lines i) c.in_ok-add_box.ensures.added c.in_ok-add_join.ensures.added in
    box-next [] _ _ i c.loop-i.invariant added

pub returns-in_err-add_box-clause-accepted : goal.returns-in_err-add_box-clause-accepted
returns-in_err-add_box-clause-accepted c = stairs-accepted c.args.n c.requires.some c.requires.most

pub returns-in_err-add_join-clause-accepted : goal.returns-in_err-add_join-clause-accepted
returns-in_err-add_join-clause-accepted c = stairs-accepted c.args.n c.requires.some c.requires.most

pub returns-in_err-add_count-clause-accepted : goal.returns-in_err-add_count-clause-accepted
returns-in_err-add_count-clause-accepted c = stairs-accepted c.args.n c.requires.some c.requires.most

pub returns-clause-script : goal.returns-clause-script
returns-clause-script c =
    let all : c.loop-i.i ≡ c.args.n = omega (arith, c.loop-i.auto.i-end, c.loop-i-test.false) in
    stairs-written _ _ c.loop-i.i c.args.n all c.loop-i.invariant c.in_ok-add_count.ensures.added

pub returns-clause-accepted : goal.returns-clause-accepted
returns-clause-accepted c = stairs-accepted c.args.n c.requires.some c.requires.most
