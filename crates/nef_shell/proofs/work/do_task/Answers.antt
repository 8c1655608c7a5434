use Rattle.nef_shell.proofs.Prelude.{◌≡◌, ◌∙◌, refl, sym, slice_index_or, slice_get-get_or, on_ok_weaker, value_set}
use Rattle.nef_shell.proofs.Asking.{done-still, ends-silent, first-held, one-asked, question-first, question-second, question-within, second-held}
use Rattle.nef_shell.proofs.Kept.{held-still}
use Rattle.nef_shell.proofs.Sets.{makes-unless}
use Rattle.nef_shell.proofs.work.do_task.Goals as goal

pub write_answer-requires-clause-within : goal.write_answer-requires-clause-within
write_answer-requires-clause-within g c κs within =
    let steps = c.args.steps.now in
    let item = slice_index_or steps c.args.now c.index-steps-now.result in
    let at = slice_get-get_or steps c.args.now c.index-steps-now.result c.requires.now in
    let asked = c.requires.asked in
    question-within c.args.means.now.options.text asked.0 steps c.args.values.now c.args.now item c.requires.stand.placed.right at c.requires.stand.ready c.requires.stand.placed.held c.in-Ask.command c.in-Ask.first c.in-Ask.second c.in-Ask.is asked.1

pub write_answer-requires-clause-first : goal.write_answer-requires-clause-first
write_answer-requires-clause-first g c κs within =
    let steps = c.args.steps.now in
    let item = slice_index_or steps c.args.now c.index-steps-now.result in
    let at = slice_get-get_or steps c.args.now c.index-steps-now.result c.requires.now in
    let asked = c.requires.asked in
    (value_set steps c.in-Ask.first, first-held c.args.means.now.options.text asked.0 steps c.args.values.now c.args.now item c.requires.stand.placed.right at c.requires.stand.ready c.requires.stand.placed.held c.in-Ask.command c.in-Ask.first c.in-Ask.second c.in-Ask.is)

pub write_answer-requires-clause-second : goal.write_answer-requires-clause-second
write_answer-requires-clause-second g c κs within =
    let steps = c.args.steps.now in
    let item = slice_index_or steps c.args.now c.index-steps-now.result in
    let at = slice_get-get_or steps c.args.now c.index-steps-now.result c.requires.now in
    let asked = c.requires.asked in
    second-held c.args.means.now.options.text asked.0 steps c.args.values.now c.args.now item c.requires.stand.placed.right at c.requires.stand.ready c.requires.stand.placed.held c.in-Ask.command c.in-Ask.first c.in-Ask.second c.in-Ask.is

pub returns-in-Ask-clause-ends : goal.returns-in-Ask-clause-ends
returns-in-Ask-clause-ends g c nodes step asked found =
    let steps = c.args.steps.now in
    let item = slice_index_or steps c.args.now c.index-steps-now.result in
    let at = slice_get-get_or steps c.args.now c.index-steps-now.result c.requires.now in
    let version = c.args.means.now.options.text in
    let values = c.args.values.now in
    let first = question-first version nodes steps values c.args.now item c.requires.stand.placed.right at c.requires.stand.ready c.requires.stand.placed.held c.in-Ask.command c.in-Ask.first c.in-Ask.second c.in-Ask.is asked in
    let second = question-second version nodes steps values c.args.now item c.requires.stand.placed.right at c.requires.stand.ready c.requires.stand.placed.held c.in-Ask.command c.in-Ask.first c.in-Ask.second c.in-Ask.is asked in
    rw (one-asked item step c.in-Ask.command c.in-Ask.first c.in-Ask.second (sym at ∙ found) c.in-Ask.is) (c.write_answer.ensures.ends nodes first second)

pub returns-in-Ask-clause-held : goal.returns-in-Ask-clause-held
returns-in-Ask-clause-held g c = on_ok_weaker c.write_answer.result (λ still. held-still c.args.means.now.options.text c.args.steps.now _ _ still c.requires.stand.placed.held) c.write_answer.ensures.still

pub returns-in-Ask-clause-done : goal.returns-in-Ask-clause-done
returns-in-Ask-clause-done g c =
    let steps = c.args.steps.now in
    let item = slice_index_or steps c.args.now c.index-steps-now.result in
    let at = slice_get-get_or steps c.args.now c.index-steps-now.result c.requires.now in
    on_ok_weaker c.write_answer.result (done-still c.args.means.now.options.text steps c.args.now item c.in-Ask.command c.in-Ask.first c.in-Ask.second _ _ at c.in-Ask.is) c.write_answer.ensures.still

pub returns-in_ok-make_value-in_default : goal.returns-in_ok-make_value-in_default
returns-in_ok-make_value-in_default g c =
    let steps = c.args.steps.now in
    let item = slice_index_or steps c.args.now c.index-steps-now.result in
    let at = slice_get-get_or steps c.args.now c.index-steps-now.result c.requires.now in
    record {
      ends = λ nodes step asked found. ends-silent _ nodes item step _ _ _ _ refl (sym at ∙ found) (makes-unless item.task c.in_default.not-Ask);
      held = c.in_ok-make_value-in_default.ensures.held;
      done = c.in_ok-make_value-in_default.ensures.made;
    }
