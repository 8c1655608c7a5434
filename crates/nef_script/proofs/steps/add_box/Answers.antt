use Rattle.nef_script.proofs.Prelude.{◌++◌, ◌+◌, ◌*◌, ◌∙◌, sym, ap, on_ok_weaker, filled, box_name}
use Rattle.std.specs.Fmt.{decimal}
use Rattle.nef_script.proofs.Writing.{box_template, box-filled}
use Rattle.nef_script.proofs.steps.add_box.Goals as goal

pub returns : goal.returns
returns c =
    let i = c.args.i in
    let o = c.args.text.now.items in
    let low = decimal (8 * i) in
    let high = decimal (8 * i + 12) in
    record {
      added = on_ok_weaker c.add_filled.result (λ e. e ∙ ap (λ l. o ++ filled l low high box_template) c.box_name.ensures.name ∙ ap (λ l. o ++ l) (sym (box-filled (box_name i) low high))) c.add_filled.ensures.added;
    }
