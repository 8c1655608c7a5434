use Rattle.nef_script.proofs.Prelude.{◌++◌, ◌∙◌, ap, on_ok_weaker}
use Rattle.nef_script.proofs.Writing.{join-filled}
use Rattle.nef_script.proofs.steps.add_join.Goals as goal

pub returns : goal.returns
returns c =
    let o = c.args.text.now.items in
    record {
      added = on_ok_weaker c.add_filled.result (λ e. e ∙ ap (λ l. o ++ l) (join-filled c.args.i c.if-i-eq0.false _ _ _ c.box_name.ensures.name c.whole_name.ensures.name c.whole_name-2.ensures.name)) c.add_filled.ensures.added;
    }
