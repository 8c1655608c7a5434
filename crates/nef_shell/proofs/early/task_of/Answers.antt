use Rattle.nef_shell.proofs.Prelude.{◌≡◌, ◌∙◌, ap, slice_index_or, sym, Some, slice_get-get_or, Step}
use Rattle.nef_shell.proofs.early.task_of.Goals as goal

pub returns : goal.returns
returns c = record {
  task = λ s at.
      let item = slice_index_or c.args.steps.now c.args.number c.index-steps-number.result in
      let both : Some item ≡ Some s = sym (slice_get-get_or c.args.steps.now c.args.number c.index-steps-number.result c.requires.within) ∙ at in
      let same : item ≡ s = cc in
      ap (λ (z : Step). z.task) same;
}
