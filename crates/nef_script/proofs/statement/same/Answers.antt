use Rattle.nef_script.proofs.Prelude.{◌≡◌, length, Ok, refl, sym, subst, arith, command_test, IsRead, IsStatement}
use Rattle.nef_script.specs.declared.statement.Statement.TheVariants as statement
use Rattle.nef_script.specs.declared.script.Command.TheVariants as command
use Rattle.nef_script.specs.declared.arguments.Verb.TheVariants as verb
use Rattle.nef_script.proofs.Firsts.{IsRead-both, IsRead-made, IsRead-returned}
use Rattle.nef_script.proofs.CommandTests as tests
use Rattle.nef_script.proofs.Shapes.{word_at, two_words}
use Rattle.nef_script.proofs.statement.same.Goals as goal

pub returns-in_err-left : goal.returns-in_err-left
returns-in_err-left c =
    let names = c.args.names.now in
    let ws = c.args.args.now in
    let count : length ws ≡ 2 = omega (arith, c.in-len2.len_at_least, c.in-len2.len_below) in
    let read = subst (IsRead _ _) (sym c.both.ensures.both) (IsRead-both _ _ _ _ c.operand.result c.operand-2.result (c.operand.ensures.read) (c.operand-2.ensures.read)) in
    record {
      read = subst (λ l. IsRead (λ k. command_test k names verb.Same l) (IsStatement names c.args.bound.now c.args.line verb.Same l) c.from_residual.result) (sym (two_words ws count))
          (IsRead-returned _ _ _ _ c.both.result read (λ k. tests.of-Same k names (word_at ws 0) (word_at ws 1)) _ c.from_residual.result c.in_err-left.was c.from_residual.ensures.1);
    }

pub returns : goal.returns
returns c =
    let names = c.args.names.now in
    let ws = c.args.args.now in
    let count : length ws ≡ 2 = omega (arith, c.in-len2.len_at_least, c.in-len2.len_below) in
    let read = subst (IsRead _ _) (sym c.both.ensures.both) (IsRead-both _ _ _ _ c.operand.result c.operand-2.result (c.operand.ensures.read) (c.operand-2.ensures.read)) in
    record {
      read = subst (λ l. IsRead (λ k. command_test k names verb.Same l) (IsStatement names c.args.bound.now c.args.line verb.Same l) (Ok (statement.Ask (command.Same c.args.line c.in_ok-left.left c.in_ok-left.right)))) (sym (two_words ws count))
          (IsRead-made _ _ _ _ c.both.result read (λ k. tests.of-Same k names (word_at ws 0) (word_at ws 1)) (c.in_ok-left.left, c.in_ok-left.right) (statement.Ask (command.Same c.args.line c.in_ok-left.left c.in_ok-left.right)) c.in_ok-left.was (λ h. (refl, (c.in_ok-left.left, c.in_ok-left.right, h.0, h.1, refl), tt)));
    }
