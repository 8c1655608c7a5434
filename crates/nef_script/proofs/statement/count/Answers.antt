use Rattle.nef_script.proofs.Prelude.{◌≡◌, length, Ok, refl, sym, subst, arith, command_test, IsRead, IsStatement}
use Rattle.nef_script.specs.declared.statement.Statement.TheVariants as statement
use Rattle.nef_script.specs.declared.script.Command.TheVariants as command
use Rattle.nef_script.specs.declared.arguments.Verb.TheVariants as verb
use Rattle.nef_script.proofs.Firsts.{IsRead-made, IsRead-returned}
use Rattle.nef_script.proofs.CommandTests as tests
use Rattle.nef_script.proofs.Shapes.{word_at, one_word}
use Rattle.nef_script.proofs.statement.count.Goals as goal

pub returns-in_err-node : goal.returns-in_err-node
returns-in_err-node c =
    let names = c.args.names.now in
    let ws = c.args.args.now in
    let count : length ws ≡ 1 = omega (arith, c.in-len1.len_at_least, c.in-len1.len_below) in
    let read = c.operand.ensures.read in
    record {
      read = subst (λ l. IsRead (λ k. command_test k names verb.Count l) (IsStatement names c.args.bound.now c.args.line verb.Count l) c.from_residual.result) (sym (one_word ws count))
          (IsRead-returned _ _ _ _ c.operand.result read (λ k. tests.of-Count k names (word_at ws 0)) _ c.from_residual.result c.in_err-node.was c.from_residual.ensures.1);
    }

pub returns : goal.returns
returns c =
    let names = c.args.names.now in
    let ws = c.args.args.now in
    let count : length ws ≡ 1 = omega (arith, c.in-len1.len_at_least, c.in-len1.len_below) in
    let read = c.operand.ensures.read in
    record {
      read = subst (λ l. IsRead (λ k. command_test k names verb.Count l) (IsStatement names c.args.bound.now c.args.line verb.Count l) (Ok (statement.Ask (command.Count c.args.line c.in_ok-node.node)))) (sym (one_word ws count))
          (IsRead-made _ _ _ _ c.operand.result read (λ k. tests.of-Count k names (word_at ws 0)) c.in_ok-node.node (statement.Ask (command.Count c.args.line c.in_ok-node.node)) c.in_ok-node.was (λ h. (refl, (c.in_ok-node.node, h, refl), tt)));
    }
