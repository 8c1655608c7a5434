use Rattle.nef_script.proofs.Prelude.{◌≡◌, length, get_or, Ok, refl, sym, subst, arith, command_test, IsRead, IsStatement}
use Rattle.nef_script.specs.declared.statement.Statement.TheVariants as statement
use Rattle.nef_script.specs.declared.arguments.Verb.TheVariants as verb
use Rattle.nef_script.proofs.Firsts.{IsRead-made, IsRead-returned}
use Rattle.nef_script.proofs.CommandTests as tests
use Rattle.nef_script.proofs.Shapes.{no_word, word_at, one_word}
use Rattle.nef_script.proofs.statement.print.Goals as goal

pub returns-in_err-node : goal.returns-in_err-node
returns-in_err-node c =
    let names = c.args.names.now in
    let ws = c.args.args.now in
    let count : length ws ≡ 1 = omega (arith, c.in-len1.len_at_least, c.in-len1.len_below) in
    let read = c.operand.ensures.read in
    record {
      read = λ line. subst (λ l. IsRead (λ k. command_test k names verb.Print l) (IsStatement names c.args.bound.now line verb.Print l) c.from_residual.result) (sym (one_word ws count))
          (IsRead-returned _ _ _ _ c.operand.result read (λ k. tests.of-Print k names (word_at ws 0)) _ c.from_residual.result c.in_err-node.was c.from_residual.ensures.1);
    }

pub returns : goal.returns
returns c =
    let names = c.args.names.now in
    let ws = c.args.args.now in
    let count : length ws ≡ 1 = omega (arith, c.in-len1.len_at_least, c.in-len1.len_below) in
    let read = c.operand.ensures.read in
    record {
      read = λ line. subst (λ l. IsRead (λ k. command_test k names verb.Print l) (IsStatement names c.args.bound.now line verb.Print l) (Ok (statement.Print c.in_ok-node.node (get_or ws 0 no_word)))) (sym (one_word ws count))
          (IsRead-made _ _ _ _ c.operand.result read (λ k. tests.of-Print k names (word_at ws 0)) c.in_ok-node.node (statement.Print c.in_ok-node.node (get_or ws 0 no_word)) c.in_ok-node.was (λ h. (refl, (c.in_ok-node.node, h, refl))));
    }
