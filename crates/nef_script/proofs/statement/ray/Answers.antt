use Rattle.nef_script.proofs.Prelude.{◌≡◌, length, Ok, refl, sym, subst, arith, command_test, IsRead, IsStatement}
use Rattle.nef_script.specs.declared.statement.Statement.TheVariants as statement
use Rattle.nef_script.specs.declared.script.Command.TheVariants as command
use Rattle.nef_script.specs.declared.arguments.Verb.TheVariants as verb
use Rattle.nef_script.proofs.Firsts.{IsRead-both, IsRead-made, IsRead-returned}
use Rattle.nef_script.proofs.CommandTests as tests
use Rattle.nef_script.proofs.Shapes.{word_at, eight_words}
use Rattle.nef_script.proofs.statement.ray.Goals as goal

pub returns-in_err-node : goal.returns-in_err-node
returns-in_err-node c =
    let names = c.args.names.now in
    let ws = c.args.args.now in
    let count : length ws ≡ 8 = omega (arith, c.in-len8.len_at_least, c.in-len8.len_below) in
    let read = subst (IsRead _ _) (sym c.both.ensures.both) (IsRead-both _ _ _ _ c.operand.result c.both-ray.result (c.operand.ensures.read) (subst (IsRead _ _) (sym c.both-ray.ensures.both) (IsRead-both _ _ _ _ c.point.result c.direction.result (c.point.ensures.read names) (c.direction.ensures.read names)))) in
    record {
      read = subst (λ l. IsRead (λ k. command_test k names verb.Ray l) (IsStatement names c.args.bound.now c.args.line verb.Ray l) c.from_residual.result) (sym (eight_words ws count))
          (IsRead-returned _ _ _ _ c.both.result read (λ k. tests.of-Ray k names (word_at ws 0) (word_at ws 1) (word_at ws 2) (word_at ws 3) (word_at ws 4) (word_at ws 5) (word_at ws 6) (word_at ws 7)) _ c.from_residual.result c.in_err-node.was c.from_residual.ensures.1);
    }

pub returns : goal.returns
returns c =
    let names = c.args.names.now in
    let ws = c.args.args.now in
    let count : length ws ≡ 8 = omega (arith, c.in-len8.len_at_least, c.in-len8.len_below) in
    let read = subst (IsRead _ _) (sym c.both.ensures.both) (IsRead-both _ _ _ _ c.operand.result c.both-ray.result (c.operand.ensures.read) (subst (IsRead _ _) (sym c.both-ray.ensures.both) (IsRead-both _ _ _ _ c.point.result c.direction.result (c.point.ensures.read names) (c.direction.ensures.read names)))) in
    record {
      read = subst (λ l. IsRead (λ k. command_test k names verb.Ray l) (IsStatement names c.args.bound.now c.args.line verb.Ray l) (Ok (statement.Ask (command.Ray c.args.line c.in_ok-node.node c.in_ok-node.point c.in_ok-node.dir)))) (sym (eight_words ws count))
          (IsRead-made _ _ _ _ c.both.result read (λ k. tests.of-Ray k names (word_at ws 0) (word_at ws 1) (word_at ws 2) (word_at ws 3) (word_at ws 4) (word_at ws 5) (word_at ws 6) (word_at ws 7)) (c.in_ok-node.node, (c.in_ok-node.point, c.in_ok-node.dir)) (statement.Ask (command.Ray c.args.line c.in_ok-node.node c.in_ok-node.point c.in_ok-node.dir)) c.in_ok-node.was (λ h. (refl, (c.in_ok-node.node, c.in_ok-node.point, c.in_ok-node.dir, h.0, h.1.0.0, h.1.1.0, refl), record { start = h.1.0.1; direction = h.1.1.1 })));
    }
