use Rattle.nef_script.proofs.Prelude.{◌≡◌, length, Ok, refl, sym, subst, arith, command_test, IsRead, IsStatement}
use Rattle.nef_script.specs.declared.statement.Statement.TheVariants as statement
use Rattle.nef_script.specs.declared.script.Command.TheVariants as command
use Rattle.nef_script.specs.declared.arguments.Verb.TheVariants as verb
use Rattle.nef_script.proofs.Firsts.{IsRead-both, IsRead-made, IsRead-returned}
use Rattle.nef_script.proofs.CommandTests as tests
use Rattle.nef_script.proofs.Shapes.{word_at, nine_words}
use Rattle.nef_script.proofs.statement.joined.Goals as goal

pub returns-in_err-node : goal.returns-in_err-node
returns-in_err-node c =
    let names = c.args.names.now in
    let ws = c.args.args.now in
    let count : length ws ≡ 9 = omega (arith, c.in-len9.len_at_least, c.in-len9.len_below) in
    let read = subst (IsRead _ _) (sym c.both.ensures.both) (IsRead-both _ _ _ _ c.operand.result c.both-points.result (c.operand.ensures.read) (subst (IsRead _ _) (sym c.both-points.ensures.both) (IsRead-both _ _ _ _ c.point.result c.point-2.result (c.point.ensures.read names) (c.point-2.ensures.read names)))) in
    record {
      read = subst (λ l. IsRead (λ k. command_test k names verb.Joined l) (IsStatement names c.args.bound.now c.args.line verb.Joined l) c.from_residual.result) (sym (nine_words ws count))
          (IsRead-returned _ _ _ _ c.both.result read (λ k. tests.of-Joined k names (word_at ws 0) (word_at ws 1) (word_at ws 2) (word_at ws 3) (word_at ws 4) (word_at ws 5) (word_at ws 6) (word_at ws 7) (word_at ws 8)) _ c.from_residual.result c.in_err-node.was c.from_residual.ensures.1);
    }

pub returns : goal.returns
returns c =
    let names = c.args.names.now in
    let ws = c.args.args.now in
    let count : length ws ≡ 9 = omega (arith, c.in-len9.len_at_least, c.in-len9.len_below) in
    let read = subst (IsRead _ _) (sym c.both.ensures.both) (IsRead-both _ _ _ _ c.operand.result c.both-points.result (c.operand.ensures.read) (subst (IsRead _ _) (sym c.both-points.ensures.both) (IsRead-both _ _ _ _ c.point.result c.point-2.result (c.point.ensures.read names) (c.point-2.ensures.read names)))) in
    record {
      read = subst (λ l. IsRead (λ k. command_test k names verb.Joined l) (IsStatement names c.args.bound.now c.args.line verb.Joined l) (Ok (statement.Ask (command.Joined c.args.line c.in_ok-node.node c.in_ok-node.first c.in_ok-node.second)))) (sym (nine_words ws count))
          (IsRead-made _ _ _ _ c.both.result read (λ k. tests.of-Joined k names (word_at ws 0) (word_at ws 1) (word_at ws 2) (word_at ws 3) (word_at ws 4) (word_at ws 5) (word_at ws 6) (word_at ws 7) (word_at ws 8)) (c.in_ok-node.node, (c.in_ok-node.first, c.in_ok-node.second)) (statement.Ask (command.Joined c.args.line c.in_ok-node.node c.in_ok-node.first c.in_ok-node.second)) c.in_ok-node.was (λ h. (refl, (c.in_ok-node.node, c.in_ok-node.first, c.in_ok-node.second, h.0, h.1.0.0, h.1.1.0, refl), tt)));
    }
