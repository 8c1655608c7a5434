use Rattle.nef_script.proofs.Prelude.{◌≡◌, length, Ok, refl, sym, subst, arith, command_test, IsRead, IsStatement, Has, Ask}
use Rattle.nef_script.specs.declared.arguments.Verb.TheVariants as verb
use Rattle.nef_script.proofs.Firsts.{IsRead-both, IsRead-made, IsRead-returned}
use Rattle.nef_script.proofs.CommandTests.{of-Has}
use Rattle.nef_script.proofs.Shapes.{word_at, five_words}
use Rattle.nef_script.proofs.statement.has.Goals as goal

pub returns-in_err-node : goal.returns-in_err-node
returns-in_err-node c =
    let names = c.args.names.now in
    let ws = c.args.args.now in
    let count : length ws ≡ 5 = omega (arith, c.in-len5.len_at_least, c.in-len5.len_below) in
    let parts = IsRead-both _ _ _ _ c.operand.result c.point.result c.operand.ensures.read (c.point.ensures.read names) in
    let read = subst (IsRead _ _) (sym c.both.ensures.both) parts in
    record {
      read = subst (λ l. IsRead (λ k. command_test k names verb.Has l) (IsStatement names c.args.bound.now c.args.line verb.Has l) c.from_residual.result) (sym (five_words ws count))
          (IsRead-returned _ _ _ _ c.both.result read (λ k. of-Has k names (word_at ws 0) (word_at ws 1) (word_at ws 2) (word_at ws 3) (word_at ws 4)) _ c.from_residual.result c.in_err-node.was c.from_residual.ensures.1);
    }

pub returns : goal.returns
returns c =
    let names = c.args.names.now in
    let ws = c.args.args.now in
    let count : length ws ≡ 5 = omega (arith, c.in-len5.len_at_least, c.in-len5.len_below) in
    let parts = IsRead-both _ _ _ _ c.operand.result c.point.result c.operand.ensures.read (c.point.ensures.read names) in
    let read = subst (IsRead _ _) (sym c.both.ensures.both) parts in
    record {
      read = subst (λ l. IsRead (λ k. command_test k names verb.Has l) (IsStatement names c.args.bound.now c.args.line verb.Has l) (Ok (Ask (Has c.args.line c.in_ok-node.node c.in_ok-node.point)))) (sym (five_words ws count))
          (IsRead-made _ _ _ _ c.both.result read (λ k. of-Has k names (word_at ws 0) (word_at ws 1) (word_at ws 2) (word_at ws 3) (word_at ws 4)) (c.in_ok-node.node, c.in_ok-node.point) (Ask (Has c.args.line c.in_ok-node.node c.in_ok-node.point)) c.in_ok-node.was (λ h. (refl, (c.in_ok-node.node, c.in_ok-node.point, h.0, h.1.0, refl), tt)));
    }
