use Rattle.nef_script.proofs.Prelude.{◌≡◌, ℕ, [], ◌∷◌, length, Ok, sym, subst, arith, IsRead, BindsNew, roles_test, LastTwoAre, NewName, Operand}
use Rattle.nef_script.specs.declared.statement.Statement.TheVariants as statement
use Rattle.nef_script.proofs.Firsts.{IsRead-both, IsRead-made, IsRead-returned, is-new}
use Rattle.nef_script.proofs.CommandTests as tests
use Rattle.nef_script.proofs.Shapes.{word_at, three_words}
use Rattle.nef_script.proofs.statement.binary.Goals as goal

pub returns-in_err-name : goal.returns-in_err-name
returns-in_err-name g c =
    let names = c.args.names.now in
    let bound = c.args.bound.now in
    let ws = c.args.args.now in
    let count : length ws ≡ 3 = omega (arith, c.in-len3.len_at_least, c.in-len3.len_below) in
    let read = subst (IsRead _ _) (sym c.both.ensures.both) (IsRead-both _ _ _ _ c.new_name.result c.both-operands.result c.new_name.ensures.read (subst (IsRead _ _) (sym c.both-operands.ensures.both) (IsRead-both _ _ _ _ c.operand.result c.operand-2.result c.operand.ensures.read c.operand-2.ensures.read))) in
    record {
      read = subst (λ l. IsRead (roles_test names (NewName ∷ Operand ∷ Operand ∷ []) l) (BindsNew names l (λ m. (i : ℕ) × (j : ℕ) × LastTwoAre names bound l i j × g.F.Fn.post c.args.node (i, (j, tt)) m)) c.from_residual.result) (sym (three_words ws count))
          (IsRead-returned _ _ _ _ c.both.result read (λ k. tests.of-binary k names (word_at ws 0) (word_at ws 1) (word_at ws 2)) _ c.from_residual.result c.in_err-name.was c.from_residual.ensures.1);
    }

pub returns : goal.returns
returns g c =
    let names = c.args.names.now in
    let bound = c.args.bound.now in
    let ws = c.args.args.now in
    let count : length ws ≡ 3 = omega (arith, c.in-len3.len_at_least, c.in-len3.len_below) in
    let read = subst (IsRead _ _) (sym c.both.ensures.both) (IsRead-both _ _ _ _ c.new_name.result c.both-operands.result c.new_name.ensures.read (subst (IsRead _ _) (sym c.both-operands.ensures.both) (IsRead-both _ _ _ _ c.operand.result c.operand-2.result c.operand.ensures.read c.operand-2.ensures.read))) in
    record {
      read = subst (λ l. IsRead (roles_test names (NewName ∷ Operand ∷ Operand ∷ []) l) (BindsNew names l (λ m. (i : ℕ) × (j : ℕ) × LastTwoAre names bound l i j × g.F.Fn.post c.args.node (i, (j, tt)) m)) (Ok (statement.Bind c.in_ok-name.name c.node-node.result))) (sym (three_words ws count))
          (IsRead-made _ _ _ _ c.both.result read (λ k. tests.of-binary k names (word_at ws 0) (word_at ws 1) (word_at ws 2)) (c.in_ok-name.name, (c.in_ok-name.i, c.in_ok-name.j)) (statement.Bind c.in_ok-name.name c.node-node.result) c.in_ok-name.was (λ h. (is-new names _ _ _ h.0.0 h.0.1 h.0.2, (c.in_ok-name.i, c.in_ok-name.j, (h.1.0, h.1.1), c.node-node.ensures))));
    }
