use Rattle.nef_script.proofs.Prelude.{◌≡◌, ℕ, [], ◌∷◌, length, Ok, sym, subst, arith, IsRead, BindsNew, roles_test, SecondIs, NewName, Operand}
use Rattle.nef_script.specs.declared.statement.Statement.TheVariants as statement
use Rattle.nef_script.proofs.Firsts.{IsRead-both, IsRead-made, IsRead-returned, is-new}
use Rattle.nef_script.proofs.CommandTests as tests
use Rattle.nef_script.proofs.Shapes.{word_at, two_words}
use Rattle.nef_script.proofs.statement.unary.Goals as goal

pub returns-in_err-name : goal.returns-in_err-name
returns-in_err-name g c =
    let names = c.args.names.now in
    let bound = c.args.bound.now in
    let ws = c.args.args.now in
    let count : length ws ≡ 2 = omega (arith, c.in-len2.len_at_least, c.in-len2.len_below) in
    let read = subst (IsRead _ _) (sym c.both.ensures.both) (IsRead-both _ _ _ _ c.new_name.result c.operand.result c.new_name.ensures.read c.operand.ensures.read) in
    record {
      read = subst (λ l. IsRead (roles_test names (NewName ∷ Operand ∷ []) l) (BindsNew names l (λ m. (i : ℕ) × SecondIs names bound l i × g.F.Fn.post c.args.node (i, tt) m)) c.from_residual.result) (sym (two_words ws count))
          (IsRead-returned _ _ _ _ c.both.result read (λ k. tests.of-unary k names (word_at ws 0) (word_at ws 1)) _ c.from_residual.result c.in_err-name.was c.from_residual.ensures.1);
    }

pub returns : goal.returns
returns g c =
    let names = c.args.names.now in
    let bound = c.args.bound.now in
    let ws = c.args.args.now in
    let count : length ws ≡ 2 = omega (arith, c.in-len2.len_at_least, c.in-len2.len_below) in
    let read = subst (IsRead _ _) (sym c.both.ensures.both) (IsRead-both _ _ _ _ c.new_name.result c.operand.result c.new_name.ensures.read c.operand.ensures.read) in
    record {
      read = subst (λ l. IsRead (roles_test names (NewName ∷ Operand ∷ []) l) (BindsNew names l (λ m. (i : ℕ) × SecondIs names bound l i × g.F.Fn.post c.args.node (i, tt) m)) (Ok (statement.Bind c.in_ok-name.name c.node-node.result))) (sym (two_words ws count))
          (IsRead-made _ _ _ _ c.both.result read (λ k. tests.of-unary k names (word_at ws 0) (word_at ws 1)) (c.in_ok-name.name, c.in_ok-name.i) (statement.Bind c.in_ok-name.name c.node-node.result) c.in_ok-name.was (λ h. (is-new names _ _ _ h.0.0 h.0.1 h.0.2, (c.in_ok-name.i, h.1, c.node-node.ensures))));
    }
