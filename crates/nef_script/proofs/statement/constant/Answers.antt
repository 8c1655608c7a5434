use Rattle.nef_script.proofs.Prelude.{◌≡◌, [], ◌∷◌, length, Ok, refl, sym, subst, arith, IsRead, BindsNew, roles_test, NewName}
use Rattle.nef_script.specs.declared.statement.Statement.TheVariants as statement
use Rattle.nef_script.proofs.Firsts.{IsRead-made, IsRead-returned, is-new}
use Rattle.nef_script.proofs.CommandTests as tests
use Rattle.nef_script.proofs.Shapes.{word_at, one_word}
use Rattle.nef_script.proofs.statement.constant.Goals as goal

pub returns-in_err-name : goal.returns-in_err-name
returns-in_err-name c =
    let names = c.args.names.now in
    let ws = c.args.args.now in
    let count : length ws ≡ 1 = omega (arith, c.in-len1.len_at_least, c.in-len1.len_below) in
    record {
      read = subst (λ l. IsRead (roles_test names (NewName ∷ []) l) (BindsNew names l (λ n. (length ws ≡ 1) × (n ≡ c.args.node))) c.from_residual.result) (sym (one_word ws count))
          (IsRead-returned _ _ _ _ c.new_name.result c.new_name.ensures.read (λ k. tests.of-alone k names (word_at ws 0)) _ c.from_residual.result c.in_err-name.was c.from_residual.ensures.1);
    }

pub returns : goal.returns
returns c =
    let names = c.args.names.now in
    let ws = c.args.args.now in
    let count : length ws ≡ 1 = omega (arith, c.in-len1.len_at_least, c.in-len1.len_below) in
    record {
      read = subst (λ l. IsRead (roles_test names (NewName ∷ []) l) (BindsNew names l (λ n. (length ws ≡ 1) × (n ≡ c.args.node))) (Ok (statement.Bind c.in_ok-name.name c.args.node))) (sym (one_word ws count))
          (IsRead-made _ _ _ _ c.new_name.result c.new_name.ensures.read (λ k. tests.of-alone k names (word_at ws 0)) c.in_ok-name.name (statement.Bind c.in_ok-name.name c.args.node) c.in_ok-name.was (λ h. (is-new names _ _ _ h.0 h.1 h.2, (count, refl))));
    }
