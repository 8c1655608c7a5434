use Rattle.nef_script.proofs.Prelude.{◌≡◌, length, Ok, refl, sym, subst, arith, command_test, IsRead, IsStatement}
use Rattle.nef_script.specs.declared.statement.Statement.TheVariants as statement
use Rattle.nef_script.specs.declared.arguments.Verb.TheVariants as verb
use Rattle.nef_script.proofs.Firsts.{IsRead-both, IsRead-made, IsRead-returned, is-new}
use Rattle.nef_script.proofs.CommandTests as tests
use Rattle.nef_script.proofs.Shapes.{word_at, three_words}
use Rattle.nef_script.proofs.statement.turned.Goals as goal

pub returns-in_err-name : goal.returns-in_err-name
returns-in_err-name c =
    let names = c.args.names.now in
    let ws = c.args.args.now in
    let count : length ws ≡ 3 = omega (arith, c.in-len3.len_at_least, c.in-len3.len_below) in
    let read = subst (IsRead _ _) (sym c.both.ensures.both) (IsRead-both _ _ _ _ c.new_name.result c.both-turned.result (c.new_name.ensures.read) (subst (IsRead _ _) (sym c.both-turned.ensures.both) (IsRead-both _ _ _ _ c.operand.result c.turn_number.result (c.operand.ensures.read) (c.turn_number.ensures.read names)))) in
    record {
      read = λ line. subst (λ l. IsRead (λ k. command_test k names verb.Turn l) (IsStatement names c.args.bound.now line verb.Turn l) c.from_residual.result) (sym (three_words ws count))
          (IsRead-returned _ _ _ _ c.both.result read (λ k. tests.of-Turn k names (word_at ws 0) (word_at ws 1) (word_at ws 2)) _ c.from_residual.result c.in_err-name.was c.from_residual.ensures.1);
    }

pub returns : goal.returns
returns c =
    let names = c.args.names.now in
    let ws = c.args.args.now in
    let count : length ws ≡ 3 = omega (arith, c.in-len3.len_at_least, c.in-len3.len_below) in
    let read = subst (IsRead _ _) (sym c.both.ensures.both) (IsRead-both _ _ _ _ c.new_name.result c.both-turned.result (c.new_name.ensures.read) (subst (IsRead _ _) (sym c.both-turned.ensures.both) (IsRead-both _ _ _ _ c.operand.result c.turn_number.result (c.operand.ensures.read) (c.turn_number.ensures.read names)))) in
    record {
      read = λ line. subst (λ l. IsRead (λ k. command_test k names verb.Turn l) (IsStatement names c.args.bound.now line verb.Turn l) (Ok (statement.Turn c.in_ok-name.name c.in_ok-name.from c.in_ok-name.turn))) (sym (three_words ws count))
          (IsRead-made _ _ _ _ c.both.result read (λ k. tests.of-Turn k names (word_at ws 0) (word_at ws 1) (word_at ws 2)) (c.in_ok-name.name, (c.in_ok-name.from, c.in_ok-name.turn)) (statement.Turn c.in_ok-name.name c.in_ok-name.from c.in_ok-name.turn) c.in_ok-name.was (λ h. (refl, is-new names _ _ _ h.0.0 h.0.1 h.0.2, record { count = refl; named = h.1.0; number = h.1.1.0; below = h.1.1.1 })));
    }
