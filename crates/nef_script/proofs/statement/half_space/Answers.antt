use Rattle.nef_script.proofs.Prelude.{◌≡◌, length, Ok, refl, sym, ap, subst, arith, command_test, IsRead, IsStatement}
use Rattle.nef_script.specs.declared.statement.Statement.TheVariants as statement
use Rattle.nef_expr.specs.declared.nodes.Node.TheVariants as node
use Rattle.nef_script.specs.declared.arguments.Verb.TheVariants as verb
use Rattle.nef_script.proofs.Firsts.{IsRead-both, IsRead-made, IsRead-returned, is-new}
use Rattle.nef_script.proofs.CommandTests as tests
use Rattle.nef_script.proofs.Shapes.{word_at, six_words}
use Rattle.nef_script.proofs.statement.half_space.Goals as goal

pub returns-in_err-name : goal.returns-in_err-name
returns-in_err-name c =
    let names = c.args.names.now in
    let ws = c.args.args.now in
    let count : length ws ≡ 6 = omega (arith, c.in-len6.len_at_least, c.in-len6.len_below) in
    let read = subst (IsRead _ _) (sym c.both.ensures.both) (IsRead-both _ _ _ _ c.new_name.result c.both-numbers.result (c.new_name.ensures.read) (subst (IsRead _ _) (sym c.both-numbers.ensures.both) (IsRead-both _ _ _ _ c.plane.result c.is_closed.result (c.plane.ensures.read names) (c.is_closed.ensures.read names)))) in
    record {
      read = λ bound line. subst (λ l. IsRead (λ k. command_test k names verb.Half l) (IsStatement names bound line verb.Half l) c.from_residual.result) (sym (six_words ws count))
          (IsRead-returned _ _ _ _ c.both.result read (λ k. tests.of-Half k names (word_at ws 0) (word_at ws 1) (word_at ws 2) (word_at ws 3) (word_at ws 4) (word_at ws 5)) _ c.from_residual.result c.in_err-name.was c.from_residual.ensures.1);
    }

pub returns : goal.returns
returns c =
    let names = c.args.names.now in
    let ws = c.args.args.now in
    let count : length ws ≡ 6 = omega (arith, c.in-len6.len_at_least, c.in-len6.len_below) in
    let read = subst (IsRead _ _) (sym c.both.ensures.both) (IsRead-both _ _ _ _ c.new_name.result c.both-numbers.result (c.new_name.ensures.read) (subst (IsRead _ _) (sym c.both-numbers.ensures.both) (IsRead-both _ _ _ _ c.plane.result c.is_closed.result (c.plane.ensures.read names) (c.is_closed.ensures.read names)))) in
    record {
      read = λ bound line. subst (λ l. IsRead (λ k. command_test k names verb.Half l) (IsStatement names bound line verb.Half l) (Ok (statement.Bind c.in_ok-name.name (node.Half c.in_ok-name.oriented c.in_ok-name.closed)))) (sym (six_words ws count))
          (IsRead-made _ _ _ _ c.both.result read (λ k. tests.of-Half k names (word_at ws 0) (word_at ws 1) (word_at ws 2) (word_at ws 3) (word_at ws 4) (word_at ws 5)) (c.in_ok-name.name, (c.in_ok-name.oriented, c.in_ok-name.closed)) (statement.Bind c.in_ok-name.name (node.Half c.in_ok-name.oriented c.in_ok-name.closed)) c.in_ok-name.was (λ h. (refl, is-new names _ _ _ h.0.0 h.0.1 h.0.2, (c.in_ok-name.oriented, ap (node.Half c.in_ok-name.oriented) h.1.1, h.1.0))));
    }
