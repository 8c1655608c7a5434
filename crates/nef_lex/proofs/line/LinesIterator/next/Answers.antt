use Rattle.nef_lex.proofs.Prelude.{◌<◌, ◌≡◌, ◌∷◌, ◌+◌, ◌∙◌, ap, length, arith, sym, common_steps, numbered_lines}
use Rattle.nef_lex.proofs.Pieces.{numbered_lines-first}
use Rattle.nef_lex.proofs.line.LinesIterator.next.Goals as goal

first : (c : goal.After-strip_return) → c.args.self.now ≡ (c.self.inside.given + 1, c.strip_return.result.now) ∷ numbered_lines (c.self.inside.given + 1 + 1) c.split_line.result.1.now
first c =
    let filled : 0 < length c.self.inside.rest.now = grind (arith, common_steps) in
    sym c.self.view_is ∙ numbered_lines-first (c.self.inside.given + 1) c.self.inside.rest.now c.split_line.result.0.now c.strip_return.result.now c.split_line.result.1.now filled c.split_line.ensures.piece c.strip_return.ensures.stripped c.split_line.ensures.rest

pub returns-clause-steps : goal.returns-clause-steps
returns-clause-steps c = first c

pub returns-clause-goes : goal.returns-clause-goes
returns-clause-goes c =
    let shorter = ap length (first c) in
    record { on = λ _. (tt, tt, omega (arith, shorter)); keeps = tt; rests = λ _. tt }
