use Rattle.nef_script.proofs.Prelude.{◌≡◌, ◌∙◌, ℕ, List, Some, None, sym, ap, subst, words_of, line_refusal, refused, LineSays}
use Rattle.std.specs.Prelude.{IfOk}
use Rattle.nef_script.proofs.Adding.{AddsLine-words}
use Rattle.nef_script.proofs.reader.Reader.read_line.Goals as goal

pub returns-clause-adds : goal.returns-clause-adds
returns-clause-adds c =
    let s = c.args.self.now in
    let text = c.args.line.text.now in
    let number = c.args.line.number in
    let passes : line_refusal s.names text ≡ None = sym c.read_statement.ensures.refusal ∙ ap refused c.in-Ok-Some.is in
    let said = subst (λ r. IfOk r (LineSays s.names c.deref-2.result.now number (words_of text))) c.in-Ok-Some.is c.read_statement.ensures.says in
    let says = subst (LineSays s.names c.deref-2.result.now number (words_of text)) c.in-Ok-Some.field-0-is said in
    let here = subst (λ (xs : List ℕ). LineSays s.names xs number (words_of text) (Some c.in-Ok-Some.statement)) c.deref-2.ensures.value says in
    AddsLine-words number text here.0 here.2 here.1 _ _ passes here.3 here.4 (c.in_ok-add-in-Ok-Some.ensures.adds here.2 here.1 here.5)
