use Rattle.nef_script.proofs.Prelude.{◌≡◌, ◌∙◌, ◌∷◌, Option, false, length, refl, sym, subst, arith, rules, nat_lt, list_any, pointed, line_limit, is_bad_byte, IsRead, Statement}
use Rattle.nef_script.proofs.ByCommand.{line-command}
use Rattle.nef_script.proofs.Firsts.{no-more, IsRead-returned}
use Rattle.nef_script.proofs.statement.read_statement.Goals as goal

pub returns-in_err-statement-in-Some-of-clause-refusal : goal.returns-in_err-statement-in-Some-of-clause-refusal
returns-in_err-statement-in-Some-of-clause-refusal c =
    let names = c.args.names.now in
    let text = c.args.text.now in
    let le = c.if-text-gt-LINE_LIMIT.false in
    let short : nat_lt line_limit (length text) ≡ false = no-more line_limit (length text) (omega (arith, le)) in
    let clean : list_any is_bad_byte text ≡ false = sym c.has_bad_byte.ensures.bad ∙ c.if-has_bad_byte.false in
    let cut : pointed c.args.words.now ≡ c.in-Some.word.now.now ∷ pointed c.in-Some.args.now = search rules in
    let words = sym c.requires.words ∙ cut in
    let verb = sym c.of.ensures.verb ∙ c.in-Some-of.is in
    let line = line-command names text _ _ _ short clean words verb in
    (IsRead-returned _ _ _ (λ (s : Option Statement). Unit {0}) c.command_statement.result c.command_statement.ensures.read (λ k. refl) _ c.from_residual.result c.in_err-statement-in-Some-of.was c.from_residual.ensures.1).refusal ∙ sym line

pub returns-in_ok-statement-in-Some-of-clause-refusal : goal.returns-in_ok-statement-in-Some-of-clause-refusal
returns-in_ok-statement-in-Some-of-clause-refusal c =
    let names = c.args.names.now in
    let text = c.args.text.now in
    let le = c.if-text-gt-LINE_LIMIT.false in
    let short : nat_lt line_limit (length text) ≡ false = no-more line_limit (length text) (omega (arith, le)) in
    let clean : list_any is_bad_byte text ≡ false = sym c.has_bad_byte.ensures.bad ∙ c.if-has_bad_byte.false in
    let cut : pointed c.args.words.now ≡ c.in-Some.word.now.now ∷ pointed c.in-Some.args.now = search rules in
    let words = sym c.requires.words ∙ cut in
    let verb = sym c.of.ensures.verb ∙ c.in-Some-of.is in
    let line = line-command names text _ _ _ short clean words verb in
    (subst (IsRead _ _) c.in_ok-statement-in-Some-of.was c.command_statement.ensures.read).refusal ∙ sym line

pub returns-in_ok-statement-in-Some-of-clause-says : goal.returns-in_ok-statement-in-Some-of-clause-says
returns-in_ok-statement-in-Some-of-clause-says c =
    let cut : pointed c.args.words.now ≡ c.in-Some.word.now.now ∷ pointed c.in-Some.args.now = search rules in
    (_, _, _, sym c.requires.words ∙ cut, sym c.of.ensures.verb ∙ c.in-Some-of.is, (subst (IsRead _ _) c.in_ok-statement-in-Some-of.was c.command_statement.ensures.read).value)
