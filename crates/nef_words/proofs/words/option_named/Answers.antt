use Rattle.nef_words.proofs.Prelude.{◌≡◌, ◌∙◌, ap, Some}
use Rattle.clap.specs.Words.{Rule, rule_of}
use Rattle.clap.specs.declared.builder.arg.Arg.{Arg}
use Rattle.nef_words.proofs.words.option_named.Goals as goal

-- what `long` and `action` set, in terms of the new option
made : (c : goal.After-action) → c.action.result ≡ record c.new.result { long = Some c.args.name; action = Some c.args.action }
made c = c.action.ensures ∙ ap (λ (a : Arg). record a { action = Some c.args.action }) c.long.ensures

pub returns-clause-rule : goal.returns-clause-rule
returns-clause-rule c = ap rule_of (made c) ∙ ap (λ (r : Rule). record r { long = Some c.args.name.now; action = Some c.args.action }) c.new.ensures.rule

pub returns-clause-local : goal.returns-clause-local
returns-clause-local c = ap (λ (a : Arg). a.global) (made c) ∙ c.new.ensures.optional.1
