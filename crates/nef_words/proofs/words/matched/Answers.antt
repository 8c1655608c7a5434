use Rattle.nef_words.proofs.Prelude.{◌≡◌, ap, ap₂, ◌∙◌, app_of, with_rule, app_of_fields, usage, without_name}
use Rattle.nef_words.proofs.Parsed.{usage_simple, usage_free, took}
use Rattle.nef_words.proofs.words.matched.Goals as goal

pub returns : goal.returns
returns c =
    let named = ap app_of_fields c.no_binary_name.ensures ∙ ap without_name c.new.ensures.app in
    let one = c.in_ok-arg.ensures.shape c.option_named.ensures.local ∙ ap₂ with_rule named c.option_named.ensures.rule in
    let two = c.in_ok-arg-2.ensures.shape c.option_named-2.ensures.local ∙ ap₂ with_rule one c.option_named-2.ensures.rule in
    let three = c.in_ok-arg-3.ensures.shape c.option_named-3.ensures.local ∙ ap₂ with_rule two c.option_named-3.ensures.rule in
    let four = c.in_ok-arg-4.ensures.shape c.option_named-4.ensures.local ∙ ap₂ with_rule three c.option_named-4.ensures.rule in
    let command_is : app_of c.in_ok-command.command ≡ usage = c.in_ok-command.ensures.shape c.option_named-5.ensures.local ∙ ap₂ with_rule four c.option_named-5.ensures.rule in
    let parse = c.try_get_matches_from in
    let both = took parse.result _ _ _ command_is parse.ensures.kinds parse.ensures.matches usage_simple usage_free in
    record { ok = both.0; err = both.1 }
