use Rattle.nef_script.proofs.Prelude.{rules, sym, ◌∙◌, ap, bytes_eq, option_map}
use Rattle.std.proofs.lemmas.Iterator.{YieldsList-from_slice}
use Rattle.std.proofs.lemmas.Iterator.Search.{find_from_yields_List}
use Rattle.nef_script.proofs.arguments.verb_in.Goals as goal
use borrow.Author.Tests.{tests}

pub returns : goal.returns
returns c =
    let found = find_from_yields_List (λ p. bytes_eq c.args.word.now p.0.now) _ _ c.find.result c.find.ensures.ran (YieldsList-from_slice _ c.iter.ensures.rest) (λ x b q k. search (rules, tests)) in
    record { found = sym (ap (option_map (λ p. p.1)) (sym found ∙ ap (option_map (λ y. y.now)) c.in_ok-command.was)) }
