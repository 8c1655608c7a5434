use Rattle.nef_lex.proofs.Prelude.{rules, ◌==◌, before_first, comment_mark, is_gap, is_filled}
use Rattle.std.proofs.lemmas.Iterator.Splits.{YieldsList-from_slice_split}
use Rattle.std.proofs.lemmas.Iterator.Consumers.{YieldsList-from_filter, map_from_collect}
use Rattle.nef_lex.proofs.word.words.Goals as goal
use borrow.Author.Tests.{tests}

pub returns : goal.returns
returns c = record { words = map_from_collect _ c.collect.ensures.ran (YieldsList-from_filter _ is_filled (YieldsList-from_slice_split _ is_gap (before_first (λ b. b == comment_mark) c.args.line.now) (search rules) (search rules) (search rules) (λ x r q k. search (rules, tests))) c.filter.ensures.closure (λ x r q k. search (rules, tests))) }
