use Rattle.nef_words.proofs.Law.{words-by_grammar}
use Rattle.nef_words.proofs.laws.words_laws.Goals as goal

pub returns : goal.returns
returns c = record { grammar = words-by_grammar }
