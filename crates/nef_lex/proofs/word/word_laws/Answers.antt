use Rattle.nef_lex.proofs.WordLaws.{words_of_spaced, spaced_words}
use Rattle.nef_lex.proofs.word.word_laws.Goals as goal

pub returns : goal.returns
returns c = record { words_of_spaced = words_of_spaced; spaced_words = spaced_words }
