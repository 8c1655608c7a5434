use Rattle.nef_words.proofs.Prelude.{◌≡◌, ◌∙◌, refl, sym, Result, Err, Options}
use Rattle.nef_words.specs.declared.words.WordsFault.{WordsFault}
use Rattle.nef_words.specs.declared.words.WordsFault.TheVariants.{Refused, OutOfMemory}
use Rattle.nef_words.proofs.Law.{words-by_grammar}
use Rattle.nef_words.proofs.Parsed.{refuses, chosen_is}
use Rattle.nef_words.proofs.words.read_words.Goals as goal
use Rattle.nef_words.proofs.words.read_words.Goals.{in-OutOfMemory, in_default}

differ : (r : Result Options WordsFault) (fault : WordsFault) → r ≡ Err fault → fault ≡ OutOfMemory → r ≡ Err Refused → ⊥
differ r fault e m refused = cc

pub returns-in-Err-clause-refused : goal.returns-in-Err-clause-refused
returns-in-Err-clause-refused c refused = elim c.match-kind.branch [
  | in-OutOfMemory w ↦ absurd (differ _ _ refl w.result-is refused)
  | in_default w ↦ sym (words-by_grammar _) ∙ refuses _ c.in-Err.error c.in-Err.ensures.err (λ k. w.in_default.not-OutOfMemory (c.kind.ensures ∙ k))
]

pub returns-in-Some-clause-accepted : goal.returns-in-Some-clause-accepted
returns-in-Some-clause-accepted c = sym (words-by_grammar _) ∙ chosen_is c.in-Ok.matches _ _ _ _ _ _ _ c.in-Ok.ensures.ok c.get_str-workers.ensures c.get_str-board.ensures c.get_str-stairs.ensures c.get_str-text.ensures c.get_str-ahead.ensures c.chosen.ensures.options ∙ c.in-Some.is

pub returns-clause-refused : goal.returns-clause-refused
returns-clause-refused c refused = sym (words-by_grammar _) ∙ chosen_is c.in-Ok.matches _ _ _ _ _ _ _ c.in-Ok.ensures.ok c.get_str-workers.ensures c.get_str-board.ensures c.get_str-stairs.ensures c.get_str-text.ensures c.get_str-ahead.ensures c.chosen.ensures.options ∙ c.in-None.is
