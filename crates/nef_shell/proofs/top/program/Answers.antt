use Rattle.nef_shell.proofs.Prelude.{◌≡◌, ◌∙◌, refl, ap, map, [], ◌∷◌, string_bytes, Err, status_code, traffic}
use Rattle.std.specs.Process.{exit_status}
use Rattle.nef_shell.proofs.GivenWords.{HasSaid, words-given, no-text, still-no-text, refused-alone, empty-refused, ended-run, ended-refused, ended-wanting}
use Rattle.nef_shell.proofs.Statuses.{refused-says, line-had_memory}
use Rattle.nef_shell.proofs.top.program.Goals as goal
use Rattle.nef_shell.proofs.top.program.Goals.{in-Ok-line_words, in-Err-Refused, in-Err-OutOfMemory}

pub returns : goal.returns
returns g c =
    let code : exit_status c.from-2.result ≡ status_code c.match-line_words.status = c.from-2.ensures ∙ c.code-2.ensures.code in
    let both : HasSaid c.args.line (exit_status c.from-2.result) (traffic g.S.Source.rest g.S.Source.faults g.K.Sink.written g.K.Sink.faults c.args.source.now c.match-line_words.source c.args.sink.now c.match-line_words.sink) =
    elim c.match-line_words.branch [
      | in-Ok-line_words w ↦
          let given = words-given c.args.line c.in-Ok.line w.in-Ok-line_words.words.now c.in-Ok.ensures.words w.in-Ok-line_words.ensures.words in
          rw (w.source-is, w.sink-is) (ended-run _ _ _ given.0 _ w.run-status.result given.1 (ap (λ z. map string_bytes z) given.2) w.run-status.ensures.says w.run-status.ensures.ends (code ∙ ap status_code w.status-is))
      | in-Err-Refused w ↦
          let none = no-text c.args.line c.in-Ok.line c.in-Ok.ensures.words (c.line_words.ensures.refused.0 (w.in-Err-Refused.is ∙ ap Err w.in-Err-Refused.field-0-is)) in
          let said = w.refuse_words-status.ensures.status in
          let io = traffic g.S.Source.rest g.S.Source.faults g.K.Sink.written g.K.Sink.faults c.args.source.now c.args.source.now c.args.sink.now w.refuse_words-status.new.sink in
          let says = refused-says ([] ∷ []) w.refuse_words-status.result io empty-refused said refl refl in
          rw (w.source-is, w.sink-is) (ended-refused c.args.line (exit_status c.from-2.result) io none.0 ([] ∷ []) w.refuse_words-status.result none.1 none.2 empty-refused says (line-had_memory w.refuse_words-status.result io said) (code ∙ ap status_code w.status-is))
      | in-Err-OutOfMemory w ↦
          rw (w.source-is, w.sink-is) (ended-wanting c.args.line (exit_status c.from-2.result) (traffic g.S.Source.rest g.S.Source.faults g.K.Sink.written g.K.Sink.faults c.args.source.now c.args.source.now c.args.sink.now c.args.sink.now) (λ error is none. refused-alone _ (c.line_words.ensures.refused.1 (still-no-text c.args.line c.in-Ok.line c.in-Ok.ensures.words error is none)) (w.in-Err-OutOfMemory.is ∙ ap Err w.in-Err-OutOfMemory.field-0-is)) refl (code ∙ ap status_code w.status-is))
    ] in
    record { says = both.0; ends = both.1 }
