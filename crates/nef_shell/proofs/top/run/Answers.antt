use Rattle.nef_shell.proofs.Prelude.{◌≡◌, ◌∙◌, refl, ap, Err, Done, OutOfMemory}
use Rattle.nef_shell.proofs.Statuses.{accepted-says, refused-says, wanting-says, output-had, line-ends, run-ends}
use Rattle.nef_shell.proofs.top.run.Goals as goal

pub returns-in-Ok : goal.returns-in-Ok
returns-in-Ok g c =
    let ended = c.run_script.ensures.status _ c.in-Ok.ensures.accepted in
    record { says = accepted-says _ c.run_script.result _ _ c.in-Ok.ensures.accepted ended c.run_script.ensures.unread; ends = run-ends _ c.run_script.result _ (output-had _ _ _ ended) }

pub returns-in-Err-Refused : goal.returns-in-Err-Refused
returns-in-Err-Refused g c =
    let out = c.read_words.ensures.refused (c.in-Err-Refused.is ∙ ap Err c.in-Err-Refused.field-0-is) in
    record { says = refused-says _ c.refuse_words.result _ out c.refuse_words.ensures.status refl refl; ends = run-ends _ c.refuse_words.result _ (line-ends _ c.refuse_words.result _ c.refuse_words.ensures.status) }

pub returns-in-Err-OutOfMemory : goal.returns-in-Err-OutOfMemory
returns-in-Err-OutOfMemory g c = record { says = wanting-says _ _ refl; ends = run-ends _ OutOfMemory _ (λ e. absurd (let f : OutOfMemory ≡ Done = e in cc)) }
