use Rattle.nef_free.proofs.Prelude.{◌≡◌, refl, arith, slice_index, ◌∙◌, set_else, claim_answers, past_answers, past_is_same}
use Rattle.nef_free.proofs.Steps.{drawn_is_claim, drawn_past, stored_is_deposit, stored_is_giving_back, made_is_nothing, taken_is_nothing, held_is_away}
use Rattle.nef_free.proofs.board.steps_are_events.Goals as goal

pub returns-clause-draw : goal.returns-clause-draw
returns-clause-draw g c work jobs seats m s k v sh seat hand going small =
    let d = drawn_is_claim (g.J.Job.right work) jobs seats m s k v sh seat.0 seat.1 hand going _ refl small in
    let next = sh.next in
    (d.0, rw (claim_answers m k d.0) (let e : m.next ≡ slice_index s.words 0 = omega arith in rw e refl), d.3)

pub returns-clause-past : goal.returns-clause-past
returns-clause-past g c work jobs seats m s k v sh seat hand going past =
    let d = drawn_past (g.J.Job.right work) jobs seats m s k v sh seat.0 seat.1 hand going _ refl past in
    let next = sh.next in let slots = sh.slots in
    (omega arith, past_answers m k (omega arith), past_is_same m k (omega arith), d.1)

pub returns-clause-deposit : goal.returns-clause-deposit
returns-clause-deposit g c work jobs seats m s k v job out sh seat hand fits = stored_is_deposit (g.J.Job.right work) jobs seats m s k v job out sh seat.0 seat.1 hand fits

pub returns-clause-give_back : goal.returns-clause-give_back
returns-clause-give_back g c work jobs seats m s k v job sh seat hand = stored_is_giving_back (g.J.Job.right work) jobs seats m s k v job sh seat.0 seat.1 hand

pub returns-clause-split : goal.returns-clause-split
returns-clause-split g c work jobs seats m s k v sh seat left = made_is_nothing (g.J.Job.right work) jobs seats m s k v sh seat.0 seat.1 left

pub returns-clause-join : goal.returns-clause-join
returns-clause-join g c work jobs seats m s k v other w sh seat there apart free = taken_is_nothing (g.J.Job.right work) jobs seats m s k v other w sh seat.0 seat.1 apart (set_else s.views k other _ apart ∙ there.0) there.1 free

pub returns-clause-exchange : goal.returns-clause-exchange
returns-clause-exchange g c work jobs seats m s k v job sh seat hand = held_is_away (g.J.Job.right work) jobs seats m s k v job sh seat.0 seat.1 hand
