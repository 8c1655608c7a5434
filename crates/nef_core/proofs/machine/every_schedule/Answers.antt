use Rattle.nef_core.proofs.Prelude.{◌≡◌, ◌+◌, ◌∷◌, ◌++◌, arith, ap, sym, ◌∙◌, State, start, after, replay, Claim}
use Rattle.nef_core.proofs.Schedules.{claimed, replay_append, legal_append, grows, done_stays, fresh, fresh_start, one_of_three, got_next, count_stays, claim_answers}
use Rattle.nef_core.proofs.machine.every_schedule.Goals as goal

pub returns-clause-slots : goal.returns-clause-slots
returns-clause-slots c jobs events h job low = one_of_three (replay (start jobs) events).slots job (let k = count_stays jobs events h in omega arith)

pub returns-clause-next : goal.returns-clause-next
returns-clause-next c jobs a b h =
    let l = legal_append (start jobs) a b h in
    rw (replay_append (start jobs) a b) (grows (replay (start jobs) a) b l.1)

pub returns-clause-claims : goal.returns-clause-claims
returns-clause-claims c jobs w a b h =
    let l = legal_append (start jobs) a (Claim w ∷ b) h in
    (claim_answers (replay (start jobs) a) w l.1.0, let k = count_stays jobs a l.0 in let f = l.1.0 in omega arith)

pub returns-clause-once : goal.returns-clause-once
returns-clause-once c jobs v w first second a b rest h one two =
    let s = replay (start jobs) a in
    let l = legal_append (start jobs) a (Claim v ∷ (b ++ Claim w ∷ rest)) h in
    let m = legal_append (after s (Claim v)) b (Claim w ∷ rest) l.1.1 in
    let g = grows (after s (Claim v)) b m.0 in
    let k : s.next + 1 ≡ (after s (Claim v)).next = ap (λ (t : State). t.next) (sym (claimed s v l.1.0)) in
    let at : second ≡ (replay (after s (Claim v)) b).next = got_next _ w second two ∙ ap (λ (t : State). t.next) (replay_append (start jobs) a (Claim v ∷ b)) in
    let start_at = got_next s v first one in
    omega arith

pub returns-clause-done : goal.returns-clause-done
returns-clause-done c jobs job w a b h d =
    let l = legal_append (start jobs) a b h in
    rw (replay_append (start jobs) a b) (done_stays (replay (start jobs) a) b job w l.1 (fresh (start jobs) a l.0 (fresh_start jobs)) d)
