use Rattle.nef_sched.proofs.Prelude.{ℕ, ◌<◌, ap, arith, refl, sym, ◌∙◌, All-push, times, HasNeeds}
use Rattle.nef_sched.proofs.Outs.{all_in, room_of}
use Rattle.nef_sched.proofs.ahead.work_all.Goals as goal
use Rattle.nef_sched.proofs.ahead.work_all.Goals.{else-loop-test, then-loop-test+then-is_err, then-loop-test+else-is_err+in_default, then-loop-test+else-is_err+in-Some+in-Err}

pub work-requires-clause-number : goal.work-requires-clause-number
work-requires-clause-number g c =
    let t = c.args.stage.now in
    let s = g.T.Stage in
    let knows = c.loop.invariant.knows ∙ c.requires.knows in
    (all_in (HasNeeds (s.size t) (s.fits t) (s.first t) (s.second t) c.args.done.now.list.items) _ _ (ap (times c.in-Some.number) (sym knows) ∙ c.in-Some.ensures.number.1) c.requires.ready.each).0

pub work-requires-clause-there : goal.work-requires-clause-there
work-requires-clause-there g c =
    let t = c.args.stage.now in
    let s = g.T.Stage in
    let knows = c.loop.invariant.knows ∙ c.requires.knows in
    (all_in (HasNeeds (s.size t) (s.fits t) (s.first t) (s.second t) c.args.done.now.list.items) _ _ (ap (times c.in-Some.number) (sym knows) ∙ c.in-Some.ensures.number.1) c.requires.ready.each).1

pub loop-preserved : goal.loop-preserved
loop-preserved g c =
    let t = c.args.stage.now in
    let s = g.T.Stage in
    let i = c.loop.invariant in
    let n = c.in-Some.number in
    let among = ap (times n) (sym (i.knows ∙ c.requires.knows)) ∙ c.in-Some.ensures.number.1 in
    let due = all_in (HasNeeds (s.size t) (s.fits t) (s.first t) (s.second t) c.args.done.now.list.items) _ _ among c.requires.ready.each in
    record {
      of = c.take.ensures.of;
      parts = c.take.ensures.same.0 ∙ i.parts;
      knows = c.take.ensures.same.1 ∙ i.knows;
      outs = rw (c.push_reserved.ensures.items, c.reserve.ensures.items) (All-push (λ (o : ℕ × _). (o.0 < s.size t) × s.fits t o.0 o.1) _ _ i.outs (due.0, c.in-Ok.ensures));
    }

pub loop-init : goal.loop-init
loop-init g c = record { of = c.requires.of; parts = refl; knows = refl; outs = rw c.new-outs.ensures.items (λ k d low. absurd (omega arith)) }

pub push_reserved-requires : goal.push_reserved-requires
push_reserved-requires g c = room_of c.reserve.result _ _ (sym c.is_err.ensures.value ∙ c.if-is_err.false) c.reserve.ensures.ok

pub returns : goal.returns
returns g c =
    let i = c.loop.invariant in
    elim c.loop-test.branch [
      | else-loop-test w ↦ rw (w.pass-is, w.outs-is) (record { of = i.of; parts = i.parts; outs = i.outs })
      | then-loop-test+then-is_err w ↦ rw (w.pass-is, w.outs-is, w.reserve.ensures.items) (record { of = i.of; parts = i.parts; outs = i.outs })
      | then-loop-test+else-is_err+in_default w ↦ rw (w.pass-is, w.outs-is, w.reserve.ensures.items) (record { of = w.take.ensures.of; parts = w.take.ensures.same.0 ∙ i.parts; outs = i.outs })
      | then-loop-test+else-is_err+in-Some+in-Err w ↦ rw (w.pass-is, w.outs-is, w.reserve.ensures.items) (record { of = w.take.ensures.of; parts = w.take.ensures.same.0 ∙ i.parts; outs = i.outs })
    ]
