use Rattle.nef_sover.proofs.Prelude.{◌≡◌, true, sym, subst, rules, ◌∙◌, false≢true, vector_of, AddsAxes, IsMeetAlong}
use Rattle.nef_sover.proofs.Meets.{common-adds, apart-adds}
use Rattle.nef_sover.proofs.axes.add_common.Goals as goal
use Rattle.nef_sover.proofs.axes.add_common.Goals.{else-holds-via-then-holds+else-holds-2, else-holds-via-else-holds}

pub returns-in_ok-push : goal.returns-in_ok-push
returns-in_ok-push c =
    let x = c.args.x.now in let y = c.args.y.now in
    let on_x : c.holds.result ≡ true = search rules in
    let on_y : c.holds-then-holds.result ≡ true = search rules in
    record {
      added = subst (AddsAxes (IsMeetAlong x y (vector_of c.args.d)) c.args.axes.now.items) (sym c.in_ok-push.ensures.items)
          (common-adds x y c.args.axes.now.items c.args.d c.number.result c.number-then-holds-2.result c.requires.small (c.holds.ensures.on.0 on_x, c.holds-then-holds.ensures.on.0 on_y) c.number.ensures.number c.number-then-holds-2.ensures.number);
    }

pub returns-else-holds : goal.returns-else-holds
returns-else-holds c =
    let x = c.args.x.now in let y = c.args.y.now in let d = vector_of c.args.d in
    elim c.else-holds.branch [
      | else-holds-via-then-holds+else-holds-2 w ↦ record { added = apart-adds x y c.args.axes.now.items d (λ b. false≢true (sym w.if-holds-2.false ∙ w.holds-then-holds.ensures.on.1 b.1)) }
      | else-holds-via-else-holds w ↦ record { added = apart-adds x y c.args.axes.now.items d (λ b. false≢true (sym w.if-holds.false ∙ c.holds.ensures.on.1 b.0)) }
    ]
