use Rattle.nef_cand.proofs.Prelude.{◌+◌, List, [], ◌∷◌, ◌++◌, take, rules, ap, sym, subst, ◌∙◌, take_all, take-more, Spanned, AreThoseNear}
use Rattle.nef_cand.proofs.NearCuts.{near-none, near-more, near-passed}
use Rattle.nef_cand.proofs.listing.carriers_near.Goals.{then-may_meet+in_ok-push, else-may_meet}
use Rattle.nef_cand.proofs.listing.carriers_near.Goals as goal

pub loop-carrier-init : goal.loop-carrier-init
loop-carrier-init c = record { close = subst (λ (zs : List Spanned). AreThoseNear [] c.args.span.now zs) (sym c.new-close.ensures.items) (near-none c.args.span.now) }

pub loop-carrier-preserved : goal.loop-carrier-preserved
loop-carrier-preserved c =
    let xs : List Spanned = c.args.near.now in let i = c.loop-carrier.carrier-index in let x = c.carrier-item.result in let s = c.args.span.now in
    let old : List Spanned = c.loop-carrier.close.items in
    let same = λ (zs : List Spanned) (h : AreThoseNear (take i xs ++ x ∷ []) s zs).
    subst (λ (ws : List Spanned). AreThoseNear ws s zs) (sym (take-more xs i x c.loop-carrier-test.true))
    (subst (λ (y : Spanned). AreThoseNear (take i xs ++ y ∷ []) s zs) c.carrier-item.is h) in
    record {
      close = elim c.if-may_meet.branch [
        | then-may_meet+in_ok-push w ↦ subst (AreThoseNear (take (i + 1) xs) s) (sym (ap (λ v. v.items) w.close-is ∙ w.in_ok-push.ensures.items))
            (same (old ++ x ∷ []) (near-more (take i xs) s old c.loop-carrier.invariant.close x))
        | else-may_meet w ↦ subst (AreThoseNear (take (i + 1) xs) s) (sym (ap (λ v. v.items) w.close-is))
            (same old (near-passed (take i xs) s old c.loop-carrier.invariant.close x (λ y h k. search (rules, c.may_meet.ensures.meets y h k, w.if-may_meet.false))))
      ];
    }

pub returns : goal.returns
returns c =
    let xs : List Spanned = c.args.near.now in
    record { close = subst (λ (zs : List Spanned). AreThoseNear zs c.args.span.now c.loop-carrier.close.items) (take_all c.loop-carrier.carrier-index xs c.loop-carrier-test.false) c.loop-carrier.invariant.close }
