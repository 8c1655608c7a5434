use Rattle.nef_cand.proofs.Prelude.{List, [], ◌∷◌, ◌++◌, take, sym, subst, take_all, take-more, Spanned, AreWithinSpan}
use Rattle.nef_cand.proofs.NearCuts.{around-none, around-more}
use Rattle.nef_cand.proofs.listing.around_carriers.Goals as goal

pub loop-carrier-init : goal.loop-carrier-init
loop-carrier-init c = around-none _

pub loop-carrier-preserved : goal.loop-carrier-preserved
loop-carrier-preserved c =
    let xs : List Spanned = c.args.near.now in let i = c.loop-carrier.carrier-index in let x = c.carrier-item.result in let s = c.with_span-around.result in
    subst (λ (zs : List Spanned). AreWithinSpan zs s) (sym (take-more xs i x c.loop-carrier-test.true))
    (subst (λ (y : Spanned). AreWithinSpan (take i xs ++ y ∷ []) s) c.carrier-item.is
    (around-more (take i xs) c.loop-carrier.around x s c.loop-carrier.invariant c.with_span-around.ensures.wider c.with_span-around.ensures.other))

pub returns : goal.returns
returns c =
    let xs : List Spanned = c.args.near.now in
    record { wide = subst (λ (zs : List Spanned). AreWithinSpan zs c.loop-carrier.around) (take_all c.loop-carrier.carrier-index xs c.loop-carrier-test.false) c.loop-carrier.invariant }
