use Rattle.nef_cand.proofs.Prelude.{List, [], sym, subst, Contains-permutation, IsPermutation-sym, complex_of, Spanned, Named, IsNamedBetween, AddsAll, CutsBy, CutsHeld, AreThoseNear}
use Rattle.std.proofs.Common.{Vec, Global}
use Rattle.nef_cand.proofs.Apart.{adds-ordered}
use Rattle.nef_cand.proofs.NearCuts.{close-spanned, close-all}
use Rattle.nef_cand.proofs.listing.near_cuts.Goals.{then-near-ends+in_ok-add_near_cuts, else-near-ends+in_ok-close+in_ok-add_near_cuts-2}
use Rattle.nef_cand.proofs.listing.near_cuts.Goals as goal

pub add_near_cuts-requires-else-near-ends-clause-near : goal.add_near_cuts-requires-else-near-ends-clause-near
add_near_cuts-requires-else-near-ends-clause-near c =
    let xs : List Spanned = c.args.near.now in let r = c.around_all.result in
    close-spanned c.args.other.now r xs c.as_slice.result.now c.requires.near (subst (AreThoseNear xs r) (sym c.as_slice.ensures.value) c.in_ok-close.ensures.close)

pub returns : goal.returns
returns c =
    let A = c.args.c.now in let C = complex_of A in let D = c.args.other.now in
    let xs : List Spanned = c.args.near.now in
    let P = CutsBy C xs in let Q = CutsHeld C D xs in
    let N = IsNamedBetween c.args.operand C (complex_of D) in
    let ps = c.if-near-ends.listed.items in
    let qs = c.sort_unstable_by.new.self.items in
    let m = c.sort_unstable_by.ensures.permutation in
    let added : AddsAll P Q N [] ps = elim c.if-near-ends.branch [
      | then-near-ends+in_ok-add_near_cuts w ↦ subst (λ (v : Vec Named Global). AddsAll P Q N [] v.items) (sym w.listed-is)
          (subst (λ (rs : List Named). AddsAll P Q N rs w.add_near_cuts.new.listed.items) c.in_ok-listed.ensures.items w.in_ok-add_near_cuts.ensures.added)
      | else-near-ends+in_ok-close+in_ok-add_near_cuts-2 w ↦
          let r = w.around_all.result in
          let close = subst (AreThoseNear xs r) (sym w.as_slice.ensures.value) w.in_ok-close.ensures.close in
          let now = w.add_near_cuts-else-near-ends.new.listed.items in
          subst (λ (v : Vec Named Global). AddsAll P Q N [] v.items) (sym w.listed-is)
          (subst (λ (rs : List Named). AddsAll P Q N rs now) c.in_ok-listed.ensures.items
          (close-all A D c.point_spans-ends.result.now c.point_spans-ends.ensures.alone r w.around_all.ensures.wide xs w.as_slice.result.now c.requires.near close N c.in_ok-listed.listed.items now w.in_ok-add_near_cuts-2.ensures.added))
    ] in
    record { cuts = adds-ordered P Q N [] ps qs (λ p h. Contains-permutation ps qs p m h) (λ p h. Contains-permutation qs ps p (IsPermutation-sym ps qs m) h) added }
