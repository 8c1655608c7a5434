use Rattle.nef_facets.proofs.Prelude.{◌≡◌, ℕ, ◌+◌, List, length, get_or, arith, ap, sym, ◌∙◌, subst, Vec, Global, IsAt, is-at_get, Corner, corner_of}
use Rattle.nef_facets.proofs.FirstCorners.{AreFirstsTo, firsts-same, firsts-new, firsts-all, item-facet}
use Rattle.nef_facets.proofs.parts.first_corners.Goals.{then-number_at-len+in_ok-push, else-number_at-len}
use Rattle.nef_facets.proofs.parts.first_corners.Goals as goal

pub number_at-requires : goal.number_at-requires
number_at-requires c =
    let ks : List Corner = c.args.corners.now in let i = c.loop-corner.corner-index in
    let d : Corner = record { vertex = 0; item = 0 } in
    let k : Corner = get_or ks i d in
    let N = c.requires.numbers in
    record { some = item-facet N.0 c.args.rows.now N.1 (corner_of k) (N.2.each i k (is-at_get ks i d c.loop-corner-test.true)) }

pub loop-corner-preserved : goal.loop-corner-preserved
loop-corner-preserved c =
    let ks : List Corner = c.args.corners.now in let i = c.loop-corner.corner-index in
    let rows : List (List ℕ) = c.args.rows.now in
    let d : Corner = record { vertex = 0; item = 0 } in
    let k : Corner = get_or ks i d in
    let N = c.requires.numbers in
    let js : List Corner = c.loop-corner.firsts.items in
    let a : IsAt ks i k = is-at_get ks i d c.loop-corner-test.true in
    let m = c.number_at.result in
    elim c.if-number_at-len.branch [
      | then-number_at-len+in_ok-push w ↦
          let n = c.len.ensures in let q = c.loop-corner.firsts.ok in let p = w.if-number_at-len.true in let e : m ≡ length js = omega arith in
          let items = ap (λ (v : Vec Corner Global). v.items) w.firsts-is ∙ w.in_ok-push.ensures.items in
          subst (λ (r : List Corner). AreFirstsTo rows ks (i + 1) r) (sym items) (firsts-new N.0 rows N.1 ks N.2 i js c.loop-corner.invariant k a m c.number_at.ensures.number e)
      | else-number_at-len w ↦
          let items = ap (λ (v : Vec Corner Global). v.items) w.firsts-is in
          subst (λ (r : List Corner). AreFirstsTo rows ks (i + 1) r) (sym items) (firsts-same N.0 rows N.1 ks N.2 i js c.loop-corner.invariant k a m c.number_at.ensures.number (λ e. w.if-number_at-len.false (let n = c.len.ensures in let q = c.loop-corner.firsts.ok in omega arith)))
    ]

pub returns : goal.returns
returns c = record { firsts = firsts-all c.args.rows.now c.args.corners.now c.loop-corner.corner-index c.loop-corner.firsts.items c.loop-corner.invariant c.loop-corner-test.false }
