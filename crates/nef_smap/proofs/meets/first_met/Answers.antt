use Rattle.nef_smap.proofs.Prelude.{◌≡◌, ℕ, arith, sym, ◌∙◌, subst, true, not_true, item_of, map_of, start_at, end_at, IsFirstMet, items}
use Rattle.nef_smap.proofs.FirstSoFar.{so_far-begins, so_far-stays, so_far-changes}
use Rattle.nef_smap.proofs.meets.first_met.Goals as goal
use Rattle.nef_smap.proofs.meets.first_met.Goals.{then-is_before+then-is_met, else-is_before, else-is_before-via-then-is_before+else-is_met, else-is_before-via-else-is_before}
use Rattle.nef_space.proofs.Lists.{is-at_within}

pub item_values-first_values-requires-clause-normal : goal.item_values-first_values-requires-clause-normal
item_values-first_values-requires-clause-normal c = c.requires.map.small.normals 0 (item_of c.item_at.result) c.item_at.ensures.item

pub item_values-n-requires-clause-normal : goal.item_values-n-requires-clause-normal
item_values-n-requires-clause-normal c = c.requires.map.small.normals c.loop-number.number (item_of c.item_at-item.result) c.item_at-item.ensures.item

pub loop-number-init : goal.loop-number-init
loop-number-init c = so_far-begins c.args.map.now c.args.way.now (item_of c.item_at.result) c.item_values-first_values.result c.item_at.ensures.item c.item_values-first_values.ensures.values c.item_values-first_values.ensures.small

pub loop-number-preserved : goal.loop-number-preserved
loop-number-preserved c =
    let m = c.args.map.now in
    let w = c.args.way.now in
    let n = c.loop-number.number in
    let y = item_of c.item_at-item.result in
    let u = c.item_values-n.result in
    let h = c.item_at-item.ensures.item in
    let a = c.item_values-n.ensures.values in
    let f = c.loop-number.invariant in
    let k = c.loop-number.first in
    let v = c.loop-number.first_values in
    elim c.if-is_before.branch [
      | then-is_before+then-is_met t ↦
          rw (t.first-is, t.first_values-is) (so_far-changes m w n k v u f y h a c.item_values-n.ensures.small
          (λ i j large. (c.is_before.ensures.before i j large).0 t.if-is_before.true) (λ i j large fair. (t.is_met.ensures.met i j large fair).0 t.if-is_met.true))
      | else-is_before t ↦ elim t.else-is_before.branch [
        | else-is_before-via-then-is_before+else-is_met s ↦
            rw (t.first-is, t.first_values-is) (so_far-stays m w n k v u f y h a c.is_before.result s.is_met.result c.is_before.ensures.before (λ e. s.is_met.ensures.met) (λ e g. not_true (sym s.if-is_met.false ∙ g)))
        | else-is_before-via-else-is_before s ↦
            rw (t.first-is, t.first_values-is) (so_far-stays m w n k v u f y h a c.is_before.result true c.is_before.ensures.before (λ e. absurd (not_true (sym s.if-is_before.false ∙ e))) (λ e g. not_true (sym s.if-is_before.false ∙ e)))
      ]
    ]

pub returns-clause-small : goal.returns-clause-small
returns-clause-small c =
    let f = c.loop-number.invariant in
    let h = is-at_within (items (map_of c.args.map.now)) c.loop-number.first f.item f.listed in
    let e = c.item_count-number-end.ensures.count in
    let s = c.item_count-number-end.ensures.small in
    omega arith

pub returns-clause-first : goal.returns-clause-first
returns-clause-first c =
    let f = c.loop-number.invariant in
    let e : c.loop-number.number ≡ c.item_count-number-end.result = omega arith in
    (f.item, f.listed, λ i j large fair. subst (λ (n : ℕ). IsFirstMet (map_of c.args.map.now) (start_at c.args.way.now i) (end_at c.args.way.now j) n f.item) (e ∙ c.item_count-number-end.ensures.count) (f.first i j large fair))
