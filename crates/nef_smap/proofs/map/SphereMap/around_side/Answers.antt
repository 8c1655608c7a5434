use Rattle.nef_smap.proofs.Prelude.{◌≡◌, arith, refl, sym, ap, ◌∙◌, rules, Option, Some, None, is_some, true, false, Label, map_of, svertex_of, one_if_label, arounds_before}
use Rattle.nef_smap.proofs.Joining.{svertex-listed}
use Rattle.nef_smap.proofs.LinkLists.{arounds-start, arounds-next}
use Rattle.nef_smap.proofs.map.SphereMap.around_side.Goals as goal
use Rattle.nef_smap.proofs.map.SphereMap.around_side.Goals.{then-is_some, else-is_some}

one-some : (o : Option Label) → is_some o ≡ true → one_if_label o ≡ 1
one-some None e = absurd cc
one-some (Some m) e = refl

none-some : (o : Option Label) → is_some o ≡ false → one_if_label o ≡ 0
none-some None e = refl
none-some (Some m) e = absurd cc

pub loop-number-init : goal.loop-number-init
loop-number-init c = (sym (arounds-start (map_of c.args.self.now).svertices), omega arith)

pub loop-number-preserved : goal.loop-number-preserved
loop-number-preserved c =
    let M = map_of c.args.self.now in
    let n = c.loop-number.number in
    let v = c.at.result.now in
    let next = arounds-next M.svertices n (svertex_of v) (svertex-listed c.args.self.now.svertices n v c.at.ensures.element) in
    let so_far = c.loop-number.invariant in
    elim c.if-is_some.branch [
      | then-is_some w ↦
          let some : is_some v.around ≡ true = search rules in
          let one = one-some v.around some in
          (omega (arith, w.found-is, next, one, so_far.0), omega (arith, w.found-is, so_far.1))
      | else-is_some w ↦
          let some : is_some v.around ≡ false = search rules in
          let none = none-some v.around some in
          (omega (arith, w.found-is, next, none, so_far.0), omega (arith, w.found-is, so_far.1))
    ]

pub returns : goal.returns
returns c =
    let e : c.loop-number.number ≡ c.args.svertex = omega (arith, c.loop-number-test.false, c.loop-number.auto.number-end) in
    record { number = c.loop-number.invariant.0 ∙ ap (arounds_before (map_of c.args.self.now).svertices) e }
