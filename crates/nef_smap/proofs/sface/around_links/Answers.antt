use Rattle.nef_smap.proofs.Prelude.{◌≡◌, ◌+◌, List, arith, sym, ap, ◌∙◌, subst, rules, is_some, true, false, Vec, Global, Link, map_of, svertex_of, one_if_label, AreArounds}
use Rattle.nef_smap.proofs.Joining.{svertex-listed}
use Rattle.nef_smap.proofs.LinkLists.{around-of_below, arounds-none, arounds-more, arounds-pass, arounds-start, arounds-next}
use Rattle.nef_smap.proofs.sface.around_links.Goals as goal
use Rattle.nef_smap.proofs.sface.around_links.Goals.{then-is_some+in_ok-push, else-is_some}
use Rattle.nef_space.proofs.Elementary.{none-told, some-told}

pub loop-number-init : goal.loop-number-init
loop-number-init c =
    let M = map_of c.args.map.now in
    record { all_links = subst (λ (ls : List Link). AreArounds M 0 ls) (sym {A = List Link} c.new-links.ensures.items) (arounds-none M); side_number = sym (arounds-start M.svertices); few_sides = omega arith }

pub join_below-requires-clause-number : goal.join_below-requires-clause-number
join_below-requires-clause-number c = omega (arith, c.loop-number-test.true, c.len-number-end.ensures.len)

pub overflow_add-side : goal.overflow_add-side
overflow_add-side c = omega (arith, c.loop-number.invariant.few_sides, c.loop-number-test.true, c.len-number-end.type_inv)

pub at-requires : goal.at-requires
at-requires c = record { within = omega (arith, c.loop-number-test.true, c.len-number-end.ensures.len) }

pub loop-number-preserved : goal.loop-number-preserved
loop-number-preserved c =
    let M = map_of c.args.map.now in
    let n = c.loop-number.number in
    let v = c.at.result.now in
    let a = svertex-listed c.args.map.now.svertices n v c.at.ensures.element in
    let next = arounds-next M.svertices n (svertex_of v) a in
    let side = c.loop-number.invariant.side_number in
    let few = c.loop-number.invariant.few_sides in
    elim c.if-is_some.branch [
      | then-is_some+in_ok-push w ↦
          let some : is_some v.around ≡ true = search rules in
          let m = some-told v.around some in
          let one : one_if_label v.around ≡ 1 = ap one_if_label m.1 in
          let items = ap (λ (x : Vec Link Global). x.items) w.links-is ∙ w.in_ok-push.ensures.items in
          record {
            all_links = subst (λ (ls : List Link). AreArounds M (n + 1) ls) (sym {A = List Link} items) (arounds-more M n c.loop-number.links.items (record { first = c.loop-number.side; second = w.join_below.result.first }) (around-of_below M n c.loop-number.side (svertex_of v) m.0 w.join_below.result a m.1 side w.join_below.ensures.joins) c.loop-number.invariant.all_links);
            side_number = omega (arith, w.side-is, next, one, side);
            few_sides = omega (arith, w.side-is, few);
          }
      | else-is_some w ↦
          let none : is_some v.around ≡ false = search rules in
          let m = none-told v.around none in
          let zero_one : one_if_label v.around ≡ 0 = ap one_if_label m in
          let items = ap (λ (x : Vec Link Global). x.items) w.links-is in
          record {
            all_links = subst (λ (ls : List Link). AreArounds M (n + 1) ls) (sym {A = List Link} items) (arounds-pass M n c.loop-number.links.items (svertex_of v) a m c.loop-number.invariant.all_links);
            side_number = omega (arith, w.side-is, next, zero_one, side);
            few_sides = omega (arith, w.side-is, few);
          }
    ]
