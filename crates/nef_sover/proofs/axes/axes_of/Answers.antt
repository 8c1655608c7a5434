use Rattle.nef_sover.proofs.Prelude.{◌≡◌, List, [], rules, sym, subst, dedup, IsSorted, map_of, Axis, AreTracks, AreSmallTracks, AddsAxes, AxesAreInOrder, HasEachOf, IsOnSvertex}
use Rattle.std.proofs.lemmas.Fn.{always_returns_same, dedup_same}
use Rattle.nef_sover.proofs.Crossed.{all-found, axes-are}
use Rattle.nef_sover.proofs.Sorted.{axis_order, axis_test, once-in_order, once-each}
use Rattle.nef_sover.proofs.axes.axes_of.Goals as goal

pub add_crossings-requires-clause-xs_small : goal.add_crossings-requires-clause-xs_small
add_crossings-requires-clause-xs_small c = subst AreSmallTracks (sym c.as_slice.ensures.value) c.in_ok-xs.ensures.small

pub add_crossings-requires-clause-ys_small : goal.add_crossings-requires-clause-ys_small
add_crossings-requires-clause-ys_small c = subst AreSmallTracks (sym c.as_slice-2.ensures.value) c.in_ok-ys.ensures.small

-- the axes are sorted, and one is left of each direction
sorted : (c : goal.After-drop-xs-2) → IsSorted axis_order c.sort_unstable_by_key.new.self.items
sorted c = c.sort_unstable_by_key.ensures.sorted (λ (x : Axis). x.dir) (always_returns_same _ _ _ (λ a r f h. search rules))

is-once : (c : goal.After-drop-xs-2) → c.dedup_by_key.new.self.items ≡ dedup axis_test c.sort_unstable_by_key.new.self.items
is-once c = dedup_same _ axis_test _ (λ x y b f v w k. search rules) _ _ c.dedup_by_key.ensures.filtered

pub returns : goal.returns
returns c =
    let A = map_of c.args.a.now in let B = map_of c.args.b.now in
    let xs = c.as_slice.result.now in let ys = c.as_slice-2.result.now in
    let I = subst (AreTracks A) (sym c.as_slice.ensures.value) c.in_ok-xs.ensures.tracks in
    let J = subst (AreTracks B) (sym c.as_slice-2.ensures.value) c.in_ok-ys.ensures.tracks in
    let found = c.add_crossings.new.axes.items in
    record {
      axes = axes-are A B xs ys I J found c.dedup_by_key.new.self.items
          (all-found A B xs ys I J [] c.add_svertices.new.axes.items c.add_svertices-2.new.axes.items found
          (subst (λ (ds : List Axis). AddsAxes (IsOnSvertex A) ds c.add_svertices.new.axes.items) c.new-axes.ensures.items c.in_ok-add_svertices.ensures.added) c.in_ok-add_svertices-2.ensures.added c.in_ok-add_crossings.ensures.added)
          (subst AxesAreInOrder (sym (is-once c)) (once-in_order c.sort_unstable_by_key.new.self.items (sorted c)))
          (subst (HasEachOf found) (sym (is-once c)) (once-each found c.sort_unstable_by_key.new.self.items c.sort_unstable_by_key.ensures.permutation));
    }
