-- Axes sorted by their directions, one of each.
use Rattle.nef_sover.proofs.Prelude.{◌≡◌, List, Bool, true, Equal, Less, Ordering, sym, eq_by_cmp, IsTotalOrder, dedup, IsSorted, IsPermutation, on_total, vector_of, Dir, same_directions_equal, VectorBelow, below-vectors, Axis, AxesAreInOrder, HasEachOf}
use Rattle.std.specs.Cmp.{IsEquivalence}
use Rattle.std.proofs.lemmas.Cmp.{int_eq_equiv, on_equiv, and_equiv}
use Rattle.std.proofs.lemmas.List.Kept.{Any-dedup}
use Rattle.std.proofs.lemmas.List.Sorted.{Contains-permutation}
use Rattle.nef_geo.proofs.Orders.{dir_order, dir_total, dir-ordered}
use Rattle.nef_geo.proofs.Unique.{equal_test, same_if_equal}
use Rattle.nef_smap.proofs.SortedOnce.{ties-from, once-in_order as in_order, once-only}

dir_equivalence : IsEquivalence equal_test
dir_equivalence = and_equiv (on_equiv (λ (d : Dir). d.x) int_eq_equiv) (and_equiv (on_equiv (λ (d : Dir). d.y) int_eq_equiv) (on_equiv (λ (d : Dir). d.z) int_eq_equiv))

test_equal : (d e : Dir) → equal_test d e ≡ true → d ≡ e
test_equal d e h = same_directions_equal d e (same_if_equal d e (sym h))

ties : (d e : Dir) → equal_test d e ≡ eq_by_cmp dir_order d e
ties = ties-from dir_total dir_equivalence test_equal (λ d e h. dir-ordered d e Equal (sym h))

-- ---- axes by their directions
abbrev pub axis_order : Axis → Axis → Ordering
axis_order x y = dir_order x.dir y.dir

abbrev pub axis_test : Axis → Axis → Bool
axis_test x y = equal_test x.dir y.dir

axis_total : IsTotalOrder axis_order
axis_total = on_total (λ (x : Axis). x.dir) dir_total

axis_equivalence : IsEquivalence axis_test
axis_equivalence = on_equiv (λ (x : Axis). x.dir) dir_equivalence

pub once-in_order : (xs : List Axis) → IsSorted axis_order xs → AxesAreInOrder (dedup axis_test xs)
once-in_order = in_order axis_total (λ x y. ties x.dir y.dir) (λ x y. VectorBelow (vector_of x.dir) (vector_of y.dir))
    (λ x y h. below-vectors (vector_of x.dir) (vector_of y.dir) (dir-ordered x.dir y.dir Less (sym h)))

pub once-each : (xs ys : List Axis) → IsPermutation xs ys → HasEachOf xs (dedup axis_test ys)
once-each xs ys p = record {
  among = λ y h. once-only axis_test xs ys y p h;
  each = λ x h. let a = Any-dedup axis_equivalence ys x (Contains-permutation xs ys x p h) in (a.1, (a.0, a.2, a.3), sym (test_equal x.dir a.1.dir a.4));
}
