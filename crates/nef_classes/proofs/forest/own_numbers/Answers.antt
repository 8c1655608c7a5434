-- The numbers of a range stand in their own places.
use Rattle.nef_classes.proofs.Prelude.{◌≡◌, ℕ, List, length, arith, refl, sym, ◌∙◌, subst, Result, Ok, Err, Vec, Global, IfOk, IsAt}
use Rattle.std.specs.List.{range_with_len}
use Rattle.std.proofs.lemmas.Iterator.{YieldsList-from_range, items_from_collect}
use Rattle.std.proofs.lemmas.List.FromFn.{length-range_with_len, get_or-range_with_len}
use Rattle.nef_space.proofs.Lists.{is-at_within, is-at_is}
use Rattle.nef_classes.proofs.forest.own_numbers.Goals as goal

-- what holds of the range's list holds of the list that was collected
of_range : {E : Type 0} (count : ℕ) (P : List ℕ → Type 0) (r : Result (Vec ℕ Global) E) → IfOk r (λ v. v.items ≡ range_with_len 0 count) → P (range_with_len 0 count) → IfOk r (λ v. P v.items)
of_range count P (Ok v) e h = subst P (sym e) h
of_range count P (Err x) e h = tt

own : (count i n : ℕ) → IsAt (range_with_len 0 count) i n → n ≡ i
own count i n a =
    let within = is-at_within (range_with_len 0 count) i n a in
    let l = length-range_with_len 0 count in
    let e = sym (is-at_is (range_with_len 0 count) i n 0 a) ∙ get_or-range_with_len 0 count i 0 (omega (arith, within, l)) in
    omega (arith, e)

pub returns : goal.returns
returns c =
    let count = c.args.count in
    let items = items_from_collect c.collect.result c.collect.ensures.ran (YieldsList-from_range 0 count count refl (omega arith)) in
    record {
      as_many = of_range count (λ xs. length xs ≡ count) c.collect.result items (length-range_with_len 0 count);
      own = of_range count (λ xs. (i n : ℕ) → IsAt xs i n → n ≡ i) c.collect.result items (own count);
    }
