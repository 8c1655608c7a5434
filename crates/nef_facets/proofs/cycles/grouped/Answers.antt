use Rattle.nef_facets.proofs.Prelude.{ℕ, ◌+◌, List, get_or, set, arith, refl, sym, ◌∙◌, subst, length-set, read, is-at_get, Corner, Cycle, AreCornersOf, IsCycleOf, AreCycleRows}
use Rattle.nef_facets.proofs.Grouping.{grouped-more}
use Rattle.nef_facets.proofs.cycles.grouped.Goals as goal

pub number_at-number-requires : goal.number_at-number-requires
number_at-number-requires c =
    let ks : List Corner = c.args.corners.now in
    let d : Corner = record { vertex = 0; item = 0 } in
    let os : List (List ℕ) = c.args.orbits.now in
    let i = c.loop-orbit.orbit-index in
    let x : List ℕ = c.orbit-item.result in
    let j = c.at.result.now in
    let N = c.requires.numbered in
    let h = N.within i 0 j x (read os os i x refl c.loop-orbit-test.true c.orbit-item.is) c.at.ensures.element in
    record { some = N.number j (get_or ks j d) (is-at_get ks j d h) }

pub index_mut-requires : goal.index_mut-requires
index_mut-requires c =
    let ks : List Corner = c.args.corners.now in
    let d : Corner = record { vertex = 0; item = 0 } in
    let os : List (List ℕ) = c.args.orbits.now in
    let i = c.loop-orbit.orbit-index in
    let x : List ℕ = c.orbit-item.result in
    let j = c.at.result.now in
    let N = c.requires.numbered in
    let h = N.within i 0 j x (read os os i x refl c.loop-orbit-test.true c.orbit-item.is) c.at.ensures.element in
    let b = N.below j (get_or ks j d) c.number_at-number.result (is-at_get ks j d h) c.number_at-number.ensures.number in
    let e = c.loop-orbit.invariant.as_many in
    let f = c.loop-orbit.cycles.ok in
    omega arith

pub loop-orbit-preserved : goal.loop-orbit-preserved
loop-orbit-preserved c =
    let ks : List Corner = c.args.corners.now in
    let d : Corner = record { vertex = 0; item = 0 } in
    let os : List (List ℕ) = c.args.orbits.now in
    let rows : List (List ℕ) = c.args.rows.now in
    let i = c.loop-orbit.orbit-index in
    let x : List ℕ = c.orbit-item.result in
    let j = c.at.result.now in
    let N = c.requires.numbered in
    let a = read os os i x refl c.loop-orbit-test.true c.orbit-item.is in
    let h = N.within i 0 j x a c.at.ensures.element in
    let at-k = is-at_get ks j d h in
    let n = c.number_at-number.result in
    let b = N.below j (get_or ks j d) n at-k c.number_at-number.ensures.number in
    let ys : List (List Cycle) = c.loop-orbit.cycles.items in
    let row : List Cycle = c.index_mut.result.now in
    let many = c.loop-orbit.invariant.as_many in
    let y : Cycle = c.in_ok-cycle.cycle in
    let Y : IsCycleOf rows ks os n i y = record {
      orbit = x;
      listed = a;
      corners = subst (λ (is : List ℕ). AreCornersOf ks is y.corners) c.as_slice.ensures.all c.in_ok-cycle.ensures.corners;
      first = j;
      is_first = c.at.ensures.element;
      corner = get_or ks j d;
      is_corner = at-k;
      number = c.number_at-number.ensures.number;
    } in
    record {
      as_many = length-set ys n c.push.new.self ∙ many;
      grouped = subst (λ (r : List Cycle). AreCycleRows rows ks os (i + 1) (set ys n r)) (sym c.in_ok-push.ensures.ok)
          (grouped-more rows ks os i ys c.loop-orbit.invariant.grouped n row (read ys ys n row refl (omega arith) c.index_mut.ensures.value) y Y);
    }

pub returns-clause-grouped : goal.returns-clause-grouped
returns-clause-grouped c =
    subst (λ (n : ℕ). AreCycleRows c.args.rows.now c.args.corners.now c.args.orbits.now n c.from_vec.result) (let h = c.loop-orbit-test.false in let g = c.loop-orbit.auto.orbit-index-end in omega arith)
    (subst (λ (ys : List (List Cycle)). AreCycleRows c.args.rows.now c.args.corners.now c.args.orbits.now c.loop-orbit.orbit-index ys) (sym c.from_vec.ensures.all) c.loop-orbit.invariant.grouped)
