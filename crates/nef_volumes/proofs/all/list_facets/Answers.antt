use Rattle.nef_volumes.proofs.Prelude.{ℕ, List, [], ◌∷◌, ◌++◌, length, refl, sym, subst, rules, YieldsList-from_vec, YieldsList-turn, IsAt, is-at_get, complex_of, Cycle, Facet, AreFacetsOf}
use Rattle.nef_volumes.proofs.AllParts.{some-cycle, some-corner, first-item, beside-first}
use Rattle.nef_volumes.proofs.FacetLists.{facets-more}
use Rattle.nef_volumes.proofs.all.list_facets.Goals as goal

pub at-cycle-requires : goal.at-cycle-requires
at-cycle-requires c =
    let all = c.args.cycles in
    let own = c.in-Some.own in
    let t = YieldsList-turn (YieldsList-from_vec {s = c.into_iter-own-iterator.result} all (search rules) (search rules)) c.loop-own.yielded c.loop-own.own-iterator c.loop-own.yielded_by c.next.result c.next.new.self own c.in-Some.is c.next.ensures.steps in
    let first = c.requires.first (length c.loop-own.yielded) own (subst (λ (xs : List Cycle). IsAt all (length c.loop-own.yielded) xs) (sym t.1) (is-at_get all (length c.loop-own.yielded) own t.0)) in
    record { within = some-cycle (complex_of c.args.c.now) own first }

pub at-requires : goal.at-requires
at-requires c =
    let all = c.args.cycles in
    let own = c.in-Some.own in
    let t = YieldsList-turn (YieldsList-from_vec {s = c.into_iter-own-iterator.result} all (search rules) (search rules)) c.loop-own.yielded c.loop-own.own-iterator c.loop-own.yielded_by c.next.result c.next.new.self own c.in-Some.is c.next.ensures.steps in
    let first = c.requires.first (length c.loop-own.yielded) own (subst (λ (xs : List Cycle). IsAt all (length c.loop-own.yielded) xs) (sym t.1) (is-at_get all (length c.loop-own.yielded) own t.0)) in
    record { within = some-corner (complex_of c.args.c.now) own first c.at-cycle.result.now c.at-cycle.ensures.element }

pub volume_at-pos-requires-clause-corner : goal.volume_at-pos-requires-clause-corner
volume_at-pos-requires-clause-corner c =
    let all = c.args.cycles in
    let own = c.in-Some.own in
    let t = YieldsList-turn (YieldsList-from_vec {s = c.into_iter-own-iterator.result} all (search rules) (search rules)) c.loop-own.yielded c.loop-own.own-iterator c.loop-own.yielded_by c.next.result c.next.new.self own c.in-Some.is c.next.ensures.steps in
    let first = c.requires.first (length c.loop-own.yielded) own (subst (λ (xs : List Cycle). IsAt all (length c.loop-own.yielded) xs) (sym t.1) (is-at_get all (length c.loop-own.yielded) own t.0)) in
    first-item (complex_of c.args.c.now) own first c.at-cycle.result.now c.at.result.now c.at-cycle.ensures.element c.at.ensures.element

pub volume_at-neg-requires-clause-corner : goal.volume_at-neg-requires-clause-corner
volume_at-neg-requires-clause-corner c =
    let all = c.args.cycles in
    let own = c.in-Some.own in
    let t = YieldsList-turn (YieldsList-from_vec {s = c.into_iter-own-iterator.result} all (search rules) (search rules)) c.loop-own.yielded c.loop-own.own-iterator c.loop-own.yielded_by c.next.result c.next.new.self own c.in-Some.is c.next.ensures.steps in
    let first = c.requires.first (length c.loop-own.yielded) own (subst (λ (xs : List Cycle). IsAt all (length c.loop-own.yielded) xs) (sym t.1) (is-at_get all (length c.loop-own.yielded) own t.0)) in
    first-item (complex_of c.args.c.now) own first c.at-cycle.result.now c.at.result.now c.at-cycle.ensures.element c.at.ensures.element

pub loop-own-preserved : goal.loop-own-preserved
loop-own-preserved c =
    let C = complex_of c.args.c.now in
    let rows = c.args.volume_of.now in
    let planes = c.args.planes.now in
    let marks = c.args.marks.now in
    let ys = c.loop-own.yielded in
    let fs = c.loop-own.facets in
    let own = c.in-Some.own in
    let n = c.len-number.ensures.len in
    subst (λ (gs : List Facet). AreFacetsOf C rows planes marks (ys ++ own ∷ []) gs) (sym c.in_ok-push.ensures.ok)
    (facets-more C rows planes marks ys fs own _ c.loop-own.invariant
    (subst (λ (k : ℕ). IsAt planes k c.at-plane.result.now) n c.at-plane.ensures.element)
    (subst (λ (k : ℕ). IsAt marks k c.at-mark.result.now) n c.at-mark.ensures.element) refl
    (beside-first C rows own c.at-cycle.result.now c.at.result.now c.volume_at-pos.result c.volume_at-neg.result c.at-cycle.ensures.element c.at.ensures.element c.volume_at-pos.ensures.volume c.volume_at-neg.ensures.volume))
