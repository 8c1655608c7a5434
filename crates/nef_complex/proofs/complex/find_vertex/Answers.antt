use Rattle.nef_complex.proofs.Prelude.{rules, subst, length, List, always_returns_same, IsBinarySearchResult, IsSearchInRange, point_of, Vertex}
use Rattle.nef_complex.proofs.Order.{IsOrder, one-order, space-ordered}
use Rattle.nef_complex.proofs.Sorted.{order_to, found-at, found-before, found-after}
use Rattle.nef_complex.proofs.complex.find_vertex.Goals as goal

answered : (c : goal.After-binary_search_by) → IsBinarySearchResult (order_to c.args.p.now) c.args.c.now.vertices c.binary_search_by.result
answered c =
    let p = c.args.p.now in
    subst (λ (vs : List Vertex). IsBinarySearchResult (order_to p) vs c.binary_search_by.result) c.as_slice.ensures.all
    (c.binary_search_by.ensures.position (order_to p) (always_returns_same _ _ _ (λ a r f' k.
    let o : IsOrder (point_of a.0.now.point) (point_of p) r = search rules in
    (one-order (point_of a.0.now.point) (point_of p) r (order_to p a.0.now) o (space-ordered (point_of a.0.now.point) (point_of p)), search rules))))

pub returns-clause-found : goal.returns-clause-found
returns-clause-found c =
    found-at c.args.c.now.vertices c.args.p.now c.binary_search_by.result
    (subst (λ (vs : List Vertex). IsSearchInRange c.binary_search_by.result (length vs)) c.as_slice.ensures.all c.binary_search_by.ensures.bound) (answered c)

pub returns-clause-before : goal.returns-clause-before
returns-clause-before c = found-before c.args.c.now.vertices c.args.p.now c.requires.sorted c.binary_search_by.result (answered c)

pub returns-clause-after : goal.returns-clause-after
returns-clause-after c = found-after c.args.c.now.vertices c.args.p.now c.requires.sorted c.binary_search_by.result (answered c)
