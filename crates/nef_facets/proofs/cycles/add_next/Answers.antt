use Rattle.nef_facets.proofs.Prelude.{ℕ, ◌+◌, List, length, set, arith, refl, ap, sym, ◌∙◌, subst, Vec, Global, length-set, length-map, is-at_within, arc_of, read, map-is_at, Corner, vertex_of, complex_of, corner_of}
use Rattle.nef_facets.proofs.CornerLists.{corner}
use Rattle.nef_facets.proofs.Nexts.{HaveNextCorners, from-within, to-within, into, here-item, there-item, follows, added-pass, added-next, added-all}
use Rattle.nef_facets.proofs.cycles.add_next.Goals.{then-arc-from, else-arc-from}
use Rattle.nef_facets.proofs.cycles.add_next.Goals as goal

pub at-requires : goal.at-requires
at-requires c = let S = c.requires.shows in let E = c.requires.edge in
    record { within = from-within S.0 c.args.c.now S.1.shows E.0 E.1 E.2 c.args.from.now.vertex c.args.from.now.svertex c.args.to.now.vertex c.args.to.now.svertex E.3 }

pub at-requires-then-arc-from : goal.at-requires-then-arc-from
at-requires-then-arc-from c = let S = c.requires.shows in let E = c.requires.edge in
    record { within = to-within S.0 c.args.c.now S.1.shows E.0 E.1 E.2 c.args.from.now.vertex c.args.from.now.svertex c.args.to.now.vertex c.args.to.now.svertex E.3 }

pub arc_into-item-requires : goal.arc_into-item-requires
arc_into-item-requires c =
    let S = c.requires.shows in let E = c.requires.edge in
    let C = c.args.c.now in let from = c.args.from.now in let to = c.args.to.now in
    let u = c.at.result.now in let w = c.at-then-arc-from.result.now in
    let n = c.loop-number.number in let r = c.arc-item.result in
    let l = (read u.map.arcs c.as_slice-arc-items.result.now n r c.as_slice-arc-items.ensures.all c.loop-number-test.true c.arc-item.is) in
    record {
      some = into S.0 C S.1.shows E.0 E.1 E.2 from.vertex from.svertex to.vertex to.svertex E.3 u w c.at.ensures.element c.at-then-arc-from.ensures.element
          n r l c.if-arc-from.true;
    }

pub position-place-requires-clause-listed : goal.position-place-requires-clause-listed
position-place-requires-clause-listed c =
    let S = c.requires.shows in let E = c.requires.edge in
    let C = c.args.c.now in let from = c.args.from.now in let to = c.args.to.now in
    let u = c.at.result.now in let w = c.at-then-arc-from.result.now in
    let n = c.loop-number.number in let r = c.arc-item.result in
    let l = (read u.map.arcs c.as_slice-arc-items.result.now n r c.as_slice-arc-items.ensures.all c.loop-number-test.true c.arc-item.is) in
    c.requires.corners.all (corner_of (corner from.vertex n))
    (here-item S.0 C S.1.shows E.0 E.1 E.2 from.vertex from.svertex to.vertex to.svertex E.3 u w c.at.ensures.element c.at-then-arc-from.ensures.element
    n r l c.if-arc-from.true)

pub position-following-requires-clause-listed : goal.position-following-requires-clause-listed
position-following-requires-clause-listed c =
    let S = c.requires.shows in let E = c.requires.edge in
    let C = c.args.c.now in let from = c.args.from.now in let to = c.args.to.now in
    let u = c.at.result.now in let w = c.at-then-arc-from.result.now in
    let n = c.loop-number.number in let r = c.arc-item.result in
    let l = (read u.map.arcs c.as_slice-arc-items.result.now n r c.as_slice-arc-items.ensures.all c.loop-number-test.true c.arc-item.is) in
    c.requires.corners.all (corner_of (corner to.vertex c.arc_into-item.result))
    (there-item S.0 C S.1.shows E.0 E.1 E.2 from.vertex from.svertex to.vertex to.svertex E.3 u w c.at.ensures.element c.at-then-arc-from.ensures.element
    n r l c.if-arc-from.true c.arc_into-item.result c.arc_into-item.ensures.arc)

pub index_mut-requires : goal.index_mut-requires
index_mut-requires c =
    let l = is-at_within c.args.corners.now c.position-place.result (corner c.args.from.now.vertex c.loop-number.number) c.position-place.ensures.position in
    let e = c.loop-number.invariant.as_many in let o = c.loop-number.next.ok.0 in omega (arith, l, e, o)

pub loop-number-preserved : goal.loop-number-preserved
loop-number-preserved c =
    let S = c.requires.shows in let E = c.requires.edge in
    let C = c.args.c.now in let from = c.args.from.now in let to = c.args.to.now in
    let ks : List Corner = c.args.corners.now in
    let u = c.at.result.now in
    let n = c.loop-number.number in let r = c.arc-item.result in
    let l = (read u.map.arcs c.as_slice-arc-items.result.now n r c.as_slice-arc-items.ensures.all c.loop-number-test.true c.arc-item.is) in
    let p = c.at.ensures.element in
    let start : List ℕ = c.args.next.now.items in
    let old : List ℕ = c.loop-number.next.items in
    elim c.if-arc-from.branch [
      | then-arc-from w ↦
          let v = w.at-then-arc-from.result.now in
          let m = w.arc_into-item.result in
          let d = w.position-place.result in
          let f = w.position-following.result in
          let items = ap (λ (x : Vec ℕ Global). x.items) w.next-is in
          subst (λ (ns : List ℕ). HaveNextCorners (complex_of C) ks from.vertex from.svertex (n + 1) start ns) (sym items)
          (added-next (complex_of C) ks from.vertex from.svertex n start old c.loop-number.invariant (vertex_of u) (arc_of r) (map-is_at vertex_of C.vertices from.vertex u p) (map-is_at arc_of u.map.arcs n r l) c.requires.corners.ordered
          (set old d f) d f (corner to.vertex m) w.position-place.ensures.position w.position-following.ensures.position refl (length-set old d f ∙ c.loop-number.invariant.as_many)
          (follows S.0 C S.1.shows E.0 E.1 E.2 from.vertex from.svertex to.vertex to.svertex E.3 u v p w.at-then-arc-from.ensures.element n r l w.if-arc-from.true m w.arc_into-item.ensures.arc))
      | else-arc-from w ↦
          let items = ap (λ (x : Vec ℕ Global). x.items) w.next-is in
          subst (λ (ns : List ℕ). HaveNextCorners (complex_of C) ks from.vertex from.svertex (n + 1) start ns) (sym items)
          (added-pass (complex_of C) ks from.vertex from.svertex n start old c.loop-number.invariant (vertex_of u) (arc_of r) (map-is_at vertex_of C.vertices from.vertex u p) (map-is_at arc_of u.map.arcs n r l) w.if-arc-from.false)
    ]

pub returns-clause-added : goal.returns-clause-added
returns-clause-added c =
    let C = c.args.c.now in let from = c.args.from.now in
    let u = c.at.result.now in
    added-all (complex_of C) c.args.corners.now from.vertex from.svertex c.loop-number.number c.args.next.now.items c.loop-number.next.items c.loop-number.invariant (vertex_of u)
    (map-is_at vertex_of C.vertices from.vertex u c.at.ensures.element)
    (let e = ap length c.as_slice-arc-items.ensures.all in let f = length-map u.map.arcs arc_of in let h = c.loop-number-test.false in omega arith)
