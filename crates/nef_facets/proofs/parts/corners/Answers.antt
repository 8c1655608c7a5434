use Rattle.nef_facets.proofs.Prelude.{◌≡◌, ℕ, List, [], ◌∷◌, ◌++◌, length, ◌+◌, arith, ap, sym, ◌∙◌, subst, length-append, IsAt, read, map-is_at, is-at_map, is-at_within, Corner, vertex_of, complex_of, corners_at, StandFrom}
use Rattle.nef_facets.proofs.CornerLists.{AreCornersTo, no-corners, corners-next, starts-none, starts-next, all-corners}
use Rattle.nef_facets.proofs.parts.corners.Goals as goal

pub loop-number-init : goal.loop-number-init
loop-number-init c = record {
  corners = subst (AreCornersTo (complex_of c.args.c.now) 0) (sym c.new-all.ensures.items) (no-corners (complex_of c.args.c.now));
  starts = starts-none _ _ c.new-all.ensures.items;
  many = ap length c.in_ok-starts.ensures.items;
}

pub loop-number-preserved : goal.loop-number-preserved
loop-number-preserved c =
    let C = complex_of c.args.c.now in
    let vs = c.args.c.now.vertices in
    let n = c.loop-number.number in
    let v = c.vertex-item.result in
    let old : List Corner = c.loop-number.all.items in let starts : List ℕ = c.loop-number.starts.items in
    let start : c.len-start.result ≡ length old = (let l = c.len-start.ensures in let o = c.loop-number.all.ok in omega (arith, l, o)) in
    let a : IsAt C.vertices n (vertex_of v) = map-is_at vertex_of vs n v (read vs c.as_slice-vertex-items.result.now n v c.as_slice-vertex-items.ensures.all c.loop-number-test.true c.vertex-item.is) in
    record {
      corners = subst (λ (ks : List Corner). AreCornersTo C (n + 1) ks) (sym c.in_ok-add_corners.ensures.added)
          (corners-next C n old c.loop-number.invariant.corners (vertex_of v) c.item_count.result a c.item_count.ensures.count);
      starts = subst (λ (ks : List Corner). StandFrom ks c.push.new.self.items) (sym c.in_ok-add_corners.ensures.added)
          (subst (λ (fs : List ℕ). StandFrom (old ++ corners_at n c.item_count.result) fs) (sym (c.in_ok-push.ensures.items ∙ ap (λ (f : ℕ). starts ++ f ∷ []) start))
          (starts-next old starts n c.item_count.result c.loop-number.invariant.many c.loop-number.invariant.starts));
      many = ap length c.in_ok-push.ensures.items ∙ length-append starts (c.len-start.result ∷ []) ∙ ap (λ (m : ℕ). m + 1) c.loop-number.invariant.many;
    }

pub returns : goal.returns
returns c = record {
  all = all-corners (complex_of c.args.c.now) c.loop-number.number c.loop-number.all.items c.loop-number.invariant.corners
      (λ k v a. let r = is-at_map vertex_of c.args.c.now.vertices k v a in let l = is-at_within c.args.c.now.vertices k r.0 r.1 in
      let e = ap length c.as_slice-vertex-items.ensures.all in let f = c.loop-number-test.false in omega arith);
  starts = c.loop-number.invariant.starts;
}
