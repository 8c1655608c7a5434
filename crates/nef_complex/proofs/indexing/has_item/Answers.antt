use Rattle.nef_complex.proofs.Prelude.{◌≡◌, ℕ, true, false, is_some, rules, length, get_or, arith, refl, sym, ◌∙◌, subst, ⊎_elim, slice_get_read, not_true, IsAt, form_of, vector_of, map_of, is-at_get, is-at_one, is-at_within, Vertex, HasNormal}
use Rattle.nef_complex.proofs.IndexSteps.{with-normal, without-normal, item-in, no-item}
use Rattle.nef_complex.proofs.indexing.has_item.Goals as goal
use Rattle.nef_space.proofs.Elementary.{less-or-last}

pub returns-then-is_some : goal.returns-then-is_some
returns-then-is_some c =
    let vs = c.args.vertices.now in
    let on = c.args.on.now in
    let i = c.loop-number.number-index in
    let k : ℕ = get_or on i 0 in
    let v = c.index-vertices-number.result in
    let L = c.requires.on.each i k (is-at_get on i 0 c.loop-number-test.true) in
    let a = slice_get_read vs (length vs) k v refl (is-at_within vs k L.0 L.1) c.index-vertices-number.is in
    let some : is_some c.item_with.result ≡ true = search rules in
    record {
      item = (
        λ t. item-in vs (form_of c.args.h.now) (vector_of c.plane_normal-normal.result) c.plane_normal-normal.ensures.normal k v a L
            (subst (λ (r : Vertex). HasNormal (map_of r.map) (vector_of c.plane_normal-normal.result)) (sym c.index-vertices-number.is) (with-normal (map_of (get_or vs k v).map) (vector_of c.plane_normal-normal.result) c.item_with.result some c.item_with.ensures.item)),
        λ o. refl,
      );
    }

pub loop-number-preserved : goal.loop-number-preserved
loop-number-preserved c = λ j m u l b d o.
    let vs = c.args.vertices.now in
    let on = c.args.on.now in
    let i = c.loop-number.number-index in
    let k : ℕ = get_or on i 0 in
    let v = c.index-vertices-number.result in
    let none : is_some c.item_with.result ≡ false = search rules in
    let at_i = is-at_get on i 0 c.loop-number-test.true in
    let L = c.requires.on.each i k at_i in
    let a = slice_get_read vs (length vs) k v refl (is-at_within vs k L.0 L.1) c.index-vertices-number.is in
    ⊎_elim (λ r. c.loop-number.invariant j m u r b d o)
    (λ e.
    let same = is-at_one on i m k (subst (λ (r : ℕ). IsAt on r m) e b) at_i in
    let one = is-at_one vs k u v (subst (λ (r : ℕ). IsAt vs r u) same d) a in
    without-normal (map_of (get_or vs k v).map) (vector_of c.plane_normal-normal.result) c.item_with.result none c.item_with.ensures.item (subst (λ (r : Vertex). HasNormal (map_of r.map) (vector_of c.plane_normal-normal.result)) (one ∙ c.index-vertices-number.is) o))
    (less-or-last j i l)

pub returns : goal.returns
returns c = record {
  item = (
    λ t. absurd (not_true t),
    λ o. absurd (no-item c.args.vertices.now (form_of c.args.h.now) (vector_of c.plane_normal-normal.result) c.plane_normal-normal.ensures.normal c.args.on.now c.loop-number.number-index (let f = c.loop-number-test.false in omega arith) c.requires.on
        c.loop-number.invariant o),
  );
}
