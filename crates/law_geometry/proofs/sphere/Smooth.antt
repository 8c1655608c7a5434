-- Where neither of two maps has a svertex and no items cross, an operation on them is plain or straight.
use Rattle.law_geometry.proofs.sphere.Prelude.{ℕ, ◌+◌, arith, refl, ap, sym, ◌∙◌, subst, sign, Vector, IsDirection, cross, dot, IsZero, SameDirection, Label, IsAt, MapVertex, Map, Item, items, item_normal, item_pos, item_mark, item_neg, OnItem, IsFree, on_item, NearLabel, Valid, by_side, Near, ByOp, IsSmooth, plain, straight, dot-comm, dir-signs, direction-left}
use Rattle.law_geometry.proofs.sphere.Vectors.{normal-is, even-side, op-side}
use Rattle.law_geometry.proofs.sphere.Forms.{on-level, PlaceOf, svertex_place, item_place, free_place, place_of}
use Rattle.law_geometry.proofs.sphere.Labels.{label-exists}
use Rattle.law_geometry.proofs.sphere.Around.{Beside, same_way, other_way, beside}
use Rattle.law_geometry.proofs.sphere.NearItems.{near-free, near-item}
use Rattle.law_geometry.proofs.sphere.Compare.{normals-not_opposite}

module _ (A B : Map) (op : Label → Label → Label) (V : Valid A) (W : Valid B) (d : Vector) (h : IsDirection d) where
  abbrev F : Vector → Label → Type 0
  F = ByOp A B op

  near-op : (e : Vector) (k l : Label) → NearLabel A d e k → NearLabel B d e l → Near F d e (op k l)
  near-op e k l (i, f) (j, g) = (i + j, λ n s. (k, l, f n (omega arith), g n (omega arith), refl))

  free-free : IsFree A d → IsFree B d → IsSmooth F d
  free-free f g =
      let a = label-exists A V d h in let b = label-exists B W d h in
      plain (op a.0 b.0) (record { at_d = (a.0, b.0, a.1, b.1, refl); near = λ e. near-op e a.0 b.0 (near-free A V d f a.0 a.1 e) (near-free B W d g b.0 b.1 e) })

  item-free : (i : ℕ) (x : Item) → IsAt (items A) i x → OnItem A x d → IsFree B d → IsSmooth F d
  item-free i x q o g =
      let b = label-exists B W d h in
      straight (item_normal x) (op (item_pos x) b.0) (op (item_mark x) b.0) (op (item_neg x) b.0) (normal-is V.shaped i x q) (record {
        level = on-level A x d o;
        at_d = (item_mark x, b.0, on_item i x q o refl, b.1, refl);
        near = λ e. let s = sign (dot (item_normal x) e) in
            subst (Near F d e) (ap (op (by_side (item_pos x) (item_mark x) (item_neg x) s)) (sym (even-side b.0 s)) ∙ op-side op (item_pos x) (item_mark x) (item_neg x) b.0 b.0 b.0 s)
            (near-op e _ b.0 (near-item A V d i x q o e) (near-free B W d g b.0 b.1 e));
      })

  free-item : IsFree A d → (j : ℕ) (y : Item) → IsAt (items B) j y → OnItem B y d → IsSmooth F d
  free-item f j y r o =
      let a = label-exists A V d h in
      straight (item_normal y) (op a.0 (item_pos y)) (op a.0 (item_mark y)) (op a.0 (item_neg y)) (normal-is W.shaped j y r) (record {
        level = on-level B y d o;
        at_d = (a.0, item_mark y, a.1, on_item j y r o refl, refl);
        near = λ e. let s = sign (dot (item_normal y) e) in
            subst (Near F d e) (ap (λ u. op u (by_side (item_pos y) (item_mark y) (item_neg y) s)) (sym (even-side a.0 s)) ∙ op-side op a.0 a.0 a.0 (item_pos y) (item_mark y) (item_neg y) s)
            (near-op e a.0 _ (near-free A V d f a.0 a.1 e) (near-item B W d j y r o e));
      })

  item-item : (i : ℕ) (x : Item) → IsAt (items A) i x → OnItem A x d → (j : ℕ) (y : Item) → IsAt (items B) j y → OnItem B y d → IsZero (cross (item_normal x) (item_normal y)) → IsSmooth F d
  item-item i x q o j y r p z = by (beside (item_normal x) (item_normal y) (normal-is V.shaped i x q) (normal-is W.shaped j y r) z)
    where
      by : Beside (item_normal x) (item_normal y) → IsSmooth F d
      by (other_way w) = absurd (normals-not_opposite (item_normal x) (item_normal y) (V.shaped.normals i x q) (W.shaped.normals j y r) w)
      by (same_way w) = straight (item_normal x) (op (item_pos x) (item_pos y)) (op (item_mark x) (item_mark y)) (op (item_neg x) (item_neg y)) (normal-is V.shaped i x q) (record {
        level = on-level A x d o;
        at_d = (item_mark x, item_mark y, on_item i x q o refl, on_item j y r p refl, refl);
        near = λ e. let s = sign (dot (item_normal x) e) in
            let t = ap sign (dot-comm (item_normal y) e) ∙ dir-signs (item_normal x) (item_normal y) e (direction-left (item_normal x) (item_normal y) w) w ∙ ap sign (dot-comm e (item_normal x)) in
            subst (Near F d e) (ap (λ u. op (by_side (item_pos x) (item_mark x) (item_neg x) s) (by_side (item_pos y) (item_mark y) (item_neg y) u)) t ∙ op-side op (item_pos x) (item_mark x) (item_neg x) (item_pos y) (item_mark y) (item_neg y) s)
            (near-op e _ _ (near-item A V d i x q o e) (near-item B W d j y r p e));
      })

  -- off the axes of the overlay, op of the two maps is plain or straight
  pub op-smooth : ((k : ℕ) (v : MapVertex) → IsAt A.svertices k v → SameDirection v.dir d → ⊥) → ((k : ℕ) (v : MapVertex) → IsAt B.svertices k v → SameDirection v.dir d → ⊥)
      → ((i j : ℕ) (x y : Item) → IsAt (items A) i x → IsAt (items B) j y → OnItem A x d → OnItem B y d → IsZero (cross (item_normal x) (item_normal y))) → IsSmooth F d
  op-smooth a b c = by (place_of A d h) (place_of B d h)
    where
      by : PlaceOf A d → PlaceOf B d → IsSmooth F d
      by (svertex_place k v q w) y = absurd (a k v q w)
      by (item_place i x q o) (svertex_place k v r w) = absurd (b k v r w)
      by (free_place f) (svertex_place k v r w) = absurd (b k v r w)
      by (item_place i x q o) (item_place j y r p) = item-item i x q o j y r p (c i j x y q r o p)
      by (item_place i x q o) (free_place g) = item-free i x q o g
      by (free_place f) (item_place j y r p) = free-item f j y r p
      by (free_place f) (free_place g) = free-free f g
