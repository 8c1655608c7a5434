-- The star of a direction in which items of two maps cross.
use Rattle.nef_sover.proofs.Prelude.{◌≡◌, ℕ, pos, Some, Result, Ok, Err, IfOk, refl, sym, subst, normal_limit, Vector, IsParallel, IsAtMost, IsNormal, dot, vector_of, Dir, by_side, IsAt, Map, Item, items, item_normal, item_mark, item_pos, item_neg, OnItem, MapLabel, on_item, NearLabel, on-level, is-at_one, near-item, Op, Star, op_label, IsStar, SphereMap, map_of, IsSphereMap, CrossedItems, IsCrossedAt, CrossesAt, AreCircleLabelsOf, IsMergedAt}
use Rattle.nef_space.specs.Signs.{sign}
use Rattle.nef_star.specs.declared.rounds.CircleLabels.{CircleLabels}
use Rattle.nef_star.specs.Lines.{IsOnAxis, circle_label, IsCrossed}

-- the items that are named cross
pub crossed-at : (A B : Map) (o : CrossedItems) (n : ℕ × ℕ) (d : Vector) → o ≡ Some n → CrossesAt A B o d → IsCrossedAt A B n.0 n.1 d
crossed-at A B o n d e h = subst (λ (p : CrossedItems). CrossesAt A B p d) e h

-- l is item i of the map, on which d lies
module _ (m : SphereMap) (S : IsSphereMap m) (i : ℕ) (x : Item) (a : IsAt (items (map_of m)) i x) (d : Dir) (o : OnItem (map_of m) x (vector_of d)) (l : CircleLabels) (L : AreCircleLabelsOf x l) where
  pub item-line : IsOnAxis (vector_of d) l
  item-line = record {
    level = subst (λ (v : Vector). dot v (vector_of d) ≡ pos 0) (sym L.normal) (on-level (map_of m) x (vector_of d) o);
    small = subst (IsAtMost normal_limit) (sym L.normal) (S.small.normals i x a);
    normal = subst IsNormal (sym L.normal) (S.valid.shaped.normals i x a);
  }

  pub line-mark : MapLabel (map_of m) (vector_of d) l.mark
  line-mark = on_item i x a o (sym L.mark)

  side-is : (e : Vector) → by_side (item_pos x) (item_mark x) (item_neg x) (sign (dot (item_normal x) e)) ≡ circle_label l e
  side-is e = rw (← L.normal, ← L.mark, ← L.pos, ← L.neg) refl

  pub line-near : (e : Vector) → NearLabel (map_of m) (vector_of d) e (circle_label l e)
  line-near e = subst (NearLabel (map_of m) (vector_of d) e) (side-is e) (near-item (map_of m) S.valid (vector_of d) i x a o e)

-- a line of the item with this number
pub line-at : (M : Map) (i : ℕ) (x : Item) (l : CircleLabels) → IsAt (items M) i x → (y : Item) × IsAt (items M) i y × AreCircleLabelsOf y l → AreCircleLabelsOf x l
line-at M i x l a (y, b, L) = subst (λ (z : Item). AreCircleLabelsOf z l) (is-at_one (items M) i y x b a) L

module _ (m n : SphereMap) (S : IsSphereMap m) (T : IsSphereMap n) (op : Op) (i k : ℕ) (d : Dir) (C : IsCrossedAt (map_of m) (map_of n) i k (vector_of d)) (x y : CircleLabels) (X : AreCircleLabelsOf C.x x) (Y : AreCircleLabelsOf C.y y) where
  pub lines-apart : IsParallel (vector_of x.normal) (vector_of y.normal) → ⊥
  lines-apart p = C.apart (subst (λ (v : Vector). IsParallel (item_normal C.x) v) Y.normal (subst (λ (v : Vector). IsParallel v (vector_of y.normal)) X.normal p))

  pub crossed-merged : (t : Star) → IsStar t → t.axis ≡ d → t.mark ≡ op_label op x.mark y.mark → IsCrossed op d x y t → IsMergedAt (map_of m) (map_of n) (op_label op) d t
  crossed-merged t star axis mark labels = record {
    star = star;
    axis = axis;
    mark = (x.mark, y.mark, line-mark m S i C.x C.of_a d C.on_x x X, line-mark n T k C.y C.of_b d C.on_y y Y, sym mark);
    labels = λ e l off q. (circle_label x e, circle_label y e, line-near m S i C.x C.of_a d C.on_x x X e, line-near n T k C.y C.of_b d C.on_y y Y e, sym (labels e l off q));
  }

  pub crossed-ok : {E : Type 0} (r : Result Star E) → IfOk r IsStar → IfOk r (λ t. t.axis ≡ d) → IfOk r (λ t. t.mark ≡ op_label op x.mark y.mark) → IfOk r (IsCrossed op d x y) → IfOk r (IsMergedAt (map_of m) (map_of n) (op_label op) d)
  crossed-ok (Ok t) star axis mark labels = crossed-merged t star axis mark labels
  crossed-ok (Err e) star axis mark labels = tt
