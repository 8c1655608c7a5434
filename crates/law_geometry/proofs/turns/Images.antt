-- A map whose items are the images of another map's sees what the images see, and has the labels there.
use Rattle.law_geometry.proofs.turns.Prelude.{◌≡◌, ℕ, ℤ, pos, ◌<ℤ◌, neg_ℤ, Bool, true, false, cond, ap, sym, ◌∙◌, subst, arith, ints, sign, Vector, dot, cross, IsDirection, SameDirection, blend, Label, IsAt, MapVertex, Item, Map, items, item_normal, item_pos, item_mark, item_neg, OnItem, IsFree, Side, around_svertex, pos_item, neg_item, whole, HasSide, IsClear, Reaches, Sees, directly, by_way_of, MapLabel, at_svertex, on_item, seen, NearLabel, InOneSface, here, link, by_side, NearPlain, NearStraight, signed}
use Rattle.law_geometry.proofs.turns.Turning.{Turning, direction-there, direction_cross-there, same_direction-there, opposite-there, dot-there}

-- y of N is the image of x of M
pub record ItemImage (f : Vector → Vector) (flip : Bool) (M N : Map) (x y : Item) : Type 0 where
  pub on : (d : Vector) → OnItem M x d → OnItem N y (f d)
  pub normal : item_normal y ≡ signed flip (f (item_normal x))
  pub pos : item_pos y ≡ cond flip (item_neg x) (item_pos x)
  pub mark : item_mark y ≡ item_mark x
  pub neg : item_neg y ≡ cond flip (item_pos x) (item_neg x)

-- all of M has its image in N
pub record Image (f : Vector → Vector) (M N : Map) : Type 0 where
  pub vertex : ℕ → ℕ
  pub item : ℕ → ℕ
  pub flip : ℕ → Bool
  pub svertices : (i : ℕ) (v : MapVertex) → IsAt M.svertices i v → (u : MapVertex) × IsAt N.svertices (vertex i) u × (u.dir ≡ f v.dir) × (u.mark ≡ v.mark) × (u.around ≡ v.around)
  pub items_there : (i : ℕ) (x : Item) → IsAt (items M) i x → (y : Item) × IsAt (items N) (item i) y × ItemImage f (flip i) M N x y
  pub same_ground : N.ground ≡ M.ground

positive-sign : (x y : ℤ) → y ≡ neg_ℤ x → pos 0 <ℤ x → y <ℤ pos 0
positive-sign x y e h = omega (arith, ints, e, h)

negative-sign : (x y : ℤ) → y ≡ neg_ℤ x → x <ℤ pos 0 → pos 0 <ℤ y
negative-sign x y e h = omega (arith, ints, e, h)

-- f and g undo each other, and each map has the other's images
module _ (f g : Vector → Vector) (odd : Bool) (F : Turning f odd) (fg : (d : Vector) → f (g d) ≡ d) (gf : (d : Vector) → g (f d) ≡ d) (M N : Map) (I : Image f M N) (J : Image g N M) where
  pub side_there : Side → Side
  side_there (around_svertex i) = around_svertex (I.vertex i)
  side_there (pos_item i) = cond (I.flip i) (neg_item (I.item i)) (pos_item (I.item i))
  side_there (neg_item i) = cond (I.flip i) (pos_item (I.item i)) (neg_item (I.item i))
  side_there whole = whole

  pos-has : (b : Bool) (j : ℕ) (x y : Item) (m : Label) → IsAt (items N) j y → ItemImage f b M N x y → item_pos x ≡ m → HasSide N (cond b (neg_item j) (pos_item j)) m
  pos-has true j x y m a i e = (y, a, i.neg ∙ e)
  pos-has false j x y m a i e = (y, a, i.pos ∙ e)

  neg-has : (b : Bool) (j : ℕ) (x y : Item) (m : Label) → IsAt (items N) j y → ItemImage f b M N x y → item_neg x ≡ m → HasSide N (cond b (pos_item j) (neg_item j)) m
  neg-has true j x y m a i e = (y, a, i.pos ∙ e)
  neg-has false j x y m a i e = (y, a, i.neg ∙ e)

  pub has-there : (o : Side) (m : Label) → HasSide M o m → HasSide N (side_there o) m
  unfolding side_there
  has-there (around_svertex i) m (v, a, e) = let u = I.svertices i v a in (u.0, u.1, u.4 ∙ e)
  has-there (pos_item i) m (x, a, e) = let y = I.items_there i x a in pos-has (I.flip i) (I.item i) x y.0 m y.1 y.2 e
  has-there (neg_item i) m (x, a, e) = let y = I.items_there i x a in neg-has (I.flip i) (I.item i) x y.0 m y.1 y.2 e
  has-there whole m e = I.same_ground ∙ e

  -- ---- sight
  pub free-there : (d : Vector) → IsFree M d → IsFree N (f d)
  free-there d h = record {
    direction = (direction-there f odd F d).1 h.direction;
    off_svertices = λ k v a s.
        let u = J.svertices k v a in
        h.off_svertices (J.vertex k) u.0 u.1 ((same_direction-there f odd F u.0.dir d).0 (subst (λ (r : Vector). SameDirection r (f d)) (sym (fg v.dir) ∙ ap f (sym u.2)) s));
    off_items = λ k y a on.
        let x = J.items_there k y a in
        h.off_items (J.item k) x.0 x.1 (subst (λ (r : Vector). OnItem M x.0 r) (gf d) (x.2.on (f d) on));
  }

  pub clear-there : (a b : Vector) → IsClear M a b → IsClear N (f a) (f b)
  clear-there a b h = record {
    start = free-there a h.start;
    direction = (direction-there f odd F b).1 h.direction;
    short = λ o. h.short ((opposite-there f odd F a b).0 o);
    between = λ i j some some'. subst (λ (r : Vector). IsFree N r) (sym (F.blends i a j b)) (free-there (blend i a j b) (h.between i j some some'));
  }

  pos-reaches : (b : Bool) (j : ℕ) (x y : Item) (a d : Vector) → IsAt (items N) j y → ItemImage f b M N x y → OnItem M x d → pos 0 <ℤ dot (item_normal x) a → Reaches N (cond b (neg_item j) (pos_item j)) (f a) (f d)
  pos-reaches true j x y a d l i on h = (y, l, i.on d on, positive-sign (dot (item_normal x) a) (dot (item_normal y) (f a)) (ap (λ (r : Vector). dot r (f a)) i.normal ∙ dot-there f odd F true (item_normal x) a) h)
  pos-reaches false j x y a d l i on h = (y, l, i.on d on, subst (λ (r : ℤ). pos 0 <ℤ r) (sym (ap (λ (r : Vector). dot r (f a)) i.normal ∙ dot-there f odd F false (item_normal x) a)) h)

  neg-reaches : (b : Bool) (j : ℕ) (x y : Item) (a d : Vector) → IsAt (items N) j y → ItemImage f b M N x y → OnItem M x d → dot (item_normal x) a <ℤ pos 0 → Reaches N (cond b (pos_item j) (neg_item j)) (f a) (f d)
  neg-reaches true j x y a d l i on h = (y, l, i.on d on, negative-sign (dot (item_normal x) a) (dot (item_normal y) (f a)) (ap (λ (r : Vector). dot r (f a)) i.normal ∙ dot-there f odd F true (item_normal x) a) h)
  neg-reaches false j x y a d l i on h = (y, l, i.on d on, subst (λ (r : ℤ). r <ℤ pos 0) (sym (ap (λ (r : Vector). dot r (f a)) i.normal ∙ dot-there f odd F false (item_normal x) a)) h)

  pub reaches-there : (o : Side) (a d : Vector) → Reaches M o a d → Reaches N (side_there o) (f a) (f d)
  unfolding side_there
  reaches-there (around_svertex i) a d (v, l, s) =
      let u = I.svertices i v l in
      (u.0, u.1, subst (λ (r : Vector). SameDirection r (f d)) (sym u.2) ((same_direction-there f odd F v.dir d).1 s))
  reaches-there (pos_item i) a d (x, l, on, h) = let y = I.items_there i x l in pos-reaches (I.flip i) (I.item i) x y.0 a d y.1 y.2 on h
  reaches-there (neg_item i) a d (x, l, on, h) = let y = I.items_there i x l in neg-reaches (I.flip i) (I.item i) x y.0 a d y.1 y.2 on h
  reaches-there whole a d h = h

  pub sees-there : (o : Side) (d : Vector) → Sees M o d → Sees N (side_there o) (f d)
  sees-there o d (directly y c r) = directly (f y) (clear-there d y c) (reaches-there o d y r)
  sees-there o d (by_way_of c y s t r) = by_way_of (f c) (f y) (clear-there d c s) (clear-there c y t) (reaches-there o c y r)

  -- ---- labels
  pub label-there : (d : Vector) (m : Label) → MapLabel M d m → MapLabel N (f d) m
  label-there d m (at_svertex i v a s e) =
      let u = I.svertices i v a in
      at_svertex (I.vertex i) u.0 u.1 (subst (λ (r : Vector). SameDirection r (f d)) (sym u.2) ((same_direction-there f odd F v.dir d).1 s)) (u.3 ∙ e)
  label-there d m (on_item i x a on e) =
      let y = I.items_there i x a in
      on_item (I.item i) y.0 y.1 (y.2.on d on) (y.2.mark ∙ e)
  label-there d m (seen s) = seen (record { side = side_there s.side; has = has-there s.side m s.has; sees = sees-there s.side d s.sees })

  pub near-there : (d e : Vector) (m : Label) → NearLabel M d e m → NearLabel N (f d) (f e) m
  near-there d e m (n, h) = (n, λ i l. subst (λ (r : Vector). MapLabel N r m) (sym (F.blends i d 1 e)) (label-there (blend i d 1 e) m (h i l)))

  pub face-there : (o p : Side) → InOneSface M o p → InOneSface N (side_there o) (side_there p)
  face-there o p (here q) = here (side_there q)
  face-there o p (link q r s m h (d, a, b) c) =
      link (side_there q) (side_there r) (side_there s) m (has-there r m h) (f d, sees-there q d a, sees-there r d b) (face-there r s c)

  -- what holds near each direction of M holds near its image
  every : (P : Vector → Type 0) → ((d : Vector) → P (f d)) → (e : Vector) → P e
  every P h e = subst P (fg e) (h (g e))

  pub plain-there : (d : Vector) → NearPlain M d → NearPlain N (f d)
  plain-there d h = record {
    label = h.label;
    at_d = label-there d h.label h.at_d;
    near = every (λ (e : Vector). IsDirection (cross (f d) e) → NearLabel N (f d) e h.label) (λ e c. near-there d e h.label (h.near e ((direction_cross-there f odd F d e).0 c)));
  }

  pub straight-there : (d : Vector) → NearStraight M d → NearStraight N (f d)
  straight-there d h = record {
    normal = f h.normal;
    direction = (direction-there f odd F h.normal).1 h.direction;
    level = F.dots h.normal d ∙ h.level;
    pos = h.pos;
    label = h.label;
    neg = h.neg;
    at_d = label-there d h.label h.at_d;
    near = every (λ (e : Vector). IsDirection (cross (f d) e) → NearLabel N (f d) e (by_side h.pos h.label h.neg (sign (dot (f h.normal) e))))
        (λ e c. subst (λ (r : ℤ). NearLabel N (f d) (f e) (by_side h.pos h.label h.neg (sign r))) (sym (F.dots h.normal e)) (near-there d e (by_side h.pos h.label h.neg (sign (dot h.normal e))) (h.near e ((direction_cross-there f odd F d e).0 c))));
  }
