-- A map with In and Not exchanged everywhere: its parts are those of the map.
use Rattle.law_geometry.proofs.sphere.border.Prelude.{◌≡◌, ℕ, zero, suc, refl, ap, sym, ◌⊎◌, List, ◌∷◌, subst, map, Option, Some, None, [], option_map, Vector, IsDirection, SameDirection, IsNormal, Label, IsPrimitive, VectorBelow, IsStrictlyOn, IsAt, MapVertex, Arc, MapSloop, Map, Item, arc_item, sloop_item, items, items_then, item_normal, item_pos, item_mark, item_neg, dir_of, OnItem, IsFree, HasArc, ArcBetween, Shaped, ArcBelow, Ordered, exchanged, exchanged_svertex, exchanged_arc, exchanged_sloop, exchanged_map, is-at_map, map-is_at, map-empty, is-at_none, is-at_first}
use Rattle.law_geometry.proofs.sphere.border.Listed.{option-was, none-was}

pub twice : (l : Label) → exchanged (exchanged l) ≡ l
twice Label.Out = refl
twice Label.Not = refl
twice Label.In = refl

abbrev pub exchanged_item : Item → Item
exchanged_item (arc_item a) = arc_item (exchanged_arc a)
exchanged_item (sloop_item l) = sloop_item (exchanged_sloop l)

pub item-same : (x : Item) → (item_normal (exchanged_item x) ≡ item_normal x) × (item_pos (exchanged_item x) ≡ exchanged (item_pos x)) × (item_mark (exchanged_item x) ≡ exchanged (item_mark x)) × (item_neg (exchanged_item x) ≡ exchanged (item_neg x))
item-same (arc_item a) = (refl, refl, refl, refl)
item-same (sloop_item l) = (refl, refl, refl, refl)

-- ---- lists and options
items-was : (as' : List Arc) (o : Option MapSloop) (i : ℕ) (y : Item) → IsAt (items_then (map exchanged_arc as') (option_map exchanged_sloop o)) i y → (x : Item) × IsAt (items_then as' o) i x × (exchanged_item x ≡ y)
items-was [] None i y a = absurd (is-at_none a)
items-was [] (Some l) zero y e = (sloop_item l, refl, is-at_first e)
items-was [] (Some l) (suc i) y a = absurd (is-at_none a)
items-was (r ∷ as') o zero y e = (arc_item r, refl, is-at_first e)
items-was (r ∷ as') o (suc i) y a = items-was as' o i y a

items-are : (as' : List Arc) (o : Option MapSloop) (i : ℕ) (x : Item) → IsAt (items_then as' o) i x → IsAt (items_then (map exchanged_arc as') (option_map exchanged_sloop o)) i (exchanged_item x)
items-are [] None i x a = absurd (is-at_none a)
items-are [] (Some l) zero x e = ap (option_map exchanged_item) e
items-are [] (Some l) (suc i) x a = absurd (is-at_none a)
items-are (r ∷ as') o zero x e = ap (option_map exchanged_item) e
items-are (r ∷ as') o (suc i) x a = items-are as' o i x a

pub way-same : (vs : List MapVertex) (k : ℕ) → dir_of (map exchanged_svertex vs) k ≡ dir_of vs k
way-same [] k = refl
way-same (v ∷ vs) zero = refl
way-same (v ∷ vs) (suc k) = way-same vs k

module _ (M : Map) where
  abbrev N : Map
  N = exchanged_map M

  pub svertex-was : (k : ℕ) (u : MapVertex) → IsAt N.svertices k u → (v : MapVertex) × IsAt M.svertices k v × (exchanged_svertex v ≡ u)
  svertex-was k u a = is-at_map exchanged_svertex M.svertices k u a

  pub arc-was : (k : ℕ) (b : Arc) → IsAt N.arcs k b → (a : Arc) × IsAt M.arcs k a × (exchanged_arc a ≡ b)
  arc-was k b h = is-at_map exchanged_arc M.arcs k b h

  pub item-was : (i : ℕ) (y : Item) → IsAt (items N) i y → (x : Item) × IsAt (items M) i x × (exchanged_item x ≡ y)
  item-was i y a = items-was M.arcs M.sloop i y a

  pub item-is : (i : ℕ) (x : Item) → IsAt (items M) i x → IsAt (items N) i (exchanged_item x)
  item-is i x a = items-are M.arcs M.sloop i x a

  pub ground-was : (m : Label) → N.ground ≡ Some m → (l : Label) × (M.ground ≡ Some l) × (exchanged l ≡ m)
  ground-was m e = option-was exchanged M.ground m e

  pub around-was : (v : MapVertex) (m : Label) → option_map exchanged v.around ≡ Some m → (l : Label) × (v.around ≡ Some l) × (exchanged l ≡ m)
  around-was v m e = option-was exchanged v.around m e

  pub on-was : (x : Item) (d : Vector) → OnItem N (exchanged_item x) d → OnItem M x d
  on-was (sloop_item l) d o = o
  on-was (arc_item a) d o = subst (λ (w : Vector). IsStrictlyOn a.normal (dir_of M.svertices a.source) w d) (way-same M.svertices a.target)
      (subst (λ (w : Vector). IsStrictlyOn a.normal w (dir_of N.svertices a.target) d) (way-same M.svertices a.source) o)

  pub on-is : (x : Item) (d : Vector) → OnItem M x d → OnItem N (exchanged_item x) d
  on-is (sloop_item l) d o = o
  on-is (arc_item a) d o = subst (λ (w : Vector). IsStrictlyOn a.normal (dir_of N.svertices a.source) w d) (sym (way-same M.svertices a.target))
      (subst (λ (w : Vector). IsStrictlyOn a.normal w (dir_of M.svertices a.target) d) (sym (way-same M.svertices a.source)) o)

  pub free-was : (d : Vector) → IsFree N d → IsFree M d
  free-was d F = record {
    direction = F.direction;
    off_svertices = λ k v a w. F.off_svertices k (exchanged_svertex v) (map-is_at exchanged_svertex M.svertices k v a) w;
    off_items = λ i x a o. F.off_items i (exchanged_item x) (item-is i x a) (on-is x d o);
  }

  has-arc_was : (k : ℕ) → HasArc N k → HasArc M k
  has-arc_was k (i, b, h, e) = let a = arc-was i b h in (i, a.0, a.1, subst (λ (r : Arc). (r.source ≡ k) ⊎ (r.target ≡ k)) (sym a.2) e)

  has-arc_is : (k : ℕ) → HasArc M k → HasArc N k
  has-arc_is k (i, a, h, e) = (i, exchanged_arc a, map-is_at exchanged_arc M.arcs i a h, e)

  module _ (V : Shaped M) where
    svertex-of : (P : MapVertex → Type 0) (k : ℕ) (u : MapVertex) → IsAt N.svertices k u → ((v : MapVertex) → IsAt M.svertices k v → P (exchanged_svertex v)) → P u
    svertex-of P k u a f = let v = svertex-was k u a in subst P v.2 (f v.0 v.1)

    item-of : (P : Item → Type 0) (i : ℕ) (y : Item) → IsAt (items N) i y → ((x : Item) → IsAt (items M) i x → P (exchanged_item x)) → P y
    item-of P i y a f = let x = item-was i y a in subst P x.2 (f x.0 x.1)

    between : (k : ℕ) (a : Arc) → IsAt M.arcs k a → ArcBetween N (exchanged_arc a)
    between k a h = let b = V.arcs_between k a h in record {
      source = exchanged_svertex b.source;
      target = exchanged_svertex b.target;
      has_source = map-is_at exchanged_svertex M.svertices a.source b.source b.has_source;
      has_target = map-is_at exchanged_svertex M.svertices a.target b.target b.has_target;
      level_source = b.level_source;
      level_target = b.level_target;
    }

    pub exchanged-shaped : Shaped N
    exchanged-shaped = record {
      svertex_dirs = λ k u a. svertex-of (λ z. IsDirection z.dir) k u a (λ v b. V.svertex_dirs k v b);
      svertices_apart = λ i k u w a b. svertex-of (λ z. SameDirection z.dir w.dir → i ≡ k) i u a (λ v h. svertex-of (λ z. SameDirection v.dir z.dir → i ≡ k) k w b (λ x g. V.svertices_apart i k v x h g));
      normals = λ i y a. item-of (λ z. IsNormal (item_normal z)) i y a (λ x b. subst IsNormal (sym (item-same x).0) (V.normals i x b));
      arcs_between = λ k b h. let a = arc-was k b h in subst (ArcBetween N) a.2 (between k a.0 a.1);
      no_svertex_on_item = λ i k u y a b. svertex-of (λ z. OnItem N y z.dir → ⊥) i u a (λ v h. item-of (λ z. OnItem N z v.dir → ⊥) k y b (λ x g o. V.no_svertex_on_item i k v x h g (on-was x v.dir o)));
      no_items_meet = λ i k y z d a b. item-of (λ r. OnItem N r d → OnItem N z d → i ≡ k) i y a (λ x h. item-of (λ r. OnItem N (exchanged_item x) d → OnItem N r d → i ≡ k) k z b (λ w g o p. V.no_items_meet i k x w d h g (on-was x d o) (on-was w d p)));
      around_lone = λ k u a n. svertex-of (λ z. (m : Label) × (z.around ≡ Some m)) k u a (λ v h. let r = V.around_lone k v h (λ x. n (has-arc_is k x)) in (exchanged r.0, ap (option_map exchanged) r.1));
      around_not = λ k u a x. svertex-of (λ z. z.around ≡ None) k u a (λ v h. ap (option_map exchanged) (V.around_not k v h (has-arc_was k x)));
      ground_alone = λ z e. let r = V.ground_alone (map-empty exchanged_svertex M.svertices z) (none-was exchanged_sloop M.sloop e) in (exchanged r.0, ap (option_map exchanged) r.1);
      ground_not = λ m e. let l = ground-was m e in let g = V.ground_not l.0 l.1 in (ap (map exchanged_svertex) g.0, ap (option_map exchanged_sloop) g.1);
    }

  pub exchanged-ordered : Ordered M → Ordered N
  exchanged-ordered O = record {
    dirs_lowest = λ k u a. let v = svertex-was k u a in subst (λ (z : MapVertex). IsPrimitive z.dir) v.2 (O.dirs_lowest k v.0 v.1);
    normals_lowest = λ i y a. let x = item-was i y a in subst (λ (z : Item). IsPrimitive (item_normal z)) x.2 (subst IsPrimitive (sym (item-same x.0).0) (O.normals_lowest i x.0 x.1));
    svertices = λ i k u w l a b. let v = svertex-was i u a in let x = svertex-was k w b in
        subst (λ (z : MapVertex). VectorBelow z.dir w.dir) v.2 (subst (λ (z : MapVertex). VectorBelow v.0.dir z.dir) x.2 (O.svertices i k v.0 x.0 l v.1 x.1));
    arcs = λ i k b c l a h. let r = arc-was i b a in let s = arc-was k c h in subst (λ (z : Arc). ArcBelow z c) r.2 (subst (ArcBelow (exchanged_arc r.0)) s.2 (O.arcs i k r.0 s.0 l r.1 s.1));
  }
