-- The mark that a map gets, from the labels that the map lists.
use Rattle.law_geometry.proofs.sphere.border.Prelude.{◌≡◌, ℕ, zero, suc, pos, ◌<ℤ◌, arith, refl, ap, sym, ◌∙◌, ◌⊎◌, inl, inr, ⊎_elim, List, ◌∷◌, ◌++◌, subst, Option, Some, None, [], ints, Lies, lies-left, lies-right, lies-append, sign, sign-plus, sign-minus, Vector, IsDirection, dot, blend, opposite, Label, IsAt, MapVertex, MapSloop, Map, Item, arc_item, sloop_item, items, item_normal, item_pos, item_mark, item_neg, OnItem, Side, around_svertex, pos_item, neg_item, whole, HasSide, MapLabel, at_svertex, on_item, seen, Valid, gather, axis_x, by_side, Full, normal-is, gather-has, circle-point, arc-at, label-exists, label-unique, label-direction, near-item, near-lone, at-sloop, sloop-at, at-arc, not-both, only-ground, Topology, MarkLabel, label_from, option_labels, svertex_labels, arc_labels, sloop_labels, map_labels, TopologyMark, zero-decided, self-pos, dir-self, apart, dot-opposite}
use Rattle.law_geometry.proofs.sphere.Shot.{item-point}
use Rattle.law_geometry.proofs.sphere.border.Made.{made}

lies-gather : {A B : Type 0} (f : A → List B) (xs : List A) (y : B) → Lies (gather f xs) y → (k : ℕ) × (x : A) × IsAt xs k x × Lies (f x) y
lies-gather f [] y l = absurd l
lies-gather f (x ∷ xs) y l = ⊎_elim (λ m. (zero, x, refl, m)) (λ m. let r = lies-gather f xs y m in (suc r.0, r.1, r.2, r.3)) (lies-append (f x) (gather f xs) y l)

lies-option : (o : Option Label) (l : Label) → Lies (option_labels o) l → o ≡ Some l
lies-option None l a = absurd a
lies-option (Some m) l (inl e) = ap (λ (r : Label). Some r) e
lies-option (Some m) l (inr a) = absurd a

option-lies : (o : Option Label) (l : Label) → o ≡ Some l → Lies (option_labels o) l
option-lies o l e = subst (λ (r : Option Label). Lies (option_labels r) l) (sym e) (inl refl)

lies-sloop : (o : Option MapSloop) (l : Label) → Lies (sloop_labels o) l → (c : MapSloop) × (o ≡ Some c) × Lies (c.pos ∷ c.mark ∷ c.neg ∷ []) l
lies-sloop None l a = absurd a
lies-sloop (Some c) l a = (c, refl, a)

sloop-lies : (o : Option MapSloop) (c : MapSloop) (l : Label) → o ≡ Some c → Lies (c.pos ∷ c.mark ∷ c.neg ∷ []) l → Lies (sloop_labels o) l
sloop-lies o c l e a = subst (λ (r : Option MapSloop). Lies (sloop_labels r) l) (sym e) a

-- the labels of an item
abbrev item_labels : Item → List Label
item_labels x = item_pos x ∷ item_mark x ∷ item_neg x ∷ []

module _ (M : Map) (V : Valid M) where
  -- ---- each label of a direction is listed
  abbrev later : List Label
  later = gather arc_labels M.arcs ++ (sloop_labels M.sloop ++ option_labels M.ground)

  svertex-listed : (k : ℕ) (v : MapVertex) (l : Label) → IsAt M.svertices k v → Lies (svertex_labels v) l → Lies (map_labels M) l
  svertex-listed k v l a m = lies-left (gather svertex_labels M.svertices) later l (gather-has svertex_labels M.svertices k v l a m)

  item-listed : (i : ℕ) (x : Item) (l : Label) → IsAt (items M) i x → Lies (item_labels x) l → Lies (map_labels M) l
  item-listed i (arc_item r) l a m = lies-right (gather svertex_labels M.svertices) later l (lies-left (gather arc_labels M.arcs) (sloop_labels M.sloop ++ option_labels M.ground) l (gather-has arc_labels M.arcs i r l (arc-at M.arcs M.sloop i r a) m))
  item-listed i (sloop_item c) l a m = lies-right (gather svertex_labels M.svertices) later l (lies-right (gather arc_labels M.arcs) (sloop_labels M.sloop ++ option_labels M.ground) l
      (lies-left (sloop_labels M.sloop) (option_labels M.ground) l (sloop-lies M.sloop c l (sloop-at M.arcs M.sloop i c a) m)))

  ground-listed : (l : Label) → M.ground ≡ Some l → Lies (map_labels M) l
  ground-listed l e = lies-right (gather svertex_labels M.svertices) later l (lies-right (gather arc_labels M.arcs) (sloop_labels M.sloop ++ option_labels M.ground) l (lies-right (sloop_labels M.sloop) (option_labels M.ground) l (option-lies M.ground l e)))

  label-listed : (d : Vector) (l : Label) → MapLabel M d l → Lies (map_labels M) l
  label-listed d l (at_svertex k v a w e) = svertex-listed k v l a (inl e)
  label-listed d l (on_item i x a o e) = item-listed i x l a (inr (inl e))
  label-listed d l (seen s) = by s.side s.has
    where
      by : (o : Side) → HasSide M o l → Lies (map_labels M) l
      by (around_svertex k) (v, a, e) = svertex-listed k v l a (inr (option-lies v.around l e))
      by (pos_item i) (x, a, e) = item-listed i x l a (inl e)
      by (neg_item i) (x, a, e) = item-listed i x l a (inr (inr (inl e)))
      by whole e = ground-listed l e

  -- ---- each listed label is a direction's
  svertex-found : (k : ℕ) (v : MapVertex) (l : Label) → IsAt M.svertices k v → Lies (svertex_labels v) l → (d : Vector) × MapLabel M d l
  svertex-found k v l a (inl e) = (v.dir, at_svertex k v a (dir-self v.dir (V.shaped.svertex_dirs k v a)) e)
  svertex-found k v l a (inr m) =
      let h = V.shaped.svertex_dirs k v a in
      let y = circle-point v.dir h in
      let o = y.1 in
      let r = lies-option v.around l m in
      let n = near-lone M V k v a (λ x. not-both v.around l (V.shaped.around_not k v a x) r) l r y.0 (apart v.dir v.dir y.0 (λ z. let p = self-pos v.dir h in omega (arith, ints)) o.level o.direction) in
      (blend n.0 v.dir 1 y.0, n.1 n.0 (omega arith))

  item-found : (i : ℕ) (x : Item) (l : Label) → IsAt (items M) i x → Lies (item_labels x) l → (d : Vector) × MapLabel M d l
  item-found i x l a m = by (item-point M V.shaped i x a) m
    where
      beside : (y : Vector) → OnItem M x y → (e : Vector) → by_side (item_pos x) (item_mark x) (item_neg x) (sign (dot (item_normal x) e)) ≡ l → (d : Vector) × MapLabel M d l
      beside y o e q = let n = near-item M V y i x a o e in (blend n.0 y 1 e, subst (MapLabel M (blend n.0 y 1 e)) q (n.1 n.0 (omega arith)))

      up : pos 0 <ℤ dot (item_normal x) (item_normal x)
      up = self-pos (item_normal x) (normal-is V.shaped i x a)

      down : dot (item_normal x) (opposite (item_normal x)) <ℤ pos 0
      down = let e = dot-opposite (item_normal x) (item_normal x) in let h = up in omega (arith, ints)

      by : (y : Vector) × OnItem M x y → Lies (item_labels x) l → (d : Vector) × MapLabel M d l
      by (y, o) (inl e) = beside y o (item_normal x) (ap (by_side (item_pos x) (item_mark x) (item_neg x)) (sign-plus (dot (item_normal x) (item_normal x)) up) ∙ e)
      by (y, o) (inr (inl e)) = (y, on_item i x a o e)
      by (y, o) (inr (inr (inl e))) = beside y o (opposite (item_normal x)) (ap (by_side (item_pos x) (item_mark x) (item_neg x)) (sign-minus (dot (item_normal x) (opposite (item_normal x))) down) ∙ e)
      by (y, o) (inr (inr (inr e))) = absurd e

  ground-found : (l : Label) → M.ground ≡ Some l → (d : Vector) × MapLabel M d l
  ground-found l e =
      let g = V.shaped.ground_not l e in
      let h : IsDirection axis_x = λ z. let x = z.0 in omega (arith, ints) in
      let a = label-exists M V axis_x h in
      (axis_x, subst (MapLabel M axis_x) (only-ground M V.shaped g.0 g.1 l e axis_x a.0 a.1) a.1)

  label-found : (l : Label) → Lies (map_labels M) l → (d : Vector) × MapLabel M d l
  label-found l m = ⊎_elim
      (λ x. let r = lies-gather svertex_labels M.svertices l x in svertex-found r.0 r.1 l r.2 r.3)
      (λ x. ⊎_elim
      (λ y. let r = lies-gather arc_labels M.arcs l y in item-found r.0 (arc_item r.1) l (at-arc M.arcs M.sloop r.0 r.1 r.2) r.3)
      (λ y. ⊎_elim
      (λ z. let c = lies-sloop M.sloop l z in let i = at-sloop M.arcs M.sloop c.0 c.1 in item-found i.0 (sloop_item c.0) l i.1 c.2)
      (λ z. ground-found l (lies-option M.ground l z))
      (lies-append (sloop_labels M.sloop) (option_labels M.ground) l y))
      (lies-append (gather arc_labels M.arcs) (sloop_labels M.sloop ++ option_labels M.ground) l x))
      (lies-append (gather svertex_labels M.svertices) later l m)

  full-one : (e : Vector) (k l : Label) → Full M e k → Full M e l → k ≡ l
  full-one e k l (inl a) (inl b) = sym a.1 ∙ b.1
  full-one e k l (inl a) (inr b) = absurd (label-direction M e l b a.0)
  full-one e k l (inr a) (inl b) = absurd (label-direction M e k a b.0)
  full-one e k l (inr a) (inr b) = label-unique M V e k l a b

  pub mark-made : (k : Topology) → MarkLabel k M (label_from k M.mark (map_labels M))
  mark-made k = made (λ l. M.mark ≡ l) (Full M) (λ x y a b. sym a ∙ b) full-one M.mark (map_labels M) refl exists (λ l m. let r = label-found l m in (r.0, inr r.1)) k
    where
      exists : (e : Vector) → (l : Label) × Full M e l × ((M.mark ≡ l) ⊎ Lies (map_labels M) l)
      exists e = ⊎_elim
          (λ z. (M.mark, inl (z, refl), inl refl))
          (λ h. let a = label-exists M V e h in (a.0, inr a.1, inr (label-listed e a.0 a.1)))
          (zero-decided e)

pub topology-mark : TopologyMark
topology-mark k M V = mark-made M V k
