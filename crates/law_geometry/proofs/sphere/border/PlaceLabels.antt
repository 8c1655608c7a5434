-- The label that each direction of a valid map gets: there is one, the signs on the map's forms determine it, and on items and in faces the tables give it.
use Rattle.law_geometry.proofs.sphere.border.Prelude.{◌≡◌, ℕ, ◌+◌, ◌≤◌, pos, ◌<ℤ◌, arith, refl, ap, sym, ◌∙◌, ◌⊎◌, inl, inr, ⊎_elim, List, ◌∷◌, subst, [], ints, Lies, Sign, minus, nought, plus, sign, sign-plus, sign-minus, nought-or, Vector, IsDirection, dot, blend, opposite, Label, IsAt, Map, Item, items, item_normal, item_pos, item_mark, item_neg, OnItem, IsFree, MapLabel, on_item, NearLabel, Valid, SameSigns, forms, by_side, Labelling, normal-is, amount, far-keeps, far-level, axes-forms, same-turned, label-exists, label-unique, label-by_signs, near-exists, near-unique, near-from_far, far-from_near, near-free, near-item, near-same_cell, near-near, directed-by, far_directed-by, map-labels, Topology, TopologyLabel, label_from, face_label, self-pos, dot-opposite}
use Rattle.law_geometry.proofs.near.Representatives.{representative, representative_directions}
use Rattle.law_geometry.proofs.sphere.border.Made.{by-one, made, by-carried, face-table}

-- near d, directions with the same signs have the same signs
near-turned : (gs : List Vector) (d e c : Vector) (k : ℕ) → amount gs e ≤ k → amount gs c ≤ k → SameSigns gs e c → SameSigns gs (blend k d 1 e) (blend k d 1 c)
near-turned gs d e c k h i s g m = ⊎_elim
    (λ z. far-level gs d c k i g z ∙ s g m ∙ sym (far-level gs d e k h g z))
    (λ f. far-keeps gs d c k i g m f ∙ sym (far-keeps gs d e k h g m f)) (nought-or (dot g d))

module _ (M : Map) (V : Valid M) where
  -- ---- near labels
  -- what is near z toward w, and from there toward e
  pub near-onward : (z w e : Vector) (l : Label) (k low : ℕ) → IsDirection z → amount (forms M) w ≤ k → ((i : ℕ) → low ≤ i → NearLabel M z (blend i w 1 e) l) → NearLabel M (blend k z 1 w) e l
  near-onward z w e l k low hz h f =
      near-near (forms M) (MapLabel M) (map-labels M V) (directed-by (forms M) (axes-forms M)) (far_directed-by (forms M) (axes-forms M)) z Label.In Label.Out Label.In (λ x y. cc) z w e k hz h l low f

  near-toward_same : (d e c : Vector) (l : Label) → SameSigns (forms M) e c → NearLabel M d e l → NearLabel M d c l
  near-toward_same d e c l s a =
      let k = amount (forms M) e + amount (forms M) c in
      near-from_far M V d c k (omega arith) l (label-by_signs M V (blend k d 1 e) (blend k d 1 c) (near-turned (forms M) d e c k (omega arith) (omega arith) s) l (far-from_near M V d e k (omega arith) l a))

  near-at_same : (d c e : Vector) (l : Label) → SameSigns (forms M) d c → NearLabel M d e l → NearLabel M c e l
  near-at_same d c e l s a =
      let k = amount (forms M) e in
      near-from_far M V c e k (omega arith) l (label-by_signs M V (blend k d 1 e) (blend k c 1 e) (near-same_cell (forms M) d c e k (omega arith) s) l (far-from_near M V d e k (omega arith) l a))

  -- ---- the tables at a direction
  pub topology-one : (k : Topology) (d : Vector) (l m : Label) → TopologyLabel k M d l → TopologyLabel k M d m → l ≡ m
  topology-one k d = by-one (MapLabel M d) (NearLabel M d) (label-unique M V d) k

  pub made-at : (k : Topology) (d : Vector) (m : Label) (ls : List Label) → MapLabel M d m → ((e : Vector) → (l : Label) × NearLabel M d e l × ((m ≡ l) ⊎ Lies ls l))
      → ((l : Label) → Lies ls l → (e : Vector) × NearLabel M d e l) → TopologyLabel k M d (label_from k m ls)
  made-at k d m ls h e f = made (MapLabel M d) (NearLabel M d) (label-unique M V d) (near-unique M V d) m ls h e f k

  -- one label all about
  pub even-made : (k : Topology) (d : Vector) (m : Label) → MapLabel M d m → ((e : Vector) → NearLabel M d e m) → TopologyLabel k M d (face_label k m)
  even-made k d m h f = subst (TopologyLabel k M d) (face-table k m) (made-at k d m [] h (λ e. (m, f e, inl refl)) (λ l a. absurd a))

  pub free-made : (k : Topology) (d : Vector) (m : Label) → IsFree M d → MapLabel M d m → TopologyLabel k M d (face_label k m)
  free-made k d m F a = even-made k d m a (near-free M V d F m a)

  pub item-made : (k : Topology) (d : Vector) (i : ℕ) (x : Item) → IsAt (items M) i x → OnItem M x d → TopologyLabel k M d (label_from k (item_mark x) (item_pos x ∷ item_neg x ∷ []))
  item-made k d i x a o = made-at k d (item_mark x) (item_pos x ∷ item_neg x ∷ []) (on_item i x a o refl) (λ e. (side (sign (dot n e)), near-item M V d i x a o e, listed (sign (dot n e)))) found
    where
      n : Vector
      n = item_normal x

      side : Sign → Label
      side = by_side (item_pos x) (item_mark x) (item_neg x)

      listed : (s : Sign) → (item_mark x ≡ by_side (item_pos x) (item_mark x) (item_neg x) s) ⊎ Lies (item_pos x ∷ item_neg x ∷ []) (by_side (item_pos x) (item_mark x) (item_neg x) s)
      listed minus = inr (inr (inl refl))
      listed nought = inl refl
      listed plus = inr (inl refl)

      up : pos 0 <ℤ dot (item_normal x) (item_normal x)
      up = self-pos (item_normal x) (normal-is V.shaped i x a)

      down : dot (item_normal x) (opposite (item_normal x)) <ℤ pos 0
      down = let e = dot-opposite (item_normal x) (item_normal x) in let h = up in omega (arith, ints)

      found : (l : Label) → Lies (item_pos x ∷ item_neg x ∷ []) l → (e : Vector) × NearLabel M d e l
      found l (inl e) = (item_normal x, subst (NearLabel M d (item_normal x)) (ap (by_side (item_pos x) (item_mark x) (item_neg x)) (sign-plus (dot (item_normal x) (item_normal x)) up) ∙ e) (near-item M V d i x a o (item_normal x)))
      found l (inr (inl e)) = (opposite (item_normal x), subst (NearLabel M d (opposite (item_normal x))) (ap (by_side (item_pos x) (item_mark x) (item_neg x)) (sign-minus (dot (item_normal x) (opposite (item_normal x))) down) ∙ e) (near-item M V d i x a o (opposite (item_normal x))))
      found l (inr (inr e)) = absurd e

  -- ---- each direction, by finitely many near it
  module _ (d : Vector) (h : IsDirection d) where
    abbrev near-list : List Vector → List Label
    near-list [] = []
    near-list (v ∷ vs) = (near-exists M V d v h).0 ∷ near-list vs

    near-listed : (vs : List Vector) (v : Vector) → Lies vs v → Lies (near-list vs) (near-exists M V d v h).0
    near-listed [] v a = absurd a
    near-listed (u ∷ vs) v (inl e) = inl (ap (λ (r : Vector). (near-exists M V d r h).0) e)
    near-listed (u ∷ vs) v (inr a) = inr (near-listed vs v a)

    near-found : (vs : List Vector) (l : Label) → Lies (near-list vs) l → (e : Vector) × NearLabel M d e l
    near-found [] l a = absurd a
    near-found (u ∷ vs) l (inl e) = (u, subst (NearLabel M d u) e (near-exists M V d u h).1)
    near-found (u ∷ vs) l (inr a) = near-found vs l a

    pub topology-exists : (k : Topology) → (l : Label) × TopologyLabel k M d l
    topology-exists k =
        let m = label-exists M V d h in
        let vs = representative_directions (forms M) in (
          label_from k m.0 (near-list vs),
          made-at k d m.0 (near-list vs) m.1
              (λ e. let r = representative (forms M) e in let n = near-exists M V d r.direction h in
              (n.0, near-toward_same d r.direction e n.0 r.same n.1, inr (near-listed vs r.direction r.listed)))
              (near-found vs),
        )

  pub topology-labels : (k : Topology) → Labelling (forms M) (TopologyLabel k M)
  topology-labels k = record {
    exists = λ d h. topology-exists d h k;
    one = λ d m n h a b. topology-one k d m n a b;
    cells = λ d c m h i s a. by-carried (MapLabel M d) (NearLabel M d) (MapLabel M c) (NearLabel M c) (label-by_signs M V d c s) (label-by_signs M V c d (same-turned (forms M) d c s))
        (λ e l. near-at_same d c e l s) (λ e l. near-at_same c d e l (same-turned (forms M) d c s)) k m a;
  }
