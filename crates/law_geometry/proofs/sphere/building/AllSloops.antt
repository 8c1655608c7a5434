-- A circle of overlaid stars without an axis, on which op of two maps is straight, is the lone circle.
use Rattle.law_geometry.proofs.sphere.building.Prelude.{◌≡◌, ℕ, pos, refl, sym, ◌∙◌, ◌⊎◌, inl, inr, ⊎_elim, ◌∷◌, ◌++◌, subst, Option, Some, None, [], ring, at, num, ◌⊕◌, ◌⊖◌, ◌⊗◌, Vector, IsDirection, cross, dot, IsZero, SameDirection, IsNormal, Label, lies-left, IsOnCircle, IsAt, MapSloop, Map, Item, sloop_item, items, item_normal, OnItem, IsFree, Valid, forms, Labelling, StraightAt, ByOp, Proper, normal-direction, PlaceOf, svertex_place, item_place, free_place, place_of, axes-forms, on-level, normals-same, at-sloop, level-same, op-labelling, planes-parallel, RawMap, Of, IsBare, IsAxis, IsLoneSloop, Raw, zero-decided, cross-turned, SameDirection-turned, SameDirection-trans, dir-self, is-at_first}
use Rattle.law_geometry.proofs.sphere.building.SideLabels.{SidesAt, free-sides, item-sides, sides-at, joined-sides, free-joined}
use Rattle.law_geometry.proofs.sphere.building.Merged.{is-of, straight-of, straight-two, off-second, one-plane, bare-off_axes}
use Rattle.law_geometry.proofs.sphere.building.LoneSloops.{item-sloop, merged-sloop, no-sloop, lone-normal}
use Rattle.std.proofs.lemmas.Option.{same_Some}

-- the direction in which two planes meet
meet-level : (n m : Vector) → (dot n (cross n m) ≡ pos 0) × (dot m (cross n m) ≡ pos 0)
meet-level n m =
    let xs = n.x ∷ n.y ∷ n.z ∷ m.x ∷ m.y ∷ m.z ∷ [] in
    let cx = at 1 ⊗ at 5 ⊖ at 2 ⊗ at 4 in let cy = at 2 ⊗ at 3 ⊖ at 0 ⊗ at 5 in let cz = at 0 ⊗ at 4 ⊖ at 1 ⊗ at 3 in
    (ring xs (at 0 ⊗ cx ⊕ at 1 ⊗ cy ⊕ at 2 ⊗ cz) (num (pos 0)) tt, ring xs (at 3 ⊗ cx ⊕ at 4 ⊗ cy ⊕ at 5 ⊗ cz) (num (pos 0)) tt)

module _ (A B : Map) (op : Label → Label → Label) (R : RawMap) (L : Vector → Label) (V : Valid A) (W : Valid B) (raw : Raw R A B op)
    (labels : (d : Vector) → IsDirection d → ByOp A B op d (L d)) where
  -- two lone sloops have one circle
  lone-across : (l c : MapSloop) → IsLoneSloop A B l → A.sloop ≡ Some l → B.sloop ≡ Some c → IsZero (cross l.normal c.normal)
  lone-across l c (x, off) e f = ⊎_elim (λ z. z) by (zero-decided (cross l.normal c.normal))
    where
      by : IsDirection (cross l.normal c.normal) → IsZero (cross l.normal c.normal)
      by h =
          let d = cross l.normal c.normal in
          let z = meet-level l.normal c.normal in
          let o : IsOnCircle l.normal d = record { direction = h; level = z.0 } in
          let i = at-sloop A.arcs A.sloop l e in
          let j = at-sloop B.arcs B.sloop c f in
          one-plane A B op R L V W raw labels d h (off d o) i.0 j.0 (sloop_item l) (sloop_item c) i.1 j.1 o (record { direction = h; level = z.1 })

  lone-parallel : (l c : MapSloop) → IsLoneSloop A B l → IsLoneSloop A B c → IsZero (cross l.normal c.normal)
  lone-parallel l c p q = by p.0 q.0
    where
      own : l ≡ c → IsZero (cross l.normal c.normal)
      own e = subst (λ (r : MapSloop). IsZero (cross l.normal r.normal)) e (let w = dir-self l.normal (normal-direction l.normal (lone-normal A B op R L V W raw labels l p)) in w.parallel)

      by : (A.sloop ≡ Some l) ⊎ (B.sloop ≡ Some l) → (A.sloop ≡ Some c) ⊎ (B.sloop ≡ Some c) → IsZero (cross l.normal c.normal)
      by (inl e) (inl f) = own (same_Some l c (sym e ∙ f))
      by (inr e) (inr f) = own (same_Some l c (sym e ∙ f))
      by (inl e) (inr f) = lone-across l c p e f
      by (inr e) (inl f) = cross-turned c.normal l.normal (lone-across c l q f e)

  lone-same_way : (l c : MapSloop) → IsLoneSloop A B l → IsLoneSloop A B c → SameDirection l.normal c.normal
  lone-same_way l c p q = normals-same l.normal c.normal (lone-normal A B op R L V W raw labels l p) (lone-normal A B op R L V W raw labels c q) (lone-parallel l c p q)

  of-labels : Labelling (forms A ++ forms B) (Of L)
  of-labels = let N = op-labelling A B op V W in record {
    exists = λ d h. (L d, refl);
    one = λ d m n h a b. sym a ∙ b;
    cells = λ d e m hd he s x. is-of A B op R L V W raw labels e m (N.cells d e m hd he s (subst (ByOp A B op d) x (labels d hd)));
  }

  -- ---- a straight direction on a circle that no axis lies on
  module _ (n y : Vector) (a m b : Label) (hn : IsNormal n) (bare : IsBare R.stars n) (o : IsOnCircle n y) (proper : Proper a m b) (p : StraightAt (Of L) n a m b y) where
    off : (d : Vector) → IsOnCircle n d → IsAxis A B d → ⊥
    off d c = bare-off_axes A B op R L V W raw labels n d (normal-direction n hn) bare c

    -- the plane of an item that meets the circle is the circle's
    parallel : (u : Vector) → IsNormal u → dot u y ≡ pos 0 → SidesAt A u y → SidesAt B u y → SameDirection n u
    parallel u hu z s t = normals-same n u hn hu
        (planes-parallel (forms A ++ forms B) (Of L) of-labels (λ g l. lies-left (forms A) (forms B) g (axes-forms A g l)) n a m b proper (normal-direction n hn) u
        (op s.pos t.pos) (op s.label t.label) (op s.neg t.neg) y o.direction p
        (straight-of A B op R L V W raw labels u (op s.pos t.pos) (op s.label t.label) (op s.neg t.neg) y (joined-sides A B op u y z s t)))

    -- the lone sloop is the raw map's circle
    is-circle : (l : MapSloop) → (A.sloop ≡ Some l) ⊎ (B.sloop ≡ Some l) → SameDirection n l.normal → (c : MapSloop) × (R.sloop ≡ Some c) × SameDirection n c.normal
    is-circle l x w = by R.sloop refl
      where
        lone : IsLoneSloop A B l
        lone = (x, λ d c. off d (record { direction = c.direction; level = level-same l.normal n d d (SameDirection-turned n l.normal w) (dir-self d c.direction) c.level }))

        by : (q : Option MapSloop) → R.sloop ≡ q → (c : MapSloop) × (R.sloop ≡ Some c) × SameDirection n c.normal
        by None e = absurd (no-sloop A B op R L V W raw labels e l lone)
        by (Some c) e =
            let g = merged-sloop A B op R L V W raw labels c e in
            (c, e, subst (SameDirection n) (sym g.normal) (SameDirection-trans n l.normal g.lone.normal w (lone-same_way l g.lone lone g.is_lone)))

    by-first : (i : ℕ) (x : Item) → IsAt (items A) i x → OnItem A x y → (c : MapSloop) × (R.sloop ≡ Some c) × SameDirection n c.normal
    by-first i x h q =
        let u = V.shaped.normals i x h in
        let k = normal-direction (item_normal x) u in
        let z = on-level A x y q in
        let w = parallel (item_normal x) u z (item-sides A V (item_normal x) y i x h q (dir-self (item_normal x) k))
        (sides-at B W (item_normal x) y o.direction u (off-second A B op R L V W raw labels y o.direction (off y o)) (λ j v r t. one-plane A B op R L V W raw labels y o.direction (off y o) i j x v h r q t)) in
        let r = item-sloop A V.shaped n (λ d c s. off d c (inl s)) i x h w in
        is-circle r.0 (inl r.1) r.2

    by-second : (i : ℕ) (x : Item) → IsAt (items B) i x → OnItem B x y → IsFree A y → (c : MapSloop) × (R.sloop ≡ Some c) × SameDirection n c.normal
    by-second i x h q F =
        let u = W.shaped.normals i x h in
        let k = normal-direction (item_normal x) u in
        let w = parallel (item_normal x) u (on-level B x y q) (free-sides A V (item_normal x) y F) (item-sides B W (item_normal x) y i x h q (dir-self (item_normal x) k)) in
        let r = item-sloop B W.shaped n (λ d c s. off d c (inr (inl s))) i x h w in
        is-circle r.0 (inr r.1) r.2

    pub raw-sloop_all : (c : MapSloop) × (R.sloop ≡ Some c) × SameDirection n c.normal
    raw-sloop_all = by (place_of A y o.direction) (place_of B y o.direction)
      where
        plain : IsFree A y → IsFree B y → ⊥
        plain F G =
            let r = free-joined A B op V W n y o.level F G in
            let e = straight-two A B op R L V W raw labels n a m b r.0 r.0 r.0 y (normal-direction n hn) p (straight-of A B op R L V W raw labels n r.0 r.0 r.0 y r.1) in
            proper (e.0 ∙ sym e.1) (e.2 ∙ sym e.1)

        by : PlaceOf A y → PlaceOf B y → (c : MapSloop) × (R.sloop ≡ Some c) × SameDirection n c.normal
        by (svertex_place k v h w) x = absurd (off y o (inl (k, v, h, w)))
        by (item_place i x h q) r = by-first i x h q
        by (free_place F) (svertex_place k v h w) = absurd (off y o (inr (inl (k, v, h, w))))
        by (free_place F) (item_place i x h q) = by-second i x h q F
        by (free_place F) (free_place G) = absurd (plain F G)
