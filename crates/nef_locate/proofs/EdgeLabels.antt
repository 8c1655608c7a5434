-- The labels at the points of an edge, by the arcs at its lower end.
use Rattle.nef_locate.proofs.Prelude.{◌≡◌, ℕ, ◌+◌, ◌≤◌, pos, ◌*ℤ◌, ◌+ℤ◌, ◌<ℤ◌, arith, refl, ap, sym, ◌∙◌, ◌⊎◌, inl, inr, ⊎_elim, ◌↔◌, List, subst, ints, sign, sign-plus, sign-minus, nought-or, Vector, IsDirection, IsNormal, SameDirection, cross, dot, opposite, blend, Label, same-nought, same-off, SameSigns, forms, IsAt, MapVertex, Arc, Map, MapLabel, on_item, arc_item, OnItem, NearLabel, IsFree, Valid, FlatMap, by_side, Least, Ordered, Near, StraightAt, Proper, ArcRay, ray_left, end_left, Unrayed, at-arc, cross-between, amount, far-keeps, far-level, label-unique, label-by_signs, near-from_far, far-from_near, near-direction, near-unique, search_list, near-item, SameDirection-decided, left-on, on-end, dot-comb, decided-both, Of, dot-comm, self-pos, cross-turned, cross-none, opposite-dot, direction-opposite, level-opposite, level-opposite-back, square-cross, nought-if, SameDirection-trans, blend-turned}
use Rattle.law_geometry.proofs.sphere.NearItems.{free-plain}
use Rattle.law_geometry.proofs.sphere.NearSvertex.{same-cross, near-clear}
use Rattle.law_geometry.proofs.sphere.Unique.{eq-decided}
use Rattle.nef_locate.proofs.FlatLabels.{labels_of, label-is, is-label}

-- where K, k, j and J are large, J w + (k f + e) has the signs of j (K w + f) + e: those of w, of f where these are nought, and then those of e
pub two-steps : (gs : List Vector) (w f e : Vector) (K k j J : ℕ) → amount gs f ≤ K → amount gs e ≤ k → amount gs e ≤ j → amount gs (blend k f 1 e) ≤ J
    → SameSigns gs (blend j (blend K w 1 f) 1 e) (blend J w 1 (blend k f 1 e))
two-steps gs w f e K k j J hK hk hj hJ h l = ⊎_elim level off (nought-or (dot h w))
  where
    first : (dot h w ≡ pos 0 → ⊥) → sign (dot h (blend K w 1 f)) ≡ sign (dot h w)
    first n = far-keeps gs w f K hK h l n

    off : (dot h w ≡ pos 0 → ⊥) → sign (dot h (blend J w 1 (blend k f 1 e))) ≡ sign (dot h (blend j (blend K w 1 f) 1 e))
    off n = far-keeps gs w (blend k f 1 e) J hJ h l n ∙ sym (first n) ∙ sym (far-keeps gs (blend K w 1 f) e j hj h l (same-off (dot h w) (dot h (blend K w 1 f)) (first n) n))

    level : dot h w ≡ pos 0 → sign (dot h (blend J w 1 (blend k f 1 e))) ≡ sign (dot h (blend j (blend K w 1 f) 1 e))
    level z =
        let s = far-level gs w f K hK h z in
        far-level gs w (blend k f 1 e) J hJ h z ∙ ⊎_elim
        (λ y. far-level gs f e k hk h y ∙ sym (far-level gs (blend K w 1 f) e j hj h (same-nought (dot h f) (dot h (blend K w 1 f)) s y)))
        (λ n. far-keeps gs f e k hk h l n ∙ sym s ∙ sym (far-keeps gs (blend K w 1 f) e j hj h l (same-off (dot h f) (dot h (blend K w 1 f)) s n)))
        (nought-or (dot h f))

-- two rays of a svertex with one direction to the left are of one arc
pub one-arc : (V : Map) → Valid V → (k : ℕ) (u : MapVertex) → IsAt V.svertices k u → (q r : ArcRay V k) → ray_left q ≡ ray_left r → q.number ≡ r.number
one-arc V W k u a q r s =
    let f = on-end V W.shaped k u a q in
    let g = on-end V W.shaped k u a r in
    let n = f.0 + g.0 in
    W.shaped.no_items_meet q.number r.number (arc_item q.arc) (arc_item r.arc) (blend n u.dir 1 (cross (ray_left q) u.dir)) (at-arc V.arcs V.sloop q.number q.arc q.listed) (at-arc V.arcs V.sloop r.number r.arc r.listed)
    (f.1 n (omega arith)) (subst (λ (x : Vector). OnItem V (arc_item r.arc) (blend n u.dir 1 (cross x u.dir))) (sym s) (g.1 n (omega arith)))

-- N has the labels that V has close to its svertex with this number, and they stay along that
pub record HasLabelsAlong (V : Map) (k : ℕ) (u : MapVertex) (N : Map) : Type 0 where
  pub valid : Valid V
  pub least : Least V
  pub ordered : Ordered V
  pub listed : IsAt V.svertices k u
  pub along_valid : Valid N
  pub flat : FlatMap N u.dir
  pub same : (d : Vector) (l : Label) → IsDirection d → MapLabel N d l ↔ NearLabel V u.dir d l
  pub own : MapLabel N u.dir u.mark
  pub normal : IsNormal u.dir

module _ (V : Map) (k : ℕ) (u : MapVertex) (N : Map) (A : HasLabelsAlong V k u N) where
  abbrev w : Vector
  w = u.dir

  pub axis : IsDirection w
  axis = A.valid.shaped.svertex_dirs k u A.listed

  abbrev pub L : Vector → Label
  L = labels_of N A.along_valid

  pub to-near : (d : Vector) (l : Label) → IsDirection d → L d ≡ l → NearLabel V w d l
  to-near d l h e = (A.same d l h).0 (subst (MapLabel N d) e (label-is N A.along_valid d h))

  pub from-near : (d : Vector) (l : Label) → IsDirection d → NearLabel V w d l → L d ≡ l
  from-near d l h n = is-label N A.along_valid d l ((A.same d l h).1 n)

  -- ---- close to f the labels are those close to K w + f
  module _ (f : Vector) (hf : IsDirection f) (K : ℕ) (large : amount (forms V) f ≤ K) where
    abbrev aside : Vector
    aside = blend K w 1 f

    pub from-aside : (e : Vector) (l : Label) → NearLabel V aside e l → Near (Of L) f e l
    from-aside e l n = (amount (forms V) e, λ i h. step i h)
      where
        step : (i : ℕ) → amount (forms V) e ≤ i → L (blend i f 1 e) ≡ l
        step i h =
            let g = blend i f 1 e in
            let J = amount (forms V) g in
            from-near g l (near-direction V A.valid f e i h hf)
            (near-from_far V A.valid w g J (omega arith) l (label-by_signs V A.valid (blend i aside 1 e) (blend J w 1 g) (two-steps (forms V) w f e K i i J large h h (omega arith)) l
            (far-from_near V A.valid aside e i h l n)))

    pub to-aside : (e : Vector) (l : Label) → Near (Of L) f e l → NearLabel V aside e l
    to-aside e l (n, t) =
        let i = n + amount (forms V) e in
        let g = blend i f 1 e in
        let J = amount (forms V) g in
        near-from_far V A.valid aside e i (omega arith) l
        (label-by_signs V A.valid (blend J w 1 g) (blend i aside 1 e) (λ h m. sym (two-steps (forms V) w f e K i i J large (omega arith) (omega arith) (omega arith) h m)) l
        (far-from_near V A.valid w g J (omega arith) l (to-near g l (near-direction V A.valid f e i (omega arith) hf) (t i (omega arith)))))

  -- ---- arcs
  -- the direction in which an arc leaves the svertex
  abbrev pub way_of : ArcRay V k → Vector
  way_of q = cross (ray_left q) w

  pub way-direction : (q : ArcRay V k) → IsDirection (way_of q)
  way-direction q z =
      let o = left-on V A.valid.shaped k u A.listed q in
      axis (nought-if (ray_left q) w o.direction z (dot-comm (ray_left q) w ∙ o.level))

  level-by : (q : ArcRay V k) (e : (q.arc.source ≡ k) ⊎ (q.arc.target ≡ k)) (f : Vector) → dot (end_left q.arc e) f ≡ pos 0 → dot q.arc.normal f ≡ pos 0
  level-by q (inl s) f z = z
  level-by q (inr s) f z = level-opposite-back q.arc.normal f z

  pub arc-level : (q : ArcRay V k) → dot q.arc.normal w ≡ pos 0
  arc-level q = let o = left-on V A.valid.shaped k u A.listed q in level-by q q.end w (dot-comm (ray_left q) w ∙ o.level)

  -- along the way of an arc there are its labels
  pub ray-straight : (q : ArcRay V k) → StraightAt (Of L) q.arc.normal q.arc.pos q.arc.mark q.arc.neg (way_of q)
  ray-straight q =
      let f = way_of q in
      let o = on-end V A.valid.shaped k u A.listed q in
      let K = o.0 + amount (forms V) f in
      let x = arc_item q.arc in
      let i = at-arc V.arcs V.sloop q.number q.arc q.listed in
      record {
        level = level-by q q.end f (square-cross (ray_left q) w);
        at_d = from-near f q.arc.mark (way-direction q) (o.0, λ n h. on_item q.number x i (o.1 n h) refl);
        near = λ e. from-aside f (way-direction q) K (omega arith) e _ (near-item V A.valid (blend K w 1 f) q.number x i (o.1 K (omega arith)) e);
      }

  -- ---- where the labels are straight and proper there is an arc
  abbrev HasRay : Vector → Type 0
  HasRay e = (q : ArcRay V k) × SameDirection (ray_left q) (cross w e)

  ray-decided : (e : Vector) → HasRay e ⊎ Unrayed V k w e
  ray-decided e = ⊎_elim
      (λ f. inl (record { number = f.number; arc = f.element; listed = f.listed; end = inl f.holds.0 }, f.holds.1))
      (λ n. ⊎_elim
      (λ f. inl (record { number = f.number; arc = f.element; listed = f.listed; end = inr f.holds.0 }, f.holds.1))
      (λ m. inr (λ q s. by n m q.number q.arc q.listed q.end s))
      (search_list V.arcs (λ i b. (b.target ≡ k) × SameDirection (opposite b.normal) (cross w e)) (λ i b. decided-both (eq-decided b.target k) (SameDirection-decided (opposite b.normal) (cross w e)))))
      (search_list V.arcs (λ i b. (b.source ≡ k) × SameDirection b.normal (cross w e)) (λ i b. decided-both (eq-decided b.source k) (SameDirection-decided b.normal (cross w e))))
    where
      by : ((i : ℕ) (b : Arc) → IsAt V.arcs i b → (b.source ≡ k) × SameDirection b.normal (cross w e) → ⊥)
          → ((i : ℕ) (b : Arc) → IsAt V.arcs i b → (b.target ≡ k) × SameDirection (opposite b.normal) (cross w e) → ⊥)
          → (i : ℕ) (b : Arc) → IsAt V.arcs i b → (t : (b.source ≡ k) ⊎ (b.target ≡ k)) → SameDirection (end_left b t) (cross w e) → ⊥
      by n m i b h (inl s) o = n i b h (s, o)
      by n m i b h (inr s) o = m i b h (s, o)

  module _ (n f : Vector) (a m b : Label) (hn : IsDirection n) (level : dot n w ≡ pos 0) (off : IsDirection (cross w f)) (proper : Proper a m b) (st : StraightAt (Of L) n a m b f) where
    hf : IsDirection f
    hf z = off (cross-none w f z)

    abbrev K : ℕ
    K = amount (forms V) f

    abbrev d : Vector
    d = blend K w 1 f

    level-d : dot n d ≡ pos 0
    level-d = dot-comb n (pos K) w (pos 1) f ∙ ap (λ r. pos K *ℤ r +ℤ pos 1 *ℤ dot n f) level ∙ ap (λ r. pos K *ℤ pos 0 +ℤ pos 1 *ℤ r) st.level ∙ omega (arith, ints)

    free-there : Unrayed V k w f → IsFree V d
    free-there none =
        let s : SameDirection (cross w d) (cross w f) = subst (λ (x : Vector). SameDirection (cross w x) (cross w f)) (blend-turned 1 K f w) (same-cross w f 1 K (omega arith) off) in
        let c = near-clear V A.valid.shaped k u A.listed d (far-keeps (forms V) w f K (omega arith)) (cross-between w f K 1 (omega arith) off)
        (λ q o. none q (SameDirection-trans (ray_left q) (cross w d) (cross w f) o s)) in
        c.start

    -- a free direction has one label all around
    none-free : IsFree V d → ⊥
    none-free F =
        let P = free-plain V A.valid d F in
        let mid : m ≡ P.label = label-unique V A.valid d m P.label (far-from_near V A.valid w f K (omega arith) m (to-near f m hf st.at_d)) P.at_d in
        let high : a ≡ P.label = near-unique V A.valid d n a P.label (to-aside f hf K (omega arith) n a (subst (Near (Of L) f n) (ap (by_side a m b) (sign-plus (dot n n) (self-pos n hn))) (st.near n)))
        (P.near n (λ z. F.direction (nought-if n d hn (cross-turned d n z) level-d))) in
        let low : b ≡ P.label = near-unique V A.valid d (opposite n) b P.label
        (to-aside f hf K (omega arith) (opposite n) b (subst (Near (Of L) f (opposite n)) (ap (by_side a m b) (sign-minus (dot n (opposite n)) behind)) (st.near (opposite n))))
        (P.near (opposite n) (λ z. F.direction (nought-if (opposite n) d (direction-opposite n hn) (cross-turned d (opposite n) z) (level-opposite n d level-d)))) in
        proper (high ∙ sym mid) (low ∙ sym mid)
      where
        behind : dot n (opposite n) <ℤ pos 0
        behind = let e = dot-comm n (opposite n) in let g = opposite-dot n n in let p = self-pos n hn in omega (arith, ints)

    pub arc-there : HasRay f
    arc-there = ⊎_elim (λ r. r) (λ none. absurd (none-free (free-there none))) (ray-decided f)
