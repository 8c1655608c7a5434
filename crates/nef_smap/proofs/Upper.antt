-- The label over the directions close above an item is that of its upper side, where it is so at one of its directions.
use Rattle.nef_smap.proofs.Prelude.{◌≡◌, ℕ, ◌≤◌, pos, ◌+ℤ◌, ◌*ℤ◌, ◌<ℤ◌, arith, refl, ap, sym, ◌∙◌, inl, inr, ⊎_elim, List, [], ◌∷◌, Option, ints, ring, at, num, ◌⊕◌, ◌⊖◌, ◌⊗◌, follows, given, none, Sign, minus, nought, plus, sign, sign-plus, plus-is, nought-is, mul_pos, cancel_eq, sign-scaled, nought-or, Vector, IsDirection, cross, triple, dot, blend, Label, IsAt, MapVertex, Arc, MapSloop, Map, Item, arc_item, sloop_item, items, item_normal, dir_of, OnItem, Side, pos_item, Shaped, normal-is, item-forms, normal-form, on-level, amount, cross-self, over_forms, IsFirst, first_sign, Stands, met, BelowFirsts, ArcFirst, SloopFirst, self-pos}
use Rattle.nef_smap.proofs.Rise.{form-over}
use Rattle.nef_smap.proofs.Stands.{far-first, stand, stands, stands-keeps, stands-second, stands-third}
use Rattle.nef_smap.proofs.Common.{AllMeet}
use Rattle.nef_smap.proofs.Clean.{item-clean}
use Rattle.law_geometry.proofs.sphere.building.RayClose.{cross-last}

-- ---- the directions n, s and n x s at right angles
-- the direction along n from s, but for a part along s
along-value : (n s r g : Vector) → dot n s ≡ pos 0 → dot n r ≡ pos 0 → (dot n n *ℤ dot s s) *ℤ dot g r ≡ (dot n n *ℤ dot s r) *ℤ dot g s +ℤ triple n s r *ℤ dot g (cross n s)
along-value n s r g p q =
    let nx = at 0 in let ny = at 1 in let nz = at 2 in
    let sx = at 3 in let sy = at 4 in let sz = at 5 in
    let rx = at 6 in let ry = at 7 in let rz = at 8 in
    let gx = at 9 in let gy = at 10 in let gz = at 11 in
    let nn = nx ⊗ nx ⊕ ny ⊗ ny ⊕ nz ⊗ nz in
    let ss = sx ⊗ sx ⊕ sy ⊗ sy ⊕ sz ⊗ sz in
    let ns = nx ⊗ sx ⊕ ny ⊗ sy ⊕ nz ⊗ sz in
    let nr = nx ⊗ rx ⊕ ny ⊗ ry ⊕ nz ⊗ rz in
    let sr = sx ⊗ rx ⊕ sy ⊗ ry ⊕ sz ⊗ rz in
    let gn = gx ⊗ nx ⊕ gy ⊗ ny ⊕ gz ⊗ nz in
    let gs = gx ⊗ sx ⊕ gy ⊗ sy ⊕ gz ⊗ sz in
    let gr = gx ⊗ rx ⊕ gy ⊗ ry ⊕ gz ⊗ rz in
    follows (n.x ∷ n.y ∷ n.z ∷ s.x ∷ s.y ∷ s.z ∷ r.x ∷ r.y ∷ r.z ∷ g.x ∷ g.y ∷ g.z ∷ [])
    ((nn ⊗ ss) ⊗ gr)
    ((nn ⊗ sr) ⊗ gs ⊕ (nx ⊗ (sy ⊗ rz ⊖ sz ⊗ ry) ⊕ ny ⊗ (sz ⊗ rx ⊖ sx ⊗ rz) ⊕ nz ⊗ (sx ⊗ ry ⊖ sy ⊗ rx)) ⊗ (gx ⊗ (ny ⊗ sz ⊖ nz ⊗ sy) ⊕ gy ⊗ (nz ⊗ sx ⊖ nx ⊗ sz) ⊕ gz ⊗ (nx ⊗ sy ⊖ ny ⊗ sx)))
    (given (ns ⊗ gr ⊖ sr ⊗ gn ⊖ nr ⊗ gs) ns (num (pos 0)) p (given (ss ⊗ gn) nr (num (pos 0)) q none)) tt

-- a form that is nought at s, along the circle of n, and off it
level-value : (n s g x : Vector) → dot n s ≡ pos 0 → dot g s ≡ pos 0 → dot g (cross n s) ≡ pos 0 → (dot n n *ℤ dot s s) *ℤ dot g x ≡ (dot s s *ℤ dot g n) *ℤ dot n x
level-value n s g x p q r =
    let nx = at 0 in let ny = at 1 in let nz = at 2 in
    let sx = at 3 in let sy = at 4 in let sz = at 5 in
    let xx = at 6 in let xy = at 7 in let xz = at 8 in
    let gx = at 9 in let gy = at 10 in let gz = at 11 in
    let nn = nx ⊗ nx ⊕ ny ⊗ ny ⊕ nz ⊗ nz in
    let ss = sx ⊗ sx ⊕ sy ⊗ sy ⊕ sz ⊗ sz in
    let ns = nx ⊗ sx ⊕ ny ⊗ sy ⊕ nz ⊗ sz in
    let vx = nx ⊗ xx ⊕ ny ⊗ xy ⊕ nz ⊗ xz in
    let sv = sx ⊗ xx ⊕ sy ⊗ xy ⊕ sz ⊗ xz in
    let gn = gx ⊗ nx ⊕ gy ⊗ ny ⊕ gz ⊗ nz in
    let gs = gx ⊗ sx ⊕ gy ⊗ sy ⊕ gz ⊗ sz in
    let gv = gx ⊗ xx ⊕ gy ⊗ xy ⊕ gz ⊗ xz in
    let cx = ny ⊗ sz ⊖ nz ⊗ sy in let cy = nz ⊗ sx ⊖ nx ⊗ sz in let cz = nx ⊗ sy ⊖ ny ⊗ sx in
    follows (n.x ∷ n.y ∷ n.z ∷ s.x ∷ s.y ∷ s.z ∷ x.x ∷ x.y ∷ x.z ∷ g.x ∷ g.y ∷ g.z ∷ [])
    ((nn ⊗ ss) ⊗ gv) ((ss ⊗ gn) ⊗ vx)
    (given (ns ⊗ gv ⊖ sv ⊗ gn) ns (num (pos 0)) p (given (sv ⊗ nn ⊖ vx ⊗ ns) gs (num (pos 0)) q (given (xx ⊗ cx ⊕ xy ⊗ cy ⊕ xz ⊗ cz) (gx ⊗ cx ⊕ gy ⊗ cy ⊕ gz ⊗ cz) (num (pos 0)) r none))) tt

-- such a form that is nought at one more direction is nought
level-nought : (n s u g x : Vector) → IsDirection n → IsDirection s → pos 0 <ℤ dot n u → dot n s ≡ pos 0 → dot g s ≡ pos 0 → dot g (cross n s) ≡ pos 0 → dot g u ≡ pos 0 → dot g x ≡ pos 0
level-nought n s u g x hn hs h p q r z =
    let a = mul_pos (dot n n) (dot s s) (self-pos n hn) (self-pos s hs) in
    let c = level-value n s g u p q r in
    let e = ap (λ t. (dot n n *ℤ dot s s) *ℤ t) z in
    let o = ring (dot n n ∷ dot s s ∷ []) ((at 0 ⊗ at 1) ⊗ num (pos 0)) (num (pos 0)) tt in
    let o' = ring (dot n u ∷ []) (num (pos 0) ⊗ at 0) (num (pos 0)) tt in
    let k = cancel_eq (dot s s *ℤ dot g n) (pos 0) (dot n u) h (omega (arith, ints)) in
    let v = level-value n s g x p q r in
    let w = ap (λ t. t *ℤ dot n x) k in
    let o'' = ring (dot n x ∷ []) (num (pos 0) ⊗ at 0) (num (pos 0)) tt in
    let y : (dot n n *ℤ dot s s) *ℤ dot g x ≡ pos 0 = omega (arith, ints) in
    nought-is (dot g x) (sym (sign-scaled (dot n n *ℤ dot s s) (dot g x) a) ∙ ap sign y)

-- a direction close above an arc, and close to its source, off the meridian of z
module _ (M : Map) (V : Shaped M) (u : Vector) (ahead : (k : ℕ) (x : Item) → IsAt (items M) k x → pos 0 <ℤ dot (item_normal x) u)
    (k : ℕ) (r : Arc) (a : IsAt (items M) k (arc_item r)) (j : ArcFirst M u r) (hs : IsDirection (dir_of M.svertices r.source)) (ls : dot r.normal (dir_of M.svertices r.source) ≡ pos 0)
    (K : ℕ) (large : amount (over_forms M u) (cross r.normal (dir_of M.svertices r.source)) ≤ K) where
  abbrev n : Vector
  n = r.normal

  abbrev s : Vector
  s = dir_of M.svertices r.source

  abbrev z : Vector
  z = blend K s 1 (cross n s)

  abbrev l : Vector
  l = cross u z

  abbrev pub arc-viewer : Vector
  arc-viewer = stand (l ∷ over_forms M u) z u l

  pub arc-viewer_off : IsDirection (cross u z) → dot l arc-viewer ≡ pos 0 → ⊥
  arc-viewer_off f q =
      let e = stands-third (l ∷ over_forms M u) z u l arc-viewer l (stands (l ∷ over_forms M u) z u l) (inl refl) (cross-last u z) (cross-self u z) in
      let p = sign-plus (dot l l) (self-pos l f) in
      let w = plus-is (dot l arc-viewer) (e ∙ p) in omega (arith, ints)

  hn : IsDirection n
  hn = normal-is V k (arc_item r) a

  pub arc-viewer_stands : Stands (over_forms M u) s j.along u arc-viewer
  arc-viewer_stands g i = stands (l ∷ over_forms M u) z u l g (inr i) ∙ ap (λ t. first_sign t (first_sign (sign (dot g u)) (sign (dot g l)))) (far-first (over_forms M u) s (cross n s) K large g i)
      ∙ ⊎_elim at-nought at-off (nought-or (dot g s))
    where
      S : Sign
      S = sign (dot g s)

      at-off : (dot g s ≡ pos 0 → ⊥) → first_sign (first_sign (sign (dot g s)) (sign (dot g (cross n s)))) (first_sign (sign (dot g u)) (sign (dot g l))) ≡ first_sign (sign (dot g s)) (first_sign (sign (dot g j.along)) (sign (dot g u)))
      at-off h = skip (sign (dot g s)) (λ q. h (nought-is (dot g s) q))
        where
          skip : (t : Sign) → (t ≡ nought → ⊥) → first_sign (first_sign t (sign (dot g (cross n s)))) (first_sign (sign (dot g u)) (sign (dot g l))) ≡ first_sign t (first_sign (sign (dot g j.along)) (sign (dot g u)))
          skip minus h = refl
          skip nought h = absurd (h refl)
          skip plus h = refl

      at-nought : dot g s ≡ pos 0 → first_sign (first_sign (sign (dot g s)) (sign (dot g (cross n s)))) (first_sign (sign (dot g u)) (sign (dot g l))) ≡ first_sign (sign (dot g s)) (first_sign (sign (dot g j.along)) (sign (dot g u)))
      at-nought h =
          let t = ap sign h in
          ap (λ t. first_sign (first_sign t (sign (dot g (cross n s)))) (first_sign (sign (dot g u)) (sign (dot g l)))) t
          ∙ ap (λ t. first_sign t (first_sign (sign (dot g u)) (sign (dot g l)))) (sym along)
          ∙ rest
          ∙ sym (ap (λ t. first_sign t (first_sign (sign (dot g j.along)) (sign (dot g u)))) t)
        where
          along : sign (dot g j.along) ≡ sign (dot g (cross n s))
          along =
              let p = mul_pos (dot n n) (dot s s) (self-pos n hn) (self-pos s hs) in
              let v = along-value n s j.along g ls j.level ∙ ap (λ t. (dot n n *ℤ dot s j.along) *ℤ t +ℤ triple n s j.along *ℤ dot g (cross n s)) h
              ∙ ring (dot n n ∷ dot s j.along ∷ triple n s j.along ∷ dot g (cross n s) ∷ []) ((at 0 ⊗ at 1) ⊗ num (pos 0) ⊕ at 2 ⊗ at 3) (at 2 ⊗ at 3) tt in
              sym (sign-scaled (dot n n *ℤ dot s s) (dot g j.along) p) ∙ ap sign v ∙ sign-scaled (triple n s j.along) (dot g (cross n s)) j.forward

          rest : first_sign (sign (dot g j.along)) (first_sign (sign (dot g u)) (sign (dot g l))) ≡ first_sign (sign (dot g j.along)) (sign (dot g u))
          rest = by (sign (dot g j.along)) (sign (dot g u)) refl refl
            where
              by : (p q : Sign) → sign (dot g j.along) ≡ p → sign (dot g u) ≡ q → first_sign p (first_sign q (sign (dot g l))) ≡ first_sign p q
              by minus q e w = refl
              by plus q e w = refl
              by nought minus e w = refl
              by nought plus e w = refl
              by nought nought e w = ap sign (level-nought n s u g l hn hs (ahead k (arc_item r) a) ls h (nought-is (dot g (cross n s)) (sym along ∙ e)) (nought-is (dot g u) w))

module _ (M : Map) (V : Shaped M) (u : Vector) (ahead : (k : ℕ) (x : Item) → IsAt (items M) k x → pos 0 <ℤ dot (item_normal x) u)
    (G : Side → Label) (top : Label) (firsts : (k : ℕ) (v : MapVertex) → IsAt M.svertices k v → BelowFirsts M u v.dir) (joins : (k : ℕ) (v : MapVertex) (a : IsAt M.svertices k v) → (let j = firsts k v a in met G top j.left ≡ met G top j.right)) where
  -- a direction close above one of an item, off its meridian
  module _ (k : ℕ) (x : Item) (a : IsAt (items M) k x) (d : Vector) (o : OnItem M x d) (f : IsDirection (cross u d)) (c : Label) (all : AllMeet M V u ahead d f G top firsts joins c) where
    upper-by : (y e : Vector) → Stands (over_forms M u) d u e y → (dot (cross u d) y ≡ pos 0 → ⊥) → (q : Option ℕ) → IsFirst M u y q → met G top q ≡ c
    upper-by y e s off q g =
        let n = item_normal x in
        let i = form-over M u n (item-forms M k x n a (normal-form M x)) in
        let h = stands-second (over_forms M u) d u e y n s i (on-level M x d o) ∙ ap (λ t. first_sign t (sign (dot n e))) (sign-plus (dot n u) (ahead k x a)) in
        let near = stands-keeps (over_forms M u) d u e y s in
        all y near (item-clean M V u ahead d y near f k x a o (plus-is (dot n y) h)) off q g

  -- close to the source of an arc
  pub upper-arc : (k : ℕ) (r : Arc) (a : IsAt (items M) k (arc_item r)) → (j : ArcFirst M u r) → met G top j.first ≡ G (pos_item k) → IsDirection (dir_of M.svertices r.source) → dot r.normal (dir_of M.svertices r.source) ≡ pos 0
      → (K : ℕ) → amount (over_forms M u) (cross r.normal (dir_of M.svertices r.source)) ≤ K → (o : OnItem M (arc_item r) (blend K (dir_of M.svertices r.source) 1 (cross r.normal (dir_of M.svertices r.source))))
      → (f : IsDirection (cross u (blend K (dir_of M.svertices r.source) 1 (cross r.normal (dir_of M.svertices r.source))))) → (c : Label) → AllMeet M V u ahead (blend K (dir_of M.svertices r.source) 1 (cross r.normal (dir_of M.svertices r.source))) f G top firsts joins c → c ≡ G (pos_item k)
  upper-arc k r a j label hs ls K large o f c all = sym (upper-by k (arc_item r) a z o f c all y l (λ g i. stands (l ∷ over_forms M u) z u l g (inr i)) (arc-viewer_off M V u ahead k r a j hs ls K large f) j.first (j.is_first y (arc-viewer_stands M V u ahead k r a j hs ls K large))) ∙ label
    where
      z : Vector
      z = blend K (dir_of M.svertices r.source) 1 (cross r.normal (dir_of M.svertices r.source))

      l : Vector
      l = cross u z

      y : Vector
      y = arc-viewer M V u ahead k r a j hs ls K large

  -- at one direction of a sloop
  pub upper-sloop : (k : ℕ) (r : MapSloop) (a : IsAt (items M) k (sloop_item r)) (j : SloopFirst M u r) → met G top j.first ≡ G (pos_item k) → (f : IsDirection (cross u j.point)) → (c : Label) → AllMeet M V u ahead j.point f G top firsts joins c → c ≡ G (pos_item k)
  upper-sloop k r a j label f c all = sym (upper-by k (sloop_item r) a j.point j.on f c all y j.aside (λ g i. stands gs j.point u j.aside g (inr i)) off j.first (j.is_first y (λ g i. stands gs j.point u j.aside g (inr i)))) ∙ label
    where
      l : Vector
      l = cross u j.point

      gs : List Vector
      gs = l ∷ over_forms M u

      y : Vector
      y = stand gs j.point u j.aside

      off : dot l y ≡ pos 0 → ⊥
      off q =
          let e = stands-third gs j.point u j.aside y l (stands gs j.point u j.aside) (inl refl) (cross-last u j.point) (cross-self u j.point) in
          j.off (nought-is (dot l j.aside) (sym e ∙ ap sign q))
