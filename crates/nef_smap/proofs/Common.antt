-- What lies over the directions close to one direction has one label.
use Rattle.nef_smap.proofs.Prelude.{◌≡◌, ℕ, ℤ, pos, ◌+ℤ◌, ◌-ℤ◌, ◌*ℤ◌, ◌≤ℤ◌, ◌<ℤ◌, arith, ap, sym, ◌∙◌, ◌⊎◌, inl, inr, ⊎_elim, [], ◌∷◌, subst, Option, Some, None, ints, ring, at, num, ◌⊕◌, ◌⊖◌, ◌⊗◌, minus, sign, sign-plus, sign-minus, by_order, mul_pos, cancel_lt, sign-scaled, Lies, Vector, IsDirection, cross, dot, SameDirection, opposite, Label, Decided, same-off, same-nought, IsAt, MapVertex, Map, Item, items, item_normal, Side, Shaped, Keeps, same-plus, same-minus, negative-or, item-forms, normal-form, cross-self, rise, meridians, over_forms, IsFirst, IsFirstItem, first_sign, Stands, met, FirstNear, BelowFirsts, self-pos, dir-signs}
use Rattle.nef_smap.proofs.Rise.{rise-is, rise_form-value, meridian-level, form-over, meridian-over, svertex-meridian, meridians-same}
use Rattle.nef_smap.proofs.Over.{Touches, meets, ends, touches-level, Alike, one_side, over_none, moved, first-one}
use Rattle.nef_smap.proofs.Lowest.{LeastElement, least_or, first-exists, share_d, share_u, LiesOver, over-value, lies_over-decided}
use Rattle.nef_smap.proofs.Stands.{dot-opposite, stand, stands, stands-keeps, stands-second, stands-third}
use Rattle.nef_smap.proofs.Close.{Clean, end-over, over-touches, none-near, first-near}
use Rattle.law_geometry.proofs.sphere.building.RayClose.{cross-last}

-- ---- signs at a direction w over d: p is the form at d, q at u
at-over-plus : (l w a p b q : ℤ) → pos 0 <ℤ l → l *ℤ w ≡ a *ℤ p +ℤ b *ℤ q → pos 0 <ℤ (a *ℤ p +ℤ b *ℤ q) → pos 0 <ℤ w
at-over-plus l w a p b q h e k = same-plus (l *ℤ w) w (sym (sign-scaled l w h)) (omega (arith, ints))

-- the meet of the plane with values p, q, which w is above, is lower than w
lower-meet : (a b p q x y : ℤ) → pos 0 <ℤ a → pos 0 <ℤ q → pos 0 <ℤ y → pos 0 <ℤ (a *ℤ p +ℤ b *ℤ q) → (a *ℤ x +ℤ b *ℤ y) <ℤ pos 0 → (q *ℤ x +ℤ (pos 0 -ℤ y) *ℤ p) <ℤ pos 0
lower-meet a b p q x y ha hq hy h k =
    let m = mul_pos q (pos 0 -ℤ (a *ℤ x +ℤ b *ℤ y)) hq (omega (arith, ints)) in
    let n = mul_pos y (a *ℤ p +ℤ b *ℤ q) hy h in
    let e = ring (a ∷ b ∷ p ∷ q ∷ x ∷ y ∷ []) ((at 3 ⊗ at 4 ⊕ (num (pos 0) ⊖ at 5) ⊗ at 2) ⊗ at 0) (num (pos 0) ⊖ at 3 ⊗ (num (pos 0) ⊖ (at 0 ⊗ at 4 ⊕ at 1 ⊗ at 5)) ⊖ at 5 ⊗ (at 0 ⊗ at 2 ⊕ at 1 ⊗ at 3)) tt in
    let z = ring (a ∷ []) (num (pos 0) ⊗ at 0) (num (pos 0)) tt in
    cancel_lt (q *ℤ x +ℤ (pos 0 -ℤ y) *ℤ p) (pos 0) a ha (omega (arith, ints))

-- what lies in that plane is lower than w
lower-end : (a b c e p q : ℤ) → pos 0 <ℤ a → pos 0 <ℤ c → pos 0 <ℤ q → pos 0 <ℤ (a *ℤ p +ℤ b *ℤ q) → c *ℤ p +ℤ e *ℤ q ≡ pos 0 → (e *ℤ a) <ℤ (b *ℤ c)
lower-end a b c e p q ha hc hq h k =
    let m = mul_pos c (a *ℤ p +ℤ b *ℤ q) hc h in
    let n = ap (λ r. a *ℤ r) k in
    let i = ring (a ∷ b ∷ c ∷ e ∷ p ∷ q ∷ []) (at 2 ⊗ (at 0 ⊗ at 4 ⊕ at 1 ⊗ at 5) ⊖ at 0 ⊗ (at 2 ⊗ at 4 ⊕ at 3 ⊗ at 5)) ((at 1 ⊗ at 2) ⊗ at 5 ⊖ (at 3 ⊗ at 0) ⊗ at 5) tt in
    let z = ring (a ∷ []) (at 0 ⊗ num (pos 0)) (num (pos 0)) tt in
    cancel_lt (e *ℤ a) (b *ℤ c) q hq (omega (arith, ints))

module _ (M : Map) (V : Shaped M) (u : Vector) (ahead : (k : ℕ) (x : Item) → IsAt (items M) k x → pos 0 <ℤ dot (item_normal x) u) (d : Vector) (f : IsDirection (cross u d)) where
  abbrev l : Vector
  l = cross u d

  abbrev ll : ℤ
  ll = dot l l

  some-ll : pos 0 <ℤ ll
  some-ll = self-pos l f

  -- before the first item over d, if there is one
  abbrev Before : (r : Option ℕ) → IsFirst M u d r → Vector → Type 0
  Before None F v = Unit {0}
  Before (Some k) F v = dot (item_normal F.item) v <ℤ pos 0

  before-decided : (r : Option ℕ) (F : IsFirst M u d r) (v : Vector) → Decided (Before r F v)
  before-decided None F v = inl tt
  before-decided (Some k) F v = negative-or (dot (item_normal F.item) v)

  abbrev Candidate : (r : Option ℕ) → IsFirst M u d r → Vector → Type 0
  Candidate r F v = LiesOver u d v × Before r F v

  candidate-decided : (r : Option ℕ) (F : IsFirst M u d r) (v : Vector) → Decided (Candidate r F v)
  candidate-decided r F v = by (lies_over-decided u d v) (before-decided r F v)
    where
      by : Decided (LiesOver u d v) → Decided (Before r F v) → Decided (Candidate r F v)
      by (inl a) (inl b) = inl (a, b)
      by (inl a) (inr n) = inr (λ c. n c.1)
      by (inr n) b = inr (λ c. n c.0)

  abbrev Lowest : (r : Option ℕ) → IsFirst M u d r → Type 0
  Lowest r F = LeastElement (λ (v : MapVertex). share_u u d v.dir) (λ (v : MapVertex). share_d u d v.dir) M.svertices (λ k v. Candidate r F v.dir)

  -- ---- w is the lowest svertex over d, before the first item
  module _ (r : Option ℕ) (F : IsFirst M u d r) (w : Lowest r F) where
    abbrev way : Vector
    way = w.element.dir

    over-w : LiesOver u d way
    over-w = let h = w.holds in h.0

    value : (g : Vector) → ll *ℤ dot g way ≡ share_d u d way *ℤ dot g d +ℤ share_u u d way *ℤ dot g u
    value g = over-value u d way g over-w.level

    -- a plane that parts d from w has no item over d
    unparted : (k : ℕ) (z : Item) → IsAt (items M) k z → dot (item_normal z) d <ℤ pos 0 → pos 0 <ℤ dot (item_normal z) way → Touches M z (rise u (item_normal z) d) → ⊥
    unparted k z a lt gt t = by r F w.holds.1 w.least t
      where
        n : Vector
        n = item_normal z

        above : pos 0 <ℤ (share_d u d way *ℤ dot n d +ℤ share_u u d way *ℤ dot n u)
        above = let p = mul_pos ll (dot n way) some-ll gt in let e = value n in omega (arith, ints)

        too_low : (j : ℕ) (v : MapVertex) → IsAt M.svertices j v → SameDirection v.dir (rise u n d) → (share_u u d way *ℤ share_d u d v.dir) ≤ℤ (share_u u d v.dir *ℤ share_d u d way) → ⊥
        too_low j v b q le =
            let o = end-over M V u ahead d f k j z v a b lt q in
            let e = over-value u d v.dir n o.level in
            let i = touches-level M V k z (rise u n d) a t in
            let y = ap (λ s. ll *ℤ s) (same-nought (dot n (rise u n d)) (dot n v.dir) (sym (dir-signs v.dir (rise u n d) n (V.svertex_dirs j v b) q)) i) in
            let x = ring (ll ∷ []) (at 0 ⊗ num (pos 0)) (num (pos 0)) tt in
            let c = lower-end (share_d u d way) (share_u u d way) (share_d u d v.dir) (share_u u d v.dir) (dot n d) (dot n u) over-w.of_d o.of_d (ahead k z a) above (omega (arith, ints)) in
            omega (arith, ints)

        -- where the first item is i, what is met at the plane is before it
        lower : (i : ℕ) (F : IsFirstItem M u d i) → dot (item_normal F.item) way <ℤ pos 0 → dot (item_normal F.item) (rise u n d) <ℤ pos 0
        lower i F b =
            let m = item_normal F.item in
            let p = mul_pos ll (pos 0 -ℤ dot m way) some-ll (omega (arith, ints)) in
            let q = ring (ll ∷ dot m way ∷ []) (at 0 ⊗ (num (pos 0) ⊖ at 1)) (num (pos 0) ⊖ at 0 ⊗ at 1) tt in
            let e = value m in
            let c = lower-meet (share_d u d way) (share_u u d way) (dot n d) (dot n u) (dot m d) (dot m u) over-w.of_d (ahead k z a) (ahead i F.item F.listed) above (omega (arith, ints)) in
            subst (λ (s : ℤ). s <ℤ pos 0) (sym (rise-is u n m d ∙ rise_form-value u n m d)) c

        by : (r : Option ℕ) (F : IsFirst M u d r) → Before r F way → ((j : ℕ) (v : MapVertex) → IsAt M.svertices j v → Candidate r F v.dir → (share_u u d way *ℤ share_d u d v.dir) ≤ℤ (share_u u d v.dir *ℤ share_d u d way))
            → Touches M z (rise u n d) → ⊥
        by None F b low (meets p) = F k z a (record { below = lt; on = p })
        by None F b low (ends j v r c q g s) = too_low j v c s (low j v c (end-over M V u ahead d f k j z v a c lt s, tt))
        by (Some i) F b low (meets p) = let c = F.first k z a (record { below = lt; on = p }) in let e = lower i F b in omega (arith, ints)
        by (Some i) F b low (ends j v r c q g s) =
            let m = item_normal F.item in
            too_low j v c s (low j v c (
              end-over M V u ahead d f k j z v a c lt s,
              same-minus (dot m (rise u n d)) (dot m v.dir) (sym (dir-signs v.dir (rise u n d) m (V.svertex_dirs j v c) s)) (lower i F b),
            ))

    -- e lies close to d, and o close to w and below it
    module _ (e : Vector) (near : Keeps (over_forms M u) d e) (clean : Clean M V u ahead d f e) (c o : Vector) (s : Stands (over_forms M u) way (opposite u) c o) where
      normal-in : (k : ℕ) (z : Item) → IsAt (items M) k z → Lies (over_forms M u) (item_normal z)
      normal-in k z a = form-over M u (item_normal z) (item-forms M k z (item_normal z) a (normal-form M z))

      alike : (k : ℕ) (z : Item) → IsAt (items M) k z → Alike M u e o z
      alike k z a = by_order (dot n d) (pos 0) below level above
        where
          n : Vector
          n = item_normal z

          pq : ll *ℤ dot n way ≡ share_d u d way *ℤ dot n d +ℤ share_u u d way *ℤ dot n u
          pq = value n

          pu : pos 0 <ℤ (share_u u d way *ℤ dot n u)
          pu = mul_pos (share_u u d way) (dot n u) over-w.of_u (ahead k z a)

          o-kept : (dot n way ≡ pos 0 → ⊥) → sign (dot n o) ≡ sign (dot n way)
          o-kept g = stands-keeps (over_forms M u) way (opposite u) c o s n (normal-in k z a) g

          o-plus : pos 0 <ℤ dot n way → pos 0 <ℤ dot n o
          o-plus h = same-plus (dot n way) (dot n o) (o-kept (λ x. omega (arith, ints))) h

          e-kept : (dot n d ≡ pos 0 → ⊥) → sign (dot n e) ≡ sign (dot n d)
          e-kept g = near n (normal-in k z a) g

          above : pos 0 <ℤ dot n d → Alike M u e o z
          above h =
              let p = mul_pos (share_d u d way) (dot n d) over-w.of_d h in
              let i = pu in
              let g = at-over-plus ll (dot n way) (share_d u d way) (dot n d) (share_u u d way) (dot n u) some-ll pq (omega (arith, ints)) in
              one_side (sign-plus (dot n o) (o-plus g) ∙ sym (sign-plus (dot n e) (same-plus (dot n d) (dot n e) (e-kept (λ x. omega (arith, ints))) h)))

          level : dot n d ≡ pos 0 → Alike M u e o z
          level h =
              let p = ap (λ r. share_d u d way *ℤ r) h in
              let q = ring (share_d u d way ∷ []) (at 0 ⊗ num (pos 0)) (num (pos 0)) tt in
              let i = pu in
              let g = at-over-plus ll (dot n way) (share_d u d way) (dot n d) (share_u u d way) (dot n u) some-ll pq (omega (arith, ints)) in
              over_none (λ x. clean k z a h x) (λ x. let y = x.below in let i = o-plus g in omega (arith, ints))

          below : dot n d <ℤ pos 0 → Alike M u e o z
          below h =
              let e-minus = same-minus (dot n d) (dot n e) (e-kept (λ x. omega (arith, ints))) h in
              by_order (dot n way) (pos 0)
              (λ g. one_side (sign-minus (dot n o) (same-minus (dot n way) (dot n o) (o-kept (λ x. omega (arith, ints))) g) ∙ sym (sign-minus (dot n e) e-minus)))
              (λ g.
              let q = dot-opposite n u in
              let i = ahead k z a in
              let y : dot n (opposite u) <ℤ pos 0 = omega (arith, ints) in
              one_side (stands-second (over_forms M u) way (opposite u) c o n s (normal-in k z a) g ∙ first-minus (dot n (opposite u)) y ∙ sym (sign-minus (dot n e) e-minus)))
              (λ g. over_none (λ x. unparted k z a h g (over-touches M V u ahead d f e near clean k z a x)) (λ x. let y = x.below in let i = o-plus g in omega (arith, ints)))
            where
              first-minus : (y : ℤ) → y <ℤ pos 0 → first_sign (sign y) (sign (dot n c)) ≡ minus
              first-minus y h = ap (λ t. first_sign t (sign (dot n c))) (sign-minus y h)

      near-o : Keeps (meridians M u) d o
      near-o m i g =
          let p = stands-keeps (over_forms M u) way (opposite u) c o s m (meridian-over M u m i) in
          let e = value m in
          let y = meridian-level M u m i in
          let q : ll *ℤ dot m way ≡ share_d u d way *ℤ dot m d = e ∙ ap (λ r. share_d u d way *ℤ dot m d +ℤ share_u u d way *ℤ r) y ∙ ring (share_d u d way ∷ dot m d ∷ share_u u d way ∷ []) (at 0 ⊗ at 1 ⊕ at 2 ⊗ num (pos 0)) (at 0 ⊗ at 1) tt in
          let t = sym (sign-scaled ll (dot m way) some-ll) ∙ ap sign q ∙ sign-scaled (share_d u d way) (dot m d) over-w.of_d in
          p (same-off (dot m d) (dot m way) t g) ∙ t

      -- the meridian of w is that of d
      one-meridian : (x : Vector) → sign (dot (cross u way) x) ≡ sign (dot l x)
      one-meridian x =
          let e = value (cross x u) in
          let y : dot (cross x u) u ≡ pos 0 = cross-last x u in
          let a = turn u way x in
          let b = turn u d x in
          let q : ll *ℤ dot (cross u way) x ≡ share_d u d way *ℤ dot l x = ap (λ r. ll *ℤ r) a ∙ e ∙ ap (λ r. share_d u d way *ℤ dot (cross x u) d +ℤ share_u u d way *ℤ r) y
          ∙ ring (share_d u d way ∷ dot (cross x u) d ∷ share_u u d way ∷ []) (at 0 ⊗ at 1 ⊕ at 2 ⊗ num (pos 0)) (at 0 ⊗ at 1) tt ∙ ap (λ r. share_d u d way *ℤ r) (sym b) in
          sym (sign-scaled ll (dot (cross u way) x) some-ll) ∙ ap sign q ∙ sign-scaled (share_d u d way) (dot l x) over-w.of_d
        where
          turn : (u v x : Vector) → dot (cross u v) x ≡ dot (cross x u) v
          turn u v x = ring (u.x ∷ u.y ∷ u.z ∷ v.x ∷ v.y ∷ v.z ∷ x.x ∷ x.y ∷ x.z ∷ [])
              ((at 1 ⊗ at 5 ⊖ at 2 ⊗ at 4) ⊗ at 6 ⊕ (at 2 ⊗ at 3 ⊖ at 0 ⊗ at 5) ⊗ at 7 ⊕ (at 0 ⊗ at 4 ⊖ at 1 ⊗ at 3) ⊗ at 8)
              ((at 7 ⊗ at 2 ⊖ at 8 ⊗ at 1) ⊗ at 3 ⊕ (at 8 ⊗ at 0 ⊖ at 6 ⊗ at 2) ⊗ at 4 ⊕ (at 6 ⊗ at 1 ⊖ at 7 ⊗ at 0) ⊗ at 5) tt

      side-o : sign (dot l o) ≡ sign (dot (cross u way) c)
      side-o =
          let m = cross u way in
          let i = meridian-over M u m (svertex-meridian M u w.number w.element w.listed) in
          let z : dot m (opposite u) ≡ pos 0 = let q = dot-opposite m u in let y = cross-self u way in omega (arith, ints) in
          sym (one-meridian o) ∙ stands-third (over_forms M u) way (opposite u) c o m s i (cross-last u way) z

      -- on one side of the meridian the same lies over e and o
      pub same-side : sign (dot l e) ≡ sign (dot (cross u way) c) → (q : Option ℕ) → IsFirst M u e q → IsFirst M u o q
      same-side t q x = moved M u e o (meridians-same (meridians M u) u d e o f (meridian-level M u) (λ m i. near m (meridian-over M u m i)) near-o (t ∙ sym side-o)) alike q x

  -- ---- all that lies over directions close to d
  module _ (G : Side → Label) (top : Label) (firsts : (k : ℕ) (v : MapVertex) → IsAt M.svertices k v → BelowFirsts M u v.dir) (joins : (k : ℕ) (v : MapVertex) (a : IsAt M.svertices k v) → (let j = firsts k v a in met G top j.left ≡ met G top j.right)) where
    abbrev pub AllMeet : Label → Type 0
    AllMeet c = (e : Vector) → Keeps (over_forms M u) d e → Clean M V u ahead d f e → (dot l e ≡ pos 0 → ⊥) → (q : Option ℕ) → IsFirst M u e q → met G top q ≡ c

    pub all-meet : (c : Label) × AllMeet c
    all-meet = by (first-exists M u ahead d)
      where
        -- a svertex is first
        at-svertex : (r : Option ℕ) (F : IsFirst M u d r) → Lowest r F → (c : Label) × AllMeet c
        at-svertex r F w = (met G top j.left, λ e near clean g q x. one e near clean g q x)
          where
            j : BelowFirsts M u w.element.dir
            j = firsts w.number w.element w.listed

            m : Vector
            m = cross u w.element.dir

            met-at : (e : Vector) → Keeps (over_forms M u) d e → Clean M V u ahead d f e → (c : Vector) → sign (dot l e) ≡ sign (dot m c) → (k : Option ℕ) → FirstNear M u w.element.dir (opposite u) c k
                → (q : Option ℕ) → IsFirst M u e q → met G top q ≡ met G top k
            met-at e near clean c t k first q x =
                let o = stand (over_forms M u) w.element.dir (opposite u) c in
                let s = stands (over_forms M u) w.element.dir (opposite u) c in
                ap (met G top) (first-one M V u ahead o q k (same-side r F w e near clean c o s t q x) (first o s))

            sides : (x y : ℤ) → (x ≡ pos 0 → ⊥) → (y ≡ pos 0 → ⊥) → (sign x ≡ sign y) ⊎ (sign x ≡ sign (pos 0 -ℤ y))
            sides x y p q = by_order x (pos 0)
                (λ a. by_order y (pos 0) (λ b. inl (sign-minus x a ∙ sym (sign-minus y b))) (λ b. absurd (q b)) (λ b. inr (sign-minus x a ∙ sym (sign-minus (pos 0 -ℤ y) (omega (arith, ints))))))
                (λ a. absurd (p a))
                (λ a. by_order y (pos 0) (λ b. inr (sign-plus x a ∙ sym (sign-plus (pos 0 -ℤ y) (omega (arith, ints))))) (λ b. absurd (q b)) (λ b. inl (sign-plus x a ∙ sym (sign-plus y b))))

            one : (e : Vector) → Keeps (over_forms M u) d e → Clean M V u ahead d f e → (dot l e ≡ pos 0 → ⊥) → (q : Option ℕ) → IsFirst M u e q → met G top q ≡ met G top j.left
            one e near clean g q x = ⊎_elim
                (λ t. met-at e near clean j.aside t j.left j.left_first q x)
                (λ t. met-at e near clean (opposite j.aside) (t ∙ ap sign (sym (dot-opposite m j.aside))) j.right j.right_first q x ∙ sym (joins w.number w.element w.listed))
                (sides (dot l e) (dot m j.aside) g j.off)

        -- no svertex is first
        no_svertex : (r : Option ℕ) (F : IsFirst M u d r) → ((k : ℕ) (v : MapVertex) → IsAt M.svertices k v → Candidate r F v.dir → ⊥) → (c : Label) × AllMeet c
        no_svertex None F n = (top, λ e near clean g q x. ap (met G top) (first-one M V u ahead e q None x (none-near M V u ahead d f e near clean F (λ k v a o. n k v a (o, tt)))))
        no_svertex (Some i) F n = (met G top (Some i), λ e near clean g q x. ap (met G top) (first-one M V u ahead e q (Some i) x (first-near M V u ahead d f e near clean i F (λ k v a o b. n k v a (o, b)))))

        by : (r : Option ℕ) × IsFirst M u d r → (c : Label) × AllMeet c
        by (r, F) = ⊎_elim (λ w. at-svertex r F w) (λ n. no_svertex r F n)
            (least_or (λ (v : MapVertex). share_u u d v.dir) (λ (v : MapVertex). share_d u d v.dir) M.svertices (λ k v. Candidate r F v.dir) (λ k v. candidate-decided r F v.dir) (λ k v a c. let o = c.0 in o.of_d))
