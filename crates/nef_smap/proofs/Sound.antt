-- Joined sides are of one sface.
use Rattle.nef_smap.proofs.Prelude.{◌≡◌, ℕ, ◌+◌, ◌<◌, ◌≤◌, ℤ, pos, ◌-ℤ◌, ◌*ℤ◌, ◌<ℤ◌, neg_ℤ, arith, refl, ap, sym, ◌∙◌, ◌⊎◌, inl, inr, [], ◌∷◌, length, subst, Option, Some, None, ints, ring, at, num, neg, ◌⊕◌, ◌⊖◌, ◌⊗◌, follows, given, none, sign, sign-plus, plus-is, nought-is, mul_pos, sign-scaled, Lies, Chained, Vector, IsDirection, IsZero, cross, triple, dot, opposite, SameDirection, blend, Label, IsAt, MapVertex, Arc, MapSloop, Map, Item, arc_item, sloop_item, items, item_normal, item_pos, dir_of, OnItem, IsFree, Side, around_svertex, pos_item, neg_item, whole, HasSide, IsClear, Sees, directly, HasArc, Shaped, Keeps, forms, normal-is, dot-comb, is-at_one, item-forms, normal-form, on-direction, on-level, amount, far-keeps, arc-point, cross-self, between-off_target, cross-between, arc-at, direction-around, svertex-around, free-around, free-beside, at-arc, keeps-between, kept-not_opposite, clear-around, axes-forms, clear-self, sees_both, free-seen, sides_of, SideSees, SeeOneWay, side_number, meridians, over_forms, IsFirst, first_sign, Stands, FirstNear, BelowFirsts, BelowFirst, ArcFirst, SloopFirst, met_number, IsJoin, join_below, join_around, join_arc, join_sloop, join_ground, chain-link, chain-trans, chain-turned, cases_lt, zero-dot, self-pos, cross-turned, dir-self, opposite-turned, apart, blend-turned}
use Rattle.nef_smap.proofs.Rise.{form-over, meridian-over, meridian-level, svertex-meridian, meridian-turn, forms-kept}
use Rattle.nef_smap.proofs.Over.{touches-back, touches-level}
use Rattle.nef_smap.proofs.Stands.{first-none, first-last, dot-opposite, far-stands, stand, stands, stands-keeps, stands-second, stands-third}
use Rattle.nef_smap.proofs.Clean.{lone-untouched}
use Rattle.nef_smap.proofs.Upper.{arc-viewer, arc-viewer_off, arc-viewer_stands}
use Rattle.nef_smap.proofs.Pole.{parallel-value}
use Rattle.nef_smap.proofs.FirstSees.{Generic, none-clear, first-sees}
use Rattle.nef_smap.proofs.SideNumbers.{side-number}
use Rattle.nef_space.proofs.Lists.{is-at_within}
use Rattle.law_geometry.proofs.sphere.building.RayClose.{cross-last}
use Rattle.nef_space.proofs.Elementary.{nought-factor}
use Rattle.std.proofs.lemmas.Option.{none-some}
use Rattle.law_geometry.proofs.sphere.Arcs.{Ends, ends-of}

-- the turn from s to r, both in the plane of n
pub along-turn : (n s r u : Vector) → dot n s ≡ pos 0 → dot n r ≡ pos 0 → dot n n *ℤ dot (cross u s) r ≡ triple n s r *ℤ dot n u
along-turn n s r u p q =
    let nx = at 0 in let ny = at 1 in let nz = at 2 in
    let sx = at 3 in let sy = at 4 in let sz = at 5 in
    let rx = at 6 in let ry = at 7 in let rz = at 8 in
    let ux = at 9 in let uy = at 10 in let uz = at 11 in
    let o = num (pos 0) in
    -- n x (s x r) = s (n.r) - r (n.s)
    follows (n.x ∷ n.y ∷ n.z ∷ s.x ∷ s.y ∷ s.z ∷ r.x ∷ r.y ∷ r.z ∷ u.x ∷ u.y ∷ u.z ∷ [])
    ((nx ⊗ nx ⊕ ny ⊗ ny ⊕ nz ⊗ nz) ⊗ ((uy ⊗ sz ⊖ uz ⊗ sy) ⊗ rx ⊕ (uz ⊗ sx ⊖ ux ⊗ sz) ⊗ ry ⊕ (ux ⊗ sy ⊖ uy ⊗ sx) ⊗ rz))
    ((nx ⊗ (sy ⊗ rz ⊖ sz ⊗ ry) ⊕ ny ⊗ (sz ⊗ rx ⊖ sx ⊗ rz) ⊕ nz ⊗ (sx ⊗ ry ⊖ sy ⊗ rx)) ⊗ (nx ⊗ ux ⊕ ny ⊗ uy ⊕ nz ⊗ uz))
    (given (o ⊖ (ux ⊗ (ny ⊗ sz ⊖ nz ⊗ sy) ⊕ uy ⊗ (nz ⊗ sx ⊖ nx ⊗ sz) ⊕ uz ⊗ (nx ⊗ sy ⊖ ny ⊗ sx))) (nx ⊗ rx ⊕ ny ⊗ ry ⊕ nz ⊗ rz) o q
    (given (ux ⊗ (ny ⊗ rz ⊖ nz ⊗ ry) ⊕ uy ⊗ (nz ⊗ rx ⊖ nx ⊗ rz) ⊕ uz ⊗ (nx ⊗ ry ⊖ ny ⊗ rx)) (nx ⊗ sx ⊕ ny ⊗ sy ⊕ nz ⊗ sz) o p none)) tt

module _ (M : Map) (V : Shaped M) (u : Vector) (ahead : (k : ℕ) (x : Item) → IsAt (items M) k x → pos 0 <ℤ dot (item_normal x) u)
    (across : (k : ℕ) (v : MapVertex) → IsAt M.svertices k v → IsDirection (cross u v.dir)) (hu : IsDirection u) where
  -- ---- sides by their numbers
  abbrev Together : ℕ → ℕ → Type 0
  Together = Chained (SeeOneWay M)

  side-sees : (o : Side) (l : Label) (d : Vector) → HasSide M o l → Sees M o d → SideSees M (side_number M o) d
  side-sees o l d h s = (o, l, side-number M o l h, s)

  seen-from : (d : Vector) → IsFree M d → (s : ℕ) × SideSees M s d
  seen-from d D = let r = free-seen M V d D in let s = r.1 in (side_number M s.side, side-sees s.side r.0 d s.has s.sees)

  both-seen : (d e : Vector) → IsClear M d e → IsFree M e → (s : ℕ) × SideSees M s d × SideSees M s e
  both-seen d e c E = let b = sees_both M V d e c E in (side_number M b.side, side-sees b.side b.label d b.has b.left, side-sees b.side b.label e b.has b.right)

  one-way : (s t : ℕ) (d : Vector) → SideSees M s d → SideSees M t d → Together s t
  one-way s t d a b = chain-link (SeeOneWay M) s t (d, a, b)

  U : IsFree M u
  U = record {
    direction = hu;
    off_svertices = λ k v a w. across k v a (cross-turned v.dir u w.parallel);
    off_items = λ k x a o. let h = ahead k x a in let e = on-level M x u o in omega (arith, ints);
  }

  -- a side that sees u
  abbrev pole : ℕ
  pole = let r = seen-from u U in r.0

  pole-sees : SideSees M pole u
  pole-sees = let r = seen-from u U in r.1

  root-by : (s : ℕ) → (s < length (sides_of M)) ⊎ (length (sides_of M) ≤ s) → ℕ
  root-by s (inl h) = s
  root-by s (inr h) = pole

  -- a side, or a side that sees u
  pub root : ℕ → ℕ
  root s = root-by s (cases_lt s (length (sides_of M)))

  pub root-side : (s : ℕ) → s < length (sides_of M) → root s ≡ s
  unfolding root root-by
  root-side s h = by (cases_lt s (length (sides_of M)))
    where
      by : (c : (s < length (sides_of M)) ⊎ (length (sides_of M) ≤ s)) → root-by s c ≡ s
      by (inl k) = refl
      by (inr k) = absurd (omega arith)

  root-pole : root (length (sides_of M)) ≡ pole
  unfolding root root-by seen-from
  root-pole = by (cases_lt (length (sides_of M)) (length (sides_of M)))
    where
      by : (c : (length (sides_of M) < length (sides_of M)) ⊎ (length (sides_of M) ≤ length (sides_of M))) → root-by (length (sides_of M)) c ≡ pole
      by (inl k) = absurd (omega arith)
      by (inr k) = refl

  side-within : (s : ℕ) (d : Vector) → SideSees M s d → s < length (sides_of M)
  side-within s d (o, l, i, x) = is-at_within (sides_of M) s (o, l) i

  -- an element sees d: a side does, or the way from d to u is clear
  abbrev ElementSees : ℕ → Vector → Type 0
  ElementSees s d = SideSees M s d ⊎ ((s ≡ length (sides_of M)) × IsClear M d u)

  element-root : (s x : ℕ) (d : Vector) → ElementSees s d → SideSees M x d → Together (root s) x
  element-root s x d (inl a) b = subst (λ (r : ℕ). Together r x) (sym (root-side s (side-within s d a))) (one-way s x d a b)
  element-root s x d (inr (e, c)) b =
      let y = both-seen d u c U in
      subst (λ (r : ℕ). Together r x) (sym (ap root e ∙ root-pole)) (chain-trans (SeeOneWay M) pole y.0 x (one-way pole y.0 u pole-sees y.2) (one-way y.0 x d y.1 b))

  -- two that see directions with clear ways to one
  near-one : (d e c : Vector) → IsClear M c d → IsFree M d → IsClear M c e → IsFree M e → (s t : ℕ) → ElementSees s d → ElementSees t e → Together (root s) (root t)
  near-one d e c p D q E s t a b =
      let x = both-seen c d p D in
      let y = both-seen c e q E in
      chain-trans (SeeOneWay M) (root s) x.0 (root t) (element-root s x.0 d a x.2)
      (chain-trans (SeeOneWay M) x.0 y.0 (root t) (one-way x.0 y.0 c x.1 y.1) (chain-turned (SeeOneWay M) (root t) y.0 (element-root t y.0 e b y.2)))

  one-direction : (d : Vector) → IsFree M d → (s t : ℕ) → ElementSees s d → ElementSees t d → Together (root s) (root t)
  one-direction d D s t a b = near-one d d d (clear-self M d D) D (clear-self M d D) D s t a b

  -- what is met first
  met-sees : (d : Vector) → IsFree M d → Generic M u d → (r : Option ℕ) → IsFirst M u d r → ElementSees (met_number M r) d
  met-sees d D H None f = inr (refl, none-clear M V u ahead hu d D H f)
  met-sees d D H (Some k) f = inl (side-sees (neg_item k) _ d (f.item, f.listed, refl) (first-sees M V u ahead hu d D H k f))

  -- ---- directions close to c, to one side of its meridian, lie under no svertex
  module _ (c a d : Vector) (off : dot (cross u c) a ≡ pos 0 → ⊥) (aside : (m : Vector) → Lies (meridians M u) m → sign (dot m d) ≡ first_sign (sign (dot m c)) (sign (dot m a)))
      (m : Vector) (level : dot m u ≡ pos 0) (some : dot m d ≡ pos 0 → ⊥) where
    generic-by : Generic M u d
    generic-by = record { apart = λ z. some (by z); off = λ k v h z. none k v h z }
      where
        by : IsZero (cross u d) → dot m d ≡ pos 0
        by z =
            let e = parallel-value u d m z in
            let q = ap (λ r. dot u d *ℤ r) level in
            let o = ring (dot u d ∷ []) (at 0 ⊗ num (pos 0)) (num (pos 0)) tt in
            let y : dot u u *ℤ dot m d ≡ pos 0 = omega (arith, ints) in
            nought-is (dot m d) (sym (sign-scaled (dot u u) (dot m d) (self-pos u hu)) ∙ ap sign y)

        none : (k : ℕ) (v : MapVertex) → IsAt M.svertices k v → dot (cross u v.dir) d ≡ pos 0 → ⊥
        none k v h z =
            let n = cross u v.dir in
            let l = cross u c in
            let i = svertex-meridian M u k v h in
            let e = first-none (sign (dot n c)) (sign (dot n a)) (sym (aside n i) ∙ ap sign z) in
            let nc = nought-is (dot n c) e.0 in
            let na = nought-is (dot n a) e.1 in
            let nu = meridian-level M u n i in
            let x = meridian-turn u c n a nu nc in
            let y = meridian-turn u c n n nu nc in
            let p = ap (λ r. dot l l *ℤ r) na in
            let o = ring (dot l l ∷ []) (at 0 ⊗ num (pos 0)) (num (pos 0)) tt in
            let q : dot n l *ℤ dot l a ≡ pos 0 = omega (arith, ints) in
            let nl = nought-factor (dot n l) (dot l a) off q in
            let w = ap (λ r. r *ℤ dot l n) nl in
            let o' = ring (dot l n ∷ []) (num (pos 0) ⊗ at 0) (num (pos 0)) tt in
            let t = mul_pos (dot l l) (dot n n) (self-pos l some-l) (self-pos n (across k v h)) in
            omega (arith, ints)
          where
            some-l : IsDirection (cross u c)
            some-l z = off (zero-dot (cross u c) a z)

  -- ---- above an item
  upper-sees : (k : ℕ) (x : Item) (a : IsAt (items M) k x) (z y : Vector) → OnItem M x z → Keeps (forms M) z y → pos 0 <ℤ dot (item_normal x) y → ElementSees (side_number M (pos_item k)) y × IsFree M y
  upper-sees k x a z y o h l = (inl (side-sees (pos_item k) (item_pos x) y (x, a, refl) (directly z clear (x, a, o, l))), free)
    where
      off : dot (item_normal x) y ≡ pos 0 → ⊥
      off e = omega (arith, ints)

      free : IsFree M y
      free = free-beside M V z y h k x a o off

      clear : IsClear M y z
      clear = record {
        start = free;
        direction = on-direction M x z o;
        short = λ q. kept-not_opposite z y (λ g i. h g (axes-forms M g i)) (opposite-turned y z q);
        between = λ p q sp sq. free-beside M V z (blend p y q z) (subst (Keeps (forms M) z) (blend-turned q p z y) (keeps-between (forms M) z y q p sq sp h)) k x a o
            (between-off_target (item_normal x) y z p q sp (on-level M x z o) off);
      }

  -- ---- below a svertex
  module _ (k : ℕ) (v : MapVertex) (a : IsAt M.svertices k v) where
    abbrev w : Vector
    w = v.dir

    abbrev o : Vector
    o = opposite u

    abbrev l : Vector
    l = cross u w

    hw : IsDirection w
    hw = V.svertex_dirs k v a

    beside-u : IsDirection (cross w o)
    beside-u z = across k v a (one u.y u.z w.y w.z z.0, one u.z u.x w.z w.x z.1, one u.x u.y w.x w.y z.2)
      where
        one : (a b c d : ℤ) → c *ℤ neg_ℤ b -ℤ d *ℤ neg_ℤ a ≡ pos 0 → a *ℤ d -ℤ b *ℤ c ≡ pos 0
        one a b c d e = ring (a ∷ b ∷ c ∷ d ∷ []) (at 0 ⊗ at 3 ⊖ at 1 ⊗ at 2) (at 2 ⊗ neg (at 1) ⊖ at 3 ⊗ neg (at 0)) tt ∙ e

    -- a direction close to w, but not w, is no svertex
    off-svertices : (z : Vector) → Keeps (forms M) w z → IsDirection (cross w z) → (j : ℕ) (y : MapVertex) → IsAt M.svertices j y → SameDirection y.dir z → ⊥
    off-svertices z h f j y b s =
        let m = V.svertices_apart j k y v b a (svertex-around M V w z h j y b hw s) in
        f (subst (λ (r : MapVertex). IsZero (cross r.dir z)) (is-at_one M.svertices k y v (subst (λ (r : ℕ). IsAt M.svertices r y) m b) a) s.parallel)

    -- close below w
    abbrev c : Vector
    c = blend (amount (over_forms M u) o) w 1 o

    c-keeps : Keeps (over_forms M u) w c
    c-keeps = far-keeps (over_forms M u) w o (amount (over_forms M u) o) (omega arith)

    c-free : IsFree M c
    c-free = record {
      direction = direction-around M V w c (forms-kept M u w c c-keeps) hw;
      off_svertices = λ j y b s. off-svertices c (forms-kept M u w c c-keeps) (cross-between w o (amount (over_forms M u) o) 1 (omega arith) beside-u) j y b s;
      off_items = λ j y b s. on-item j y b s (touches-level M V j y w b (touches-back M V w c (forms-kept M u w c c-keeps) j y b hw s));
    }
      where
        on-item : (j : ℕ) (y : Item) → IsAt (items M) j y → OnItem M y c → dot (item_normal y) w ≡ pos 0 → ⊥
        on-item j y b s z =
            let n = item_normal y in
            let e = sym (dot-comb n (pos (amount (over_forms M u) o)) w (pos 1) o) ∙ on-level M y c s in
            let q = ap (λ r. pos (amount (over_forms M u) o) *ℤ r) z in
            let i = ring (pos (amount (over_forms M u) o) ∷ []) (at 0 ⊗ num (pos 0)) (num (pos 0)) tt in
            let t = dot-opposite n u in
            let h = ahead j y b in
            omega (arith, ints)

    -- and there to one side
    module _ (e : Vector) (off : dot l e ≡ pos 0 → ⊥) where
      abbrev d : Vector
      d = blend (amount (over_forms M u) e) c 1 e

      d-stands : Stands (over_forms M u) w o e d
      d-stands = far-stands (over_forms M u) w o e (amount (over_forms M u) o) (amount (over_forms M u) e) (omega arith) (omega arith)

      d-clear : IsClear M c d
      d-clear = clear-around M V c d (forms-kept M u c d (far-keeps (over_forms M u) c e (amount (over_forms M u) e) (omega arith))) c-free

      d-free : IsFree M d
      d-free = free-around M V c d (forms-kept M u c d (far-keeps (over_forms M u) c e (amount (over_forms M u) e) (omega arith))) c-free

      level-o : (m : Vector) → dot m u ≡ pos 0 → dot m o ≡ pos 0
      level-o m z = let q = dot-opposite m u in omega (arith, ints)

      d-aside : (m : Vector) → Lies (meridians M u) m → sign (dot m d) ≡ first_sign (sign (dot m w)) (sign (dot m e))
      d-aside m i = d-stands m (meridian-over M u m i) ∙ ap (λ t. first_sign (sign (dot m w)) (first_sign t (sign (dot m e)))) (ap sign (level-o m (meridian-level M u m i)))

      d-generic : Generic M u d
      d-generic = generic-by w e d off d-aside l (cross-self u w) (λ z. off (nought-is (dot l e)
          (sym (ap (λ t. first_sign t (sign (dot l e))) (ap sign (cross-last u w))) ∙ sym (d-aside l (svertex-meridian M u k v a)) ∙ ap sign z)))

      sees-d : (r : Option ℕ) → FirstNear M u w o e r → ElementSees (met_number M r) d
      sees-d r f = met-sees d d-free d-generic r (f d d-stands)

    below-joined : (j : BelowFirsts M u w) → Together (root (met_number M j.left)) (root (met_number M j.right))
    below-joined j =
        let q = λ (z : dot l (opposite j.aside) ≡ pos 0). j.off (let t = dot-opposite l j.aside in omega (arith, ints)) in
        near-one (d j.aside j.off) (d (opposite j.aside) q) c (d-clear j.aside j.off) (d-free j.aside j.off) (d-clear (opposite j.aside) q) (d-free (opposite j.aside) q)
        (met_number M j.left) (met_number M j.right) (sees-d j.aside j.off j.left j.left_first) (sees-d (opposite j.aside) q j.right j.right_first)

    around-joined : (m : Label) → v.around ≡ Some m → (j : BelowFirst M u w) → Together (root (side_number M (around_svertex k))) (root (met_number M j.first))
    around-joined m q j = near-one c (d j.aside j.off) c (clear-self M c c-free) c-free (d-clear j.aside j.off) (d-free j.aside j.off) (side_number M (around_svertex k)) (met_number M j.first)
        (inl (side-sees (around_svertex k) m c (v, a, q) (directly w clear (v, a, dir-self w hw)))) (sees-d j.aside j.off j.first j.is_first)
      where
        lone : HasArc M k → ⊥
        lone t = none-some m (sym (V.around_not k v a t) ∙ q)

        free : (z : Vector) → Keeps (forms M) w z → IsDirection (cross w z) → IsFree M z
        free z h f = record {
          direction = direction-around M V w z h hw;
          off_svertices = λ j y b s. off-svertices z h f j y b s;
          off_items = λ j y b s. lone-untouched M V w k v a refl lone j y b (touches-back M V w z h j y b hw s);
        }

        keeps : Keeps (forms M) w c
        keeps = forms-kept M u w c c-keeps

        apart-c : IsDirection (cross w c)
        apart-c = cross-between w o (amount (over_forms M u) o) 1 (omega arith) beside-u

        clear : IsClear M c w
        clear = record {
          start = c-free;
          direction = hw;
          short = λ s. kept-not_opposite w c (λ g i. keeps g (axes-forms M g i)) (opposite-turned c w s);
          between = λ p r sp sr. subst (IsFree M) (blend-turned r p w c) (free (blend r w p c) (keeps-between (forms M) w c r p sr sp keeps) (cross-between w c r p sp apart-c));
        }

  -- ---- above a sloop
  sloop-joined : (k : ℕ) (r : MapSloop) → IsAt (items M) k (sloop_item r) → (j : SloopFirst M u r) → Together (root (side_number M (pos_item k))) (root (met_number M j.first))
  sloop-joined k r a j = one-direction y sees.1 (side_number M (pos_item k)) (met_number M j.first) sees.0 (met-sees y sees.1 generic j.first (j.is_first y s))
    where
      p : Vector
      p = j.point

      l : Vector
      l = cross u j.point

      y : Vector
      y = stand (l ∷ over_forms M u) p u j.aside

      s : Stands (over_forms M u) j.point u j.aside y
      s g i = stands (l ∷ over_forms M u) p u j.aside g (inr i)

      n : Vector
      n = r.normal

      above : pos 0 <ℤ dot r.normal y
      above = plus-is (dot n y) (stands-second (over_forms M u) p u j.aside y n s (form-over M u n (item-forms M k (sloop_item r) n a (normal-form M (sloop_item r)))) j.on.level
          ∙ ap (λ t. first_sign t (sign (dot n j.aside))) (sign-plus (dot n u) (ahead k (sloop_item r) a)))

      sees : ElementSees (side_number M (pos_item k)) y × IsFree M y
      sees = upper-sees k (sloop_item r) a p y j.on (forms-kept M u p y (stands-keeps (over_forms M u) p u j.aside y s)) above

      aside : (m : Vector) → Lies (meridians M u) m → sign (dot m y) ≡ first_sign (sign (dot m j.point)) (sign (dot m j.aside))
      aside m i = s m (meridian-over M u m i) ∙ ap (λ t. first_sign (sign (dot m p)) (first_sign t (sign (dot m j.aside)))) (ap sign (meridian-level M u m i))

      generic : Generic M u y
      generic = generic-by p j.aside y j.off aside l (cross-self u p) (λ z. j.off (nought-is (dot l j.aside)
          (sym (stands-third (l ∷ over_forms M u) p u j.aside y l (stands (l ∷ over_forms M u) p u j.aside) (inl refl) (cross-last u p) (cross-self u p)) ∙ ap sign z)))

  -- ---- above an arc
  arc-joined : (k : ℕ) (r : Arc) (a : IsAt (items M) k (arc_item r)) (j : ArcFirst M u r) → Together (root (side_number M (pos_item k))) (root (met_number M j.first))
  arc-joined k r a j = one-direction y sees.1 (side_number M (pos_item k)) (met_number M j.first) sees.0 (met-sees y sees.1 generic j.first (j.is_first y y-stands))
    where
      n : Vector
      n = r.normal

      s : Vector
      s = dir_of M.svertices r.source

      t : Vector
      t = dir_of M.svertices r.target

      hn : IsDirection r.normal
      hn = normal-is V k (arc_item r) a

      ends : Ends M r
      ends = ends-of M V k r (arc-at M.arcs M.sloop k r a)

      K : ℕ
      K = amount (cross t n ∷ []) (cross n s) + amount (over_forms M u) (cross n s)

      z : Vector
      z = blend K s 1 (cross n s)

      l : Vector
      l = cross u z

      on-z : OnItem M (arc_item r) z
      on-z = arc-point n s t hn ends.source_direction ends.target_direction ends.source_level ends.target_level K (omega arith)

      off-z : IsDirection (cross u z)
      off-z = apart n u z (λ e. let h = ahead k (arc_item r) a in omega (arith, ints)) (on-level M (arc_item r) z on-z) (on-direction M (arc_item r) z on-z)

      y : Vector
      y = arc-viewer M V u ahead k r a j ends.source_direction ends.source_level K (omega arith)

      near-z : Stands (over_forms M u) z u l y
      near-z g i = stands (l ∷ over_forms M u) z u l g (inr i)

      y-stands : Stands (over_forms M u) s j.along u y
      y-stands = arc-viewer_stands M V u ahead k r a j ends.source_direction ends.source_level K (omega arith)

      above : pos 0 <ℤ dot n y
      above = plus-is (dot n y) (stands-second (over_forms M u) z u l y n near-z (form-over M u n (item-forms M k (arc_item r) n a (normal-form M (arc_item r)))) (on-level M (arc_item r) z on-z)
          ∙ ap (λ t. first_sign t (sign (dot n l))) (sign-plus (dot n u) (ahead k (arc_item r) a)))

      sees : ElementSees (side_number M (pos_item k)) y × IsFree M y
      sees = upper-sees k (arc_item r) a z y on-z (forms-kept M u z y (stands-keeps (over_forms M u) z u l y near-z)) above

      aside : (m : Vector) → Lies (meridians M u) m → sign (dot m y) ≡ first_sign (sign (dot m s)) (sign (dot m j.along))
      aside m i = y-stands m (meridian-over M u m i) ∙ ap (λ t. first_sign (sign (dot m s)) (first_sign (sign (dot m j.along)) t)) (ap sign (meridian-level M u m i)) ∙ ap (first_sign (sign (dot m s))) (first-last (sign (dot m j.along)))

      off : dot (cross u s) j.along ≡ pos 0 → ⊥
      off e =
          let i = along-turn n s j.along u ends.source_level j.level in
          let q = ap (λ x. dot n n *ℤ x) e in
          let o = ring (dot n n ∷ []) (at 0 ⊗ num (pos 0)) (num (pos 0)) tt in
          let h = mul_pos (triple n s j.along) (dot n u) j.forward (ahead k (arc_item r) a) in
          omega (arith, ints)

      generic : Generic M u y
      generic = generic-by s j.along y off aside l (cross-self u z) (arc-viewer_off M V u ahead k r a j ends.source_direction ends.source_level K (omega arith) off-z)

  -- ---- all joins
  between : (s t : ℕ) {a b : ℕ} → s ≡ a → t ≡ b → Together (root a) (root b) → Together (root s) (root t)
  between s t {a} {b} e f c = subst (λ (x : ℕ). Together (root x) (root t)) (sym e) (subst (λ (x : ℕ). Together (root a) (root x)) (sym f) c)

  pub sound : (s t : ℕ) → IsJoin M u s t → Together (root s) (root t)
  sound s t (join_below k v a j e f) = between s t e f (below-joined k v a j)
  sound s t (join_around k v m a q j e f) = between s t e f (around-joined k v a m q j)
  sound s t (join_arc k r h j e f) = between s t e f (arc-joined k r (at-arc M.arcs M.sloop k r h) j)
  sound s t (join_sloop k r h j e f) = between s t e f (sloop-joined k r h j)
  sound s t (join_ground m q e f) = between s t e f (one-direction u U (side_number M whole) (length (sides_of M)) (inl (side-sees whole m u q (directly u (clear-self M u U) tt))) (inr (refl, clear-self M u U)))
