-- What lies over directions close to d: what meets or ends over d.
use Rattle.nef_smap.proofs.Prelude.{◌≡◌, ℕ, ℤ, pos, ◌+ℤ◌, ◌-ℤ◌, ◌*ℤ◌, ◌≤ℤ◌, ◌<ℤ◌, arith, ap, sym, ◌∙◌, [], ◌∷◌, subst, None, ints, ring, at, num, ◌⊕◌, ◌⊖◌, ◌⊗◌, follows, given, none, sign, by_order, mul_pos, Vector, IsDirection, cross, dot, SameDirection, same-nought, IsAt, MapVertex, Map, Item, items, item_normal, Shaped, Keeps, same-plus, same-minus, is-at_one, kept-plus, kept-minus, item-forms, normal-form, OnItem-stays, OnItem-by_signs, IsZero-times, cross-self, rise, over_forms, IsOver, IsFirst, IsFirstItem, self-pos, dir-signs}
use Rattle.nef_smap.proofs.Rise.{rise-is, rise-level, rise_form-value, rise-keeps, form-over, meridian-over}
use Rattle.nef_smap.proofs.Over.{Touches, meets, ends, touches-back, touches-on, rises-together}
use Rattle.nef_smap.proofs.Lowest.{share_d, share_u, LiesOver}
use Rattle.law_geometry.proofs.sphere.building.RayClose.{cross-last}

-- ---- the meet is a direction, and so are its values
pub rise-direction : (u n d : Vector) → pos 0 <ℤ dot n u → IsDirection (cross u d) → IsDirection (rise u n d)
rise-direction u n d h f z = f (IsZero-times (dot n u) (cross u d) h
    (one u.y u.z d.y d.z z.1 z.2) (one u.z u.x d.z d.x z.2 z.0) (one u.x u.y d.x d.y z.0 z.1))
  where
    one : (a b x y : ℤ) → dot n u *ℤ x +ℤ (pos 0 -ℤ dot n d) *ℤ a ≡ pos 0 → dot n u *ℤ y +ℤ (pos 0 -ℤ dot n d) *ℤ b ≡ pos 0 → dot n u *ℤ (a *ℤ y -ℤ b *ℤ x) ≡ pos 0
    one a b x y p q = let o = num (pos 0) in follows (dot n u ∷ dot n d ∷ a ∷ b ∷ x ∷ y ∷ []) (at 0 ⊗ (at 2 ⊗ at 5 ⊖ at 3 ⊗ at 4)) o
        (given (at 2) (at 0 ⊗ at 5 ⊕ (o ⊖ at 1) ⊗ at 3) o q (given (o ⊖ at 3) (at 0 ⊗ at 4 ⊕ (o ⊖ at 1) ⊗ at 2) o p none)) tt

-- the shares of a direction as forms
share_d-form : (u d v : Vector) → share_d u d v ≡ dot (cross (cross u d) u) v
share_d-form u d v =
    let ux = at 0 in let uy = at 1 in let uz = at 2 in
    let dx = at 3 in let dy = at 4 in let dz = at 5 in
    let vx = at 6 in let vy = at 7 in let vz = at 8 in
    let lx = uy ⊗ dz ⊖ uz ⊗ dy in let ly = uz ⊗ dx ⊖ ux ⊗ dz in let lz = ux ⊗ dy ⊖ uy ⊗ dx in
    ring (u.x ∷ u.y ∷ u.z ∷ d.x ∷ d.y ∷ d.z ∷ v.x ∷ v.y ∷ v.z ∷ [])
    ((uy ⊗ vz ⊖ uz ⊗ vy) ⊗ lx ⊕ (uz ⊗ vx ⊖ ux ⊗ vz) ⊗ ly ⊕ (ux ⊗ vy ⊖ uy ⊗ vx) ⊗ lz)
    ((ly ⊗ uz ⊖ lz ⊗ uy) ⊗ vx ⊕ (lz ⊗ ux ⊖ lx ⊗ uz) ⊗ vy ⊕ (lx ⊗ uy ⊖ ly ⊗ ux) ⊗ vz) tt

share_u-form : (u d v : Vector) → share_u u d v ≡ dot (cross d (cross u d)) v
share_u-form u d v =
    let ux = at 0 in let uy = at 1 in let uz = at 2 in
    let dx = at 3 in let dy = at 4 in let dz = at 5 in
    let vx = at 6 in let vy = at 7 in let vz = at 8 in
    let lx = uy ⊗ dz ⊖ uz ⊗ dy in let ly = uz ⊗ dx ⊖ ux ⊗ dz in let lz = ux ⊗ dy ⊖ uy ⊗ dx in
    ring (u.x ∷ u.y ∷ u.z ∷ d.x ∷ d.y ∷ d.z ∷ v.x ∷ v.y ∷ v.z ∷ [])
    ((vy ⊗ dz ⊖ vz ⊗ dy) ⊗ lx ⊕ (vz ⊗ dx ⊖ vx ⊗ dz) ⊗ ly ⊕ (vx ⊗ dy ⊖ vy ⊗ dx) ⊗ lz)
    ((dy ⊗ lz ⊖ dz ⊗ ly) ⊗ vx ⊕ (dz ⊗ lx ⊖ dx ⊗ lz) ⊗ vy ⊕ (dx ⊗ ly ⊖ dy ⊗ lx) ⊗ vz) tt

-- the numbers of the forms of a meridian at its own directions
turn-self : (u d : Vector) → (dot (cross (cross u d) u) d ≡ dot (cross u d) (cross u d)) × (dot (cross d (cross u d)) u ≡ dot (cross u d) (cross u d))
turn-self u d =
    let ux = at 0 in let uy = at 1 in let uz = at 2 in
    let dx = at 3 in let dy = at 4 in let dz = at 5 in
    let lx = uy ⊗ dz ⊖ uz ⊗ dy in let ly = uz ⊗ dx ⊖ ux ⊗ dz in let lz = ux ⊗ dy ⊖ uy ⊗ dx in
    let xs = u.x ∷ u.y ∷ u.z ∷ d.x ∷ d.y ∷ d.z ∷ [] in (
      ring xs ((ly ⊗ uz ⊖ lz ⊗ uy) ⊗ dx ⊕ (lz ⊗ ux ⊖ lx ⊗ uz) ⊗ dy ⊕ (lx ⊗ uy ⊖ ly ⊗ ux) ⊗ dz) (lx ⊗ lx ⊕ ly ⊗ ly ⊕ lz ⊗ lz) tt,
      ring xs ((dy ⊗ lz ⊖ dz ⊗ ly) ⊗ ux ⊕ (dz ⊗ lx ⊖ dx ⊗ lz) ⊗ uy ⊕ (dx ⊗ ly ⊖ dy ⊗ lx) ⊗ uz) (lx ⊗ lx ⊕ ly ⊗ ly ⊕ lz ⊗ lz) tt,
    )

-- a direction along the meet lies over d
rise-over : (u n d v : Vector) → pos 0 <ℤ dot n u → dot n d <ℤ pos 0 → IsDirection (cross u d) → IsDirection v → SameDirection v (rise u n d) → LiesOver u d v
rise-over u n d v h l f hv w =
    let m = cross u d in
    let ll = self-pos m f in
    let r = rise u n d in
    let value = λ (g : Vector). rise-is u n g d ∙ rise_form-value u n g d in
    let a = cross m u in
    let b = cross d m in
    let ra : dot a r ≡ dot n u *ℤ dot m m = value a ∙ ap (λ z. dot n u *ℤ z +ℤ (pos 0 -ℤ dot a u) *ℤ dot n d) ((turn-self u d).0) ∙ ap (λ z. dot n u *ℤ dot m m +ℤ (pos 0 -ℤ z) *ℤ dot n d) (cross-last m u)
    ∙ ring (dot n u ∷ dot m m ∷ dot n d ∷ []) (at 0 ⊗ at 1 ⊕ (num (pos 0) ⊖ num (pos 0)) ⊗ at 2) (at 0 ⊗ at 1) tt in
    let rb : dot b r ≡ (pos 0 -ℤ dot n d) *ℤ dot m m = value b ∙ ap (λ z. dot n u *ℤ z +ℤ (pos 0 -ℤ dot b u) *ℤ dot n d) (cross-self d m) ∙ ap (λ z. dot n u *ℤ pos 0 +ℤ (pos 0 -ℤ z) *ℤ dot n d) ((turn-self u d).1)
    ∙ ring (dot n u ∷ dot m m ∷ dot n d ∷ []) (at 0 ⊗ num (pos 0) ⊕ (num (pos 0) ⊖ at 1) ⊗ at 2) ((num (pos 0) ⊖ at 2) ⊗ at 1) tt in
    let rm : dot m r ≡ pos 0 = value m ∙ ap (λ z. dot n u *ℤ z +ℤ (pos 0 -ℤ dot m u) *ℤ dot n d) (cross-last u d) ∙ ap (λ z. dot n u *ℤ pos 0 +ℤ (pos 0 -ℤ z) *ℤ dot n d) (cross-self u d)
    ∙ ring (dot n u ∷ dot n d ∷ []) (at 0 ⊗ num (pos 0) ⊕ (num (pos 0) ⊖ num (pos 0)) ⊗ at 1) (num (pos 0)) tt in
    let same = λ (g : Vector). dir-signs v r g hv w in
    let pa = mul_pos (dot n u) (dot m m) h ll in
    let pb = mul_pos (pos 0 -ℤ dot n d) (dot m m) (omega (arith, ints)) ll in
    record {
      level = same-nought (dot m r) (dot m v) (sym (same m)) rm;
      of_d = subst (λ (z : ℤ). pos 0 <ℤ z) (sym (share_d-form u d v)) (same-plus (dot a r) (dot a v) (sym (same a)) (omega (arith, ints)));
      of_u = subst (λ (z : ℤ). pos 0 <ℤ z) (sym (share_u-form u d v)) (same-plus (dot b r) (dot b v) (sym (same b)) (omega (arith, ints)));
    }

module _ (M : Map) (V : Shaped M) (u : Vector) (ahead : (k : ℕ) (x : Item) → IsAt (items M) k x → pos 0 <ℤ dot (item_normal x) u) (d : Vector) (f : IsDirection (cross u d)) where
  -- nothing on whose plane d lies is over e
  abbrev pub Clean : Vector → Type 0
  Clean e = (k : ℕ) (x : Item) → IsAt (items M) k x → dot (item_normal x) d ≡ pos 0 → IsOver M u x e → ⊥

  -- a svertex that ends an item over d
  pub end-over : (k j : ℕ) (x : Item) (v : MapVertex) → IsAt (items M) k x → IsAt M.svertices j v → dot (item_normal x) d <ℤ pos 0 → SameDirection v.dir (rise u (item_normal x) d) → LiesOver u d v.dir
  end-over k j x v a b l w = rise-over u (item_normal x) d v.dir (ahead k x a) l f (V.svertex_dirs j v b) w

  module _ (e : Vector) (near : Keeps (over_forms M u) d e) (clean : Clean e) where
    near-normal : (k : ℕ) (x : Item) → IsAt (items M) k x → (dot (item_normal x) d ≡ pos 0 → ⊥) → sign (dot (item_normal x) e) ≡ sign (dot (item_normal x) d)
    near-normal k x a g = near (item_normal x) (form-over M u (item_normal x) (item-forms M k x (item_normal x) a (normal-form M x))) g

    pub over-below : (k : ℕ) (x : Item) → IsAt (items M) k x → IsOver M u x e → dot (item_normal x) d <ℤ pos 0
    over-below k x a o = by_order (dot (item_normal x) d) (pos 0)
        (λ l. l)
        (λ z. absurd (clean k x a z o))
        (λ l. let b = o.below in let c = kept-plus (item_normal x) d e (near-normal k x a) l in absurd (omega (arith, ints)))

    pub over-touches : (k : ℕ) (x : Item) → IsAt (items M) k x → IsOver M u x e → Touches M x (rise u (item_normal x) d)
    over-touches k x a o = touches-back M V (rise u (item_normal x) d) (rise u (item_normal x) e) (rise-keeps M u d e k x a (λ m l. near m (meridian-over M u m l))) k x a
        (rise-direction u (item_normal x) d (ahead k x a) f) o.on

    -- nothing meets or ends over d: nothing lies over e
    pub none-near : IsFirst M u d None → ((k : ℕ) (v : MapVertex) → IsAt M.svertices k v → LiesOver u d v.dir → ⊥) → IsFirst M u e None
    none-near n s k x a o = by (over-touches k x a o)
      where
        by : Touches M x (rise u (item_normal x) d) → ⊥
        by (meets p) = n k x a (record { below = over-below k x a o; on = p })
        by (ends j v r b q t w) = s j v b (end-over k j x v a b (over-below k x a o) w)

    -- an item meets before anything ends
    pub first-near : (i : ℕ) (F : IsFirstItem M u d i) → ((k : ℕ) (v : MapVertex) → IsAt M.svertices k v → LiesOver u d v.dir → dot (item_normal F.item) v.dir <ℤ pos 0 → ⊥) → IsFirstItem M u e i
    first-near i F s = record {
      item = F.item;
      listed = F.listed;
      over = record {
        below = kept-minus n d e (near-normal i F.item F.listed) F.over.below;
        on = OnItem-stays M F.item (rise u n d) (rise u n e) (λ g l. rise-keeps M u d e i F.item F.listed (λ m j. near m (meridian-over M u m j)) g (item-forms M i F.item g F.listed l)) (rise-level u n e) F.over.on;
      };
      first = λ k y a o. after k y a o (over-touches k y a o);
    }
      where
        n : Vector
        n = item_normal F.item

        after : (k : ℕ) (y : Item) → IsAt (items M) k y → IsOver M u y e → Touches M y (rise u (item_normal y) d) → pos 0 ≤ℤ dot (item_normal F.item) (rise u (item_normal y) e)
        after k y a o t = by_order (dot m r) (pos 0)
            (λ l. absurd (lower l t))
            (λ z. level z)
            (λ l. let p = same-plus (dot m r) (dot m (rise u (item_normal y) e)) (kept (λ z. omega (arith, ints))) l in omega (arith, ints))
          where
            m : Vector
            m = item_normal F.item

            r : Vector
            r = rise u (item_normal y) d

            kept : (dot m r ≡ pos 0 → ⊥) → sign (dot m (rise u (item_normal y) e)) ≡ sign (dot m r)
            kept = rise-keeps M u d e k y a (λ h j. near h (meridian-over M u h j)) m (item-forms M i F.item m F.listed (normal-form M F.item))

            lower : dot m r <ℤ pos 0 → Touches M y r → ⊥
            lower l (meets p) = let c = F.first k y a (record { below = over-below k y a o; on = p }) in omega (arith, ints)
            lower l (ends j v q b g w z) = s j v b (end-over k j y v a b (over-below k y a o) z) (same-minus (dot m r) (dot m v.dir) (sym (dir-signs v.dir r m (V.svertex_dirs j v b) z)) l)

            level : dot m r ≡ pos 0 → pos 0 ≤ℤ dot m (rise u (item_normal y) e)
            level z =
                let on : _ = OnItem-by_signs M F.item (rise u m d) r (λ g l. sym (rises-together u d m (item_normal y) g (ahead i F.item F.listed) (ahead k y a) z)) F.over.on in
                let q = touches-on M V i k F.item y r F.listed a on t in
                let w = is-at_one (items M) k F.item y (subst (λ (j : ℕ). IsAt (items M) j F.item) q F.listed) a in
                let c = rise-level u m e in
                subst (λ (x : Item). pos 0 ≤ℤ dot m (rise u (item_normal x) e)) w (omega (arith, ints))
