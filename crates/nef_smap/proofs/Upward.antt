-- The upward direction lies on the upper side of every plane of a sphere map and is parallel to no svertex; and which items lie over close directions.
use Rattle.nef_smap.proofs.Prelude.{◌≡◌, ℕ, zero, suc, ◌<◌, ◌≤◌, length, ℤ, pos, negsuc, ◌*ℤ◌, ◌≤ℤ◌, ◌<ℤ◌, nat_abs, arith, refl, ap, sym, ◌∙◌, inl, inr, ⊎_elim, [], ◌∷◌, subst, ◌↔◌, ints, length-map, eqb_tells, ring, at, num, ◌⊗◌, minus, plus, sign, sign-minus, minus-is, nought-is, mul_pos, Lies, normal_limit, svertex_limit, Vector, vector, IsDirection, IsNormal, IsAtMost, cross, triple, dot, up, SameDirection, Decided, vector_of, IsAt, MapVertex, Arc, MapSloop, Map, Item, arc_item, sloop_item, items, item_normal, dir_of, ArcBetween, Shaped, axis_x, axis_y, axis_z, normal-is, axis_x-is, axis_y-is, axis_z-is, item-forms, normal-form, axes-forms, cross-self, dir-at, arc-at, Close, SArc, SphereMap, svertex_of, arc_of, map_of, IsSphereMap, rise, rise_form, IsOver, close_sign, IsClose, ArcPasses, zero-dot, self-pos}
use Rattle.nef_smap.proofs.Rise.{rise-is, rise-level, form-over, meridian-over, meridian-turn, svertex-meridian, rise-meridian}
use Rattle.nef_smap.proofs.Close.{rise-direction}
use Rattle.nef_smap.proofs.CloseSigns.{level-sign, passes-alike}
use Rattle.nef_smap.proofs.Passing.{passes-on, on-passes}
use Rattle.nef_smap.proofs.Stands.{first-none}
use Rattle.nef_space.proofs.Lists.{is-at_within}
use Rattle.nef_space.proofs.Elementary.{nought-factor}

-- ---- upward
pub normal-ahead : (n : Vector) → IsNormal n → IsAtMost normal_limit n → pos 0 <ℤ dot n up
normal-ahead n h s = leads n.x n.y n.z h s.of_y s.of_z
  where
    leads : (a b c : ℤ) → IsNormal (vector a b c) → nat_abs b ≤ normal_limit → nat_abs c ≤ normal_limit → pos 0 <ℤ dot (vector a b c) up
    leads (negsuc n) b c h sb sc = absurd (let f : pos 0 ≤ℤ negsuc n = h.first in omega (arith, ints))
    leads (pos (suc n)) b c h sb sc = omega (arith, ints)
    leads (pos zero) (negsuc n) c h sb sc = absurd (let f : pos 0 ≤ℤ negsuc n = h.second refl in omega (arith, ints))
    leads (pos zero) (pos (suc n)) c h sb sc = omega (arith, ints)
    leads (pos zero) (pos zero) c h sb sc = let f : pos 0 <ℤ c = h.third refl refl in omega (arith, ints)

pub svertex-across : (v : Vector) → IsDirection v → IsAtMost svertex_limit v → IsDirection (cross up v)
svertex-across v h s z = let a = s.of_x in let p = z.0 in let q = z.1 in let t : v.z ≡ pos 0 = omega (arith, ints) in h (omega (arith, ints), omega (arith, ints), t)

-- a form that is nought at u and c isn't at a direction aside
pub aside-off : (u c a m : Vector) → (dot (cross u c) a ≡ pos 0 → ⊥) → dot m u ≡ pos 0 → IsDirection m → dot m c ≡ pos 0 → dot m a ≡ pos 0 → ⊥
aside-off u c a m off mu hm mc ma =
    let l = cross u c in
    let x = meridian-turn u c m a mu mc in
    let y = meridian-turn u c m m mu mc in
    let p = ap (λ r. dot l l *ℤ r) ma in
    let o = ring (dot l l ∷ []) (at 0 ⊗ num (pos 0)) (num (pos 0)) tt in
    let q : dot m l *ℤ dot l a ≡ pos 0 = omega (arith, ints) in
    let ml = nought-factor (dot m l) (dot l a) off q in
    let w = ap (λ r. r *ℤ dot l m) ml in
    let o' = ring (dot l m ∷ []) (num (pos 0) ⊗ at 0) (num (pos 0)) tt in
    let t = mul_pos (dot l l) (dot m m) (self-pos l (λ z. off (zero-dot l a z))) (self-pos m hm) in
    omega (arith, ints)

module _ (m : SphereMap) (S : IsSphereMap m) where
  abbrev M : Map
  M = map_of m

  abbrev V : Shaped M
  V = let v = S.valid in v.shaped

  pub map-ahead : (k : ℕ) (x : Item) → IsAt (items M) k x → pos 0 <ℤ dot (item_normal x) up
  map-ahead k x a = let v = S.valid in let s = S.small in normal-ahead (item_normal x) (v.shaped.normals k x a) (s.normals k x a)

  pub map-across : (k : ℕ) (v : MapVertex) → IsAt M.svertices k v → IsDirection (cross up v.dir)
  map-across k v a = let w = S.valid in let s = S.small in svertex-across v.dir (w.shaped.svertex_dirs k v a) (s.svertices k v a)

  -- ---- what lies over directions close to one
  module _ (w : Close) (off : dot (cross up (vector_of w.at)) (vector_of w.aside) ≡ pos 0 → ⊥) (d : Vector) (close : IsClose m w d) where
    some-l : IsDirection (cross up (vector_of w.at))
    some-l z = off (zero-dot (cross up (vector_of w.at)) (vector_of w.aside) z)

    -- the meets are directions
    some-rise : (k : ℕ) (x : Item) → IsAt (items M) k x → IsDirection (rise up (item_normal x) d)
    some-rise k x a z = rise-direction up n at (map-ahead k x a) some-l (
      sym (axis_x-is (rise up n at)) ∙ one axis_x (inl refl) (axis_x-is (rise up n d) ∙ z.0),
      sym (axis_y-is (rise up n at)) ∙ one axis_y (inr (inl refl)) (axis_y-is (rise up n d) ∙ z.1),
      sym (axis_z-is (rise up n at)) ∙ one axis_z (inr (inr (inl refl))) (axis_z-is (rise up n d) ∙ z.2),
    )
      where
        n : Vector
        n = item_normal x

        at : Vector
        at = vector_of w.at

        one : (g : Vector) → Lies (axis_x ∷ axis_y ∷ axis_z ∷ []) g → dot g (rise up (item_normal x) d) ≡ pos 0 → dot g (rise up (item_normal x) (vector_of w.at)) ≡ pos 0
        one g l e =
            let f = rise_form up n g in
            let i = meridian-over M up f (rise-meridian M up k x g a (axes-forms M g l)) in
            let s = sym (close f i) ∙ ap sign (sym (rise-is up n g d) ∙ e) in
            let r = first-none (sign (dot f at)) _ s in
            rise-is up n g at ∙ nought-is (dot f at) r.0

    -- no end of an item lies over d
    end-off : (k : ℕ) (v : MapVertex) → IsAt M.svertices k v → dot (cross up v.dir) d ≡ pos 0 → ⊥
    end-off k v a z =
        let f = cross up v.dir in
        let i = svertex-meridian M up k v a in
        let level = rise-level-of v in
        let s = sym (level-sign f w level) ∙ sym (close f (meridian-over M up f i)) ∙ ap sign z in
        let r = first-none (sign (dot f (vector_of w.at))) (sign (dot f (vector_of w.aside))) s in
        aside-off up (vector_of w.at) (vector_of w.aside) f off level (map-across k v a) (nought-is (dot f (vector_of w.at)) r.0) (nought-is (dot f (vector_of w.aside)) r.1)
      where
        rise-level-of : (v : MapVertex) → dot (cross up v.dir) up ≡ pos 0
        rise-level-of v = cross-self up v.dir

    pub below-is : (k : ℕ) (x : Item) → IsAt (items M) k x → close_sign (item_normal x) w ≡ minus ↔ dot (item_normal x) d <ℤ pos 0
    below-is k x a =
        let n = item_normal x in
        let e = close n (form-over M up n (item-forms M k x n a (normal-form M x))) in
        (λ h. minus-is (dot n d) (e ∙ h), λ h. sym e ∙ sign-minus (dot n d) h)

    -- where the meet with one item's plane lies at another's
    pub rise-sign : (k l : ℕ) (x y : Item) → IsAt (items M) k x → IsAt (items M) l y → sign (dot (item_normal y) (rise up (item_normal x) d)) ≡ close_sign (rise_form up (item_normal x) (item_normal y)) w
    rise-sign k l x y a b =
        let n = item_normal x in
        let g = item_normal y in
        ap sign (rise-is up n g d) ∙ close (rise_form up n g) (meridian-over M up (rise_form up n g) (rise-meridian M up k x g a (item-forms M l y g b (normal-form M y))))

    pub sloop-over : (k : ℕ) (l : MapSloop) → IsAt (items M) k (sloop_item l) → close_sign l.normal w ≡ minus ↔ IsOver M up (sloop_item l) d
    sloop-over k l a = let b = below-is k (sloop_item l) a in (
      λ h. record { below = b.0 h; on = record { direction = some-rise k (sloop_item l) a; level = rise-level up l.normal d } },
      λ o. b.1 o.below,
    )

    pub arc-over : (k : ℕ) (r : Arc) → IsAt (items M) k (arc_item r)
        → ((close_sign r.normal w ≡ minus) × ArcPasses (sign (triple r.normal (dir_of M.svertices r.source) (dir_of M.svertices r.target))) (close_sign (cross up (dir_of M.svertices r.source)) w ≡ plus) (close_sign (cross up (dir_of M.svertices r.target)) w ≡ minus) (r.source ≡ r.target))
        ↔ IsOver M up (arc_item r) d
    arc-over k r a = (
      λ h. record { below = let b = below-is k (arc_item r) a in b.0 h.0; on = passes-on n s t d up hn hs ht ls lt hy off_s off_t E E? one two (let p = alike in p.0 h.1) },
      λ o. (let b = below-is k (arc_item r) a in b.1 o.below, let p = alike in p.1 (on-passes n s t d up hn hs ht ls lt hy off_s off_t E E? one two o.on)),
    )
      where
        n : Vector
        n = r.normal

        s : Vector
        s = dir_of M.svertices r.source

        t : Vector
        t = dir_of M.svertices r.target

        between : ArcBetween M r
        between = V.arcs_between k r (arc-at M.arcs M.sloop k r a)

        s-is : dir_of M.svertices r.source ≡ between.source.dir
        s-is = dir-at M.svertices r.source between.source between.has_source

        t-is : dir_of M.svertices r.target ≡ between.target.dir
        t-is = dir-at M.svertices r.target between.target between.has_target

        hn : IsDirection r.normal
        hn = normal-is V k (arc_item r) a

        hs : IsDirection (dir_of M.svertices r.source)
        hs = subst IsDirection (sym s-is) (V.svertex_dirs r.source between.source between.has_source)

        ht : IsDirection (dir_of M.svertices r.target)
        ht = subst IsDirection (sym t-is) (V.svertex_dirs r.target between.target between.has_target)

        ls : dot r.normal (dir_of M.svertices r.source) ≡ pos 0
        ls = subst (λ (v : Vector). dot r.normal v ≡ pos 0) (sym s-is) between.level_source

        lt : dot r.normal (dir_of M.svertices r.target) ≡ pos 0
        lt = subst (λ (v : Vector). dot r.normal v ≡ pos 0) (sym t-is) between.level_target

        hy : IsDirection (rise up r.normal d)
        hy = some-rise k (arc_item r) a

        off_s : dot (cross up (dir_of M.svertices r.source)) d ≡ pos 0 → ⊥
        off_s = subst (λ (v : Vector). dot (cross up v) d ≡ pos 0 → ⊥) (sym s-is) (end-off r.source between.source between.has_source)

        off_t : dot (cross up (dir_of M.svertices r.target)) d ≡ pos 0 → ⊥
        off_t = subst (λ (v : Vector). dot (cross up v) d ≡ pos 0 → ⊥) (sym t-is) (end-off r.target between.target between.has_target)

        E : Type 0
        E = r.source ≡ r.target

        E? : Decided (r.source ≡ r.target)
        E? = ⊎_elim (λ h. inl h.1) (λ h. inr h.1) (eqb_tells r.source r.target)

        one : r.source ≡ r.target → dir_of M.svertices r.source ≡ dir_of M.svertices r.target
        one e = ap (dir_of M.svertices) e

        two : (r.source ≡ r.target → ⊥) → SameDirection (dir_of M.svertices r.source) (dir_of M.svertices r.target) → ⊥
        two f w = f (V.svertices_apart r.source r.target between.source between.target between.has_source between.has_target
            (subst (λ (v : Vector). SameDirection v between.target.dir) s-is (subst (SameDirection (dir_of M.svertices r.source)) t-is w)))

        end-sign : (v : MapVertex) (j : ℕ) → IsAt M.svertices j v → sign (dot (cross up v.dir) d) ≡ close_sign (cross up v.dir) w
        end-sign v j b = close (cross up v.dir) (meridian-over M up (cross up v.dir) (svertex-meridian M up j v b))

        s-sign : sign (dot (cross up (dir_of M.svertices r.source)) d) ≡ close_sign (cross up (dir_of M.svertices r.source)) w
        s-sign = subst (λ (v : Vector). sign (dot (cross up v) d) ≡ close_sign (cross up v) w) (sym s-is) (end-sign between.source r.source between.has_source)

        t-sign : sign (dot (cross up (dir_of M.svertices r.target)) d) ≡ close_sign (cross up (dir_of M.svertices r.target)) w
        t-sign = subst (λ (v : Vector). sign (dot (cross up v) d) ≡ close_sign (cross up v) w) (sym t-is) (end-sign between.target r.target between.has_target)

        alike : ArcPasses (sign (triple n s t)) (close_sign (cross up s) w ≡ plus) (close_sign (cross up t) w ≡ minus) E ↔ ArcPasses (sign (triple n s t)) (sign (dot (cross up s) d) ≡ plus) (sign (dot (cross up t) d) ≡ minus) E
        alike = passes-alike (sign (triple n s t)) (close_sign (cross up s) w ≡ plus) (sign (dot (cross up s) d) ≡ plus) (close_sign (cross up t) w ≡ minus) (sign (dot (cross up t) d) ≡ minus) E E
            (λ h. s-sign ∙ h, λ h. sym s-sign ∙ h) (λ h. t-sign ∙ h, λ h. sym t-sign ∙ h) (λ h. h, λ h. h)

  -- ---- the ends of an arc
  pub ends-within : (k : ℕ) (r : SArc) → IsAt (items M) k (arc_item (arc_of r)) → (r.source < length m.svertices) × (r.target < length m.svertices)
  ends-within k r a =
      let b = V.arcs_between k (arc_of r) (arc-at M.arcs M.sloop k (arc_of r) a) in
      let l = length-map m.svertices svertex_of in
      let p = is-at_within M.svertices r.source b.source b.has_source in
      let q = is-at_within M.svertices r.target b.target b.has_target in
      (omega (arith, l), omega (arith, l))
