-- What lies over a direction close to d lies over d, or ends over d.
use Rattle.nef_smap.proofs.Prelude.{◌≡◌, ℕ, pos, ◌-ℤ◌, ◌*ℤ◌, ◌<ℤ◌, arith, refl, ap, sym, ◌∙◌, ◌⊎◌, inl, inr, ⊎_elim, [], ◌∷◌, subst, Option, Some, None, ints, ring, at, num, ◌⊕◌, ◌⊖◌, ◌⊗◌, follows, given, none, sign, by_order, sign-scaled, same-nought, Vector, IsDirection, dot, SameDirection, IsAt, MapVertex, Arc, Map, Item, arc_item, sloop_item, items, item_normal, dir_of, OnItem, Shaped, SameSigns, Keeps, forms, normal-is, same-minus, is-at_one, kept-nought, SameDirection-decided, Decided, item-forms, normal-form, on-level, OnItem-by_signs, dir-at, arc-at, IsStrictlyOn-back, rise, meridians, IsOver, IsFirst, dir-signs}
use Rattle.nef_smap.proofs.Rise.{rise-is, rise_form-value, rise-same}
use Rattle.law_geometry.proofs.sphere.Arcs.{ends-of}

-- ---- an item close to y is met at y or has an end there
pub data Touches (M : Map) (x : Item) (y : Vector) : Type 0 where
  meets : OnItem M x y → Touches M x y
  ends : (k : ℕ) (v : MapVertex) (a : Arc) → IsAt M.svertices k v → x ≡ arc_item a → (a.source ≡ k) ⊎ (a.target ≡ k) → SameDirection v.dir y → Touches M x y

module _ (M : Map) (V : Shaped M) where
  pub touches-back : (d e : Vector) → Keeps (forms M) d e → (i : ℕ) (x : Item) → IsAt (items M) i x → IsDirection d → OnItem M x e → Touches M x d
  touches-back d e k i (sloop_item l) a f o = meets (record { direction = f; level = kept-nought l.normal d e (k l.normal (item-forms M i (sloop_item l) l.normal a (inl refl))) o.level })
  touches-back d e k i (arc_item r) a f o = by (SameDirection-decided (dir_of M.svertices r.source) d) (SameDirection-decided (dir_of M.svertices r.target) d)
    where
      by : Decided (SameDirection (dir_of M.svertices r.source) d) → Decided (SameDirection (dir_of M.svertices r.target) d) → Touches M (arc_item r) d
      by (inl w) y = let b = V.arcs_between i r (arc-at M.arcs M.sloop i r a) in
          ends r.source b.source r b.has_source refl (inl refl) (subst (λ (v : Vector). SameDirection v d) (dir-at M.svertices r.source b.source b.has_source) w)
      by (inr n) (inl w) = let b = V.arcs_between i r (arc-at M.arcs M.sloop i r a) in
          ends r.target b.target r b.has_target refl (inr refl) (subst (λ (v : Vector). SameDirection v d) (dir-at M.svertices r.target b.target b.has_target) w)
      by (inr n) (inr m) =
          let E = ends-of M V i r (arc-at M.arcs M.sloop i r a) in
          meets (IsStrictlyOn-back r.normal (dir_of M.svertices r.source) (dir_of M.svertices r.target) d e (normal-is V i (arc_item r) a)
          E.source_direction E.target_direction E.source_level E.target_level
          (λ g l. k g (item-forms M i (arc_item r) g a l)) f n m o)

  -- no item but x touches a direction on x
  pub touches-on : (i j : ℕ) (x y : Item) (d : Vector) → IsAt (items M) i x → IsAt (items M) j y → OnItem M x d → Touches M y d → i ≡ j
  touches-on i j x y d a b o (meets p) = V.no_items_meet i j x y d a b o p
  touches-on i j x y d a b o (ends k v r c e q w) = absurd (V.no_svertex_on_item k i v x c a (OnItem-by_signs M x d v.dir (λ g l. sym (dir-signs v.dir d g (V.svertex_dirs k v c) w)) o))

  -- ends lie in the plane
  arc_end-level : (i k : ℕ) (v : MapVertex) (r : Arc) → IsAt (items M) i (arc_item r) → IsAt M.svertices k v → (r.source ≡ k) ⊎ (r.target ≡ k) → dot r.normal v.dir ≡ pos 0
  arc_end-level i k v r a c q =
      let b = V.arcs_between i r (arc-at M.arcs M.sloop i r a) in
      ⊎_elim
      (λ e. subst (λ (w : MapVertex). dot r.normal w.dir ≡ pos 0) (is-at_one M.svertices k b.source v (subst (λ (j : ℕ). IsAt M.svertices j b.source) e b.has_source) c) b.level_source)
      (λ e. subst (λ (w : MapVertex). dot r.normal w.dir ≡ pos 0) (is-at_one M.svertices k b.target v (subst (λ (j : ℕ). IsAt M.svertices j b.target) e b.has_target) c) b.level_target) q

  pub touches-level : (i : ℕ) (x : Item) (d : Vector) → IsAt (items M) i x → Touches M x d → dot (item_normal x) d ≡ pos 0
  touches-level i x d a (meets o) = on-level M x d o
  touches-level i x d a (ends k v r c e q w) = subst (λ (y : Item). dot (item_normal y) d ≡ pos 0) (sym e)
      (same-nought (dot r.normal v.dir) (dot r.normal d) (dir-signs v.dir d r.normal (V.svertex_dirs k v c) w) (arc_end-level i k v r (subst (IsAt (items M) i) e a) c q))

-- ---- the same signs
-- the item lies on one side of both, or over neither
pub data Alike (M : Map) (u d e : Vector) (x : Item) : Type 0 where
  one_side : sign (dot (item_normal x) e) ≡ sign (dot (item_normal x) d) → Alike M u d e x
  over_none : (IsOver M u x d → ⊥) → (IsOver M u x e → ⊥) → Alike M u d e x

module _ (M : Map) (u : Vector) where
  pub over-same : (d e : Vector) → SameSigns (meridians M u) d e → (k : ℕ) (x : Item) → IsAt (items M) k x → sign (dot (item_normal x) e) ≡ sign (dot (item_normal x) d) → IsOver M u x d → IsOver M u x e
  over-same d e h k x a s o = record {
    below = same-minus (dot (item_normal x) d) (dot (item_normal x) e) s o.below;
    on = OnItem-by_signs M x (rise u (item_normal x) d) (rise u (item_normal x) e) (λ g l. rise-same M u d e k x a h g (item-forms M k x g a l)) o.on;
  }

  over-alike : (d e : Vector) → SameSigns (meridians M u) d e → (k : ℕ) (x : Item) → IsAt (items M) k x → Alike M u d e x → IsOver M u x d → IsOver M u x e
  over-alike d e h k x a (one_side s) o = over-same d e h k x a s o
  over-alike d e h k x a (over_none f g) o = absurd (f o)

  turned : (d e : Vector) (x : Item) → Alike M u d e x → Alike M u e d x
  turned d e x (one_side s) = one_side (sym s)
  turned d e x (over_none f g) = over_none g f

  -- what is first over d is first over e
  pub moved : (d e : Vector) → SameSigns (meridians M u) d e → ((k : ℕ) (x : Item) → IsAt (items M) k x → Alike M u d e x) → (r : Option ℕ) → IsFirst M u d r → IsFirst M u e r
  moved d e h each None f = λ k x a o. f k x a (over-alike e d (λ m l. sym (h m l)) k x a (turned d e x (each k x a)) o)
  moved d e h each (Some i) f = record {
    item = f.item;
    listed = f.listed;
    over = over-alike d e h i f.item f.listed (each i f.item f.listed) f.over;
    first = λ l y a o.
        let n = item_normal f.item in
        let s = rise-same M u d e l y a h n (item-forms M i f.item n f.listed (normal-form M f.item)) in
        let b = f.first l y a (over-alike e d (λ m j. sym (h m j)) l y a (turned d e y (each l y a)) o) in
        by_order (dot n (rise u (item_normal y) e)) (pos 0)
        (λ w. let z = same-minus (dot n (rise u (item_normal y) e)) (dot n (rise u (item_normal y) d)) (sym s) w in absurd (omega (arith, ints)))
        (λ z. omega (arith, ints))
        (λ w. omega (arith, ints));
  }

-- ---- two planes that meet over d
-- the value of one normal at the meet of the other plane is turned where the two are exchanged
pub rise-exchanged : (u d m n : Vector) → dot m (rise u n d) ≡ pos 0 -ℤ dot n (rise u m d)
rise-exchanged u d m n = rise-is u n m d ∙ rise_form-value u n m d
    ∙ ring (dot n u ∷ dot m d ∷ dot m u ∷ dot n d ∷ []) (at 0 ⊗ at 1 ⊕ (num (pos 0) ⊖ at 2) ⊗ at 3) (num (pos 0) ⊖ (at 2 ⊗ at 3 ⊕ (num (pos 0) ⊖ at 0) ⊗ at 1)) tt
    ∙ ap (λ r. pos 0 -ℤ r) (sym (rise-is u m n d ∙ rise_form-value u m n d))

-- where the meets are the same direction
pub rises-together : (u d m n g : Vector) → pos 0 <ℤ dot m u → pos 0 <ℤ dot n u → dot m (rise u n d) ≡ pos 0 → sign (dot g (rise u m d)) ≡ sign (dot g (rise u n d))
rises-together u d m n g hm hn z =
    sym (sign-scaled (dot n u) (dot g (rise u m d)) hn)
    ∙ ap sign (ap (λ r. dot n u *ℤ r) (rise-is u m g d ∙ rise_form-value u m g d)
    ∙ follows (dot m u ∷ dot n u ∷ dot m d ∷ dot n d ∷ dot g u ∷ dot g d ∷ [])
    (at 1 ⊗ (at 0 ⊗ at 5 ⊕ (num (pos 0) ⊖ at 4) ⊗ at 2)) (at 0 ⊗ (at 1 ⊗ at 5 ⊕ (num (pos 0) ⊖ at 4) ⊗ at 3))
    (given (num (pos 0) ⊖ at 4) (at 1 ⊗ at 2 ⊕ (num (pos 0) ⊖ at 0) ⊗ at 3) (num (pos 0)) (sym (rise-is u n m d ∙ rise_form-value u n m d) ∙ z) none) tt
    ∙ ap (λ r. dot m u *ℤ r) (sym (rise-is u n g d ∙ rise_form-value u n g d)))
    ∙ sign-scaled (dot m u) (dot g (rise u n d)) hm

module _ (M : Map) (V : Shaped M) (u : Vector) (ahead : (k : ℕ) (x : Item) → IsAt (items M) k x → pos 0 <ℤ dot (item_normal x) u) where
  pub first-one : (d : Vector) (r s : Option ℕ) → IsFirst M u d r → IsFirst M u d s → r ≡ s
  first-one d None None f g = refl
  first-one d None (Some k) f g = absurd (f k g.item g.listed g.over)
  first-one d (Some k) None f g = absurd (g k f.item f.listed f.over)
  first-one d (Some k) (Some l) f g =
      let m = item_normal f.item in
      let n = item_normal g.item in
      let p = f.first l g.item g.listed g.over in
      let q = g.first k f.item f.listed f.over in
      let e = rise-exchanged u d m n in
      ap Some (V.no_items_meet k l f.item g.item (rise u n d) f.listed g.listed
      (OnItem-by_signs M f.item (rise u m d) (rise u n d) (λ h j. sym (rises-together u d m n h (ahead k f.item f.listed) (ahead l g.item g.listed) (omega (arith, ints)))) f.over.on) g.over.on)
