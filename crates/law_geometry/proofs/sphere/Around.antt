-- Where a direction close to d lies: close to a free one all are free; close to one on an item, on the item or free.
use Rattle.law_geometry.proofs.sphere.Prelude.{◌≡◌, ℕ, ℤ, pos, ◌-ℤ◌, ◌*ℤ◌, ◌<ℤ◌, arith, refl, ap, sym, ◌⊎◌, inl, inr, ⊎_elim, ◌∷◌, subst, ◌∙◌, [], ints, ring, at, num, ◌⊖◌, ◌⊗◌, by_order, mul_pos, sign-scaled, Vector, IsDirection, triple, cross, dot, IsZero, SameDirection, IsOpposite, IsAt, MapVertex, Map, Item, arc_item, sloop_item, items, item_normal, dir_of, OnItem, IsFree, Shaped, IsStrictlyOn, Keeps, arc_forms, forms, self-pos, triple-dot, triple-middle, nought-if, triple-turned, opposites, dir-signs, parallel-in_plane, dot-scaled}
use Rattle.law_geometry.proofs.sphere.Vectors.{normal-is, same-plus, same-minus}
use Rattle.law_geometry.proofs.sphere.Places.{kept-nought, kept-minus, direction-stays, SameDirection-back}
use Rattle.law_geometry.proofs.sphere.Forms.{axes-forms, svertex-forms, item-forms, on-direction, on-level, OnItem-stays, OnItem-by_signs}
use Rattle.law_geometry.proofs.sphere.Shot.{dir-at, arc-at}
use Rattle.nef_space.proofs.Lists.{is-at_one}

-- ---- opposite to an end
-- where d is opposite to s, the turn from d to t is the other one than that from s to t
pub opposite-triple : (n s t d : Vector) → IsDirection s → IsZero (cross s d) → dot s s *ℤ triple n d t ≡ dot s d *ℤ triple n s t
opposite-triple n s t d h p = ap (λ r. dot s s *ℤ r) (triple-middle n d t) ∙ dot-scaled (cross t n) s d p ∙ ap (λ r. dot s d *ℤ r) (sym (triple-middle n s t))

pub data Beside (s d : Vector) : Type 0 where
  same_way : SameDirection s d → Beside s d
  other_way : IsOpposite s d → Beside s d

pub beside : (s d : Vector) → IsDirection s → IsDirection d → IsZero (cross s d) → Beside s d
beside s d hs hd p = by_order (dot s d) (pos 0) (λ l. other_way (record { parallel = p; backward = l })) (λ z. absurd (hd (nought-if s d hs p z))) (λ l. same_way (record { parallel = p; forward = l }))

pub turn-plus : (a b x y : ℤ) → pos 0 <ℤ a → a *ℤ x ≡ b *ℤ y → b <ℤ pos 0 → y <ℤ pos 0 → pos 0 <ℤ x
turn-plus a b x y h e l m = same-plus (a *ℤ x) x (sym (sign-scaled a x h)) (let p = mul_pos (pos 0 -ℤ b) (pos 0 -ℤ y) (omega (arith, ints)) (omega (arith, ints)) in let q = ring (b ∷ y ∷ []) ((num (pos 0) ⊖ at 0) ⊗ (num (pos 0) ⊖ at 1)) (at 0 ⊗ at 1) tt in omega (arith, ints))

pub turn-minus : (a b x y : ℤ) → pos 0 <ℤ a → a *ℤ x ≡ b *ℤ y → b <ℤ pos 0 → pos 0 <ℤ y → x <ℤ pos 0
turn-minus a b x y h e l m = same-minus (a *ℤ x) x (sym (sign-scaled a x h)) (let p = mul_pos (pos 0 -ℤ b) y (omega (arith, ints)) m in let q = ring (b ∷ y ∷ []) ((num (pos 0) ⊖ at 0) ⊗ at 1) (num (pos 0) ⊖ at 0 ⊗ at 1) tt in omega (arith, ints))

pub same-by : {s d : Vector} → Beside s d → (IsOpposite s d → ⊥) → SameDirection s d
same-by (same_way w) f = w
same-by (other_way o) f = absurd (f o)

pub opposite-by : {s d : Vector} → Beside s d → (SameDirection s d → ⊥) → IsOpposite s d
opposite-by (same_way w) f = absurd (f w)
opposite-by (other_way o) f = o

-- directions of one plane that are parallel and not the same
pub opposite-in_plane : (n s d : Vector) → IsDirection n → IsDirection s → IsDirection d → dot n s ≡ pos 0 → dot n d ≡ pos 0 → (SameDirection s d → ⊥) → triple n s d ≡ pos 0 → IsOpposite s d
opposite-in_plane n s d hn hs hd ls ld f z = opposite-by (beside s d hs hd (parallel-in_plane n s d hn ls ld z)) f

-- ---- an arc that is met close to d is met at d or has an end there
module _ (n s t d e : Vector) (hn : IsDirection n) (hs : IsDirection s) (ht : IsDirection t) (ls : dot n s ≡ pos 0) (lt : dot n t ≡ pos 0)
    (k : Keeps (arc_forms n s t) d e) (hd : IsDirection d) (off_s : SameDirection s d → ⊥) (off_t : SameDirection t d → ⊥) (o : IsStrictlyOn n s t e) where
  arc-level : dot n d ≡ pos 0
  arc-level = kept-nought n d e (k n (inl refl)) o.on_circle.level

  last-kept : triple n s d <ℤ pos 0 → triple n s e <ℤ pos 0
  last-kept h = subst (λ (r : ℤ). r <ℤ pos 0) (sym (triple-dot n s e)) (kept-minus (cross n s) d e (k (cross n s) (inr (inl refl))) (subst (λ (r : ℤ). r <ℤ pos 0) (triple-dot n s d) h))

  middle-kept : triple n d t <ℤ pos 0 → triple n e t <ℤ pos 0
  middle-kept h = subst (λ (r : ℤ). r <ℤ pos 0) (sym (triple-middle n e t)) (kept-minus (cross t n) d e (k (cross t n) (inr (inr (inl refl)))) (subst (λ (r : ℤ). r <ℤ pos 0) (triple-middle n d t) h))

  -- at the opposite of s
  past_source : triple n s d ≡ pos 0 → IsOpposite s d
  past_source = opposite-in_plane n s d hn hs hd ls arc-level off_s

  past_target : triple n d t ≡ pos 0 → IsOpposite t d
  past_target z = opposite-in_plane n t d hn ht hd lt arc-level off_t (let e = triple-turned n t d in omega (arith, ints))

  -- beyond s, the turn to t is the other one
  source-plus : IsOpposite s d → triple n s t <ℤ pos 0 → pos 0 <ℤ triple n d t
  source-plus w h = turn-plus (dot s s) (dot s d) (triple n d t) (triple n s t) (self-pos s hs) (opposite-triple n s t d hs w.parallel) w.backward h

  source-minus : IsOpposite s d → pos 0 <ℤ triple n s t → triple n d t <ℤ pos 0
  source-minus w h = turn-minus (dot s s) (dot s d) (triple n d t) (triple n s t) (self-pos s hs) (opposite-triple n s t d hs w.parallel) w.backward h

  -- beyond t
  target-eq : IsOpposite t d → dot t t *ℤ triple n s d ≡ dot t d *ℤ triple n s t
  target-eq w =
      let a = opposite-triple n t s d ht w.parallel in
      let b = triple-turned n d s in
      let c = triple-turned n t s in
      let e = ap (λ r. dot t t *ℤ r) b in
      let f = ap (λ r. dot t d *ℤ r) c in
      let g = ring (dot t t ∷ triple n s d ∷ []) (at 0 ⊗ (num (pos 0) ⊖ at 1)) (num (pos 0) ⊖ at 0 ⊗ at 1) tt in
      let h = ring (dot t d ∷ triple n s t ∷ []) (at 0 ⊗ (num (pos 0) ⊖ at 1)) (num (pos 0) ⊖ at 0 ⊗ at 1) tt in
      omega (arith, ints)

  target-plus : IsOpposite t d → triple n s t <ℤ pos 0 → pos 0 <ℤ triple n s d
  target-plus w h = turn-plus (dot t t) (dot t d) (triple n s d) (triple n s t) (self-pos t ht) (target-eq w) w.backward h

  target-minus : IsOpposite t d → pos 0 <ℤ triple n s t → triple n s d <ℤ pos 0
  target-minus w h = turn-minus (dot t t) (dot t d) (triple n s d) (triple n s t) (self-pos t ht) (target-eq w) w.backward h

  pub IsStrictlyOn-back : IsStrictlyOn n s t d
  IsStrictlyOn-back = record {
    on_circle = record { direction = hd; level = arc-level };
    not_source = off_s;
    not_target = off_t;
    less_than_half = λ h. (less_source h, less_target h);
    more_than_half = more;
    just_half = half;
  }
    where
      less_source : pos 0 <ℤ triple n s t → pos 0 <ℤ triple n s d
      less_source h = let r = o.less_than_half h in by_order (triple n s d) (pos 0)
          (λ l. let m = last-kept l in let u = r.0 in absurd (omega (arith, ints)))
          (λ z. let m = middle-kept (source-minus (past_source z) h) in let u = r.1 in absurd (omega (arith, ints)))
          (λ l. l)

      less_target : pos 0 <ℤ triple n s t → pos 0 <ℤ triple n d t
      less_target h = let r = o.less_than_half h in by_order (triple n d t) (pos 0)
          (λ l. let m = middle-kept l in let u = r.1 in absurd (omega (arith, ints)))
          (λ z. let m = last-kept (target-minus (past_target z) h) in let u = r.0 in absurd (omega (arith, ints)))
          (λ l. l)

      more : triple n s t <ℤ pos 0 → (pos 0 <ℤ triple n s d) ⊎ (pos 0 <ℤ triple n d t)
      more h = by_order (triple n s d) (pos 0)
          (λ l. by_order (triple n d t) (pos 0)
          (λ m. absurd (⊎_elim (λ u. let a = last-kept l in omega (arith, ints)) (λ u. let a = middle-kept m in omega (arith, ints)) (o.more_than_half h)))
          (λ z. inl (target-plus (past_target z) h))
          (λ m. inr m))
          (λ z. inr (source-plus (past_source z) h))
          (λ l. inl l)

      half : IsOpposite s t → pos 0 <ℤ triple n s d
      half w = let u = o.just_half w in by_order (triple n s d) (pos 0)
          (λ l. let a = last-kept l in absurd (omega (arith, ints)))
          (λ z. absurd (off_t (opposites s t d hs w (past_source z))))
          (λ l. l)

-- ---- around free directions and items
module _ (M : Map) (V : Shaped M) (d e : Vector) (k : Keeps (forms M) d e) where
  pub direction-around : IsDirection d → IsDirection e
  direction-around f = direction-stays d e (λ g l. k g (axes-forms M g l)) f

  pub svertex-around : (i : ℕ) (v : MapVertex) → IsAt M.svertices i v → IsDirection d → SameDirection v.dir e → SameDirection v.dir d
  svertex-around i v a f w = SameDirection-back v.dir d e (λ g l. k g (svertex-forms M i v g a l)) f w

  -- an item close to d is met at d or has an end there
  pub item-around : (i : ℕ) (x : Item) → IsAt (items M) i x → IsDirection d → ((j : ℕ) (v : MapVertex) → IsAt M.svertices j v → SameDirection v.dir d → ⊥) → OnItem M x e → OnItem M x d
  item-around i (sloop_item l) a f n o = record { direction = f; level = kept-nought l.normal d e (k l.normal (item-forms M i (sloop_item l) l.normal a (inl refl))) o.level }
  item-around i (arc_item r) a f n o =
      let b = V.arcs_between i r (arc-at M.arcs M.sloop i r a) in
      let s = sym (dir-at M.svertices r.source b.source b.has_source) in
      let t = sym (dir-at M.svertices r.target b.target b.has_target) in
      IsStrictlyOn-back r.normal (dir_of M.svertices r.source) (dir_of M.svertices r.target) d e (normal-is V i (arc_item r) a)
      (subst IsDirection s (V.svertex_dirs r.source b.source b.has_source)) (subst IsDirection t (V.svertex_dirs r.target b.target b.has_target))
      (subst (λ (v : Vector). dot r.normal v ≡ pos 0) s b.level_source) (subst (λ (v : Vector). dot r.normal v ≡ pos 0) t b.level_target)
      (λ g l. k g (item-forms M i (arc_item r) g a l)) f
      (λ w. n r.source b.source b.has_source (subst (λ (v : Vector). SameDirection v d) (sym s) w))
      (λ w. n r.target b.target b.has_target (subst (λ (v : Vector). SameDirection v d) (sym t) w)) o

  pub free-around : IsFree M d → IsFree M e
  free-around F = record {
    direction = direction-around F.direction;
    off_svertices = λ i v a w. F.off_svertices i v a (svertex-around i v a F.direction w);
    off_items = λ i x a o. F.off_items i x a (item-around i x a F.direction F.off_svertices o);
  }

  pub on_item-off_svertices : (i : ℕ) (x : Item) → IsAt (items M) i x → OnItem M x d → (j : ℕ) (v : MapVertex) → IsAt M.svertices j v → SameDirection v.dir d → ⊥
  on_item-off_svertices i x a o j v b w = V.no_svertex_on_item j i v x b a (OnItem-by_signs M x d v.dir (λ g l. sym (dir-signs v.dir d g (V.svertex_dirs j v b) w)) o)

  -- close to an item, on it where in its plane
  pub item-stays : (i : ℕ) (x : Item) → IsAt (items M) i x → dot (item_normal x) e ≡ pos 0 → OnItem M x d → OnItem M x e
  item-stays i x a z o = OnItem-stays M x d e (λ g l. k g (item-forms M i x g a l)) z o

  -- close to an item, off its plane, all are free
  pub free-beside : (i : ℕ) (x : Item) → IsAt (items M) i x → OnItem M x d → (dot (item_normal x) e ≡ pos 0 → ⊥) → IsFree M e
  free-beside i x a o f = let h = on-direction M x d o in record {
    direction = direction-around h;
    off_svertices = λ j v b w. on_item-off_svertices i x a o j v b (svertex-around j v b h w);
    off_items = λ j y b p.
        let q = item-around j y b h (on_item-off_svertices i x a o) p in
        let r = V.no_items_meet j i y x d b a q o in
        let u = is-at_one (items M) i y x (subst (λ (l : ℕ). IsAt (items M) l y) r b) a in
        f (on-level M x e (subst (λ (z : Item). OnItem M z e) u p));
  }
