-- The side that sees a free direction: that of the item which a way close to it meets first, or the only one.
use Rattle.nef_smap.proofs.Prelude.{◌≡◌, ℕ, zero, suc, ◌+◌, ◌*◌, ◌^◌, ◌≤◌, ℤ, pos, ◌-ℤ◌, ◌*ℤ◌, ◌<ℤ◌, arith, refl, ap, sym, ◌∙◌, inl, ⊎_elim, List, [], ◌∷◌, ◌++◌, length, Option, Some, None, subst, slice_get, negsuc, nat_abs, ◌≤ℤ◌, Bool, true, false, cond, ◌↔◌, not_true, normal_limit, ints, ring, at, num, ◌⊕◌, ◌⊖◌, ◌⊗◌, follows, given, none, sign, nought-is, by_order, mul_pos, nought-or, square_pos, Vector, vector, IsDirection, IsNormal, IsAtMost, triple, cross, dot, blend, up as upward, Label, IsAt, same-off, MapVertex, Arc, MapSloop, Map, Item, arc_item, sloop_item, items, items_then, item_normal, dir_of, OnItem, IsFree, IsClear, around_svertex, pos_item, neg_item, whole, Sees, directly, by_way_of, HasArc, Shaped, Keeps, forms, gather, normal-is, direction-by, amount, far-keeps, far-level, gather-has, is-at_one, item-forms, normal-form, on-level, on-direction, arc-point, Ends, ends-of, at-arc, product-off, slid, slid-level, slid-square, IsZero-times, cross-self, miss-between, between-off_target, free-around, clear-around, Outlook, outlook, outlook-free, outlook-clear, outlook-svertex, clear-self, IsLarge, SideSees, labelled, svertex_sides, item_sides, way_meet, IsFair, IsFirstMet, self-pos, triple-in_plane, cross-none, dir-self, apart, is-at_none}
use Rattle.std.specs.Bool.{IsTrue}
use Rattle.nef_smap.proofs.FirstMet.{first-clear}

-- ---- the way to an arc
module _ (M : Map) (V : Shaped M) (d u : Vector) (F : IsFree M d) (up : (l : ℕ) (x : Item) → IsAt (items M) l x → pos 0 <ℤ dot (item_normal x) u) (a : Arc) (h : IsAt M.arcs 0 a) where
  abbrev n : Vector
  n = a.normal

  abbrev s : Vector
  s = dir_of M.svertices a.source

  abbrev t : Vector
  t = dir_of M.svertices a.target

  abbrev beside : Vector
  beside = cross n s

  b : Ends M a
  b = ends-of M V 0 a h

  listed : IsAt (items M) 0 (arc_item a)
  listed = at-arc M.arcs M.sloop 0 a h

  hn : IsDirection n
  hn = normal-is V 0 (arc_item a) listed

  abbrev j : ℕ
  j = 2 ^ 128 + amount (forms M) u

  abbrev start : Vector
  start = blend j d 1 u

  kept : Keeps (forms M) d start
  kept = far-keeps (forms M) d u j (omega arith)

  start-free : IsFree M start
  start-free = free-around M V d start kept F

  planes : (l : ℕ) (x : Item) → IsAt (items M) l x → dot (item_normal x) start ≡ pos 0 → ⊥
  planes l x k z = ⊎_elim
      (λ y. let e = far-level (forms M) d u j (omega arith) (item_normal x) y in let f = nought-is (dot (item_normal x) u) (sym e ∙ ap sign z) in let g = up l x k in omega (arith, ints))
      (λ f. same-off (dot (item_normal x) d) (dot (item_normal x) start) (kept (item_normal x) (item-forms M l x (item_normal x) k (normal-form M x)) f) f z)
      (nought-or (dot (item_normal x) d))

  abbrev crosses : List Vector
  crosses = gather (λ (v : MapVertex). cross start v.dir ∷ []) M.svertices

  abbrev k : ℕ
  k = suc j * 2 ^ 128 + amount crosses beside + amount (cross t n ∷ []) beside

  abbrev end : Vector
  end = blend k s 1 beside

  on : OnItem M (arc_item a) end
  on = arc-point n s t hn b.source_direction b.target_direction b.source_level b.target_level k (omega arith)

  -- s.((n x s) x d) = (s.s)(n.d)
  turn : (x : Vector) → triple s beside x ≡ dot s s *ℤ dot n x
  turn x =
      let cx = at 1 ⊗ at 5 ⊖ at 2 ⊗ at 4 in
      let cy = at 2 ⊗ at 3 ⊖ at 0 ⊗ at 5 in
      let cz = at 0 ⊗ at 4 ⊖ at 1 ⊗ at 3 in
      follows (n.x ∷ n.y ∷ n.z ∷ s.x ∷ s.y ∷ s.z ∷ x.x ∷ x.y ∷ x.z ∷ [])
      (at 3 ⊗ (cy ⊗ at 8 ⊖ cz ⊗ at 7) ⊕ at 4 ⊗ (cz ⊗ at 6 ⊖ cx ⊗ at 8) ⊕ at 5 ⊗ (cx ⊗ at 7 ⊖ cy ⊗ at 6))
      ((at 3 ⊗ at 3 ⊕ at 4 ⊗ at 4 ⊕ at 5 ⊗ at 5) ⊗ (at 0 ⊗ at 6 ⊕ at 1 ⊗ at 7 ⊕ at 2 ⊗ at 8))
      (given (num (pos 0) ⊖ (at 3 ⊗ at 6 ⊕ at 4 ⊗ at 7 ⊕ at 5 ⊗ at 8)) (at 0 ⊗ at 3 ⊕ at 1 ⊗ at 4 ⊕ at 2 ⊗ at 5) (num (pos 0)) b.source_level none) tt

  off : (l : ℕ) (v : MapVertex) → IsAt M.svertices l v → IsDirection (cross start v.dir) → dot (cross start v.dir) end ≡ pos 0 → ⊥
  off l v q f z = ⊎_elim
      (λ y.
      let e = far-level crosses s beside k (omega arith) g y in
      let o : dot g beside ≡ pos 0 = nought-is (dot g beside) (sym e ∙ ap sign z) in
      let w = triple-in_plane g s beside start f y o (cross-self start v.dir) in
      let p = planes 0 (arc_item a) listed in
      by_order (dot n start) (pos 0)
      (λ c. let m = mul_pos (dot s s) (pos 0 -ℤ dot n start) (self-pos s b.source_direction) (omega (arith, ints)) in let r = turn start in let r' = ring (dot s s ∷ dot n start ∷ []) (at 0 ⊗ (num (pos 0) ⊖ at 1)) (num (pos 0) ⊖ at 0 ⊗ at 1) tt in omega (arith, ints))
      p
      (λ c. let m = mul_pos (dot s s) (dot n start) (self-pos s b.source_direction) c in let r = turn start in omega (arith, ints)))
      (λ c. same-off (dot g s) (dot g end) (far-keeps crosses s beside k (omega arith) g (gather-has (λ (v : MapVertex). cross start v.dir ∷ []) M.svertices l v g q (inl refl)) c) c z)
      (nought-or (dot g s))
    where
      g : Vector
      g = cross start v.dir

  large : IsLarge j k
  large = record { first = omega arith; second = omega arith }

  fair : IsFair M start end
  fair = record {
    planes = planes;
    apart = apart n start end (planes 0 (arc_item a) listed) (on-level M (arc_item a) end on) (on-direction M (arc_item a) end on);
    first = arc_item a;
    listed = listed;
    on = on;
  }

  -- the side of the first item that is met
  module _ (i : ℕ) (x : Item) (q : IsAt (items M) i x) (first : (j k : ℕ) → IsLarge j k → IsFair M (blend j d 1 u) (blend k s 1 (cross a.normal s)) → IsFirstMet M (blend j d 1 u) (blend k s 1 (cross a.normal s)) (length (items M)) x) where
    met : IsFirstMet M start end (length (items M)) x
    met = first j k large fair

    clear : IsClear M start (way_meet (item_normal x) start end)
    clear = first-clear M V start end start-free planes off i x q met

    pub first-above : pos 0 <ℤ dot (item_normal x) (blend (2 ^ 128 + amount (forms M) u) d 1 u) → Sees M (pos_item i) d
    first-above p = by_way_of start (way_meet (item_normal x) start end) (clear-around M V d start kept F) clear (x, q, met.on, p)

    pub first-below : dot (item_normal x) (blend (2 ^ 128 + amount (forms M) u) d 1 u) <ℤ pos 0 → Sees M (neg_item i) d
    first-below p = by_way_of start (way_meet (item_normal x) start end) (clear-around M V d start kept F) clear (x, q, met.on, p)

    pub first-parts : dot (item_normal x) (blend (2 ^ 128 + amount (forms M) u) d 1 u) ≡ pos 0 → ⊥
    first-parts = planes i x q

-- ---- a map without arcs
module _ (M : Map) (V : Shaped M) (d : Vector) (F : IsFree M d) (l : MapSloop) (h : IsAt (items M) 0 (sloop_item l)) (only : (i : ℕ) (x : Item) → IsAt (items M) i x → i ≡ 0) where
  abbrev m : Vector
  m = l.normal

  pub circle-off : dot l.normal d ≡ pos 0 → ⊥
  circle-off z = F.off_items 0 (sloop_item l) h (record { direction = F.direction; level = z })

  -- a point of the circle to which the way misses all svertices
  far : Outlook M (d ∷ [])
  far = outlook M (d ∷ []) d

  abbrev point : Vector
  point = slid m d far.vector

  level : dot m point ≡ pos 0
  level = slid-level m d far.vector

  some : IsDirection point
  some z =
      let s = dot m d *ℤ dot m d in
      let t = pos 0 -ℤ dot m d *ℤ dot m far.vector in
      let c = cross-none d point z in
      let xs = d.x ∷ d.y ∷ d.z ∷ far.vector.x ∷ far.vector.y ∷ far.vector.z ∷ s ∷ t ∷ [] in
      let mx = at 6 ⊗ at 3 ⊕ at 7 ⊗ at 0 in
      let my = at 6 ⊗ at 4 ⊕ at 7 ⊗ at 1 in
      let mz = at 6 ⊗ at 5 ⊕ at 7 ⊗ at 2 in
      far.apart 0 d refl F.direction (IsZero-times s (cross d far.vector) (square_pos (dot m d) circle-off)
      (ring xs (at 6 ⊗ (at 1 ⊗ at 5 ⊖ at 2 ⊗ at 4)) (at 1 ⊗ mz ⊖ at 2 ⊗ my) tt ∙ c.0)
      (ring xs (at 6 ⊗ (at 2 ⊗ at 3 ⊖ at 0 ⊗ at 5)) (at 2 ⊗ mx ⊖ at 0 ⊗ mz) tt ∙ c.1)
      (ring xs (at 6 ⊗ (at 0 ⊗ at 4 ⊖ at 1 ⊗ at 3)) (at 0 ⊗ my ⊖ at 1 ⊗ mx) tt ∙ c.2))

  across : IsDirection (cross d point)
  across = apart m d point circle-off level some

  off_point : (k : ℕ) (v : MapVertex) → IsAt M.svertices k v → IsDirection (cross d v.dir) → dot (cross d v.dir) point ≡ pos 0 → ⊥
  off_point k v a g z = product-off (dot m d *ℤ dot m d) (dot (cross d v.dir) far.vector) (square_pos (dot m d) circle-off) (far.misses 0 d refl k v a g) (sym (slid-square m d (cross d v.dir) far.vector (cross-self d v.dir)) ∙ z)

  clear-point : IsClear M d point
  clear-point = record {
    start = F;
    direction = some;
    short = λ o. across o.parallel;
    between = λ i j si sj. record {
      direction = direction-by m (blend i d j point) (between-off_target m d point i j si level circle-off);
      off_svertices = λ k v a q. miss-between d v.dir point i j sj (V.svertex_dirs k v a) (off_point k v a) across q;
      off_items = λ k x a o.
          let e = is-at_one (items M) 0 x (sloop_item l) (subst (λ (r : ℕ). IsAt (items M) r x) (only k x a) a) h in
          between-off_target m d point i j si level circle-off (on-level M (sloop_item l) (blend i d j point) (subst (λ (y : Item). OnItem M y (blend i d j point)) e o));
    };
  }

  on_circle : OnItem M (sloop_item l) point
  on_circle = record { direction = some; level = level }

  pub circle-above : pos 0 <ℤ dot l.normal d → Sees M (pos_item 0) d
  circle-above p = directly point clear-point (sloop_item l, h, on_circle, p)

  pub circle-below : dot l.normal d <ℤ pos 0 → Sees M (neg_item 0) d
  circle-below p = directly point clear-point (sloop_item l, h, on_circle, p)

-- a map without items has one face, which its first side sees
pub bare-seen : (M : Map) → Shaped M → (d : Vector) → IsFree M d → M.arcs ≡ [] → M.sloop ≡ None → SideSees M 0 d
bare-seen M V d F e f = by M.svertices refl
  where
    no_items : (l : ℕ) (x : Item) → IsAt (items M) l x → ⊥
    no_items l x a = is-at_none (subst (λ (xs : List Item). IsAt xs l x) (ap (λ (as' : List Arc). items_then as' M.sloop) e ∙ ap (items_then []) f) a)

    no_arc : (k : ℕ) → HasArc M k → ⊥
    no_arc k (i, a, g, c) = is-at_none (subst (λ (xs : List Arc). IsAt xs i a) e g)

    around : (vs : List MapVertex) (v : MapVertex) (ws : List MapVertex) → vs ≡ v ∷ ws → M.svertices ≡ vs → SideSees M 0 d
    around vs v ws g g' =
        let a : IsAt M.svertices 0 v = subst (λ (xs : List MapVertex). IsAt xs 0 v) (sym (g' ∙ g)) refl in
        let r = V.around_lone 0 v a (no_arc 0) in
        let h = V.svertex_dirs 0 v a in
        let ds = d ∷ v.dir ∷ [] in
        let o = outlook M ds d in
        let H = outlook-free M ds V o 0 d refl F.direction in
        let c = outlook-svertex M ds V o H no_items (suc zero) v.dir refl h in
        let s = by_way_of o.vector v.dir (outlook-clear M ds V o 0 d refl F.direction F (λ l y b. absurd (no_items l y b))) c (v, a, dir-self v.dir h) in
        (around_svertex 0, r.0, subst (λ (xs : List MapVertex). IsAt (svertex_sides 0 xs ++ item_sides 0 (items M) ++ labelled whole M.ground) 0 (around_svertex 0, r.0)) (sym (g' ∙ g)) (first-side v.around r.0 r.1), s)
      where
        first-side : (w : Option Label) (l : Label) → w ≡ Some l → slice_get (labelled (around_svertex 0) w ++ svertex_sides 1 ws ++ item_sides 0 (items M) ++ labelled whole M.ground) 0 ≡ Some (around_svertex 0, l)
        first-side None l q = cc
        first-side (Some k) l q = let p : k ≡ l = cc in ap (λ (r : Label). Some (around_svertex 0, r)) p

    by : (vs : List MapVertex) → M.svertices ≡ vs → SideSees M 0 d
    by [] g =
        let r = V.ground_alone g f in (
          whole,
          r.0,
          subst (λ (xs : List MapVertex). IsAt (svertex_sides 0 xs ++ item_sides 0 (items M) ++ labelled whole M.ground) 0 (whole, r.0)) (sym g)
              (subst (λ (xs : List Item). IsAt (item_sides 0 xs ++ labelled whole M.ground) 0 (whole, r.0)) (sym (ap (λ (as' : List Arc). items_then as' M.sloop) e ∙ ap (items_then []) f)) (only-side M.ground r.0 r.1)),
          directly d (clear-self M d F) tt,
        )
      where
        only-side : (w : Option Label) (l : Label) → w ≡ Some l → slice_get (labelled whole w) 0 ≡ Some (whole, l)
        only-side None l q = cc
        only-side (Some k) l q = let p : k ≡ l = cc in ap (λ (r : Label). Some (whole, r)) p
    by (v ∷ vs) g = around (v ∷ vs) v vs refl g

-- ---- the way upward
pub up-leads : (n : Vector) → IsNormal n → IsAtMost normal_limit n → pos 0 <ℤ dot n upward
up-leads n h s = by n.x n.y n.z h s.of_y s.of_z
  where
    by : (a b c : ℤ) → IsNormal (vector a b c) → nat_abs b ≤ normal_limit → nat_abs c ≤ normal_limit → pos 0 <ℤ dot (vector a b c) upward
    by (negsuc n) b c h sb sc = absurd (let f : pos 0 ≤ℤ negsuc n = h.first in omega (arith, ints))
    by (pos (suc n)) b c h sb sc = omega (arith, ints)
    by (pos zero) (negsuc n) c h sb sc = absurd (let f : pos 0 ≤ℤ negsuc n = h.second refl in omega (arith, ints))
    by (pos zero) (pos (suc n)) c h sb sc = omega (arith, ints)
    by (pos zero) (pos zero) c h sb sc = let f : pos 0 <ℤ c = h.third refl refl in omega (arith, ints)

-- ---- the side by a test
pub side-chosen : (M : Map) (d : Vector) (i : ℕ) (above : Bool) (z : ℤ) → (IsTrue above ↔ (pos 0 <ℤ z)) → (z ≡ pos 0 → ⊥) → (pos 0 <ℤ z → Sees M (pos_item i) d) → (z <ℤ pos 0 → Sees M (neg_item i) d)
    → Sees M (cond above (pos_item i) (neg_item i)) d
side-chosen M d i true z t f up down = up (t.0 refl)
side-chosen M d i false z t f up down = by_order z (pos 0) down (λ e. absurd (f e)) (λ h. absurd (not_true (t.1 h)))

abbrev pub FirstsAreMet : Map → ℕ → Item → Vector → Vector → Vector → Vector → Type 0
FirstsAreMet M n x d u s b = (j k : ℕ) → IsLarge j k → IsFair M (blend j d 1 u) (blend k s 1 b) → IsFirstMet M (blend j d 1 u) (blend k s 1 b) n x

pub firsts-carried : (M : Map) (n : ℕ) (x : Item) (d u s b d' u' s' b' : Vector) → d ≡ d' → u ≡ u' → s ≡ s' → b ≡ b' → FirstsAreMet M n x d u s b → FirstsAreMet M n x d' u' s' b'
firsts-carried M n x d u s b d' u' s' b' e f g h q =
    subst (λ (y : Vector). FirstsAreMet M n x d' u' s' y) h (subst (λ (y : Vector). FirstsAreMet M n x d' u' y b) g (subst (λ (y : Vector). FirstsAreMet M n x d' y s b) f (subst (λ (y : Vector). FirstsAreMet M n x y u s b) e q)))
