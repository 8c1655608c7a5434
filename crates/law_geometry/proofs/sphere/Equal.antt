-- Two least maps with one mark and one label in every direction are equal; so a set has at most one least map at a point.
use Rattle.law_geometry.proofs.sphere.Prelude.{◌≡◌, ℕ, zero, suc, ℤ, pos, ◌+ℤ◌, ◌-ℤ◌, ◌*ℤ◌, ◌<ℤ◌, arith, refl, ap, sym, ◌∙◌, inl, inr, ⊎_elim, List, ◌∷◌, subst, Option, Some, None, [], ints, ring, at, num, ◌⊕◌, ◌⊖◌, ◌⊗◌, by_order, mul_pos, mul_le_right, cancel_eq, SpacePoint, Vector, IsDirection, cross, dot, IsZero, SameDirection, Set, Label, Germ-unique, label-one, IsPrimitive, VectorBelow, IsAt, MapVertex, Arc, MapSloop, Map, arc_item, sloop_item, dir_of, MapLabel, Valid, Least, SameLabels, MatchedArc, MatchesInto, ArcBelow, InOrder, Ordered, Cone, self-pos, vector-same, SameDirection-turned, direction-right, direction-left, scaled-coordinates, is-at_none, is-at_first}
use Rattle.law_geometry.proofs.sphere.Labels.{label-direction, label-unique}
use Rattle.law_geometry.proofs.sphere.Compare.{labels-turned}
use Rattle.law_geometry.proofs.sphere.Arcs.{Ends, ends-of, at-arc, at-sloop}
use Rattle.law_geometry.proofs.sphere.Unique.{within}

-- ---- lowest terms
-- v = (a.v) u, where a.u = 1
multiple : (u v : Vector) → IsZero (cross u v) → IsDirection u → (l : IsPrimitive u) → (v.x ≡ dot l.by v *ℤ u.x) × (v.y ≡ dot l.by v *ℤ u.y) × (v.z ≡ dot l.by v *ℤ u.z)
multiple u v p h l = (one v.x u.x e.0, one v.y u.y e.1, one v.z u.z e.2)
  where
    e : (dot u u *ℤ v.x ≡ dot u v *ℤ u.x) × (dot u u *ℤ v.y ≡ dot u v *ℤ u.y) × (dot u u *ℤ v.z ≡ dot u v *ℤ u.z)
    e = scaled-coordinates u v p

    a : Vector
    a = l.by

    -- (u.u)(a.v) = (u.v)(a.u)
    k : dot u u *ℤ dot a v ≡ dot u v
    k = ring (dot u u ∷ a.x ∷ a.y ∷ a.z ∷ v.x ∷ v.y ∷ v.z ∷ []) (at 0 ⊗ (at 1 ⊗ at 4 ⊕ at 2 ⊗ at 5 ⊕ at 3 ⊗ at 6)) (at 1 ⊗ (at 0 ⊗ at 4) ⊕ at 2 ⊗ (at 0 ⊗ at 5) ⊕ at 3 ⊗ (at 0 ⊗ at 6)) tt
        ∙ ap (λ r. a.x *ℤ r +ℤ a.y *ℤ (dot u u *ℤ v.y) +ℤ a.z *ℤ (dot u u *ℤ v.z)) e.0
        ∙ ap (λ r. a.x *ℤ (dot u v *ℤ u.x) +ℤ a.y *ℤ r +ℤ a.z *ℤ (dot u u *ℤ v.z)) e.1
        ∙ ap (λ r. a.x *ℤ (dot u v *ℤ u.x) +ℤ a.y *ℤ (dot u v *ℤ u.y) +ℤ a.z *ℤ r) e.2
        ∙ ring (dot u v ∷ a.x ∷ a.y ∷ a.z ∷ u.x ∷ u.y ∷ u.z ∷ []) (at 1 ⊗ (at 0 ⊗ at 4) ⊕ at 2 ⊗ (at 0 ⊗ at 5) ⊕ at 3 ⊗ (at 0 ⊗ at 6)) (at 0 ⊗ (at 1 ⊗ at 4 ⊕ at 2 ⊗ at 5 ⊕ at 3 ⊗ at 6)) tt
        ∙ ap (λ r. dot u v *ℤ r) l.one ∙ ring (dot u v ∷ []) (at 0 ⊗ num (pos 1)) (at 0) tt

    one : (x y : ℤ) → dot u u *ℤ x ≡ dot u v *ℤ y → x ≡ dot a v *ℤ y
    one x y q = cancel_eq x (dot a v *ℤ y) (dot u u) (self-pos u h)
        (ring (x ∷ dot u u ∷ []) (at 0 ⊗ at 1) (at 1 ⊗ at 0) tt ∙ q ∙ ap (λ r. r *ℤ y) (sym k) ∙ ring (dot u u ∷ dot a v ∷ y ∷ []) (at 0 ⊗ at 1 ⊗ at 2) (at 1 ⊗ at 2 ⊗ at 0) tt)

unit-factor : (k l : ℤ) → k *ℤ l ≡ pos 1 → pos 0 <ℤ k → pos 0 <ℤ l → k ≡ pos 1
unit-factor k l e h i = by_order k (pos 1) (λ m. absurd (omega (arith, ints))) (λ q. q)
    (λ m. let p = mul_le_right (pos 2) k l (omega (arith, ints)) (omega (arith, ints)) in absurd (omega (arith, ints)))

pub lowest-same : (u v : Vector) → SameDirection u v → IsPrimitive u → IsPrimitive v → u ≡ v
lowest-same u v w l m =
    let hu = direction-left u v w in
    let hv = direction-right u v w in
    let p = multiple u v w.parallel hu l in
    let q = multiple v u (SameDirection-turned u v w).parallel hv m in
    let k = dot l.by v in
    let j = dot m.by u in
    -- 1 = b.v = k (b.u) = k j
    let b = m.by in
    let e : dot b v ≡ k *ℤ j = ap (λ r. b.x *ℤ r +ℤ b.y *ℤ v.y +ℤ b.z *ℤ v.z) p.0 ∙ ap (λ r. b.x *ℤ (k *ℤ u.x) +ℤ b.y *ℤ r +ℤ b.z *ℤ v.z) p.1 ∙ ap (λ r. b.x *ℤ (k *ℤ u.x) +ℤ b.y *ℤ (k *ℤ u.y) +ℤ b.z *ℤ r) p.2
    ∙ ring (k ∷ b.x ∷ b.y ∷ b.z ∷ u.x ∷ u.y ∷ u.z ∷ []) (at 1 ⊗ (at 0 ⊗ at 4) ⊕ at 2 ⊗ (at 0 ⊗ at 5) ⊕ at 3 ⊗ (at 0 ⊗ at 6)) (at 0 ⊗ (at 1 ⊗ at 4 ⊕ at 2 ⊗ at 5 ⊕ at 3 ⊗ at 6)) tt in
    -- u.v = k (u.u)
    let f : dot u v ≡ k *ℤ dot u u = ap (λ r. u.x *ℤ r +ℤ u.y *ℤ v.y +ℤ u.z *ℤ v.z) p.0 ∙ ap (λ r. u.x *ℤ (k *ℤ u.x) +ℤ u.y *ℤ r +ℤ u.z *ℤ v.z) p.1 ∙ ap (λ r. u.x *ℤ (k *ℤ u.x) +ℤ u.y *ℤ (k *ℤ u.y) +ℤ u.z *ℤ r) p.2
    ∙ ring (k ∷ u.x ∷ u.y ∷ u.z ∷ []) (at 1 ⊗ (at 0 ⊗ at 1) ⊕ at 2 ⊗ (at 0 ⊗ at 2) ⊕ at 3 ⊗ (at 0 ⊗ at 3)) (at 0 ⊗ (at 1 ⊗ at 1 ⊕ at 2 ⊗ at 2 ⊕ at 3 ⊗ at 3)) tt in
    let hk = positive-factor k (dot u u) (dot u v) (sym f) (self-pos u hu) w.forward in
    let g : k *ℤ j ≡ pos 1 = sym e ∙ m.one in
    let hj = positive-factor j k (pos 1) (ring (j ∷ k ∷ []) (at 0 ⊗ at 1) (at 1 ⊗ at 0) tt ∙ g) hk (omega (arith, ints)) in
    let o = unit-factor k j g hk hj in
    vector-same u v (one u.x v.x p.0 o) (one u.y v.y p.1 o) (one u.z v.z p.2 o)
  where
    positive-factor : (k a b : ℤ) → k *ℤ a ≡ b → pos 0 <ℤ a → pos 0 <ℤ b → pos 0 <ℤ k
    positive-factor k a b e h i = by_order k (pos 0)
        (λ l. let p = mul_pos (pos 0 -ℤ k) a (omega (arith, ints)) h in let q = ring (k ∷ a ∷ []) ((num (pos 0) ⊖ at 0) ⊗ at 1) (num (pos 0) ⊖ at 0 ⊗ at 1) tt in absurd (omega (arith, ints)))
        (λ z. let p = ap (λ r. r *ℤ a) z in let q = ring (a ∷ []) (num (pos 0) ⊗ at 0) (num (pos 0)) tt in absurd (omega (arith, ints))) (λ l. l)

    one : (x y : ℤ) {k : ℤ} → y ≡ k *ℤ x → k ≡ pos 1 → x ≡ y
    one x y {k} e o = sym (ring (x ∷ []) (num (pos 1) ⊗ at 0) (at 0) tt) ∙ ap (λ r. r *ℤ x) (sym o) ∙ sym e

-- ---- lists in order
vector-below : (u v : Vector) → VectorBelow u v → VectorBelow v u → ⊥
vector-below u v a b = ⊎_elim
    (λ x. ⊎_elim (λ y. omega (arith, ints)) (λ y. ⊎_elim (λ z. let p = z.0 in omega (arith, ints)) (λ z. let p = z.0 in omega (arith, ints)) y) b)
    (λ x. ⊎_elim
    (λ c. let p = c.0 in let q = c.1 in ⊎_elim (λ y. omega (arith, ints)) (λ y. ⊎_elim (λ z. let r = z.1 in omega (arith, ints)) (λ z. let r = z.1 in omega (arith, ints)) y) b)
    (λ c. let p = c.0 in let q = c.1 in let t = c.2 in ⊎_elim (λ y. omega (arith, ints)) (λ y. ⊎_elim (λ z. let r = z.1 in omega (arith, ints)) (λ z. let r = z.2 in omega (arith, ints)) y) b) x) a

below-itself : (u v : Vector) → u ≡ v → VectorBelow u v → ⊥
below-itself u v e h = let c = subst (λ (r : Vector). VectorBelow u r) (sym e) h in vector-below u u c c

arc-below : (a b : Arc) → ArcBelow a b → ArcBelow b a → ⊥
arc-below a b (inl x) (inl y) = vector-below a.normal b.normal x y
arc-below a b (inl x) (inr y) = below-itself a.normal b.normal (sym y.0) x
arc-below a b (inr x) (inl y) = below-itself b.normal a.normal (sym x.0) y
arc-below a b (inr x) (inr y) = let p = x.1 in let q = y.1 in omega arith

pub same-lists : {A : Type 0} (Below : A → A → Type 0) → ((x y : A) → Below x y → Below y x → ⊥) → (xs ys : List A)
    → InOrder Below xs → InOrder Below ys → ((k : ℕ) (x : A) → IsAt xs k x → (l : ℕ) × IsAt ys l x) → ((k : ℕ) (y : A) → IsAt ys k y → (l : ℕ) × IsAt xs l y) → xs ≡ ys
same-lists Below asym [] [] o p f g = refl
same-lists Below asym [] (y ∷ ys) o p f g = let r = g zero y refl in absurd (is-at_none r.1)
same-lists Below asym (x ∷ xs) [] o p f g = let r = f zero x refl in absurd (is-at_none r.1)
same-lists {A} Below asym (x ∷ xs) (y ∷ ys) o p f g =
    let e = heads (f zero x refl) (g zero y refl) in
    let t = same-lists Below asym xs ys (λ i k a b l m n. o (suc i) (suc k) a b (omega arith) m n) (λ i k a b l m n. p (suc i) (suc k) a b (omega arith) m n)
    (λ k a m. later x y xs ys o e k a m (f (suc k) a m)) (λ k a m. later y x ys xs p (sym e) k a m (g (suc k) a m)) in
    ap (λ r. r ∷ xs) e ∙ ap (λ r. y ∷ r) t
  where
    heads : (l : ℕ) × IsAt (y ∷ ys) l x → (l : ℕ) × IsAt (x ∷ xs) l y → x ≡ y
    heads (zero, a) b = sym (is-at_first a)
    heads (suc l, a) (zero, b) = is-at_first b
    heads (suc l, a) (suc k, b) = absurd (asym x y (o zero (suc k) x y (omega arith) refl b) (p zero (suc l) y x (omega arith) refl a))

    later : (x y : A) (xs ys : List A) → InOrder Below (x ∷ xs) → x ≡ y → (k : ℕ) (a : A) → IsAt xs k a → (l : ℕ) × IsAt (y ∷ ys) l a → (l : ℕ) × IsAt ys l a
    later x y xs ys o e k a m (zero, h) = let b = o zero (suc k) x a (omega arith) refl m in let c = subst (λ (r : A). Below x r) (sym (e ∙ is-at_first h)) b in absurd (asym x x c c)
    later x y xs ys o e k a m (suc l, h) = (l, h)

-- ---- records
svertex-equal : (v u : MapVertex) → v.dir ≡ u.dir → v.mark ≡ u.mark → v.around ≡ u.around → v ≡ u
svertex-equal v u a b c = ap (λ r. record { dir = r; mark = v.mark; around = v.around }) a ∙ ap (λ r. record { dir = u.dir; mark = r; around = v.around }) b ∙ ap (λ r. record { dir = u.dir; mark = u.mark; around = r }) c

arc-equal : (a b : Arc) → a.normal ≡ b.normal → a.source ≡ b.source → a.target ≡ b.target → a.pos ≡ b.pos → a.mark ≡ b.mark → a.neg ≡ b.neg → a ≡ b
arc-equal a b n s t f m g =
    ap (λ r. record { normal = r; source = a.source; target = a.target; pos = a.pos; mark = a.mark; neg = a.neg }) n
    ∙ ap (λ r. record { normal = b.normal; source = r; target = a.target; pos = a.pos; mark = a.mark; neg = a.neg }) s
    ∙ ap (λ r. record { normal = b.normal; source = b.source; target = r; pos = a.pos; mark = a.mark; neg = a.neg }) t
    ∙ ap (λ r. record { normal = b.normal; source = b.source; target = b.target; pos = r; mark = a.mark; neg = a.neg }) f
    ∙ ap (λ r. record { normal = b.normal; source = b.source; target = b.target; pos = b.pos; mark = r; neg = a.neg }) m
    ∙ ap (λ r. record { normal = b.normal; source = b.source; target = b.target; pos = b.pos; mark = b.mark; neg = r }) g

pub sloop-equal : (a b : MapSloop) → a.normal ≡ b.normal → a.pos ≡ b.pos → a.mark ≡ b.mark → a.neg ≡ b.neg → a ≡ b
sloop-equal a b n f m g =
    ap (λ r. record { normal = r; pos = a.pos; mark = a.mark; neg = a.neg }) n
    ∙ ap (λ r. record { normal = b.normal; pos = r; mark = a.mark; neg = a.neg }) f
    ∙ ap (λ r. record { normal = b.normal; pos = b.pos; mark = r; neg = a.neg }) m
    ∙ ap (λ r. record { normal = b.normal; pos = b.pos; mark = b.mark; neg = r }) g

map-equal : (M N : Map) → M.mark ≡ N.mark → M.svertices ≡ N.svertices → M.arcs ≡ N.arcs → M.sloop ≡ N.sloop → M.ground ≡ N.ground → M ≡ N
map-equal M N a b c d e =
    ap (λ r. record { mark = r; svertices = M.svertices; arcs = M.arcs; sloop = M.sloop; ground = M.ground }) a
    ∙ ap (λ r. record { mark = N.mark; svertices = r; arcs = M.arcs; sloop = M.sloop; ground = M.ground }) b
    ∙ ap (λ r. record { mark = N.mark; svertices = N.svertices; arcs = r; sloop = M.sloop; ground = M.ground }) c
    ∙ ap (λ r. record { mark = N.mark; svertices = N.svertices; arcs = N.arcs; sloop = r; ground = M.ground }) d
    ∙ ap (λ r. record { mark = N.mark; svertices = N.svertices; arcs = N.arcs; sloop = N.sloop; ground = r }) e

-- ---- maps that hold the same things
module _ (M N : Map) (V : Valid M) (W : Valid N) (O : Ordered M) (P : Ordered N) where
  carry-svertex : MatchesInto M N → (k : ℕ) (v : MapVertex) → IsAt M.svertices k v → (l : ℕ) × IsAt N.svertices l v
  carry-svertex w k v a =
      let m = w.svertices k v a in
      let e = svertex-equal v m.svertex (lowest-same v.dir m.svertex.dir m.dir (O.dirs_lowest k v a) (P.dirs_lowest m.number m.svertex m.listed)) m.mark m.around in
      (m.number, subst (λ (r : MapVertex). IsAt N.svertices m.number r) (sym e) m.listed)

  carry-arc : MatchesInto M N → M.svertices ≡ N.svertices → (k : ℕ) (a : Arc) → IsAt M.arcs k a → (l : ℕ) × IsAt N.arcs l a
  carry-arc w q k a h = by (w.arcs k a h)
    where
      by : MatchedArc M N a → (l : ℕ) × IsAt N.arcs l a
      by m = with_ends (ends-of M V.shaped k a h) (ends-of N W.shaped m.number m.arc m.listed)
        where
          number-same : (i j : ℕ) (u v : MapVertex) → IsAt M.svertices i u → IsAt N.svertices j v → dir_of M.svertices i ≡ u.dir → dir_of N.svertices j ≡ v.dir → SameDirection (dir_of M.svertices i) (dir_of N.svertices j) → i ≡ j
          number-same i j u v a b e f s = V.shaped.svertices_apart i j u v a (subst (λ (r : List MapVertex). IsAt r j v) (sym q) b) (subst (λ (r : Vector). SameDirection r v.dir) e (subst (λ (r : Vector). SameDirection (dir_of M.svertices i) r) f s))

          with_ends : Ends M a → Ends N m.arc → (l : ℕ) × IsAt N.arcs l a
          with_ends x y =
              let n = lowest-same a.normal m.arc.normal m.normal (O.normals_lowest k (arc_item a) (at-arc M.arcs M.sloop k a h)) (P.normals_lowest m.number (arc_item m.arc) (at-arc N.arcs N.sloop m.number m.arc m.listed)) in
              let s = number-same a.source m.arc.source x.source y.source x.has_source y.has_source x.source_is y.source_is m.source in
              let t = number-same a.target m.arc.target x.target y.target x.has_target y.has_target x.target_is y.target_is m.target in
              (m.number, subst (λ (r : Arc). IsAt N.arcs m.number r) (sym (arc-equal a m.arc n s t m.pos m.mark m.neg)) m.listed)

module _ (M N : Map) (V : Valid M) (W : Valid N) (O : Ordered M) (P : Ordered N) (w : MatchesInto M N) (x : MatchesInto N M) where
  svertices-same : M.svertices ≡ N.svertices
  svertices-same = same-lists (λ (u v : MapVertex). VectorBelow u.dir v.dir) (λ u v. vector-below u.dir v.dir) M.svertices N.svertices O.svertices P.svertices (carry-svertex M N V W O P w) (carry-svertex N M W V P O x)

  arcs-same : M.arcs ≡ N.arcs
  arcs-same = same-lists ArcBelow arc-below M.arcs N.arcs O.arcs P.arcs (carry-arc M N V W O P w svertices-same) (carry-arc N M W V P O x (sym svertices-same))

  sloops-same : M.sloop ≡ N.sloop
  sloops-same = by M.sloop N.sloop refl refl
    where
      by : (o p : Option MapSloop) → M.sloop ≡ o → N.sloop ≡ p → M.sloop ≡ N.sloop
      by None None e f = e ∙ sym f
      by None (Some l) e f = let m = x.sloop l f in let z = m.listed in cc
      by (Some l) None e f = let m = w.sloop l e in let z = m.listed in cc
      by (Some l) (Some k) e f =
          let m = w.sloop l e in
          let i = at-sloop M.arcs M.sloop l e in
          let j = at-sloop N.arcs N.sloop m.sloop m.listed in
          let n = lowest-same l.normal m.sloop.normal m.normal (O.normals_lowest i.0 (sloop_item l) i.1) (P.normals_lowest j.0 (sloop_item m.sloop) j.1) in
          e ∙ ap (λ (r : MapSloop). Some r) (sloop-equal l m.sloop n m.pos m.mark m.neg) ∙ sym m.listed

  pub maps-same : M.mark ≡ N.mark → M ≡ N
  maps-same e = map-equal M N e svertices-same arcs-same sloops-same w.ground

pub least-unique : (M N : Map) → Valid M → Valid N → Ordered M → Ordered N → Least M → Least N → M.mark ≡ N.mark → SameLabels M N → M ≡ N
least-unique M N V W O P L K e s =
    let t = labels-turned M N V W s in
    maps-same M N V W O P (within M N V W L K s) (within N M W V K L t) e

-- ---- the least map of a set at a point
pub cone-labels : (M N : Map) (s : Set) (p : SpacePoint) → Cone M s p → Cone N s p → SameLabels M N
cone-labels M N s p C D d m a =
    let h = label-direction M d m a in
    let x = C.labels d h in
    let y = D.labels d h in
    let e = label-unique M C.valid d m x.0 a x.1 ∙ Germ-unique s p d x.0 y.0 x.2 y.2 in
    subst (λ (r : Label). MapLabel N d r) (sym e) y.1

pub cone-unique : (M N : Map) (s : Set) (p : SpacePoint) → Cone M s p → Cone N s p → Ordered M → Ordered N → Least M → Least N → M ≡ N
cone-unique M N s p C D O P L K = least-unique M N C.valid D.valid O P L K (label-one s p M.mark N.mark C.mark D.mark) (cone-labels M N s p C D)
