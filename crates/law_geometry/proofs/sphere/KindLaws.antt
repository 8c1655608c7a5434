-- The map of an edge point stays the same along the edge; a least map that stays the same along a direction is of one of three kinds.
use Rattle.law_geometry.proofs.sphere.Prelude.{◌≡◌, ℕ, zero, suc, ◌+◌, ◌*◌, ◌<◌, ℤ, pos, ◌+ℤ◌, ◌-ℤ◌, ◌*ℤ◌, arith, refl, ap, sym, ◌∙◌, ◌⊎◌, inl, inr, ⊎_elim, List, ◌∷◌, subst, Option, Some, None, neg_ℤ, [], ints, ring, at, num, ◌⊕◌, ◌⊖◌, ◌⊗◌, neg, follows, given, none, sign, mul_neg, sign-scaled, Vector, IsDirection, cross, triple, dot, IsZero, SameDirection, IsOpposite, blend, opposite, Label, combination, IsAt, MapVertex, MapSloop, Map, sloop_item, item_mark, IsFree, IsClear, MapLabel, at_svertex, on_item, NearLabel, Valid, by_side, NearPlain, NearStraight, Least, Full, FlatMap, IsInVolume, IsInFacet, IsOnEdge, dot-comm, zero-decided, self-pos, vector-same, cross-turned, triple-middle, opposites, SameDirection-turned, dir-self, dir-signs, parallel-trans, direction-opposite, dot-opposite, opposite-itself, is-at_none, is-at_first}
use Rattle.law_geometry.proofs.sphere.Vectors.{dot-comb, same-minus}
use Rattle.law_geometry.proofs.sphere.Lists.{search_list}
use Rattle.law_geometry.proofs.sphere.Forms.{PlaceOf, svertex_place, item_place, free_place, place_of, OnItem-by_signs}
use Rattle.law_geometry.proofs.sphere.Labels.{label-direction, label-exists, label-unique, clear-label}
use Rattle.law_geometry.proofs.sphere.Around.{Beside, same_way, other_way, beside, opposite-triple, turn-plus}
use Rattle.law_geometry.proofs.sphere.NearItems.{free-plain, item-straight}
use Rattle.law_geometry.proofs.sphere.Walk.{between-direction, cross-direction_right}
use Rattle.law_geometry.proofs.sphere.Arcs.{at-sloop}
use Rattle.law_geometry.proofs.sphere.Unique.{ground-label}
use Rattle.law_geometry.proofs.sphere.FlatMaps.{full-label, flat-onward, flat-svertex}
use Rattle.law_geometry.proofs.sphere.Kind.{flat-sloop, flat-mark, flat-parallel}
use Rattle.law_geometry.proofs.sphere.KindFlats.{svertex-parallel, at-second, axis-label, arc-moved, off-moved, off-svertices, hu}
use Rattle.law_geometry.proofs.sphere.Direct.{cross-self}
use Rattle.nef_space.proofs.Lists.{is-at_one}

-- ---- full labels
full-one : (M : Map) → Valid M → (e : Vector) (m n : Label) → Full M e m → Full M e n → m ≡ n
full-one M V e m n (inl z) (inl w) = sym z.1 ∙ w.1
full-one M V e m n (inl z) (inr l) = absurd (label-direction M e n l z.0)
full-one M V e m n (inr l) (inl z) = absurd (label-direction M e m l z.0)
full-one M V e m n (inr l) (inr k) = label-unique M V e m n l k

full-exists : (M : Map) → Valid M → (e : Vector) → (m : Label) × Full M e m
full-exists M V e = ⊎_elim (λ z. (M.mark, inl (z, refl))) (λ f. let l = label-exists M V e f in (l.0, inr l.1)) (zero-decided e)

flat-from_onward : (M : Map) → Valid M → (d : Vector) → ((e : Vector) (b : ℕ) (a : ℤ) → 0 < b → (m : Label) → Full M e m → Full M (combination (pos b) e a d) m) → FlatMap M d
flat-from_onward M V d on e b a sb m = (
  on e b a sb m,
  λ f.
      let x = full-exists M V e in
      subst (λ (r : Label). Full M e r) (full-one M V (combination (pos b) e a d) x.0 m (on e b a sb x.0 x.1) f) x.1,
)

-- ---- edges
module _ (M : Map) (V : Valid M) (d : Vector) (K : IsOnEdge M d) where
  abbrev u : Vector
  u = K.first.dir

  module _ (e : Vector) (off : IsDirection (cross u e)) where
    moved-free : IsFree M e → (b : ℕ) (a : ℤ) → 0 < b → IsFree M (combination (pos b) e a u)
    moved-free F b a sb = record {
      direction = cross-direction_right u (combination (pos b) e a u) (off-moved M V d K e off b a sb);
      off_svertices = λ k v h w. off-svertices M V d K e off b a sb k v h w;
      off_items = λ k x h o. F.off_items k x h (OnItem-by_signs M x (combination (pos 1) (combination (pos b) e a u) (pos 0 -ℤ a) u) e (λ g l. sym (same g))
          (arc-moved M V d K (combination (pos b) e a u) (off-moved M V d K e off b a sb) 1 (pos 0 -ℤ a) (omega arith) k x h o));
    }
      where
        same : (g : Vector) → sign (dot g (combination (pos 1) (combination (pos b) e a u) (pos 0 -ℤ a) u)) ≡ sign (dot g e)
        same g = ap sign (dot-comb g (pos 1) (combination (pos b) e a u) (pos 0 -ℤ a) u ∙ ap (λ r. pos 1 *ℤ r +ℤ (pos 0 -ℤ a) *ℤ dot g u) (dot-comb g (pos b) e a u)
            ∙ ring (pos b ∷ dot g e ∷ a ∷ dot g u ∷ []) (num (pos 1) ⊗ (at 0 ⊗ at 1 ⊕ at 2 ⊗ at 3) ⊕ (num (pos 0) ⊖ at 2) ⊗ at 3) (at 0 ⊗ at 1) tt) ∙ sign-scaled (pos b) (dot g e) (omega (arith, ints))

    moved-not_opposite : (b : ℕ) (a : ℤ) → 0 < b → IsOpposite e (combination (pos b) e a u) → ⊥
    moved-not_opposite b a sb o =
        let p = cross u e in
        let w = combination (pos b) e a u in
        let he = cross-direction_right u e off in
        let q = self-pos p off in
        let t : triple p e u ≡ pos 0 -ℤ dot p p = ring (u.x ∷ u.y ∷ u.z ∷ e.x ∷ e.y ∷ e.z ∷ [])
        ((at 1 ⊗ at 5 ⊖ at 2 ⊗ at 4) ⊗ (at 4 ⊗ at 2 ⊖ at 5 ⊗ at 1) ⊕ (at 2 ⊗ at 3 ⊖ at 0 ⊗ at 5) ⊗ (at 5 ⊗ at 0 ⊖ at 3 ⊗ at 2) ⊕ (at 0 ⊗ at 4 ⊖ at 1 ⊗ at 3) ⊗ (at 3 ⊗ at 1 ⊖ at 4 ⊗ at 0))
        (num (pos 0) ⊖ ((at 1 ⊗ at 5 ⊖ at 2 ⊗ at 4) ⊗ (at 1 ⊗ at 5 ⊖ at 2 ⊗ at 4) ⊕ (at 2 ⊗ at 3 ⊖ at 0 ⊗ at 5) ⊗ (at 2 ⊗ at 3 ⊖ at 0 ⊗ at 5) ⊕ (at 0 ⊗ at 4 ⊖ at 1 ⊗ at 3) ⊗ (at 0 ⊗ at 4 ⊖ at 1 ⊗ at 3))) tt in
        let s = triple-middle p w u ∙ dot-comb (cross u p) (pos b) e a u ∙ ap (λ r. pos b *ℤ dot (cross u p) e +ℤ a *ℤ r) (cross-self u p) ∙ ap (λ r. pos b *ℤ r +ℤ a *ℤ pos 0) (sym (triple-middle p e u))
        ∙ ring (pos b ∷ triple p e u ∷ a ∷ []) (at 0 ⊗ at 1 ⊕ at 2 ⊗ num (pos 0)) (at 0 ⊗ at 1) tt in
        let x = turn-plus (dot e e) (dot e w) (triple p w u) (triple p e u) (self-pos e he) (opposite-triple p e u w he o.parallel) o.backward (omega (arith, ints)) in
        let y = mul_neg (pos b) (triple p e u) (omega (arith, ints)) (omega (arith, ints)) in
        omega (arith, ints)

    moved-label : (b : ℕ) (a : ℤ) → 0 < b → (m : Label) → MapLabel M e m → MapLabel M (combination (pos b) e a u) m
    moved-label b a sb m l = by (place_of M e (cross-direction_right u e off))
      where
        by : PlaceOf M e → MapLabel M (combination (pos b) e a u) m
        by (svertex_place k v h w) = absurd (off (parallel-trans u v.dir e (V.shaped.svertex_dirs k v h) (svertex-parallel M V d K k v h) w.parallel))
        by (item_place k x h o) = on_item k x h (arc-moved M V d K e off b a sb k x h o) (label-unique M V e (item_mark x) m (on_item k x h o refl) l)
        by (free_place F) =
            let G = moved-free F b a sb in
            let c : IsClear M e (combination (pos b) e a u) = record {
              start = F;
              direction = G.direction;
              short = moved-not_opposite b a sb;
              between = λ i j si sj. subst (IsFree M) (eq i j) (moved-free F (i + j * b) (pos j *ℤ a) (omega arith));
            } in
            let x = label-exists M V (combination (pos b) e a u) G.direction in
            subst (λ (r : Label). MapLabel M (combination (pos b) e a u) r) (sym (clear-label M V e (combination (pos b) e a u) c G m x.0 l x.1)) x.1
          where
            eq : (i j : ℕ) → combination (pos (i + j * b)) e (pos j *ℤ a) u ≡ blend i e j (combination (pos b) e a u)
            eq i j = vector-same (combination (pos (i + j * b)) e (pos j *ℤ a) u) (blend i e j (combination (pos b) e a u)) (one e.x u.x) (one e.y u.y) (one e.z u.z)
              where
                one : (x y : ℤ) → pos (i + j * b) *ℤ x +ℤ pos j *ℤ a *ℤ y ≡ pos i *ℤ x +ℤ pos j *ℤ (pos b *ℤ x +ℤ a *ℤ y)
                one x y = ring (pos i ∷ pos j ∷ pos b ∷ x ∷ a ∷ y ∷ []) ((at 0 ⊕ at 1 ⊗ at 2) ⊗ at 3 ⊕ at 1 ⊗ at 4 ⊗ at 5) (at 0 ⊗ at 3 ⊕ at 1 ⊗ (at 2 ⊗ at 3 ⊕ at 4 ⊗ at 5)) tt

  pub first-flat : FlatMap M u
  first-flat = flat-from_onward M V u on
    where
      on : (e : Vector) (b : ℕ) (a : ℤ) → 0 < b → (m : Label) → Full M e m → Full M (combination (pos b) e a u) m
      on e b a sb m f = ⊎_elim
          (λ z. let q = is_mark z f in ⊎_elim (λ y. inl (y, q)) (λ g. inr (subst (λ (r : Label). MapLabel M (combination (pos b) e a u) r) q (axis-label M V d K (combination (pos b) e a u) g (parallel z)))) (zero-decided (combination (pos b) e a u)))
          (λ g. inr (moved-label e g b a sb m (full-label M e m (cross-direction_right u e g) f)))
          (zero-decided (cross u e))
        where
          is_mark : IsZero (cross u e) → Full M e m → M.mark ≡ m
          is_mark z (inl w) = w.1
          is_mark z (inr l) = label-unique M V e M.mark m (axis-label M V d K e (label-direction M e m l) z) l

          parallel : IsZero (cross u e) → IsZero (cross u (combination (pos b) e a u))
          parallel z = (one u.y u.z e.y e.z z.0, one u.z u.x e.z e.x z.1, one u.x u.y e.x e.y z.2)
            where
              one : (p q x y : ℤ) → p *ℤ y -ℤ q *ℤ x ≡ pos 0 → p *ℤ (pos b *ℤ y +ℤ a *ℤ q) -ℤ q *ℤ (pos b *ℤ x +ℤ a *ℤ p) ≡ pos 0
              one p q x y h = follows (p ∷ q ∷ x ∷ y ∷ pos b ∷ a ∷ []) (at 0 ⊗ (at 4 ⊗ at 3 ⊕ at 5 ⊗ at 1) ⊖ at 1 ⊗ (at 4 ⊗ at 2 ⊕ at 5 ⊗ at 0)) (num (pos 0)) (given (at 4) (at 0 ⊗ at 3 ⊖ at 1 ⊗ at 2) (num (pos 0)) h none) tt

  pub edge-flat : FlatMap M d
  edge-flat = subst (FlatMap M) K.named (flat-parallel M V u K.second.dir (hu M V d K) (let o = K.opposite in o.parallel) first-flat)

pub edge-only : (M : Map) → Valid M → Least M → (d : Vector) → IsOnEdge M d → (e : Vector) → FlatMap M e → IsZero (cross d e)
edge-only M V L d K e F = subst (λ (r : Vector). IsZero (cross r e)) K.named (flat-svertex M V L e F (suc zero) K.second (at-second M.svertices K.first K.second K.two_svertices))

pub edge-direction : (M : Map) → Valid M → (d : Vector) → IsOnEdge M d → IsDirection d
edge-direction M V d K = subst IsDirection K.named (V.shaped.svertex_dirs (suc zero) K.second (at-second M.svertices K.first K.second K.two_svertices))

-- ---- which kind
two-listed : {A : Type 0} (xs : List A) (k l : ℕ) (x y : A) → IsAt xs k x → IsAt xs l y → (k ≡ l → ⊥) → ((i : ℕ) (z : A) → IsAt xs i z → (i ≡ k) ⊎ (i ≡ l))
    → (xs ≡ x ∷ y ∷ []) ⊎ (xs ≡ y ∷ x ∷ [])
two-listed [] k l x y a b n all = absurd (is-at_none a)
two-listed (p ∷ []) zero zero x y a b n all = absurd (n refl)
two-listed (p ∷ []) zero (suc l) x y a b n all = absurd (is-at_none b)
two-listed (p ∷ []) (suc k) l x y a b n all = absurd (is-at_none a)
two-listed (p ∷ q ∷ []) zero zero x y a b n all = absurd (n refl)
two-listed (p ∷ q ∷ []) zero (suc zero) x y a b n all = inl (ap (λ r. r ∷ q ∷ []) (is-at_first a) ∙ ap (λ r. x ∷ r ∷ []) (is-at_first b))
two-listed (p ∷ q ∷ []) zero (suc (suc l)) x y a b n all = absurd (is-at_none b)
two-listed (p ∷ q ∷ []) (suc zero) zero x y a b n all = inr (ap (λ r. r ∷ q ∷ []) (is-at_first b) ∙ ap (λ r. y ∷ r ∷ []) (is-at_first a))
two-listed (p ∷ q ∷ []) (suc zero) (suc zero) x y a b n all = absurd (n refl)
two-listed (p ∷ q ∷ []) (suc zero) (suc (suc l)) x y a b n all = absurd (is-at_none b)
two-listed (p ∷ q ∷ []) (suc (suc k)) l x y a b n all = absurd (is-at_none a)
two-listed (p ∷ q ∷ r ∷ rs) k l x y a b n all =
    let i = all zero p refl in let j = all (suc zero) q refl in let h = all (suc (suc zero)) r refl in
    absurd (⊎_elim (λ e. ⊎_elim (λ f. omega arith) (λ f. ⊎_elim (λ g. omega arith) (λ g. omega arith) h) j) (λ e. ⊎_elim (λ f. ⊎_elim (λ g. omega arith) (λ g. omega arith) h) (λ f. omega arith) j) i)

pub data KindOf (M : Map) : Type 0 where
  of_volume : IsInVolume M → KindOf M
  of_facet : (n : Vector) → IsInFacet M n → KindOf M
  of_edge : (d : Vector) → IsOnEdge M d → KindOf M

module _ (M : Map) (V : Valid M) (L : Least M) (d : Vector) (h : IsDirection d) (F : FlatMap M d) where
  -- without svertices
  bare-kind : M.svertices ≡ [] → KindOf M
  bare-kind e = by M.sloop refl
    where
      by : (o : Option MapSloop) → M.sloop ≡ o → KindOf M
      by None q = let g = V.shaped.ground_alone e q in
          of_volume (record { no_svertex = e; no_sloop = q; same_mark = g.1 ∙ ap (λ (r : Label). Some r) (label-unique M V d g.0 M.mark (ground-label M V g.0 g.1 d h) (flat-mark M V L d F h)) })
      by (Some l) q = let i = at-sloop M.arcs M.sloop l q in
          of_facet l.normal (record {
            no_svertex = e;
            sloop = l;
            has_sloop = q;
            same_mark = label-unique M V d l.mark M.mark (on_item i.0 (sloop_item l) i.1 (record { direction = h; level = flat-sloop M V L d F l q }) refl) (flat-mark M V L d F h);
            normal = refl;
          })

  module _ (k : ℕ) (v : MapVertex) (a : IsAt M.svertices k v) where
    hv : IsDirection v.dir
    hv = V.shaped.svertex_dirs k v a

    Fv : FlatMap M v.dir
    Fv = flat-parallel M V d v.dir h (cross-turned v.dir d (flat-svertex M V L d F k v a)) F

    -- what is near the opposite of v is near v
    near-over : (e : Vector) → IsDirection (cross v.dir e) → (m : Label) → NearLabel M (opposite v.dir) e m → NearLabel M v.dir e m
    near-over e f m (n, g) = (n, λ i l. subst (λ (r : Vector). MapLabel M r m) (eq i) (flat-onward M v.dir Fv (blend i (opposite v.dir) 1 e) 1 (pos (2 * i)) (omega arith) m (subst IsDirection (sym (eq i)) (between-direction v.dir e i 1 (omega arith) f)) (g i l)))
      where
        eq : (i : ℕ) → combination (pos 1) (blend i (opposite v.dir) 1 e) (pos (2 * i)) v.dir ≡ blend i v.dir 1 e
        eq i = let w = v.dir in vector-same (combination (pos 1) (blend i (opposite w) 1 e) (pos (2 * i)) w) (blend i w 1 e) (one w.x e.x) (one w.y e.y) (one w.z e.z)
          where
            one : (x y : ℤ) → pos 1 *ℤ (pos i *ℤ neg_ℤ x +ℤ pos 1 *ℤ y) +ℤ pos (2 * i) *ℤ x ≡ pos i *ℤ x +ℤ pos 1 *ℤ y
            one x y = ring (pos i ∷ x ∷ y ∷ []) (num (pos 1) ⊗ (at 0 ⊗ neg (at 1) ⊕ num (pos 1) ⊗ at 2) ⊕ num (pos 2) ⊗ at 0 ⊗ at 1) (at 0 ⊗ at 1 ⊕ num (pos 1) ⊗ at 2) tt

    away-opposite : IsOpposite v.dir (opposite v.dir)
    away-opposite = opposite-itself v.dir hv

    away-direction : IsDirection (opposite v.dir)
    away-direction = direction-opposite v.dir hv

    away-off : (e : Vector) → IsDirection (cross v.dir e) → IsDirection (cross (opposite v.dir) e)
    away-off e f z = f (parallel-trans v.dir (opposite v.dir) e away-direction (let o = away-opposite in o.parallel) z)

    v-mark : MapLabel M v.dir M.mark
    v-mark = flat-mark M V L v.dir Fv hv

    away-mark : MapLabel M (opposite v.dir) M.mark
    away-mark = flat-mark M V L (opposite v.dir) (flat-parallel M V v.dir (opposite v.dir) hv (let o = away-opposite in o.parallel) Fv) away-direction

    -- the opposite is a svertex too
    record Partner : Type 0 where
      number : ℕ
      svertex : MapVertex
      listed : IsAt M.svertices number svertex
      same : SameDirection svertex.dir (opposite v.dir)

    partner : Partner
    partner = by (place_of M (opposite v.dir) away-direction)
      where
        plain : NearPlain M (opposite v.dir) → NearPlain M v.dir
        plain p = record { label = p.label; at_d = subst (λ (r : Label). MapLabel M v.dir r) (label-unique M V (opposite v.dir) M.mark p.label away-mark p.at_d) v-mark; near = λ e f. near-over e f p.label (p.near e (away-off e f)) }

        straight : NearStraight M (opposite v.dir) → NearStraight M v.dir
        straight p = record {
          normal = p.normal;
          direction = p.direction;
          level = let e = dot-opposite p.normal v.dir in let l = p.level in omega (arith, ints);
          pos = p.pos;
          label = p.label;
          neg = p.neg;
          at_d = subst (λ (r : Label). MapLabel M v.dir r) (label-unique M V (opposite v.dir) M.mark p.label away-mark p.at_d) v-mark;
          near = λ e f. near-over e f (by_side p.pos p.label p.neg (sign (dot p.normal e))) (p.near e (away-off e f));
        }

        by : PlaceOf M (opposite v.dir) → Partner
        by (svertex_place l u b w) = record { number = l; svertex = u; listed = b; same = w }
        by (item_place l x b o) = absurd (L.no_straight k v a (straight (item-straight M V (opposite v.dir) l x b o)))
        by (free_place G) = absurd (L.no_plain k v a (plain (free-plain M V (opposite v.dir) G)))

    no-sloop : M.sloop ≡ None
    no-sloop = by M.sloop refl
      where
        by : (o : Option MapSloop) → M.sloop ≡ o → M.sloop ≡ None
        by None q = q
        by (Some l) q = let i = at-sloop M.arcs M.sloop l q in absurd (V.shaped.no_svertex_on_item k i.0 v (sloop_item l) a i.1 (record { direction = hv; level = flat-sloop M V L v.dir Fv l q }))

    edge-kind : KindOf M
    edge-kind = by partner
      where
        by : Partner → KindOf M
        by p = at_two (two-listed M.svertices k p.number v p.svertex a p.listed apart-numbers all)
          where
            opp : IsOpposite v.dir p.svertex.dir
            opp = record {
              parallel = parallel-trans v.dir (opposite v.dir) p.svertex.dir away-direction (let o = away-opposite in o.parallel) (cross-turned p.svertex.dir (opposite v.dir) (let s = p.same in s.parallel));
              backward = let o = away-opposite in same-minus (dot v.dir (opposite v.dir)) (dot v.dir p.svertex.dir) (sym (dir-signs p.svertex.dir (opposite v.dir) v.dir (V.shaped.svertex_dirs p.number p.svertex p.listed) p.same)) o.backward;
            }

            apart-numbers : k ≡ p.number → ⊥
            apart-numbers e =
                let q = is-at_one M.svertices k v p.svertex a (subst (λ (r : ℕ). IsAt M.svertices r p.svertex) (sym e) p.listed) in
                let o = subst (λ (r : MapVertex). IsOpposite v.dir r.dir) (sym q) opp in
                let b = o.backward in let s = self-pos v.dir hv in omega (arith, ints)

            all : (i : ℕ) (z : MapVertex) → IsAt M.svertices i z → (i ≡ k) ⊎ (i ≡ p.number)
            all i z b = at_beside (beside v.dir z.dir hv (V.shaped.svertex_dirs i z b) (cross-turned z.dir v.dir (flat-svertex M V L v.dir Fv i z b)))
              where
                at_beside : Beside v.dir z.dir → (i ≡ k) ⊎ (i ≡ p.number)
                at_beside (same_way w) = inl (V.shaped.svertices_apart i k z v b a (SameDirection-turned v.dir z.dir w))
                at_beside (other_way o) = inr (V.shaped.svertices_apart i p.number z p.svertex b p.listed (SameDirection-turned p.svertex.dir z.dir (opposites v.dir p.svertex.dir z.dir hv opp o)))

            mark-v : v.mark ≡ M.mark
            mark-v = label-unique M V v.dir v.mark M.mark (at_svertex k v a (dir-self v.dir hv) refl) v-mark

            mark-p : p.svertex.mark ≡ M.mark
            mark-p = label-unique M V (opposite v.dir) p.svertex.mark M.mark (at_svertex p.number p.svertex p.listed p.same refl) away-mark

            at_two : (M.svertices ≡ v ∷ p.svertex ∷ []) ⊎ (M.svertices ≡ p.svertex ∷ v ∷ []) → KindOf M
            at_two (inl e) = of_edge p.svertex.dir (record { first = v; second = p.svertex; two_svertices = e; opposite = opp; first_mark = mark-v; second_mark = mark-p; no_sloop = no-sloop; named = refl })
            at_two (inr e) = of_edge v.dir (record { first = p.svertex; second = v; two_svertices = e; opposite = turned; first_mark = mark-p; second_mark = mark-v; no_sloop = no-sloop; named = refl })
              where
                turned : IsOpposite p.svertex.dir v.dir
                turned = record { parallel = cross-turned v.dir p.svertex.dir (let o = opp in o.parallel); backward = let e = dot-comm p.svertex.dir v.dir in let o = opp in let b = o.backward in omega (arith, ints) }

  -- a least map that stays the same along a direction is that of a volume, a facet or an edge
  pub flat-kind : KindOf M
  flat-kind = ⊎_elim (λ f. edge-kind f.number f.element f.listed) (λ n. bare-kind (empty M.svertices n)) (search_list M.svertices (λ k v. Unit {0}) (λ k v. inl tt))
    where
      empty : (vs : List MapVertex) → ((k : ℕ) (v : MapVertex) → IsAt vs k v → Unit {0} → ⊥) → vs ≡ []
      empty [] n = refl
      empty (v ∷ vs) n = absurd (n zero v refl tt)
