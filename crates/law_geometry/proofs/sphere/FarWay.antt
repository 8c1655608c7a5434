-- The way from a direction that sees a svertex to one close to the svertex, where no ray of the svertex lies between.
use Rattle.law_geometry.proofs.sphere.Prelude.{◌≡◌, ℕ, zero, suc, ◌+◌, ◌<◌, ◌≤◌, ℤ, pos, nat_abs, ◌+ℤ◌, ◌*ℤ◌, ◌-ℤ◌, ◌<ℤ◌, arith, refl, ap, sym, ◌∙◌, inl, ⊎_elim, List, ◌∷◌, subst, [], ints, ring, at, num, ◌⊕◌, ◌⊖◌, ◌⊗◌, sign, nought-is, by_order, mul_pos, mul_neg, sign-scaled, nought-or, square_pos, follows, given, none as none_given, Vector, IsDirection, triple, cross, dot, SameDirection, blend, same-off, IsAt, MapVertex, Map, Item, items, item_normal, OnItem, IsClear, Shaped, ArcRay, ray_left, Keeps, forms, gather, dot-zero, vector-same, triple-in_plane, cross-none, blend_of, cross_of, numbers, poly_triple, triple_poly, vec, is-at_none, is-at_first}
use Rattle.law_geometry.proofs.sphere.Vectors.{dot-comb, normal-is, direction-by, same-plus, same-minus}
use Rattle.law_geometry.proofs.sphere.Generic.{amount, far-keeps, far-level}
use Rattle.law_geometry.proofs.sphere.Lists.{gather-has}
use Rattle.law_geometry.proofs.sphere.Forms.{item-forms, normal-form, on-level, OnItem-by_signs}
use Rattle.law_geometry.proofs.sphere.Shot.{product-off}
use Rattle.law_geometry.proofs.sphere.Direct.{slid, slid_form, slid-is, cross-self, miss-between}
use Rattle.law_geometry.proofs.sphere.Around.{free-around}
use Rattle.law_geometry.proofs.sphere.Walk.{between-direction}
use Rattle.law_geometry.proofs.sphere.NearSvertex.{near-ray}

-- a bound of finitely many numbers
pub bound-of : {A : Type 0} (xs : List A) (g : A → ℕ) → (n : ℕ) × ((k : ℕ) (x : A) → IsAt xs k x → g x ≤ n)
bound-of [] g = (0, λ k x a. absurd (is-at_none a))
bound-of {A} (y ∷ ys) g = let r = bound-of ys g in (g y + r.0, by r.0 r.1)
  where
    by : (n : ℕ) → ((k : ℕ) (x : A) → IsAt ys k x → g x ≤ n) → (k : ℕ) (x : A) → IsAt (y ∷ ys) k x → g x ≤ g y + n
    by n h zero x e = subst (λ (r : A). g r ≤ g y + n) (is-at_first e) (omega arith)
    by n h (suc k) x a = let q = h k x a in omega arith

module _ (M : Map) (V : Shaped M) (k : ℕ) (v : MapVertex) (a : IsAt M.svertices k v) (d f : Vector) (way : IsClear M d v.dir) (wide : triple v.dir d f ≡ pos 0 → ⊥)
    (none : (i j : ℕ) → 0 < i → 0 < j → (r : ArcRay M k) → SameDirection (ray_left r) (cross v.dir (blend i d j f)) → ⊥) where
  abbrev p : Vector
  p = v.dir

  abbrev crosses : List Vector
  crosses = gather (λ (u : MapVertex). cross d u.dir ∷ []) M.svertices

  abbrev bend : Item → Vector
  bend x = slid (item_normal x) d f

  items_bound : (n : ℕ) × ((l : ℕ) (x : Item) → IsAt (items M) l x → amount (forms M) (bend x) ≤ n)
  items_bound = bound-of (items M) (λ x. amount (forms M) (bend x))

  abbrev enough : ℕ
  enough = items_bound.0 + amount (forms M) f + amount crosses f

  module _ (number : ℕ) (large : enough ≤ number) where
    abbrev c : Vector
    c = blend number p 1 f

    -- p.(d x c) = p.(d x f)
    turn : triple p d c ≡ triple p d f
    turn = ring (pos number ∷ numbers p d f f) (poly_triple (vec 1) (vec 4) (blend_of (at 0) (vec 1) (num (pos 1)) (vec 7))) (triple_poly 1 4 7) tt

    apart : IsDirection (cross d c)
    apart z = wide (sym turn ∙ dot-zero p (cross d c) z)

    off_svertex : (l : ℕ) (u : MapVertex) → IsAt M.svertices l u → IsDirection (cross d u.dir) → dot (cross d u.dir) c ≡ pos 0 → ⊥
    off_svertex l u b h z = ⊎_elim
        (λ y.
        let e = far-level crosses p f number (omega arith) g y in
        let o : dot g f ≡ pos 0 = nought-is (dot g f) (sym e ∙ ap sign z) in
        wide (triple-in_plane g p d f h y (cross-self d u.dir) o))
        (λ n. same-off (dot g p) (dot g c) (far-keeps crosses p f number (omega arith) g (gather-has (λ (u : MapVertex). cross d u.dir ∷ []) M.svertices l u g b (inl refl)) n) n z)
        (nought-or (dot g p))
      where
        g : Vector
        g = cross d u.dir

    module _ (i j : ℕ) (si : 0 < i) (sj : 0 < j) where
      abbrev w : Vector
      w = blend i d j c

      -- f.(p x w) = i p.(d x f), and p x w = p x (i d + j f)
      beside : dot f (cross p w) ≡ pos i *ℤ triple p d f
      beside = ring (pos number ∷ pos i ∷ pos j ∷ numbers p d f f) (poly_triple (vec 9) (vec 3) (blend_of (at 1) (vec 6) (at 2) (blend_of (at 0) (vec 3) (num (pos 1)) (vec 9)))) (at 1 ⊗ triple_poly 3 6 9) tt

      off_svertex_way : IsDirection (cross p w)
      off_svertex_way = direction-by f (cross p w) (λ z. product-off (pos i) (triple p d f) (omega (arith, ints)) wide (sym beside ∙ z))

      across : cross p w ≡ cross p (blend i d j f)
      across =
          let xs = pos number ∷ pos i ∷ pos j ∷ numbers p d f f in
          let k = cross_of (vec 3) (blend_of (at 1) (vec 6) (at 2) (blend_of (at 0) (vec 3) (num (pos 1)) (vec 9))) in let m = cross_of (vec 3) (blend_of (at 1) (vec 6) (at 2) (vec 9)) in
          vector-same _ _ (ring xs k.0 m.0 tt) (ring xs k.1 m.1 tt) (ring xs k.2 m.2 tt)

      module _ (l : ℕ) (x : Item) (h : IsAt (items M) l x) (o : OnItem M x w) where
        abbrev n : Vector
        n = item_normal x

        abbrev start : ℤ
        start = dot n d

        abbrev end : ℤ
        end = dot n p

        abbrev past : ℤ
        past = dot n c

        hn : IsDirection n
        hn = normal-is V l x h

        level : pos i *ℤ start +ℤ pos j *ℤ past ≡ pos 0
        level = sym (dot-comb n (pos i) d (pos j) c) ∙ on-level M x w o

        past-sign : (end ≡ pos 0 → ⊥) → sign past ≡ sign end
        past-sign = far-keeps (forms M) p f number (omega arith) n (item-forms M l x n h (normal-form M x))

        -- the plane holds d
        in_plane : start ≡ pos 0 → ⊥
        in_plane z = ⊎_elim
            (λ y. wide (triple-in_plane n p d f hn y z (sym (far y) ∙ level_past)))
            (λ u. same-off end past (past-sign u) u level_past)
            (nought-or end)
          where
            level_past : past ≡ pos 0
            level_past = ⊎_elim (λ y. y) (λ u. absurd (product-off (pos j) past (omega (arith, ints)) u (let b = ap (λ r. pos i *ℤ r) z in let q = ring (pos i ∷ []) (at 0 ⊗ num (pos 0)) (num (pos 0)) tt in let m = level in omega (arith, ints)))) (nought-or past)

            far : end ≡ pos 0 → past ≡ dot n f
            far y = dot-comb n (pos number) p (pos 1) f ∙ ap (λ r. pos number *ℤ r +ℤ pos 1 *ℤ dot n f) y ∙ ring (pos number ∷ dot n f ∷ []) (at 0 ⊗ num (pos 0) ⊕ num (pos 1) ⊗ at 1) (at 1) tt

        -- the way crosses the plane, close to where that to the svertex does
        module _ (u : start ≡ pos 0 → ⊥) where
          abbrev meet : Vector
          meet = slid n d p

          abbrev near : Vector
          near = blend number meet 1 (bend x)

          slid-c : (g : Vector) → dot g (slid n d c) ≡ dot g near
          slid-c g = slid-is n d g c ∙ dot-comb (slid_form n d g) (pos number) p (pos 1) f
              ∙ ap (λ r. pos number *ℤ r +ℤ pos 1 *ℤ dot (slid_form n d g) f) (sym (slid-is n d g p)) ∙ ap (λ r. pos number *ℤ dot g meet +ℤ pos 1 *ℤ r) (sym (slid-is n d g f))
              ∙ sym (dot-comb g (pos number) meet (pos 1) (bend x))

          -- (n.d)^2 w = j slid
          scaled : (g : Vector) → (start *ℤ start) *ℤ dot g w ≡ pos j *ℤ dot g (slid n d c)
          scaled g = ap (λ r. (start *ℤ start) *ℤ r) (dot-comb g (pos i) d (pos j) c)
              ∙ follows (start ∷ past ∷ dot g d ∷ dot g c ∷ pos i ∷ pos j ∷ []) ((at 0 ⊗ at 0) ⊗ (at 4 ⊗ at 2 ⊕ at 5 ⊗ at 3)) (at 5 ⊗ ((at 0 ⊗ at 0) ⊗ at 3 ⊕ (num (pos 0) ⊖ at 0 ⊗ at 1) ⊗ at 2))
              (given (at 0 ⊗ at 2) (at 4 ⊗ at 0 ⊕ at 5 ⊗ at 1) (num (pos 0)) level none_given) tt
              ∙ ap (λ r. pos j *ℤ r) (sym (dot-comb g (start *ℤ start) c (pos 0 -ℤ start *ℤ past) d))

          signs : (g : Vector) → sign (dot g near) ≡ sign (dot g w)
          signs g = ap sign (sym (slid-c g)) ∙ sym (sign-scaled (pos j) (dot g (slid n d c)) (omega (arith, ints))) ∙ ap sign (sym (scaled g)) ∙ sign-scaled (start *ℤ start) (dot g w) (square_pos start u)

          near-keeps : Keeps (forms M) meet near
          near-keeps = far-keeps (forms M) meet (bend x) number (let q = items_bound.1 l x h in omega arith)

          meet-is : (g : Vector) → dot g meet ≡ (start *ℤ start) *ℤ dot g p +ℤ (pos 0 -ℤ start *ℤ end) *ℤ dot g d
          meet-is g = dot-comb g (start *ℤ start) p (pos 0 -ℤ start *ℤ end) d

          -- the plane holds the svertex
          at_svertex : end ≡ pos 0 → ⊥
          at_svertex z =
              let r = near-ray M V k v a w kept off_svertex_way l x h o in
              none i j si sj r.ray (subst (SameDirection (ray_left r.ray)) across r.along)
            where
              meet-sign : (g : Vector) → sign (dot g meet) ≡ sign (dot g p)
              meet-sign g = ap sign (meet-is g ∙ ap (λ r. (start *ℤ start) *ℤ dot g p +ℤ (pos 0 -ℤ start *ℤ r) *ℤ dot g d) z
                  ∙ ring (start ∷ dot g p ∷ dot g d ∷ []) ((at 0 ⊗ at 0) ⊗ at 1 ⊕ (num (pos 0) ⊖ at 0 ⊗ num (pos 0)) ⊗ at 2) ((at 0 ⊗ at 0) ⊗ at 1) tt) ∙ sign-scaled (start *ℤ start) (dot g p) (square_pos start u)

              kept : Keeps (forms M) p w
              kept g m y = sym (signs g) ∙ near-keeps g m (same-off (dot g p) (dot g meet) (meet-sign g) y) ∙ meet-sign g

          -- the plane parts d and the svertex
          parted : (end ≡ pos 0 → ⊥) → (start *ℤ end) <ℤ pos 0
          parted y = by_order start (pos 0)
              (λ m. by_order past (pos 0)
              (λ q. let e = mul_neg (pos i) start (omega (arith, ints)) m in let e' = mul_neg (pos j) past (omega (arith, ints)) q in let t = level in absurd (omega (arith, ints)))
              (λ q. absurd (same-off end past (past-sign y) y q))
              (λ q. let e = mul_neg end start (same-plus past end (sym (past-sign y)) q) m in omega (arith, ints)))
              (λ m. absurd (u m))
              (λ m. by_order past (pos 0)
              (λ q. mul_neg start end m (same-minus past end (sym (past-sign y)) q))
              (λ q. absurd (same-off end past (past-sign y) y q))
              (λ q. let e = mul_pos (pos i) start (omega (arith, ints)) m in let e' = mul_pos (pos j) past (omega (arith, ints)) q in let t = level in absurd (omega (arith, ints))))

          past_svertex : (end ≡ pos 0 → ⊥) → ⊥
          past_svertex y = (free-around M V there near there-keeps (way.between i' j' some-i some-j)).off_items l x h (OnItem-by_signs M x w near (λ g m. signs g) o)
            where
              i' : ℕ
              i' = nat_abs (start *ℤ end)

              j' : ℕ
              j' = nat_abs (start *ℤ start)

              some-i : 0 < i'
              some-i = let q = parted y in omega (arith, ints)

              some-j : 0 < j'
              some-j = let q = square_pos start u in omega (arith, ints)

              there : Vector
              there = blend i' d j' p

              there-is : (g : Vector) → dot g there ≡ dot g meet
              there-is g =
                  let q = parted y in
                  let r = square_pos start u in
                  let e : pos i' ≡ pos 0 -ℤ start *ℤ end = omega (arith, ints) in
                  let e' : pos j' ≡ start *ℤ start = omega (arith, ints) in
                  dot-comb g (pos i') d (pos j') p ∙ ap (λ r. r *ℤ dot g d +ℤ pos j' *ℤ dot g p) e ∙ ap (λ r. (pos 0 -ℤ start *ℤ end) *ℤ dot g d +ℤ r *ℤ dot g p) e'
                  ∙ ring (start ∷ end ∷ dot g d ∷ dot g p ∷ []) ((num (pos 0) ⊖ at 0 ⊗ at 1) ⊗ at 2 ⊕ (at 0 ⊗ at 0) ⊗ at 3) ((at 0 ⊗ at 0) ⊗ at 3 ⊕ (num (pos 0) ⊖ at 0 ⊗ at 1) ⊗ at 2) tt ∙ sym (meet-is g)

              there-keeps : Keeps (forms M) there near
              there-keeps g m z = near-keeps g m (λ e. z (there-is g ∙ e)) ∙ ap sign (sym (there-is g))

        unmet : ⊥
        unmet = ⊎_elim in_plane (λ u. ⊎_elim (at_svertex u) (past_svertex u) (nought-or end)) (nought-or start)

    far-clear : IsClear M d c
    far-clear = record {
      start = way.start;
      direction = λ z. apart (cross-none d c z);
      short = λ o. apart o.parallel;
      between = λ i j si sj. record {
        direction = between-direction d c i j sj apart;
        off_svertices = λ l u b m. miss-between d u.dir c i j sj (V.svertex_dirs l u b) (off_svertex l u b) apart m;
        off_items = λ l x h o. unmet i j si sj l x h o;
      };
    }

  -- from some number on
  pub far-way : (n : ℕ) × ((number : ℕ) → n ≤ number → IsClear M d (blend number v.dir 1 f))
  far-way = (enough, λ number large. far-clear number large)
