-- What the tests on meets say, and the first meet of ever more items.
use Rattle.nef_smap.proofs.Prelude.{◌≡◌, ℕ, ◌+◌, ◌<◌, pos, ◌-ℤ◌, ◌*ℤ◌, ◌<ℤ◌, arith, ap, ◌∙◌, ⊎_elim, [], ◌∷◌, subst, ints, eq-or-lt_of_le, ring, at, num, ◌⊕◌, ◌⊖◌, ◌⊗◌, sign, sign-scaled, square_pos, Vector, IsDirection, dot, cross, IsAt, Map, Item, items, item_normal, OnItem, is-at_one, on-level, OnItem-by_signs, IsZero-times, way_meet, IsMetOnWay, IsMetBefore, IsFair, IsFirstMet, cross-none}
use Rattle.nef_smap.proofs.FirstMet.{meet-is, before-trans, before-self}

module _ (M : Map) (a b : Vector) (F : IsFair M a b) where
  -- where a plane is met there is a direction
  pub met-direction : (k : ℕ) (x : Item) → IsAt (items M) k x → IsDirection (way_meet (item_normal x) a b)
  met-direction k x h z =
      let n = item_normal x in
      let s = dot n a *ℤ dot n a in
      let t = pos 0 -ℤ dot n a *ℤ dot n b in
      let c = cross-none a (way_meet n a b) z in
      let xs = a.x ∷ a.y ∷ a.z ∷ b.x ∷ b.y ∷ b.z ∷ s ∷ t ∷ [] in
      let mx = at 6 ⊗ at 3 ⊕ at 7 ⊗ at 0 in
      let my = at 6 ⊗ at 4 ⊕ at 7 ⊗ at 1 in
      let mz = at 6 ⊗ at 5 ⊕ at 7 ⊗ at 2 in
      F.apart (IsZero-times s (cross a b) (square_pos (dot n a) (F.planes k x h))
      (ring xs (at 6 ⊗ (at 1 ⊗ at 5 ⊖ at 2 ⊗ at 4)) (at 1 ⊗ mz ⊖ at 2 ⊗ my) tt ∙ c.0)
      (ring xs (at 6 ⊗ (at 2 ⊗ at 3 ⊖ at 0 ⊗ at 5)) (at 2 ⊗ mx ⊖ at 0 ⊗ mz) tt ∙ c.1)
      (ring xs (at 6 ⊗ (at 0 ⊗ at 4 ⊖ at 1 ⊗ at 3)) (at 0 ⊗ my ⊖ at 1 ⊗ mx) tt ∙ c.2))

  -- the first item, on which b lies
  pub first-begins : (x : Item) → IsAt (items M) 0 x → IsFirstMet M a b 1 x
  first-begins x h =
      let n = item_normal x in
      let on = subst (λ (y : Item). OnItem M y b) (is-at_one (items M) 0 F.first x F.listed h) F.on in
      let z = on-level M x b on in
      let flat : dot n a *ℤ dot n b ≡ pos 0 = ap (λ r. dot n a *ℤ r) z ∙ ring (dot n a ∷ []) (at 0 ⊗ num (pos 0)) (num (pos 0)) tt in
      record {
        not_past = omega (arith, ints);
        on = OnItem-by_signs M x b (way_meet n a b) (λ g l. ap sign (meet-is n g a b ∙ ap (λ r. dot n a *ℤ (dot n a *ℤ dot g b -ℤ r *ℤ dot g a)) z
            ∙ ring (dot n a ∷ dot g b ∷ dot g a ∷ []) (at 0 ⊗ (at 0 ⊗ at 1 ⊖ num (pos 0) ⊗ at 2)) ((at 0 ⊗ at 0) ⊗ at 1) tt) ∙ sign-scaled (dot n a *ℤ dot n a) (dot g b) (square_pos (dot n a) (F.planes 0 x h))) on;
        none_before = λ i y l k m q. let e : i ≡ 0 = omega arith in let s = is-at_one (items M) 0 y x (subst (λ (r : ℕ). IsAt (items M) r y) e k) h in
            let p = subst (λ (r : Item). (dot (item_normal r) a *ℤ dot (item_normal r) b) <ℤ pos 0) s m.parted in omega (arith, ints);
      }

  -- one item more
  module _ (n : ℕ) (x y : Item) (f : IsFirstMet M a b n x) (h : IsAt (items M) n y) where
    one_more : (z : Item) → ((i : ℕ) (w : Item) → i < n → IsAt (items M) i w → IsMetOnWay M a b w → IsMetBefore a b w z → ⊥) → (IsMetOnWay M a b y → IsMetBefore a b y z → ⊥)
        → (i : ℕ) (w : Item) → i < n + 1 → IsAt (items M) i w → IsMetOnWay M a b w → IsMetBefore a b w z → ⊥
    one_more z low here i w l k m q = ⊎_elim
        (λ e. let s = is-at_one (items M) n w y (subst (λ (r : ℕ). IsAt (items M) r w) e k) h in here (subst (IsMetOnWay M a b) s m) (subst (λ (r : Item). IsMetBefore a b r z) s q))
        (λ e. low i w e k m q)
        (eq-or-lt_of_le {n = i} {m = n} (omega arith))

    pub first-stays : (IsMetOnWay M a b y → IsMetBefore a b y x → ⊥) → IsFirstMet M a b (n + 1) x
    first-stays none = record { not_past = f.not_past; on = f.on; none_before = one_more x f.none_before none }

    pub first-changes : IsMetOnWay M a b y → IsMetBefore a b y x → IsFirstMet M a b (n + 1) y
    first-changes m q = record {
      not_past = let p = m.parted in omega (arith, ints);
      on = m.on;
      none_before = one_more y (λ i w l k s t. f.none_before i w l k s (before-trans a b w y x (F.planes n y h) t q)) (λ s t. before-self a b y t);
    }
