-- IsAt a straight direction the rays of a simplified star that is well formed go different ways, and two opposite ones make it a straight star.
use Rattle.law_geometry.proofs.sphere.building.Prelude.{◌≡◌, ℕ, zero, suc, ◌<◌, pos, ◌-ℤ◌, ◌<ℤ◌, arith, refl, ap, sym, ◌∙◌, inl, ⊎_elim, List, ◌∷◌, subst, length, Bool, true, false, cond, [], ints, ring, num, ◌⊖◌, sign, sign-scaled, nought-is, Vector, IsDirection, cross, triple, dot, IsZero, SameDirection, IsOpposite, Label, VectorBelow, IsAt, Map, NearLabel, Valid, NearStraight, Ray, Star, ray_dir, across, in_sector, LeavesAxis, StarShows, IsStraight, IsSimplified, normal-direction, same-plus, direction-by, below-itself, Beside, same_way, other_way, beside, normals-not_opposite, whole-passes, lowest-same, across-side, straight-level, RaysApart, TwoRays, sector_count, IsWellFormed, dot-comm, dot-zero, zero-dot, self-pos, cross-turned, nought-if, opposites, SameDirection-turned, dir-signs, parallel-trans, parallel-in_plane, crossed, cross_of, dot_of, poly_triple, vec, numbers, is-at_none}
use Rattle.law_geometry.proofs.sphere.Simplified.{made-level, not-even, off-axis}
use Rattle.law_geometry.proofs.sphere.building.RayClose.{across-level}
use Rattle.law_geometry.proofs.sphere.building.StarSmooth.{beside-turn}
use Rattle.law_geometry.proofs.sphere.building.BuiltAxes.{number-order}
use Rattle.law_geometry.proofs.sphere.building.BuiltAround.{sector-there}

-- ---- the normals of rays along one line
turned-first : (d a w : Vector) → dot d (cross (cross d a) w) ≡ pos 0 -ℤ dot d (cross (cross a d) w)
turned-first d a w = ring (numbers d a w w) (poly_triple (vec 0) (cross_of (vec 0) (vec 3)) (vec 6)) (num (pos 0) ⊖ poly_triple (vec 0) (cross_of (vec 3) (vec 0)) (vec 6)) tt

turned-last : (d a w : Vector) → dot d (cross w (cross d a)) ≡ pos 0 -ℤ dot d (cross w (cross a d))
turned-last d a w = ring (numbers d a w w) (poly_triple (vec 0) (vec 6) (cross_of (vec 0) (vec 3))) (num (pos 0) ⊖ poly_triple (vec 0) (vec 6) (cross_of (vec 3) (vec 0))) tt

-- parallel rays have parallel normals
normals-parallel : (t : Star) → IsDirection t.axis → (q r : Ray) → LeavesAxis t q → LeavesAxis t r → IsZero (cross (ray_dir t q) (ray_dir t r)) → IsZero (cross q.normal r.normal)
normals-parallel t hd q r A B z = parallel-in_plane d a b hd (dot-comm d a ∙ A.level) (dot-comm d b ∙ B.level)
    (nought-is (triple d a b) (sym (sign-scaled (dot d d) (triple d a b) (self-pos d hd)) ∙ ap sign (beside-turn d a b A.level B.level ∙ by q.ahead r.ahead z)))
  where
    d : Vector
    d = t.axis

    a : Vector
    a = q.normal

    b : Vector
    b = r.normal

    by : (i k : Bool) → IsZero (cross (cond i (cross q.normal t.axis) (cross t.axis q.normal)) (cond k (cross r.normal t.axis) (cross t.axis r.normal)))
        → dot t.axis (cross (cross q.normal t.axis) (cross r.normal t.axis)) ≡ pos 0
    by true true p = dot-zero d (cross (cross a d) (cross b d)) p
    by true false p = let e = dot-zero d (cross (cross a d) (cross d b)) p in let f = turned-last d b (cross a d) in omega (arith, ints)
    by false true p = let e = dot-zero d (cross (cross d a) (cross b d)) p in let f = turned-first d a (cross b d) in omega (arith, ints)
    by false false p =
        let e = dot-zero d (cross (cross d a) (cross d b)) p in
        let f = turned-first d a (cross d b) in
        let g = turned-last d b (cross a d) in
        omega (arith, ints)

-- rays along one line have one normal
one-normal : (t : Star) → IsWellFormed t → (i k : ℕ) (q r : Ray) → IsAt t.rays i q → IsAt t.rays k r → IsZero (cross (ray_dir t q) (ray_dir t r)) → q.normal ≡ r.normal
one-normal t W i k q r g h z = by (beside q.normal r.normal (normal-direction q.normal A.normal) (normal-direction r.normal B.normal) (normals-parallel t W.axis q r A B z))
  where
    A : LeavesAxis t q
    A = W.rays i q g

    B : LeavesAxis t r
    B = W.rays k r h

    by : Beside q.normal r.normal → q.normal ≡ r.normal
    by (same_way w) = lowest-same q.normal r.normal w (W.rays_lowest i q g) (W.rays_lowest k r h)
    by (other_way w) = absurd (normals-not_opposite q.normal r.normal A.normal B.normal w)

-- along one line the first ray goes ahead, and the other back
first-ahead : (t : Star) → IsWellFormed t → (k : ℕ) (q r : Ray) → IsAt t.rays zero q → IsAt t.rays (suc k) r → IsZero (cross (ray_dir t q) (ray_dir t r)) → (q.normal ≡ r.normal) × (q.ahead ≡ true) × (r.ahead ≡ false)
first-ahead t W k q r g h z = ⊎_elim (λ l. absurd (below-itself r.normal (subst (λ (v : Vector). VectorBelow v r.normal) (one-normal t W zero (suc k) q r g h z) l))) (λ x. x) (W.least_first k q r g h)

-- no other ray goes the way of the first
first-alone : (t : Star) → IsWellFormed t → (k : ℕ) (q r : Ray) → IsAt t.rays zero q → IsAt t.rays (suc k) r → SameDirection (ray_dir t q) (ray_dir t r) → ⊥
first-alone t W k q r g h w = back q.normal t.axis ways
  where
    x : (q.normal ≡ r.normal) × (q.ahead ≡ true) × (r.ahead ≡ false)
    x = first-ahead t W k q r g h w.parallel

    ahead : ray_dir t q ≡ cross q.normal t.axis
    ahead = ap (λ b. cond b (cross q.normal t.axis) (cross t.axis q.normal)) x.1

    behind : ray_dir t r ≡ cross t.axis q.normal
    behind = ap (λ b. cond b (cross r.normal t.axis) (cross t.axis r.normal)) x.2 ∙ ap (λ v. cross t.axis v) (sym x.0)

    ways : SameDirection (cross q.normal t.axis) (cross t.axis q.normal)
    ways = subst (λ (v : Vector). SameDirection v (cross t.axis q.normal)) ahead (subst (SameDirection (ray_dir t q)) behind w)

    back : (n d : Vector) → SameDirection (cross n d) (cross d n) → ⊥
    back n d s =
        let e : dot (cross n d) (cross d n) ≡ pos 0 -ℤ dot (cross n d) (cross n d) = (let k = cross_of (vec 0) (vec 3) in ring (numbers n d d d) (dot_of k (cross_of (vec 3) (vec 0))) (num (pos 0) ⊖ dot_of k k) tt) in
        let f = s.forward in
        let p = self-pos (cross n d) (λ z. let g = zero-dot (cross n d) (cross d n) z in omega (arith, ints)) in
        omega (arith, ints)

-- two opposite rays with the star's mark and no other: the star is straight
pub two-straight : (t : Star) → IsWellFormed t → TwoRays t → IsStraight t
two-straight t W T = record {
  first = T.first;
  second = T.second;
  two_rays = T.two_rays;
  pos = s.0;
  neg = s.1;
  two_sectors = s.2;
  one_normal = x.0;
  first_ahead = x.1;
  second_behind = x.2;
  first_mark = T.first_mark;
  second_mark = T.second_mark;
}
  where
    x : (T.first.normal ≡ T.second.normal) × (T.first.ahead ≡ true) × (T.second.ahead ≡ false)
    x = first-ahead t W zero T.first T.second (subst (λ (rs : List Ray). IsAt rs zero T.first) (sym T.two_rays) refl) (subst (λ (rs : List Ray). IsAt rs (suc zero) T.second) (sym T.two_rays) refl)
        (let o = T.opposite in o.parallel)

    two : (ls : List Label) → length ls ≡ 2 → (a : Label) × (b : Label) × (ls ≡ a ∷ b ∷ [])
    two [] e = absurd (omega arith)
    two (a ∷ []) e = absurd (omega arith)
    two (a ∷ b ∷ []) e = (a, b, refl)
    two (a ∷ b ∷ c ∷ ls) e = absurd (omega arith)

    s : (a : Label) × (b : Label) × (t.sectors ≡ a ∷ b ∷ [])
    s = two t.sectors (W.as_many ∙ ap sector_count T.two_rays)

-- ---- at a straight direction
module _ (t : Star) (W : IsWellFormed t) (M : Map) (V : Valid M) (S : StarShows t M) (simple : IsSimplified t) (P : NearStraight M t.axis) where
  abbrev d : Vector
  d = t.axis

  -- all rays lie along one line
  one-line : (i k : ℕ) (q r : Ray) → IsAt t.rays i q → IsAt t.rays k r → IsZero (cross (ray_dir t q) (ray_dir t r))
  one-line i k q r a b = parallel-trans (ray_dir t q) w (ray_dir t r) (λ z. W.axis (nought-if P.normal d P.direction z P.level)) (cross-turned w (ray_dir t q) (along i q a)) (along k r b)
    where
      w : Vector
      w = cross P.normal d

      along : (k : ℕ) (r : Ray) → IsAt t.rays k r → IsZero (cross (cross P.normal d) (ray_dir t r))
      along k r a = let x = made-level t W k r a in crossed P.normal d (ray_dir t r) (straight-level t M V S simple P k r a) x.0

  -- all other rays go the other way
  other-rays : (k : ℕ) (q r : Ray) → IsAt t.rays zero q → IsAt t.rays (suc k) r → IsOpposite (ray_dir t q) (ray_dir t r)
  other-rays k q r a b = by (beside (ray_dir t q) (ray_dir t r) (let x = made-level t W zero q a in x.1) (let x = made-level t W (suc k) r b in x.1) (one-line zero (suc k) q r a b))
    where
      by : Beside (ray_dir t q) (ray_dir t r) → IsOpposite (ray_dir t q) (ray_dir t r)
      by (same_way w) = absurd (first-alone t W k q r a b w)
      by (other_way o) = o

  -- so there is only one other: the sector between two would go all round, and hold the first ray
  no-third : (q r s : Ray) → IsAt t.rays zero q → IsAt t.rays (suc zero) r → IsAt t.rays (suc (suc zero)) s → ⊥
  no-third q r s a b c = not-even t M V S simple zero q a u (λ z. let p = self-pos u x.1 in omega (arith, ints)) l.0 (all u (off-axis d u W.axis x.1 x.0) refl) all
    where
      u : Vector
      u = ray_dir t q

      x : (dot d (ray_dir t q) ≡ pos 0) × IsDirection (ray_dir t q)
      x = made-level t W zero q a

      y : (dot d (ray_dir t r) ≡ pos 0) × IsDirection (ray_dir t r)
      y = made-level t W (suc zero) r b

      z : (dot d (ray_dir t s) ≡ pos 0) × IsDirection (ray_dir t s)
      z = made-level t W (suc (suc zero)) s c

      l : (m : Label) × IsAt t.sectors (suc zero) m
      l = sector-there t W.as_many (suc zero) r b

      both : SameDirection (ray_dir t r) (ray_dir t s)
      both = opposites (ray_dir t q) (ray_dir t r) (ray_dir t s) x.1 (other-rays zero q r a b) (other-rays (suc zero) q s a c)

      all : (e : Vector) → IsDirection (cross d e) → sign (dot (ray_dir t q) e) ≡ sign (dot (ray_dir t q) (ray_dir t q)) → NearLabel M d e l.0
      all e f g = S.labels e l.0 f (in_sector (suc zero) r s b (inl c) (whole-passes d (ray_dir t r) (ray_dir t s) v W.axis y.1 z.1 (direction-by u v (λ i. let h = front in omega (arith, ints))) y.0 z.0 (across-level d e) both off) l.1)
        where
          v : Vector
          v = across d e

          front : pos 0 <ℤ dot (ray_dir t q) (across d e)
          front = same-plus (dot u u) (dot u v) (ap sign (across-side u d e (dot-comm u d ∙ x.0)) ∙ sign-scaled (dot d d) (dot u e) (self-pos d W.axis) ∙ g) (self-pos u x.1)

          off : SameDirection (ray_dir t s) (across d e) → ⊥
          off w =
              let o = other-rays (suc zero) q s a c in
              let h = same-plus (dot u v) (dot u (ray_dir t s)) (sym (dir-signs (ray_dir t s) v u z.1 w)) front in
              let k = o.backward in
              omega (arith, ints)

  pub rays-apart : RaysApart t
  rays-apart zero zero q r a b w = refl
  rays-apart zero (suc k) q r a b w = absurd (first-alone t W k q r a b w)
  rays-apart (suc i) zero q r a b w = absurd (first-alone t W i r q b a (SameDirection-turned (ray_dir t q) (ray_dir t r) w))
  rays-apart (suc i) (suc k) q r a b w = number-order i k (λ l. absurd (third t.rays k r l refl b)) (λ e. ap suc e) (λ l. absurd (third t.rays i q l refl a))
    where
      -- a list with a place beyond the second has three elements
      third : {j : ℕ} (rs : List Ray) (k : ℕ) (r : Ray) → j < k → t.rays ≡ rs → IsAt rs (suc k) r → ⊥
      third [] k r l e c = is-at_none c
      third (p ∷ []) k r l e c = is-at_none c
      third (p ∷ q ∷ []) zero r l e c = absurd (omega arith)
      third (p ∷ q ∷ []) (suc k) r l e c = is-at_none c
      third (p ∷ q ∷ s ∷ rs) k r l e c = no-third p q s (listed zero p refl) (listed (suc zero) q refl) (listed (suc (suc zero)) s refl)
        where
          listed : (i : ℕ) (x : Ray) → IsAt (p ∷ q ∷ s ∷ rs) i x → IsAt t.rays i x
          listed i x h = subst (λ (xs : List Ray). IsAt xs i x) (sym e) h
