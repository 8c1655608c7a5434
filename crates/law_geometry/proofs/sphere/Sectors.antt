-- What bounds the sector of a svertex in which a direction lies sees all that is close to the svertex toward it; and something bounds it.
use Rattle.law_geometry.proofs.sphere.Prelude.{◌≡◌, ℕ, zero, suc, ◌≤◌, pos, ◌<ℤ◌, arith, refl, sym, ◌∙◌, ◌⊎◌, inl, inr, ⊎_elim, List, ◌∷◌, subst, [], ints, Vector, IsDirection, dot, cross, opposite, SameDirection, blend, Label, Passes, IsOnCircle, Decided, IsAt, MapVertex, Arc, Map, arc_item, IsClear, Side, around_svertex, HasSide, dir_of, Sees, HasArc, Shaped, ArcRay, end_left, end_side, ray_left, ray_side, Unrayed, IsLastRay, IsLastSide, BoundsSector, forms, dot-comm, level-way, opposite-dot, square-cross, level_cross_second, SameDirection-turned, SameDirection-trans, dir-self, direction-left, blend-turned, is-at_none, is-at_first}
use Rattle.law_geometry.proofs.sphere.cyclic.Cyclic.{ways_glue}
use Rattle.law_geometry.proofs.sphere.Generic.{amount, far-keeps}
use Rattle.law_geometry.proofs.sphere.Places.{IsStrictlyOn-decided}
use Rattle.law_geometry.proofs.sphere.Shot.{dir-at}
use Rattle.law_geometry.proofs.sphere.Turn.{IsStrictlyOn-same}
use Rattle.law_geometry.proofs.sphere.Arcs.{at-arc}
use Rattle.law_geometry.proofs.sphere.Lone.{sees-around}
use Rattle.law_geometry.proofs.sphere.Unique.{eq-decided, HasArc-decided}
use Rattle.law_geometry.proofs.sphere.NearSvertex.{same-cross, near-clear}
use Rattle.law_geometry.proofs.sphere.SectorSees.{left-on, sector-sees}

-- the side sees each direction close to d toward e
abbrev pub SeesNear : Map → Side → Vector → Vector → Type 0
SeesNear M o d e = (n : ℕ) × ((k : ℕ) → n ≤ k → Sees M o (blend k d 1 e))

module _ (M : Map) (V : Shaped M) (k : ℕ) (v : MapVertex) (a : IsAt M.svertices k v) (e : Vector) (off : IsDirection (cross v.dir e)) where
  abbrev p : Vector
  p = v.dir

  hp : IsDirection p
  hp = V.svertex_dirs k v a

  circle : (r : ArcRay M k) → IsOnCircle p (ray_left r)
  circle r = left-on M V k v a r

  itself : (r : ArcRay M k) → SameDirection (ray_left r) (ray_left r)
  itself r = let o = circle r in dir-self (ray_left r) o.direction

  -- ---- sight
  same-near : (n : ℕ) → SameDirection (cross p (blend n p 1 e)) (cross p e)
  same-near n = subst (λ (x : Vector). SameDirection (cross p x) (cross p e)) (blend-turned 1 n e p) (same-cross p e 1 n (omega arith) off)

  near-way : Unrayed M k p e → (n : ℕ) → amount (forms M) e ≤ n → IsClear M (blend n p 1 e) p
  near-way free n large =
      let w = blend n p 1 e in
      near-clear M V k v a w (far-keeps (forms M) p e n large) (direction-left (cross p w) (cross p e) (same-near n)) (λ r z. free r (SameDirection-trans (ray_left r) (cross p w) (cross p e) z (same-near n)))

  -- where no ray lies between a ray and the direction, the ray's side sees what is close toward it
  pub ray-sees : (q : ArcRay M k) → Unrayed M k p e → IsLastRay M k p e q → SeesNear M (ray_side q) p e
  ray-sees q free none = (
    amount (forms M) e,
    λ n large. sector-sees M V k v a q (blend n p 1 e) (near-way free n large)
        (λ r o. none r (IsStrictlyOn-same p p (ray_left q) (ray_left q) (cross p (blend n p 1 e)) (cross p e) (ray_left r) (ray_left r) (dir-self p hp) (itself q) (same-near n) (itself r) o)),
  )

  -- ---- the last ray before the direction
  -- from the second ray none is passed before the direction that isn't from the first
  abbrev KeepsPassed : ArcRay M k → ArcRay M k → Type 0
  KeepsPassed q s = (x : ArcRay M k) → (Passes p (ray_left q) (ray_left x) (cross p e) → ⊥) → Passes p (ray_left s) (ray_left x) (cross p e) → ⊥

  -- one of two rays keeps what the first has passed, and doesn't pass the second
  later : (q r : ArcRay M k) → (s : ArcRay M k) × KeepsPassed q s × (Passes p (ray_left s) (ray_left r) (cross p e) → ⊥)
  later q r = ⊎_elim
      (λ o. (
        r,
        (λ x n b. n (ways_glue p (ray_left q) (ray_left r) (ray_left x) (cross p e) (record { axis = hp; first = circle q; second = circle r; third = circle x; fourth = record { direction = off; level = square-cross p e } }) o b)),
        (λ b. b.not_source (itself r)),
      ))
      (λ n. (q, (λ x m. m), n))
      (IsStrictlyOn-decided p (ray_left q) (cross p e) (ray_left r))

  later-end : (q : ArcRay M k) (E : Type 0) (left : Vector) → ((z : E) → (r : ArcRay M k) × (ray_left r ≡ left)) → Decided E → (s : ArcRay M k) × KeepsPassed q s × (E → Passes p (ray_left s) left (cross p e) → ⊥)
  later-end q E left ray (inl z) =
      let r = ray z in
      let s = later q r.0 in
      (s.0, s.1, λ y o. s.2 (subst (λ (x : Vector). Passes p (ray_left s.0) x (cross p e)) (sym r.1) o))
  later-end q E left ray (inr n) = (q, (λ x m. m), (λ z. absurd (n z)))

  abbrev ray : (j : ℕ) (b : Arc) → IsAt M.arcs j b → (b.source ≡ k) ⊎ (b.target ≡ k) → ArcRay M k
  ray j b l t = record { number = j; arc = b; listed = l; end = t }

  -- from the ray to the direction no ray of an arc of the list is passed
  abbrev LastAmong : List Arc → ArcRay M k → Type 0
  LastAmong xs q = (i : ℕ) (b : Arc) → IsAt xs i b → (t : (b.source ≡ k) ⊎ (b.target ≡ k)) → Passes p (ray_left q) (end_left b t) (cross p e) → ⊥

  last-among : (xs : List Arc) → ((i : ℕ) (b : Arc) → IsAt xs i b → (j : ℕ) × IsAt M.arcs j b) → ArcRay M k → (q : ArcRay M k) × LastAmong xs q
  last-among [] listed q = (q, λ i b h. absurd (is-at_none h))
  last-among (c ∷ cs) listed q =
      let l = listed zero c refl in
      let rest = last-among cs (λ i b h. listed (suc i) b h) q in
      let one = later-end rest.0 (c.source ≡ k) c.normal (λ z. (ray l.0 c l.1 (inl z), refl)) (eq-decided c.source k) in
      let two = later-end one.0 (c.target ≡ k) (opposite c.normal) (λ z. (ray l.0 c l.1 (inr z), refl)) (eq-decided c.target k) in
      (two.0, among rest.0 rest.1 one.0 one.1 one.2 two.0 two.1 two.2)
    where
      among : (q : ArcRay M k) → LastAmong cs q → (r : ArcRay M k) → KeepsPassed q r → (c.source ≡ k → Passes p (ray_left r) c.normal (cross p e) → ⊥)
          → (s : ArcRay M k) → KeepsPassed r s → (c.target ≡ k → Passes p (ray_left s) (opposite c.normal) (cross p e) → ⊥) → LastAmong (c ∷ cs) s
      among q L r f n s g m zero b h (inl z) =
          let l = listed zero b h in
          g (ray l.0 b l.1 (inl z)) (subst (λ (x : Arc). Passes p (ray_left r) x.normal (cross p e) → ⊥) (is-at_first h) (n (subst (λ (x : Arc). x.source ≡ k) (sym (is-at_first h)) z)))
      among q L r f n s g m zero b h (inr z) = subst (λ (x : Arc). Passes p (ray_left s) (opposite x.normal) (cross p e) → ⊥) (is-at_first h) (m (subst (λ (x : Arc). x.target ≡ k) (is-at_first (sym h)) z))
      among q L r f n s g m (suc i) b h t =
          let l = listed (suc i) b h in
          let x = ray l.0 b l.1 t in
          g x (f x (L i b h t))

  last-ray : HasArc M k → (q : ArcRay M k) × IsLastRay M k p e q
  last-ray (j, b, l, t) =
      let r = last-among M.arcs (λ i c h. (i, h)) (ray j b l t) in
      (r.0, λ x. r.1 x.number x.arc x.listed x.end)

  ray-has : (j : ℕ) (b : Arc) → IsAt M.arcs j b → (t : (b.source ≡ k) ⊎ (b.target ≡ k)) → (l : Label) × HasSide M (end_side j t) l
  ray-has j b h (inl z) = (b.pos, (arc_item b, at-arc M.arcs M.sloop j b h, refl))
  ray-has j b h (inr z) = (b.neg, (arc_item b, at-arc M.arcs M.sloop j b h, refl))

  -- some side of the map bounds the sector
  pub bounded : Unrayed M k p e → (o : Side) × (l : Label) × HasSide M o l × BoundsSector M k e o
  bounded free = ⊎_elim
      (λ h. let q = last-ray h in let s = ray-has q.0.number q.0.arc q.0.listed q.0.end in (ray_side q.0, s.0, s.1, by (ray_side q.0) (inr (q.0, q.1, refl))))
      (λ n. let r = V.around_lone k v a n in (around_svertex k, r.0, (v, a, r.1), by (around_svertex k) (inl (n, refl))))
      (HasArc-decided M k)
    where
      by : (o : Side) → IsLastSide M k p e o → BoundsSector M k e o
      by o b = record { svertex = v; listed = a; aside = off; unrayed = free; bounds = b }

  -- ---- where the direction lies ahead of each arc no ray runs along it
  module _ (ahead : (j : ℕ) (b : Arc) → IsAt M.arcs j b → pos 0 <ℤ dot b.normal e) where
    pub unrayed-ahead : Unrayed M k p e
    unrayed-ahead r w = by r.arc r.number r.listed r.end w
      where
        level : (n : Vector) → SameDirection n (cross p e) → dot n e ≡ pos 0
        level n w = dot-comm n e ∙ level-way e (cross p e) n (SameDirection-turned n (cross p e) w) (level_cross_second p e)

        by : (b : Arc) (j : ℕ) → IsAt M.arcs j b → (q : (b.source ≡ k) ⊎ (b.target ≡ k)) → SameDirection (end_left b q) (cross p e) → ⊥
        by b j l (inl x) w = let z = level b.normal w in let h = ahead j b l in omega (arith, ints)
        by b j l (inr x) w = let z = level (opposite b.normal) w in let h = ahead j b l in let r = opposite-dot b.normal e in omega (arith, ints)

-- WHAT BOUNDS THE SECTOR IN WHICH A DIRECTION LIES SEES WHAT IS CLOSE TO THE SVERTEX TOWARD IT
pub bounds-sees : (M : Map) → Shaped M → (k : ℕ) (e : Vector) (o : Side) → BoundsSector M k e o → SeesNear M o (dir_of M.svertices k) e
bounds-sees M V k e o B = subst (λ (x : Vector). SeesNear M o x e) (sym (dir-at M.svertices k B.svertex B.listed)) (by B.bounds)
  where
    by : IsLastSide M k B.svertex.dir e o → SeesNear M o B.svertex.dir e
    by (inl (none, f)) = subst (λ (x : Side). SeesNear M x B.svertex.dir e) (sym f) (amount (forms M) e, λ n large. sees-around M V k B.svertex B.listed none e n large B.aside)
    by (inr (q, last, f)) = subst (λ (x : Side). SeesNear M x B.svertex.dir e) (sym f) (ray-sees M V k B.svertex B.listed e B.aside q B.unrayed last)
