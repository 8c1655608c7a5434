-- The svertices of a labelling: in order, the directions in lowest terms that are neither plain nor straight; and the planes of the forms.
use Rattle.law_geometry.proofs.sphere.cones.Prelude.{◌≡◌, ℕ, pos, arith, refl, ◌⊎◌, inl, inr, ⊎_elim, List, subst, ints, cases_lt, pairs, lies-pairs, Lies, Vector, IsDirection, cross, dot, IsZero, SameDirection, IsNormal, opposite, Label, Decided, decided-both, IsPrimitive, VectorBelow, IsAt, InOrder, Labelling, IsSmooth, normal-direction, below-itself, Found, search_list, lies-at, at-lies, direction-decided, normals-same, lowest-same, Axial, nought-or, SameDirection-turned, SameDirection-trans, direction-right, parallel-trans, opposite-cross, cross-turned, dot-opposite, opposite-dot, parallel-opposite, normal-either}
use Rattle.law_geometry.proofs.sphere.cyclic.Directions.{two_meets}
use Rattle.law_geometry.proofs.sphere.cones.Listing.{Collected, collect, Sorted, sort, chain-order}
use Rattle.law_geometry.proofs.sphere.cones.Lowest.{Lowest, lowest, below-trans, below-either}
use Rattle.law_geometry.proofs.sphere.cones.Smooth.{FormOf, smooth-off}
use Rattle.law_geometry.proofs.sphere.cones.SmoothDecided.{smooth-decided, smooth-same}

-- no direction of an ordered list stands twice
pub order-one : (ws : List Vector) → InOrder VectorBelow ws → (i k : ℕ) (w : Vector) → IsAt ws i w → IsAt ws k w → i ≡ k
order-one ws o i k w a b = ⊎_elim
    (λ l. absurd (below-itself w (o i k w w l a b)))
    (λ l. ⊎_elim (λ m. absurd (below-itself w (o k i w w m b a))) (λ m. omega arith) (cases_lt k i))
    (cases_lt i k)

-- a plane by its normal in normal form and lowest terms
pub record Plane : Type 0 where
  pub normal : Vector
  pub is_normal : IsNormal normal
  pub primitive : IsPrimitive normal

pub plane-direction : (p : Plane) → IsDirection p.normal
plane-direction p = normal-direction p.normal p.is_normal

pub plane-of : (g : Vector) → IsDirection g → (p : Plane) × IsZero (cross g p.normal)
plane-of g h = by (lowest g h)
  where
    by : Lowest g → (p : Plane) × IsZero (cross g p.normal)
    by l = ⊎_elim
        (λ n. (record { normal = l.direction; is_normal = n; primitive = l.primitive }, l.same.parallel))
        (λ n. (
          record {
            normal = opposite l.direction;
            is_normal = n;
            primitive = record {
              by = opposite l.primitive.by;
              one = let a = opposite-dot l.primitive.by (opposite l.direction) in let b = dot-opposite l.primitive.by l.direction in let c = l.primitive.one in omega (arith, ints);
            };
          },
          cross-turned (opposite l.direction) g (parallel-opposite l.direction g (cross-turned g l.direction l.same.parallel)),
        ))
        (normal-either l.direction (direction-right g l.direction l.same))

module _ (gs : List Vector) (F : Vector → Label → Type 0) (L : Labelling gs F) (axial : Axial gs) where
  -- ---- planes
  pub record Planes : Type 0 where
    pub list : List Plane
    pub all : (n : Vector) → IsNormal n → FormOf gs F L axial n → (p : Plane) × Lies list p × SameDirection n p.normal

  pub planes : Planes
  planes = by (collect gs (λ g p. IsZero (cross g p.normal)) IsDirection (λ g. ⊎_elim (λ h. inl (plane-of g h)) (λ f. inr f) (direction-decided g)))
    where
      by : Collected gs (λ g (p : Plane). IsZero (cross g p.normal)) IsDirection → Planes
      by c = record {
        list = c.list;
        all = λ n h f.
            let r = c.all f.form f.listed f.direction in
            (r.0, r.1, normals-same n r.0.normal h r.0.is_normal (parallel-trans n f.form r.0.normal f.direction f.parallel r.2));
      }

  -- ---- svertices
  pub record Dirs : Type 0 where
    pub list : List Vector
    pub order : InOrder VectorBelow list
    pub primitive : (k : ℕ) (w : Vector) → IsAt list k w → IsPrimitive w
    pub direction : (k : ℕ) (w : Vector) → IsAt list k w → IsDirection w
    pub rough : (k : ℕ) (w : Vector) → IsAt list k w → IsSmooth F w → ⊥
    pub all : (d : Vector) → IsDirection d → (IsSmooth F d → ⊥) → (k : ℕ) × (w : Vector) × IsAt list k w × SameDirection d w

  pub dirs-one : (W : Dirs) (i k : ℕ) (u w : Vector) → IsAt W.list i u → IsAt W.list k w → SameDirection u w → i ≡ k
  dirs-one W i k u w a b s = order-one W.list W.order i k w (subst (IsAt W.list i) (lowest-same u w s (W.primitive i u a) (W.primitive k w b)) a) b

  -- two forms whose planes cross at d
  pub record Crossing (d : Vector) : Type 0 where
    pub first : Vector
    pub second : Vector
    pub first_listed : Lies gs first
    pub second_listed : Lies gs second
    pub same : SameDirection (cross first second) d

  module _ (d : Vector) (hd : IsDirection d) where
    abbrev Cross : Vector → Vector → Type 0
    Cross g h = (dot g d ≡ pos 0) × ((dot h d ≡ pos 0) × IsDirection (cross g h))

    cross-decided : (g h : Vector) → Decided (Cross g h)
    cross-decided g h = decided-both (nought-or (dot g d)) (decided-both (nought-or (dot h d)) (direction-decided (cross g h)))

    abbrev Crossed : Vector → Type 0
    Crossed g = Found gs (λ k h. Cross g h)

    crossed-decided : (g : Vector) → Decided (Crossed g)
    crossed-decided g = ⊎_elim (λ f. inl f) (λ f. inr (λ r. f r.number r.element r.listed r.holds)) (search_list gs (λ k h. Cross g h) (λ k h. cross-decided g h))

    pub crossing-of : (IsSmooth F d → ⊥) → Crossing d
    crossing-of rough = by (search_list gs (λ i g. Crossed g) (λ i g. crossed-decided g))
      where
        cases : (g h : Vector) → Lies gs g → Lies gs h → SameDirection (cross g h) d ⊎ SameDirection (opposite (cross g h)) d → Crossing d
        cases g h a b (inl s) = record { first = g; second = h; first_listed = a; second_listed = b; same = s }
        cases g h a b (inr s) = record { first = h; second = g; first_listed = b; second_listed = a; same = subst (λ (v : Vector). SameDirection v d) (opposite-cross g h) s }

        by : Found gs (λ i g. Crossed g) ⊎ ((i : ℕ) (g : Vector) → IsAt gs i g → Crossed g → ⊥) → Crossing d
        by (inl f) =
            let g = f.element in
            let h = f.holds.element in
            let c = f.holds.holds in
            cases g h (at-lies gs f.number g f.listed) (at-lies gs f.holds.number h f.holds.listed) (two_meets g h d c.1.1 (record { direction = hd; level = c.0 }) (record { direction = hd; level = c.1.0 }))
        by (inr never) = absurd (rough (smooth-off gs F L axial d hd (λ g h a b x y z.
            let i = lies-at gs g a in let k = lies-at gs h b in never i.0 g i.1 (record { number = k.0; element = h; listed = k.1; holds = (x, (y, z)) }))))

  -- what a crossing gives
  abbrev Gives : Vector → Vector → Type 0
  Gives v w = SameDirection v w × IsPrimitive w × (IsSmooth F w → ⊥)

  abbrev Wanted : Vector → Type 0
  Wanted v = IsDirection v × (IsSmooth F v → ⊥)

  given-by : (v : Vector) → ((w : Vector) × Gives v w) ⊎ (Wanted v → ⊥)
  given-by v = ⊎_elim (λ h. smooth v h (smooth-decided gs F L axial v h)) (λ f. inr (λ w. f w.0)) (direction-decided v)
    where
      smooth : (v : Vector) → IsDirection v → Decided (IsSmooth F v) → ((w : Vector) × Gives v w) ⊎ (Wanted v → ⊥)
      smooth v h (inl s) = inr (λ w. w.1 s)
      smooth v h (inr f) = let l = lowest v h in
          inl (l.direction, (l.same, l.primitive, λ s. f (smooth-same gs F L axial l.direction v (direction-right v l.direction l.same) (SameDirection-turned v l.direction l.same) s)))

  pub dirs : Dirs
  dirs = by (collect (pairs cross gs gs) Gives Wanted given-by)
    where
      by : Collected (pairs cross gs gs) Gives Wanted → Dirs
      by c = then (sort VectorBelow (λ u w. u ≡ w) below-trans (λ u. refl) below-either c.list)
        where
          then : Sorted VectorBelow (λ u w. u ≡ w) c.list → Dirs
          then r = record {
            list = r.list;
            order = chain-order VectorBelow (λ u w. u ≡ w) r.list r.chain;
            primitive = λ k w a. (gives k w a).1.1;
            direction = λ k w a. let g = gives k w a in direction-right g.0 w g.1.0;
            rough = λ k w a. (gives k w a).1.2;
            all = λ d hd rough.
                let x = crossing-of d hd rough in
                let v = cross x.first x.second in
                let hv = direction-right d v (SameDirection-turned v d x.same) in
                let g = c.all v (lies-pairs cross gs gs x.first x.second x.first_listed x.second_listed) (hv, λ s. rough (smooth-same gs F L axial v d hv x.same s)) in
                let s = r.all g.0 g.1 in
                let k = lies-at r.list s.0 s.1 in
                (k.0, s.0, k.1, subst (SameDirection d) s.2 (SameDirection-trans d v g.0 (SameDirection-turned v d x.same) g.2.0));
          }
            where
              gives : (k : ℕ) (w : Vector) → IsAt r.list k w → (v : Vector) × Gives v w
              gives k w a = let g = c.sound w (r.sound w (at-lies r.list k w a)) in (g.0, g.2)
