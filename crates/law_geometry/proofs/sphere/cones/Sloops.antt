-- The sloop of a labelling: where a circle that is needed holds no svertex it is the only one.
use Rattle.law_geometry.proofs.sphere.cones.Prelude.{◌≡◌, ℕ, pos, refl, sym, ◌∙◌, ◌⊎◌, inl, inr, ⊎_elim, List, subst, Option, Some, None, none-some, same_Some, Lies, Vector, IsDirection, cross, dot, IsZero, SameDirection, IsNormal, opposite, Label, Decided, IsOnCircle, IsPrimitive, IsAt, MapSloop, Labelling, StraightAt, IsSmooth, Proper, normal-direction, Found, search_list, lies-at, circle-point, Beside, same_way, other_way, beside, normals-not_opposite, level-same, straight-same_way, Axial, planes-parallel, sloop-along, nought-or, zero-decided, square-cross, level_cross_second, SameDirection-turned, SameDirection-trans, dir-self}
use Rattle.law_geometry.proofs.sphere.cones.Smooth.{proper-form, proper-decided, label, beyond}
use Rattle.law_geometry.proofs.sphere.cones.SmoothDecided.{straight-decided, straight-named, named, smooth-decided}
use Rattle.law_geometry.proofs.sphere.cones.Dirs.{Plane, plane-direction, Planes, planes, Dirs}

module _ (gs : List Vector) (F : Vector → Label → Type 0) (L : Labelling gs F) (axial : Axial gs) (W : Dirs gs F L axial) where
  -- a circle without svertices that is needed at one of its directions
  pub record Round (n : Vector) : Type 0 where
    pub clear : (k : ℕ) (w : Vector) → IsAt W.list k w → dot n w ≡ pos 0 → ⊥
    pub point : Vector
    pub direction : IsDirection point
    pub pos : Label
    pub mark : Label
    pub neg : Label
    pub labels : StraightAt F n pos mark neg point
    pub proper : Proper pos mark neg

  pub record IsSloop (l : MapSloop) : Type 0 where
    pub normal : IsNormal l.normal
    pub primitive : IsPrimitive l.normal
    pub clear : (k : ℕ) (w : Vector) → IsAt W.list k w → dot l.normal w ≡ pos 0 → ⊥
    pub point : Vector
    pub direction : IsDirection point
    pub labels : StraightAt F l.normal l.pos l.mark l.neg point
    pub proper : Proper l.pos l.mark l.neg

  pub record SloopThere : Type 0 where
    pub sloop : Option MapSloop
    pub each : (l : MapSloop) → sloop ≡ Some l → IsSloop l
    pub all : (n : Vector) → IsNormal n → Round n → (l : MapSloop) × (sloop ≡ Some l) × SameDirection n l.normal

  -- ---- all round
  round-smooth : (n : Vector) → ((k : ℕ) (w : Vector) → IsAt W.list k w → dot n w ≡ pos 0 → ⊥) → IsDirection n → (d : Vector) → IsOnCircle n d → IsSmooth F d
  round-smooth n clear hn d o = ⊎_elim (λ s. s)
      (λ f. let v = W.all d o.direction f in absurd (clear v.0 v.1 v.2 (level-same n n d v.1 (dir-self n hn) v.3 o.level)))
      (smooth-decided gs F L axial d o.direction)

  round-along : (n : Vector) → IsDirection n → (r : Round n) → (d : Vector) → IsOnCircle n d → StraightAt F n r.pos r.mark r.neg d
  round-along n hn r d o = sloop-along gs F L axial n r.pos r.mark r.neg r.proper hn (round-smooth n r.clear hn) r.point r.direction r.labels d o

  -- two such circles would cross in a svertex
  round-one : (n u : Vector) → IsNormal n → IsNormal u → Round n → Round u → SameDirection n u
  round-one n u h k r s = by (beside n u hn hu (⊎_elim (λ z. z) (λ f. crossed f) (zero-decided (cross n u))))
    where
      hn : IsDirection n
      hn = normal-direction n h

      hu : IsDirection u
      hu = normal-direction u k

      crossed : IsDirection (cross n u) → IsZero (cross n u)
      crossed f =
          let z = cross n u in
          planes-parallel gs F L axial n r.pos r.mark r.neg r.proper hn u s.pos s.mark s.neg z f
          (round-along n hn r z (record { direction = f; level = square-cross n u })) (round-along u hu s z (record { direction = f; level = level_cross_second n u }))

      by : Beside n u → SameDirection n u
      by (same_way w) = w
      by (other_way o) = absurd (normals-not_opposite n u h k o)

  round-decided : (p : Plane) → Decided (Round p.normal)
  round-decided p = by (search_list W.list (λ k w. dot p.normal w ≡ pos 0) (λ k w. nought-or (dot p.normal w))) (circle-point p.normal (plane-direction p))
    where
      on : ((k : ℕ) (w : Vector) → IsAt W.list k w → dot p.normal w ≡ pos 0 → ⊥) → (y : Vector) (o : IsOnCircle p.normal y) (a b : Label) → a ≡ beyond gs F L axial y p.normal o.direction
          → b ≡ beyond gs F L axial y (opposite p.normal) o.direction
          → Decided (StraightAt F p.normal a (label gs F L axial y o.direction) b y) → Decided (Proper a (label gs F L axial y o.direction) b) → Decided (Round p.normal)
      on clear y o a b ea eb (inl s) (inl q) = inl (record { clear = clear; point = y; direction = o.direction; pos = a; mark = label gs F L axial y o.direction; neg = b; labels = s; proper = q })
      on clear y o a b ea eb (inr f) q = inr (λ r.
          f (subst (λ x. StraightAt F p.normal x (label gs F L axial y o.direction) b y) (sym ea) (subst (λ x. StraightAt F p.normal (beyond gs F L axial y p.normal o.direction) (label gs F L axial y o.direction) x y) (sym eb)
          (named gs F L axial y o.direction p.normal r.pos r.mark r.neg (plane-direction p) (round-along p.normal (plane-direction p) r y o)))))
      on clear y o a b ea eb (inl s) (inr f) = inr (λ r.
          let e = straight-named gs F L axial y o.direction p.normal r.pos r.mark r.neg (plane-direction p) (round-along p.normal (plane-direction p) r y o) in
          f (λ u v. r.proper (e.0 ∙ sym ea ∙ u ∙ sym e.1) (e.2 ∙ sym eb ∙ v ∙ sym e.1)))

      by : Found W.list (λ k w. dot p.normal w ≡ pos 0) ⊎ ((k : ℕ) (w : Vector) → IsAt W.list k w → dot p.normal w ≡ pos 0 → ⊥) → ((y : Vector) × IsOnCircle p.normal y) → Decided (Round p.normal)
      by (inl f) c = inr (λ r. r.clear f.number f.element f.listed f.holds)
      by (inr clear) (y, o) =
          let a = beyond gs F L axial y p.normal o.direction in
          let b = beyond gs F L axial y (opposite p.normal) o.direction in
          on clear y o a b refl refl (straight-decided gs F L axial y o.direction p.normal a b) (proper-decided a (label gs F L axial y o.direction) b)

  -- ---- the sloop
  -- the plane of the list with the circle of n
  round-plane : (ps : Planes gs F L axial) (n : Vector) → IsNormal n → Round n → (p : Plane) × Lies ps.list p × SameDirection n p.normal × Round p.normal
  round-plane ps n h r =
      let hn = normal-direction n h in
      let p = ps.all n h (proper-form gs F L axial n r.pos r.mark r.neg r.point hn r.direction r.proper r.labels) in (
        p.0,
        p.1,
        p.2,
        record {
          clear = λ k w a z. r.clear k w a (level-same p.0.normal n w w (SameDirection-turned n p.0.normal p.2) (dir-self w (W.direction k w a)) z);
          point = r.point;
          direction = r.direction;
          pos = r.pos;
          mark = r.mark;
          neg = r.neg;
          labels = straight-same_way F n p.0.normal r.pos r.mark r.neg r.point hn p.2 r.labels;
          proper = r.proper;
        },
      )

  pub sloop : SloopThere
  sloop = by (planes gs F L axial)
    where
      found : (ps : Planes gs F L axial) → Found ps.list (λ k p. Round p.normal) → SloopThere
      found ps f =
          let p = f.element in
          let r = f.holds in
          let l : MapSloop = record { normal = p.normal; pos = r.pos; mark = r.mark; neg = r.neg } in
          let s : IsSloop l = record { normal = p.is_normal; primitive = p.primitive; clear = r.clear; point = r.point; direction = r.direction; labels = r.labels; proper = r.proper } in
          record {
            sloop = Some l;
            each = λ c e. subst IsSloop (same_Some l c e) s;
            all = λ n h t. (l, refl, let q = round-plane ps n h t in SameDirection-trans n q.0.normal p.normal q.2 (round-one q.0.normal p.normal q.0.is_normal p.is_normal q.3 r));
          }

      never : (ps : Planes gs F L axial) → ((k : ℕ) (p : Plane) → IsAt ps.list k p → Round p.normal → ⊥) → SloopThere
      never ps f = record {
        sloop = None;
        each = λ c e. absurd (none-some c e);
        all = λ n h t. let q = round-plane ps n h t in let k = lies-at ps.list q.0 q.1 in absurd (f k.0 q.0 k.1 q.3);
      }

      by : Planes gs F L axial → SloopThere
      by ps = ⊎_elim (λ f. found ps f) (λ f. never ps f) (search_list ps.list (λ k p. Round p.normal) (λ k p. round-decided p))
