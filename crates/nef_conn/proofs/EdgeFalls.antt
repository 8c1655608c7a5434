-- What touches an edge downward is linked with what the ray down from a point of the edge names: the points just below the edge lead to its lower end, and what falls from them is known, as are the claims at the lower end.
use Rattle.nef_conn.proofs.Prelude.{◌≡◌, ℕ, ◌+◌, ◌<◌, ◌≤◌, ℤ, pos, ◌-ℤ◌, ◌*ℤ◌, ◌<ℤ◌, ◌≤ℤ◌, neg_ℤ, arith, refl, ap, sym, ◌∙◌, ◌⊎◌, inl, inr, ⊎_elim, List, ◌∷◌, subst, [], ints, nought, sign, Lies, each, lies-each, ring, at, num, ◌⊕◌, ◌⊖◌, ◌⊗◌, by_order, nought-is, sign-scaled, nought-or, Chained, Flat, FlatDim, IsVertex, IsEven, SpacePoint, Form, form_at, normal_of, slope, plane_through, SamePoint, InFrame, Within, toward, IsBetween, Set, Vector, blend, dot, cross, triple, opposite, IsDirection, SameDirection, up, sign_at, carriers, SameGerms, FlatDim-one, FlatDim-by_germs, germs-by_cell, between-turned, between-inner, ray-cell, keeps-all, is_nought, ahead, near-ahead, start, start-close, start-between, start-toward, even-germs, flat-nearby, flat-way, joined-germs, joined-turned, span-2, flat_dim-of, near-of_flat, Flat-from_cone, FlatCone-from_flat, steep, signs-same, same-point_sym, all-vertices, reach_all, slope-toward, point-toward, between-same, same-nought, forms, SameSigns, IsAt, cross-self, amount, far-keeps, far-level, turn-last, turn-same, same-plus, same-minus, Vertex, Edge, Complex, HasEnds, Shows, VertexSide, RayDown, IsFlatIn, near_point, near-between, through-at, through-slope, angle, turn_form, turn-at, angle-turned, angle-self, between-minus, through-level, plane-between, plane-ahead, even-by, between-way, between-outer, between-start, VolumeLink, IsUpright, IsEvenAfter, through-same, EdgeWays, edge-ways, free-dim, ahead-close, ahead-toward, dim-cell, tied-ray, tied-turned, AreLinkedWhereJoined, IsInTriangle, sliced, dot-zero, self-pos, cross-turned, triple-turned, SameDirection-turned, SameDirection-trans, dir-self, dir-signs, parallel-trans, dot-opposite, triple-in_plane, direction-left, direction-right, apart}
use Rattle.nef_space.proofs.Chains.{chain-trans}
use Rattle.nef_conn.proofs.Claims.{Claim}
use Rattle.nef_conn.proofs.Downs.{svertex-down, down-some}
use Rattle.nef_conn.proofs.Fall.{corner-edge, lam-down, lam-zero}
use Rattle.nef_conn.proofs.Fans.{mixed, mixed-between, mixed-toward}
use Rattle.nef_conn.proofs.Leaves.{Beside-point, turn-beside}
use Rattle.nef_conn.proofs.Near.{Wedge}
use Rattle.nef_conn.proofs.NearOver.{up-some}
use Rattle.nef_conn.proofs.Triangles.{on-second, at-corner, never-passes, third-side}
use Rattle.nef_conn.proofs.RaysEnd.{ray-down, tied-dim, free-toward}
use Rattle.nef_conn.proofs.Silhouettes.{germs-inside, resliced, sliced-ahead, two-of, no-vertices, frame-along, three-along}
use Rattle.nef_conn.proofs.Slice.{unsliced}
use Rattle.nef_conn.proofs.SliceStrip.{lam, up_line, lam-at, lam-turned, down-turn, slope-to, inside-level, Clear, clear-close}
use Rattle.nef_conn.proofs.Touch.{Seer, bound, Touch, edge-frame, vertex-frame, same-seers, touched, no-way}
use Rattle.law_geometry.proofs.near.Same.{dim-same}
use Rattle.nef_space.proofs.Elementary.{same-itself}
use Rattle.law_geometry.proofs.complex.Edges.{inner-dim}

-- the plane along up through two points
abbrev pub plane_of : SpacePoint → SpacePoint → Form
plane_of p q = plane_through (cross up (toward p q)) p

-- ---- how flat a slice is at a point beside which it has just the plane's directions
module _ (s : Set) (h : Form) (hn : IsDirection (normal_of h)) (level : slope h up ≡ pos 0) where
  -- what is flat at p is flat close to p, so it lies in the plane
  in-plane : (p q : SpacePoint) → Within (reach_all (carriers (sliced s h)) p) p q → IsFlatIn (sliced s h) h q → (d : Vector) → Flat (sliced s h) p d → slope h d ≡ pos 0
  in-plane p q close F d f = (F.1 d).0 (Flat-from_cone (sliced s h) q d (flat-nearby (sliced s h) p q close d (FlatCone-from_flat (sliced s h) p d f)))

  -- a vertex of the set is one of the slice
  pub vertex-slice : (v q : SpacePoint) → form_at h v ≡ pos 0 → FlatDim s v 0 → Within (reach_all (carriers (sliced s h)) v) v q → IsFlatIn (sliced s h) h q → FlatDim (sliced s h) v 0
  vertex-slice v q on-v vertex close F = (tt, λ g. none g.0 g.1 g.2)
    where
      none : (d : Vector) → IsDirection d → Flat (sliced s h) v d → ⊥
      none d i f = no-vertices s v (ahead (sliced s h) v d) some (FlatDim-by_germs s s v (near_point s v (ahead (sliced s h) v d)) (unsliced s h v (near_point s v (ahead (sliced s h) v d)) on-v on-r same) 0 vertex)
        where
          to-q : SameDirection (toward v (ahead (sliced s h) v d)) d
          to-q = ahead-toward (sliced s h) v d i

          some : IsDirection (toward v (ahead (sliced s h) v d))
          some = direction-left (toward v (ahead (sliced s h) v d)) d to-q

          amid : IsBetween v (near_point s v (ahead (sliced s h) v d)) (ahead (sliced s h) v d)
          amid = near-between s v (ahead (sliced s h) v d) some

          on-r : form_at h (near_point s v (ahead (sliced s h) v d)) ≡ pos 0
          on-r = plane-between h v (near_point s v (ahead (sliced s h) v d)) (ahead (sliced s h) v d) amid on-v (plane-ahead h v (ahead (sliced s h) v d) d to-q (in-plane v q close F d f) on-v)

          same : SameGerms (sliced s h) v (near_point s v (ahead (sliced s h) v d))
          same g l =
              let a = near-of_flat (sliced s h) v d (FlatCone-from_flat (sliced s h) v d f) g l in
              let b = near-ahead (sliced s h) v d g l in
              let c = germs-by_cell (sliced s h) (ahead (sliced s h) v d) (near_point s v (ahead (sliced s h) v d)) (ray-cell (carriers (sliced s h)) v (ahead (sliced s h) v d) (near_point s v (ahead (sliced s h) v d)) (ahead-close (sliced s h) v d) amid) g l in
              (λ x. c.0 (b.1 (a.0 x)), λ x. a.1 (b.0 (c.1 x)))

  -- a point of an edge that lies in the plane, beside which all is free toward a direction of the plane, lies on an edge of the slice
  pub edge-slice : (f : Vector) → IsDirection f → slope h f ≡ pos 0 → (r w : SpacePoint) → form_at h r ≡ pos 0 → form_at h w ≡ pos 0 → IsDirection (toward r w) → FlatDim s r 1 → ((u : SpacePoint) → IsBetween r u w → FlatDim s u 1) → FlatDim s (ahead (sliced s h) r f) 3 → InFrame (ahead (sliced s h) r f) → FlatDim (sliced s h) r 1
  edge-slice f f-some level-down r w on-r on-w i one all free inside = ((toward r (near_point (sliced s h) r w), direction-q, flat-q), λ g. two g.0 g.1 g.2 g.3 g.4)
    where
      to-below : SameDirection (toward r (ahead (sliced s h) r f)) f
      to-below = ahead-toward (sliced s h) r f f-some

      on-below : form_at h (ahead (sliced s h) r f) ≡ pos 0
      on-below = plane-ahead h r (ahead (sliced s h) r f) f to-below level-down on-r

      F : IsFlatIn (sliced s h) h (ahead (sliced s h) r f)
      F = two-of s h hn (ahead (sliced s h) r f) on-below free inside

      amid : IsBetween r (near_point (sliced s h) r w) w
      amid = near-between (sliced s h) r w i

      direction-q : IsDirection (toward r (near_point (sliced s h) r w))
      direction-q = between-start r (near_point (sliced s h) r w) w amid

      on-q : form_at h (near_point (sliced s h) r w) ≡ pos 0
      on-q = plane-between h r (near_point (sliced s h) r w) w amid on-r on-w

      flat-q : Flat (sliced s h) r (toward r (near_point (sliced s h) r w))
      flat-q =
          let k = flat_dim-of (sliced s h) r in
          let even = even-by s 1 r (near_point (sliced s h) r w) one (λ u m. all u (between-inner r (near_point (sliced s h) r w) w u amid m)) (all (near_point (sliced s h) r w) amid) in
          let same = resliced s h r (near_point (sliced s h) r w) on-r on-q (even-germs s 1 r (near_point (sliced s h) r w) even) in
          flat-way (sliced s h) k.0 r (near_point (sliced s h) r w) k.1 (FlatDim-by_germs (sliced s h) (sliced s h) r (near_point (sliced s h) r w) same k.0 k.1) (start-close (reach_all (carriers (sliced s h)) r) r w) direction-q

      two : (d e : Vector) → IsDirection (cross d e) → Flat (sliced s h) r d → Flat (sliced s h) r e → ⊥
      two d e c x' y' =
          let x = in-plane r (ahead (sliced s h) r f) (ahead-close (sliced s h) r f) F d x' in
          let y = in-plane r (ahead (sliced s h) r f) (ahead-close (sliced s h) r f) F e y' in
          let k = span-2 (sliced s h) r d e f c x' y' (triple-in_plane (normal_of h) d e f hn x y level-down) in
          let same : SameGerms (sliced s h) r (ahead (sliced s h) r f) = λ v l.
          let a = near-of_flat (sliced s h) r f (FlatCone-from_flat (sliced s h) r f k) v l in
          let b = near-ahead (sliced s h) r f v l in
          (λ m. b.1 (a.0 m), λ m. a.1 (b.0 m)) in
          let o = FlatDim-by_germs s s r (ahead (sliced s h) r f) (unsliced s h r (ahead (sliced s h) r f) on-r on-below same) 1 one in
          let j = FlatDim-one s (ahead (sliced s h) r f) 1 3 o free in
          absurd (omega arith)

-- signs close to d toward f, and close to one of the same way toward g, where both lie on one side of each plane through d
pub ways-toward : (gs : List Vector) (d e f g : Vector) (k l : ℕ) → SameDirection d e → ((m : Vector) → dot m e ≡ pos 0 → sign (dot m g) ≡ sign (dot m f)) → amount gs f ≤ k → amount gs g ≤ l → SameSigns gs (blend k d 1 f) (blend l e 1 g)
ways-toward gs d e f g k l w alike h i p m = ⊎_elim
    (λ z. let o = same-nought (dot p d) (dot p e) (dir-signs d e p (direction-left d e w) w) z in far-level gs e g l i p o ∙ alike p o ∙ sym (far-level gs d f k h p z))
    (λ n. far-keeps gs e g l i p m (λ z. n (same-nought (dot p e) (dot p d) (sym (dir-signs d e p (direction-left d e w) w)) z)) ∙ dir-signs d e p (direction-left d e w) w ∙ sym (far-keeps gs d f k h p m n))
    (nought-or (dot p d))

module _ (s : Set) (C : Complex) (S : Shows s C) (upright : IsUpright C) (linked : AreLinkedWhereJoined s C) (k : ℕ) (e : Edge) (v w : Vertex) (a : IsAt C.edges k e) (H : HasEnds C e v w) (aside : IsDirection (cross (edge-ways s C S k e v w a H).low.dir up)) where
  abbrev W : EdgeWays e v w
  W = edge-ways s C S k e v w a H

  abbrev D : Vector
  D = toward v.point w.point

  abbrev m : Vector
  m = cross up (toward v.point w.point)

  abbrev h : Form
  h = plane_of v.point w.point

  abbrev n : Vector
  n = normal_of h

  m-some : IsDirection m
  m-some z = aside (parallel-trans W.low.dir D up (direction-left D W.low.dir W.onward) (let o = SameDirection-turned D W.low.dir W.onward in o.parallel) (cross-turned up D z))

  pub hn : IsDirection (normal_of (plane_of v.point w.point))
  hn = direction-right m n (through-same m v.point m-some)

  pub level : slope (plane_of v.point w.point) up ≡ pos 0
  level = (through-level m up v.point).0 (cross-self up D)

  on-v : form_at h v.point ≡ pos 0
  on-v = through-at m v.point v.point ∙ dot-zero m (toward v.point v.point) (point-toward v.point v.point (same-itself v.point))

  on-w : form_at h w.point ≡ pos 0
  on-w = through-at m v.point w.point ∙ ring (up.x ∷ up.y ∷ up.z ∷ D.x ∷ D.y ∷ D.z ∷ []) ((at 1 ⊗ at 5 ⊖ at 2 ⊗ at 4) ⊗ at 3 ⊕ (at 2 ⊗ at 3 ⊖ at 0 ⊗ at 5) ⊗ at 4 ⊕ (at 0 ⊗ at 4 ⊖ at 1 ⊗ at 3) ⊗ at 5) (num (pos 0)) tt

  abbrev t : Set
  t = sliced s h

  abbrev E : List SpacePoint
  E = (all-vertices (sliced s h)).0

  edge-dim : (r : SpacePoint) → IsBetween v.point r w.point → FlatDim s r 1
  edge-dim = inner-dim s C k e v w S a H

  -- below each point of the edge all is free
  free-below : (r : SpacePoint) → IsBetween v.point r w.point → FlatDim s (ahead s r (opposite up)) 3
  free-below r c =
      let F = edge-frame s C S k e v w r a H c in
      let K = amount (forms v.map) (opposite up) + steep (carriers s) (opposite up) in
      tied-dim s (ahead s v.point (blend K W.low.dir 1 (opposite up))) (ahead s r (opposite up)) 3 (tied-turned s (ahead s r (opposite up)) (ahead s v.point (blend K W.low.dir 1 (opposite up))) (F.tied (opposite up) K (omega arith)))
      (free-dim v.map s v.point (S.cones e.low v H.low) (blend K W.low.dir 1 (opposite up)) (svertex-down s C S upright linked e.low v H.low e.low_svertex W.low W.is_low aside K (omega arith)))

  -- in the frame or not all along it
  inside-along : (p r : SpacePoint) → IsBetween v.point p w.point → IsBetween v.point r w.point → InFrame (ahead s p (opposite up)) → InFrame (ahead s r (opposite up))
  inside-along p r c d i =
      let F = edge-frame s C S k e v w p a H c in
      let G = edge-frame s C S k e v w r a H d in
      let K = amount (forms v.map) (opposite up) + steep (carriers s) (opposite up) in
      let u = ahead s v.point (blend K W.low.dir 1 (opposite up)) in
      germs-inside s u (ahead s r (opposite up)) (joined-germs s u (ahead s r (opposite up)) (joined-turned s (ahead s r (opposite up)) u (G.tied (opposite up) K (omega arith)).0))
      (germs-inside s (ahead s p (opposite up)) u (joined-germs s (ahead s p (opposite up)) u (F.tied (opposite up) K (omega arith)).0) i)

  slice-edge : (p r : SpacePoint) → IsBetween v.point p w.point → IsBetween v.point r w.point → InFrame (ahead s p (opposite up)) → FlatDim (sliced s h) r 1
  slice-edge p r c d i =
      let same = sliced-ahead s h r (opposite up) in
      edge-slice s h hn level (opposite up) down-some (let f = dot-opposite n up in let l = level in omega (arith, ints)) r w.point (plane-between h v.point r w.point d on-v on-w) on-w (direction-right (toward v.point r) (toward r w.point) d) (edge-dim r d) (λ u g. edge-dim u (between-outer v.point r u w.point d g))
      (dim-cell s (ahead s r (opposite up)) (ahead (sliced s h) r (opposite up)) 3 (λ f l. sym (same f l)) (free-below r d))
      (germs-inside s (ahead s r (opposite up)) (ahead (sliced s h) r (opposite up)) (germs-by_cell s (ahead s r (opposite up)) (ahead (sliced s h) r (opposite up)) (λ f l. sym (same f l))) (inside-along p r c d i))

  module _ (y : SpacePoint) (b : IsBetween v.point y w.point) (x x2 : VertexSide) (T : Touch s C y (edge-frame s C S k e v w y a H b) x (opposite up)) (R : RayDown C y x2) (second : (r : SpacePoint) → IsBetween y r R.place → FlatDim s r 3 × InFrame r)
      (claim : FlatDim (sliced s (plane_of v.point w.point)) v.point 0 → Claim s C S upright linked (plane_of v.point w.point) hn level v.point)
      (names : (p q : SpacePoint) (z z' : VertexSide) → form_at (plane_of v.point w.point) p ≡ pos 0 → form_at (plane_of v.point w.point) q ≡ pos 0 → InFrame p → IsEven s 3 p q → IsBetween v.point p q → SameDirection (toward y q) (opposite up) → RayDown C p z → RayDown C q z' → Chained (VolumeLink C) z z') where
    on-y : form_at h y ≡ pos 0
    on-y = plane-between h v.point y w.point b on-v on-w

    some-down : IsDirection (toward y R.place)
    some-down = direction-left (toward y R.place) (opposite up) R.ahead

    -- the line of v lies aside
    side : pos 0 <ℤ lam n v.point y
    side =
        let p : pos 0 <ℤ triple m up D = self-pos m m-some in
        let q = same-plus (triple m up D) (triple m up (toward v.point y)) (turn-last m up D (toward v.point y) (SameDirection-turned (toward v.point y) D (between-way v.point y w.point b))) p in
        same-plus (triple m up (toward v.point y)) (lam n v.point y) (turn-same m n up up (toward v.point y) (toward v.point y) (through-same m v.point m-some) (dir-self up up-some) (dir-self (toward v.point y) (between-start v.point y w.point b))) q

    -- the lines from v through the vertices of the slice
    abbrev hs : List Form
    hs = each (λ q. turn_form n v.point q) E

    abbrev r0 : SpacePoint
    r0 = start (reach_all hs y) y R.place

    amid : IsBetween y r0 R.place
    amid = start-between (reach_all hs y) y R.place some-down

    to-r0 : SameDirection (toward y r0) (opposite up)
    to-r0 = SameDirection-trans (toward y r0) (toward y R.place) (opposite up) (between-way y r0 R.place amid) R.ahead

    -- a point of the way to r0
    abbrev Part : SpacePoint → Type 0
    Part u = IsBetween y u r0 ⊎ SamePoint u r0

    part-down : (u : SpacePoint) → Part u → IsBetween y u R.place
    part-down u (inl c) = between-inner y r0 R.place u amid c
    part-down u (inr f) = between-same y r0 R.place y u R.place (same-itself y) (same-point_sym u r0 f) (same-itself R.place) amid

    part-signs : (u : SpacePoint) → Part u → (q : SpacePoint) → Lies E q → (sign_at (turn_form n v.point q) y ≡ nought → ⊥) → sign_at (turn_form n v.point q) u ≡ sign_at (turn_form n v.point q) y
    part-signs u o q l off =
        let f = turn_form n v.point q in
        let i = lies-each (λ q. turn_form n v.point q) E q l in
        let close = start-close (reach_all hs y) y R.place in
        let c = keeps-all hs y r0 close f i off in
        ⊎_elim (λ g. sym (ray-cell hs y r0 u close g f i) ∙ c) (λ g. signs-same hs u r0 g f i ∙ c) o

    -- ---- the ways from v to the points below y
    module _ (u : SpacePoint) (o : Part u) where
      down-u : SameDirection (toward y u) (opposite up)
      down-u = SameDirection-trans (toward y u) (toward y R.place) (opposite up) (between-way y u R.place (part-down u o)) R.ahead

      pub on-u : form_at h u ≡ pos 0
      on-u = plane-ahead h y u (opposite up) down-u (let f = dot-opposite n up in let l = level in omega (arith, ints)) on-y

      pub three-u : FlatDim s u 3
      three-u = (second u (part-down u o)).0

      pub inside-u : InFrame u
      inside-u = (second u (part-down u o)).1

      F : IsFlatIn (sliced s h) h u
      F = two-of s h hn u on-u three-u inside-u

      near-y : (r : SpacePoint) → IsBetween y r u → FlatDim (sliced s h) r 2
      near-y r c = let d = between-inner y u R.place r (part-down u o) c in let f = second r d in let g = two-of s h hn r (plane-between h y r u c on-y on-u) f.0 f.1 in g.0

      -- below y all is in the frame
      inside-y : InFrame (ahead s y (opposite up))
      inside-y = germs-inside s u (ahead s y (opposite up)) (joined-germs s u (ahead s y (opposite up)) (tied-ray s 3 y u (opposite up) down-u even).0) inside-u
        where
          even : IsEvenAfter s 3 y u
          even r (inl c) = (second r (between-inner y u R.place r (part-down u o) c)).0
          even r (inr f) = dim-same s u r 3 (same-point_sym r u f) three-u

      edge-y : (r : SpacePoint) → IsBetween y r v.point → FlatDim (sliced s h) r 1
      edge-y r c = slice-edge y r b (between-inner v.point y w.point r b (between-turned y v.point r c)) inside-y

      one-y : FlatDim (sliced s h) y 1
      one-y = slice-edge y y b b inside-y

      behind : lam n y v.point <ℤ pos 0
      behind = let f = lam-turned n v.point y in let l = side in omega (arith, ints)

      turn : pos 0 <ℤ angle n y u v.point
      turn =
          let f = same-minus (lam n y v.point) (triple n (toward y v.point) (toward y u)) (down-turn n (toward y v.point) (toward y u) down-u) behind in
          let g = triple-turned n (toward y u) (toward y v.point) in
          omega (arith, ints)

      to-v : IsDirection (toward y v.point)
      to-v z = let f = lam-zero n y v.point z in let l = behind in omega (arith, ints)

      corner : (p : SpacePoint) → IsBetween u p v.point → ((r : SpacePoint) → IsBetween p r y → FlatDim (sliced s h) r 1) → ⊥
      corner p c edge =
          let z = corner-edge (sliced s h) y p off edge v.point one-y to-v edge-y in
          let f = turn-at n y v.point p ∙ dot-zero n (cross (toward y v.point) (toward y p)) z in
          let g = turn-at n y v.point v.point ∙ angle-self n y v.point in
          let i = turn-at n y v.point u in
          let j = angle-turned n y v.point u in
          let l = turn in
          let q = between-minus (turn_form n y v.point) v.point p u (between-turned u v.point p c) g (omega (arith, ints)) in
          omega (arith, ints)
        where
          off : SamePoint y p → ⊥
          off f =
              let g = between-minus (up_line n y) u p v.point c (lam-at n y u ∙ lam-down n y u down-u) (let i = lam-at n y v.point in let l = behind in omega (arith, ints)) in
              let i = lam-at n y p in
              let z = lam-zero n y p (point-toward y p f) in
              omega (arith, ints)

      none-in : (r : SpacePoint) → IsVertex (sliced s h) r → form_at h r ≡ pos 0 → IsInTriangle n y u v.point r → (SamePoint y r → ⊥) → ⊥
      none-in r vertex on (p, q, g) apart = by (is_nought (sign_at (turn_form n v.point A.0) y))
        where
          A : (q : SpacePoint) × Lies (all-vertices (sliced s h)).0 q × SamePoint q r
          A = (all-vertices (sliced s h)).2 r vertex

          -- seen from v, y lies to the one side of r, and u to the other
          lower : angle n v.point r y ≤ℤ pos 0
          lower =
              let f = angle-turned n y v.point r in
              let i = inside-level n y r v.point (omega (arith, ints)) in
              let j = inside-level n r v.point y i in
              let c = angle-turned n v.point y r in
              omega (arith, ints)

          upper : pos 0 ≤ℤ angle n v.point r u
          upper = inside-level n u v.point r (left g)
            where
              left : (pos 0 <ℤ triple n (toward u v.point) (toward u r)) ⊎ IsBetween u r v.point → pos 0 ≤ℤ angle n u v.point r
              left (inl d) = omega (arith, ints)
              left (inr d) =
                  let f = turn-last n (toward u v.point) (toward u r) (toward u v.point) (between-way u r v.point d) in
                  let c = triple-turned n (toward u v.point) (toward u v.point) in
                  let z = same-nought (triple n (toward u v.point) (toward u v.point)) (triple n (toward u v.point) (toward u r)) (sym f) (omega (arith, ints)) in
                  omega (arith, ints)

          -- as forms through the listed vertex
          value : (p : SpacePoint) → form_at (turn_form n v.point A.0) p ≡ neg_ℤ (angle n v.point p A.0)
          value p = let f = turn-at n v.point A.0 p in let c = angle-turned n v.point A.0 p in omega (arith, ints)

          moved : (p : SpacePoint) → sign (angle n v.point p A.0) ≡ sign (angle n v.point p r)
          moved p = ap sign (sym (turn-at n v.point p A.0)) ∙ signs-same (turn_form n v.point p ∷ []) A.0 r A.2 (turn_form n v.point p) (inl refl) ∙ ap sign (turn-at n v.point p r)

          at-y : form_at (turn_form n v.point A.0) y ≤ℤ pos 0
          at-y =
              let c = angle-turned n v.point r y in
              let l = lower in
              let o' = not-minus (angle n v.point y r) (angle n v.point y A.0) (moved y) (omega (arith, ints)) in
              let f = value y in
              omega (arith, ints)
            where
              not-minus : (x z : ℤ) → sign z ≡ sign x → pos 0 ≤ℤ x → pos 0 ≤ℤ z
              not-minus x z f l = by_order z (pos 0) (λ d. absurd (let q = same-minus z x (sym f) d in omega (arith, ints))) (λ d. omega (arith, ints)) (λ d. omega (arith, ints))

          at-u : pos 0 ≤ℤ form_at (turn_form n v.point A.0) u
          at-u =
              let c = angle-turned n v.point r u in
              let l = upper in
              let o' = not-plus (angle n v.point u r) (angle n v.point u A.0) (moved u) (omega (arith, ints)) in
              let f = value u in
              omega (arith, ints)
            where
              not-plus : (x z : ℤ) → sign z ≡ sign x → x ≤ℤ pos 0 → z ≤ℤ pos 0
              not-plus x z f l = by_order z (pos 0) (λ d. omega (arith, ints)) (λ d. omega (arith, ints)) (λ d. absurd (let q = same-plus z x (sym f) d in omega (arith, ints)))

          -- r on the line of the edge
          on-line : angle n v.point r y ≡ pos 0 → ⊥
          on-line z =
              let f = angle-turned n y v.point r in
              let c = inside-zero in
              by-side g
            where
              inside-zero : angle n y v.point r ≡ pos 0
              inside-zero =
                  let i = inside-level n v.point r y (omega (arith, ints)) in
                  let j = inside-level n r y v.point i in
                  omega (arith, ints)

              by-side : (pos 0 <ℤ triple n (toward u v.point) (toward u r)) ⊎ IsBetween u r v.point → ⊥
              by-side (inl d) =
                  let R' = turn-at n y v.point r in
                  let P' = turn-at n y u r in
                  let G' = turn-at n u v.point r in
                  let i = inside-zero in
                  by_order (angle n y u r) (pos 0) (λ l. omega (arith, ints))
                  (λ l. apart (at-corner (sliced s h) h hn y u v.point on-y on-u on-v turn r on (omega (arith, ints)) (omega (arith, ints))))
                  (λ l. let c = on-second (sliced s h) h hn y u v.point on-y on-u on-v turn r on (omega (arith, ints)) (omega (arith, ints)) (omega (arith, ints)) in let j = FlatDim-one (sliced s h) r 0 1 vertex (edge-y r c) in cc)
              by-side (inr d) =
                  let f = turn-at n y v.point v.point ∙ angle-self n y v.point in
                  let i = turn-at n y v.point u in
                  let j = angle-turned n y v.point u in
                  let l = turn in
                  let q' = between-minus (turn_form n y v.point) v.point r u (between-turned u v.point r d) f (omega (arith, ints)) in
                  let R' = turn-at n y v.point r in
                  let k' = inside-zero in
                  omega (arith, ints)

          by : (sign_at (turn_form n v.point A.0) y ≡ nought) ⊎ (sign_at (turn_form n v.point A.0) y ≡ nought → ⊥) → ⊥
          by (inl z) =
              let f = value y in
              let c = angle-turned n v.point r y in
              let i = nought-is (form_at (turn_form n v.point A.0) y) z in
              let j = same-nought (angle n v.point y A.0) (angle n v.point y r) (sym (moved y)) (omega (arith, ints)) in
              on-line (omega (arith, ints))
          by (inr off) =
              let f = part-signs u o A.0 A.1 off in
              let l = at-y in
              let g' = at-u in
              by_order (form_at (turn_form n v.point A.0) y) (pos 0)
              (λ d. let q' = same-minus (form_at (turn_form n v.point A.0) y) (form_at (turn_form n v.point A.0) u) f d in omega (arith, ints))
              (λ d. off (ap sign d))
              (λ d. omega (arith, ints))

      -- so the way from v to u is free
      pub way-two : (r : SpacePoint) → IsBetween u r v.point → FlatDim (sliced s h) r 2
      way-two = third-side (sliced s h) h hn y u v.point on-y on-u on-v turn near-y (inr edge-y) F (never-passes (sliced s h) y u v.point corner) none-in

      pub way-three : (r : SpacePoint) → IsBetween v.point r u → FlatDim s r 3
      way-three = three-along s h hn v.point u on-v on-u F.0 way-two three-u

    -- ---- to the lower end
    at-r0 : Part r0
    at-r0 = inr (same-itself r0)

    abbrev d : Vector
    d = toward v.point r0

    side-u : (u : SpacePoint) → Part u → pos 0 <ℤ lam n v.point u
    side-u u o = slope-to n v.point y u side (lam-down n y u (SameDirection-trans (toward y u) (toward y R.place) (opposite up) (between-way y u R.place (part-down u o)) R.ahead))

    way-some : (u : SpacePoint) → Part u → IsDirection (toward v.point u)
    way-some u o z = let f = lam-zero n v.point u z in let l = side-u u o in omega (arith, ints)

    free-to : (u : SpacePoint) (o : Part u) → FlatDim s (ahead s v.point (toward v.point u)) 3
    free-to u o = free-toward s v.point u (way-some u o) (way-three u o) (three-u u o)

    -- a point of the way from v to r0
    on-way : (r : SpacePoint) → IsBetween v.point r r0 → form_at h r ≡ pos 0
    on-way r c = plane-between h v.point r r0 c on-v (on-u r0 at-r0)

    inside-way : (r : SpacePoint) → IsBetween v.point r r0 → InFrame r
    inside-way = frame-along s v.point r0 (way-three r0 at-r0) (three-u r0 at-r0) (inside-u r0 at-r0)

    vertex-v : FlatDim (sliced s h) v.point 0
    vertex-v = vertex-slice s h hn level v.point (near_point (sliced s h) v.point r0) on-v (S.vertices e.low v H.low) (start-close (reach_all (carriers (sliced s h)) v.point) v.point r0)
        (two-of s h hn (near_point (sliced s h) v.point r0) (on-way (near_point (sliced s h) v.point r0) c) (way-three r0 at-r0 (near_point (sliced s h) v.point r0) c) (inside-way (near_point (sliced s h) v.point r0) c))
      where
        c : IsBetween v.point (near_point (sliced s h) v.point r0) r0
        c = near-between (sliced s h) v.point r0 (way-some r0 at-r0)

    -- a point of the line of y whose direction from v is close to the edge
    abbrev K : ℕ
    K = bound s v d + 1

    K-some : 0 < bound s v (toward v.point r0) + 1
    K-some = omega arith

    abbrev r' : SpacePoint
    r' = mixed (bound s v (toward v.point r0) + 1) y 1 r0 K-some

    amid-r' : IsBetween y r' r0
    amid-r' = mixed-between (bound s v (toward v.point r0) + 1) y 1 r0 K-some (omega arith) (direction-left (toward y r0) (opposite up) to-r0)

    -- on the line of y, what lies below it lies to one side of each plane through the edge
    alike : (p : Vector) → dot p (toward v.point y) ≡ pos 0 → sign (dot p (toward v.point r0)) ≡ sign (dot p (opposite up))
    alike p z =
        let N = plane_through p v.point in
        let f = slope-toward N y r0 in
        let g = through-at p v.point y ∙ z in
        let c = through-at p v.point r0 in
        let i = dir-signs (opposite up) (toward y r0) (normal_of N) down-some (SameDirection-turned (toward y r0) (opposite up) to-r0) in
        let j = through-slope p v.point (opposite up) in
        plain (slope N (toward y r0)) (form_at N r0) (form_at N y) (dot p (toward v.point r0)) (slope N (opposite up)) (dot p (opposite up)) f g c i j
      where
        plain : (a q r f o u : ℤ) → a ≡ pos y.w *ℤ q -ℤ pos r0.w *ℤ r → r ≡ pos 0 → q ≡ f → sign a ≡ sign o → o ≡ pos v.point.w *ℤ u → sign f ≡ sign u
        plain a q r f o u e z g w c =
            sym (sign-scaled (pos y.w) f (let l = y.proper in omega (arith, ints)))
            ∙ ap sign (sym (e ∙ ap (λ x. pos y.w *ℤ q -ℤ pos r0.w *ℤ x) z ∙ ap (λ x. pos y.w *ℤ x -ℤ pos r0.w *ℤ pos 0) g ∙ ring (pos y.w ∷ pos r0.w ∷ f ∷ []) (at 0 ⊗ at 2 ⊖ at 1 ⊗ num (pos 0)) (at 0 ⊗ at 2) tt))
            ∙ w ∙ ap sign c ∙ sign-scaled (pos v.point.w) u (let l = v.point.proper in omega (arith, ints))

    abbrev a' : Vector
    a' = toward v.point r'

    touch-a : (o : VertexSide) × Touch s C v.point (vertex-frame s C e.low v v.point H.low (same-itself v.point)) o a'
    touch-a = touched s C S v.point (vertex-frame s C e.low v v.point H.low (same-itself v.point)) a' (free-to r' (inl amid-r'))

    first-link : Chained (VolumeLink C) x touch-a.0
    first-link =
        let U = touch-a.1 in
        let q = subst (λ (g : Vector). Seer e.low v touch-a.0 g) (no-way U.steps a') U.seer in
        let way = SameDirection-trans W.low.dir D (toward v.point y) (SameDirection-turned D W.low.dir W.onward) (SameDirection-turned (toward v.point y) D (between-way v.point y w.point b)) in
        same-seers s C S e.low v H.low x touch-a.0 (blend T.steps W.low.dir 1 (opposite up)) a' T.seer q
        (subst (λ (g : Vector). SameSigns (forms v.map) (blend T.steps W.low.dir 1 (opposite up)) g) (sym (mixed-toward v.point (bound s v (toward v.point r0) + 1) y 1 r0 K-some))
        (ways-toward (forms v.map) W.low.dir (toward v.point y) (opposite up) (toward v.point r0) T.steps (bound s v (toward v.point r0) + 1) way alike (let l = T.large in omega arith) (omega arith)))

    wedge-v : Wedge s 3 v.point a' (toward v.point r0)
    wedge-v i j si sj =
        let u = mixed i r' j r0 si in
        let c = mixed-between i r' j r0 si sj (direction-right (toward y r') (toward r' r0) amid-r') in
        subst (λ (g : Vector). FlatDim s (ahead s v.point g) 3) (mixed-toward v.point i r' j r0 si) (free-to u (inl (between-outer y r' u r0 amid-r' c)))

    touch-d : (o : VertexSide) × Beside-point s C S upright linked v.point (toward v.point r0) o × Chained (VolumeLink C) touch-a.0 o
    touch-d = turn-beside s C S upright linked v.point a' (toward v.point r0) touch-a.0 (free-to r' (inl amid-r')) (free-to r0 at-r0) wedge-v (inl (e.low, v, H.low, same-itself v.point, touch-a.1))

    -- a point close to v
    abbrev hs' : List Form
    hs' = each (λ q. up_line n q) E

    abbrev b1 : SpacePoint
    b1 = start (reach_all hs' v.point) v.point r0

    amid1 : IsBetween v.point b1 r0
    amid1 = start-between (reach_all hs' v.point) v.point r0 (way-some r0 at-r0)

    clear1 : Clear (sliced s h) h hn level v.point b1
    clear1 = clear-close (sliced s h) h hn level v.point b1 (start-close (reach_all hs' v.point) v.point r0)

    -- the ray down from r0
    ray-r0 : RayDown C r0 x2
    ray-r0 = record {
      place = R.place;
      spot = R.spot;
      ahead = SameDirection-trans (toward r0 R.place) (toward y r0) (opposite up) (SameDirection-turned (toward y r0) (toward r0 R.place) amid) to-r0;
      is_spot = R.is_spot;
      first = λ r c. R.first r (between-outer y r0 r R.place amid c);
      above = R.above;
      label = R.label;
      has = R.has;
    }

    even1 : IsEven s 3 b1 r0
    even1 = even-by s 3 b1 r0 (way-three r0 at-r0 b1 amid1) (λ r c. way-three r0 at-r0 r (between-outer v.point b1 r r0 amid1 c)) (three-u r0 at-r0)

    pub edge-falls : Chained (VolumeLink C) x x2
    edge-falls =
        let z = ray-down s C S upright b1 (inside-way b1 amid1) (way-three r0 at-r0 b1 amid1) in
        let way = start-toward (reach_all hs' v.point) v.point r0 in
        let l1 = claim vertex-v b1 touch-d.0 z.0 (on-way b1 amid1) (subst (λ (g : Vector). pos 0 <ℤ triple n up g) (sym way) (side-u r0 at-r0)) clear1
        (λ r c. way-three r0 at-r0 r (between-inner v.point b1 r0 r amid1 c)) (way-three r0 at-r0 b1 amid1) (inside-way b1 amid1) (subst (λ (g : Vector). Beside-point s C S upright linked v.point g touch-d.0) (sym way) touch-d.1) z.1 in
        let l2 = names b1 r0 z.0 x2 (on-way b1 amid1) (on-u r0 at-r0) (inside-way b1 amid1) even1 amid1 to-r0 z.1 ray-r0 in
        chain-trans (VolumeLink C) x touch-a.0 x2 first-link (chain-trans (VolumeLink C) touch-a.0 touch-d.0 x2 touch-d.2 (chain-trans (VolumeLink C) touch-d.0 z.0 x2 l1 l2))
