-- Each side that isn't outside has a point at it that names, by the ray down, a side of its class; so where items whose points are joined are linked, sides are.
use Rattle.nef_conn.proofs.Prelude.{◌≡◌, pos, ◌<ℤ◌, arith, refl, sym, ◌∙◌, inl, inr, ⊎_elim, List, ◌∷◌, subst, [], each, ring, at, num, ◌⊕◌, ◌⊖◌, ◌⊗◌, Chained, FlatDim, SpacePoint, Form, form_at, normal_of, slope, plane_through, InFrame, toward, IsBetween, Set, Vector, opposite, cross, triple, IsDirection, SameDirection, up, Label, Out, carriers, between-turned, between-inner, ray-cell, germs-by_cell, even-germs, ahead, start, start-close, start-between, signs-same, same-point_sym, all-vertices, reach_all, point-toward, IsAt, HasSide, Sees, here, is-at_one, Beside, same_way, other_way, beside, cross-self, turn-last, turn-same, same-plus, Vertex, Complex, Shows, at_vertex, VertexSide, RayDown, through-at, ahead-back, facet-of, through-level, plane-between, plane-ahead, even-by, skeleton-not_flat, skeleton-or_flat, between-way, between-cases, VolumeLink, IsUpright, IsEvenAfter, IsAtSide, through-same, free-dim, side-sees, sees-way, seen-free, ahead-close, ahead-toward, dim-cell, even-after, facet-at, AreLinkedWhereJoined, SidesName, NamesOfFreeSegments, ConverseByItems, ConverseForAll, sliced, zero-decided, dot-zero, self-pos, SameDirection-turned, SameDirection-trans, dir-self, opposite-way, direction-left, direction-right}
use Rattle.nef_space.proofs.Chains.{chain-here}
use Rattle.nef_conn.proofs.SidePaths.{side-label, label-inside, converse-by_segments}
use Rattle.nef_conn.proofs.Downs.{vertex-falls}
use Rattle.nef_conn.proofs.EdgeFalls.{vertex-slice}
use Rattle.nef_conn.proofs.FreeSegments.{segment-names}
use Rattle.nef_conn.proofs.Good.{all-good}
use Rattle.nef_conn.proofs.NearOver.{up-some}
use Rattle.nef_conn.proofs.RaysEnd.{ray-down}
use Rattle.nef_conn.proofs.Silhouettes.{sliced-signs, sliced-ahead, germs-inside, two-of}
use Rattle.nef_conn.proofs.SliceStrip.{lam, up_line, Clear, clear-close}
use Rattle.nef_conn.proofs.Touch.{bound, no-way}
use Rattle.law_geometry.proofs.near.Same.{dim-same}
use Rattle.nef_space.proofs.Elementary.{same-itself}

module _ (s : Set) (C : Complex) (S : Shows s C) (upright : IsUpright C) (linked : AreLinkedWhereJoined s C) where
  -- ---- segments
  pub names-of_segments : NamesOfFreeSegments s C
  names-of_segments p q x y inside even R T =
      segment-names s C S upright linked (λ h. Unit {0}) (λ r. Unit {0}) (λ h al hn level r on f g. all-good s C S upright linked r h hn level on f) (λ h. tt) p q x y inside even (λ u o r d. tt) R T

  -- ---- sides
  module _ (x : VertexSide) (l : Label) (v : Vertex) (a : IsAt C.vertices x.vertex v) (has : HasSide v.map x.side l) (not-out : l ≡ Out → ⊥) where
    abbrev Named : Type 0
    Named = (q : SpacePoint) × (z : VertexSide) × IsAtSide s C x q × RayDown C q z × Chained (VolumeLink C) x z

    module _ (d : Vector) (o : Sees v.map x.side d) where
      some : IsDirection d
      some = let F = seen-free v.map x.side d o in F.direction

      three : FlatDim s (ahead s v.point d) 3
      three = free-dim v.map s v.point (S.cones x.vertex v a) d (seen-free v.map x.side d o)

      -- a point toward d, as far as the set doesn't change
      at-point : (q : SpacePoint) → SameDirection (toward v.point q) d → IsEvenAfter s 3 v.point q → IsAtSide s C x q
      at-point q w even = record { vertex = v; is_vertex = a; label = l; has = has; sees = sees-way v.map d (toward v.point q) (SameDirection-turned (toward v.point q) d w) x.side o; even = even }

      inside-at : (q : SpacePoint) → IsAtSide s C x q → InFrame q
      inside-at q A = label-inside s q A.label (side-label s C S x q A) (λ e. not-out (own-label A ∙ e))
        where
          -- a side has one label
          own-label : (A : IsAtSide s C x q) → l ≡ A.label
          own-label A = let M = (S.cones x.vertex v a).valid in M.one_label x.side x.side l A.label has (moved A) (here x.side)
            where
              moved : (A : IsAtSide s C x q) → HasSide v.map x.side A.label
              moved A = subst (λ (u : Vertex). HasSide u.map x.side A.label) (is-at_one C.vertices x.vertex A.vertex v A.is_vertex a) A.has

      -- upward: the ray down comes back to the vertex
      by-up : SameDirection d up → Named
      by-up w =
          let q = ahead s v.point d in
          let A = at-point q (ahead-toward s v.point d some) (even-after s 3 v.point d three) in (
            q,
            x,
            A,
            record {
              place = v.point;
              spot = at_vertex x.vertex;
              ahead = ahead-back v.point q up (SameDirection-trans (toward v.point q) d up (ahead-toward s v.point d some) w);
              is_spot = (v, a, same-itself v.point);
              first = λ r m z. skeleton-not_flat s C S (facet-at s C S) (facet-of s C S) r z (even-after s 3 v.point d three r (inl (between-turned q v.point r m)));
              above = (v, a, refl, sees-way v.map d up w x.side o);
              label = l;
              has = (v, a, has);
            },
            chain-here (VolumeLink C) x,
          )

      -- downward: the link down
      by-down : SameDirection d (opposite up) → Named
      by-down w = by below
        where
          even : IsEvenAfter s 3 v.point (ahead s v.point d)
          even = even-after s 3 v.point d three

          to-p : SameDirection (toward v.point (ahead s v.point d)) (opposite up)
          to-p = SameDirection-trans (toward v.point (ahead s v.point d)) d (opposite up) (ahead-toward s v.point d some) w

          A : IsAtSide s C x (ahead s v.point d)
          A = at-point (ahead s v.point d) (ahead-toward s v.point d some) even

          inside : InFrame (ahead s v.point d)
          inside = inside-at (ahead s v.point d) A

          below : (z : VertexSide) × RayDown C (ahead s v.point d) z
          below = ray-down s C S upright (ahead s v.point d) inside three

          module-ray : (z : VertexSide) (R : RayDown C (ahead s v.point d) z) → (r : SpacePoint) → IsBetween v.point r R.place → FlatDim s r 3 × InFrame r
          module-ray z R r m = ⊎_elim
              (λ k. (even r (inl k), germs-inside s (ahead s v.point d) r (germs-by_cell s (ahead s v.point d) r (ray-cell (carriers s) v.point (ahead s v.point d) r (ahead-close s v.point d) k)) inside))
              (λ o'. ⊎_elim (λ e. (dim-same s (ahead s v.point d) r 3 (same-point_sym r (ahead s v.point d) e) three, germs-inside s (ahead s v.point d) r (germs-by_cell s (ahead s v.point d) r (signs-same (carriers s) (ahead s v.point d) r (same-point_sym r (ahead s v.point d) e))) inside))
              (λ k. (ray r k, germs-inside s (ahead s v.point d) r (even-germs s 3 (ahead s v.point d) r (even-by s 3 (ahead s v.point d) r three (λ u i. ray u (between-inner (ahead s v.point d) r R.place u k i)) (ray r k))) inside)) o')
              (between-cases v.point (ahead s v.point d) R.place r on m)
            where
              ray : (u : SpacePoint) → IsBetween (ahead s v.point d) u R.place → FlatDim s u 3
              ray u k = ⊎_elim (λ f. f) (λ z. absurd (R.first u k z)) (skeleton-or_flat s C S (facet-at s C S) (facet-of s C S) u)

              on : IsBetween v.point (ahead s v.point d) R.place
              on = SameDirection-trans (toward v.point (ahead s v.point d)) (opposite up) (toward (ahead s v.point d) R.place) to-p (SameDirection-turned (toward (ahead s v.point d) R.place) (opposite up) R.ahead)

          by : (z : VertexSide) × RayDown C (ahead s v.point d) z → Named
          by (z, R) = (
            ahead s v.point d,
            z,
            A,
            R,
            vertex-falls s C S upright linked v.point x z (
              x.vertex,
              v,
              a,
              same-itself v.point,
              record {
                steps = bound s v (opposite up);
                large = omega arith;
                seer = record { here = refl; label = l; has = has; sees = subst (λ (g : Vector). Sees v.map x.side g) (sym (no-way (bound s v (opposite up)) (opposite up))) (sees-way v.map d (opposite up) w x.side o) };
              },
            )
                (record {
                  place = R.place;
                  spot = R.spot;
                  ahead = SameDirection-trans (toward v.point R.place) (toward v.point (ahead s v.point d)) (opposite up) (SameDirection-turned (toward v.point (ahead s v.point d)) (toward v.point R.place) (between-way v.point (ahead s v.point d) R.place
                      (SameDirection-trans (toward v.point (ahead s v.point d)) (opposite up) (toward (ahead s v.point d) R.place) to-p (SameDirection-turned (toward (ahead s v.point d) R.place) (opposite up) R.ahead)))) to-p;
                  is_spot = R.is_spot;
                  first = λ r m z'. skeleton-not_flat s C S (facet-at s C S) (facet-of s C S) r z' (module-ray z R r m).0;
                  above = R.above;
                  label = R.label;
                  has = R.has;
                }) (module-ray z R),
          )

      -- elsewhere: by the claim at the vertex, in the plane along up through it
      module _ (slanted : IsDirection (cross up d)) where
        abbrev m : Vector
        m = cross up d

        abbrev h : Form
        h = plane_through (cross up d) v.point

        abbrev n : Vector
        n = normal_of h

        hn : IsDirection (normal_of (plane_through (cross up d) v.point))
        hn = direction-right m n (through-same m v.point slanted)

        level : slope (plane_through (cross up d) v.point) up ≡ pos 0
        level = (through-level m up v.point).0 (cross-self up d)

        level-d : slope (plane_through (cross up d) v.point) d ≡ pos 0
        level-d = (through-level m d v.point).0 (ring (up.x ∷ up.y ∷ up.z ∷ d.x ∷ d.y ∷ d.z ∷ []) ((at 1 ⊗ at 5 ⊖ at 2 ⊗ at 4) ⊗ at 3 ⊕ (at 2 ⊗ at 3 ⊖ at 0 ⊗ at 5) ⊗ at 4 ⊕ (at 0 ⊗ at 4 ⊖ at 1 ⊗ at 3) ⊗ at 5) (num (pos 0)) tt)

        on-v : form_at h v.point ≡ pos 0
        on-v = through-at m v.point v.point ∙ dot-zero m (toward v.point v.point) (point-toward v.point v.point (same-itself v.point))

        abbrev t : Set
        t = sliced s h

        -- close to v toward d, for the slice
        abbrev q : SpacePoint
        q = ahead (sliced s h) v.point d

        to-q : SameDirection (toward v.point q) d
        to-q = ahead-toward (sliced s h) v.point d some

        even-q : IsEvenAfter s 3 v.point q
        even-q r (inl c) = dim-cell s q r 3 (sliced-signs s h q r (ray-cell (carriers (sliced s h)) v.point q r (ahead-close (sliced s h) v.point d) c)) three-q
          where
            three-q : FlatDim s q 3
            three-q = dim-cell s (ahead s v.point d) q 3 (λ f i. sym (sliced-ahead s h v.point d f i)) three
        even-q r (inr e) = dim-same s q r 3 (same-point_sym r q e) (dim-cell s (ahead s v.point d) q 3 (λ f i. sym (sliced-ahead s h v.point d f i)) three)

        on-q : form_at h q ≡ pos 0
        on-q = plane-ahead h v.point q d to-q level-d on-v

        inside-q : InFrame q
        inside-q = inside-at q (at-point q to-q even-q)

        vertex-t : FlatDim (sliced s h) v.point 0
        vertex-t = vertex-slice s h hn level v.point q on-v (S.vertices x.vertex v a) (ahead-close (sliced s h) v.point d) (two-of s h hn q on-q (even-q q (inr (same-itself q))) inside-q)

        -- closer, so that no vertex lies on the lines between
        abbrev hs : List Form
        hs = each (λ p. up_line n p) (all-vertices (sliced s h)).0

        abbrev b : SpacePoint
        b = start (reach_all hs v.point) v.point q

        amid : IsBetween v.point b q
        amid = start-between (reach_all hs v.point) v.point q (direction-left (toward v.point q) d to-q)

        to-b : SameDirection (toward v.point b) d
        to-b = SameDirection-trans (toward v.point b) (toward v.point q) d (between-way v.point b q amid) to-q

        on-b : form_at h b ≡ pos 0
        on-b = plane-between h v.point b q amid on-v on-q

        even-b : IsEvenAfter s 3 v.point b
        even-b r (inl c) = even-q r (inl (between-inner v.point b q r amid c))
        even-b r (inr e) = dim-same s b r 3 (same-point_sym r b e) (even-q b (inl amid))

        at-b : IsAtSide s C x b
        at-b = at-point b to-b even-b

        inside-b : InFrame b
        inside-b = inside-at b at-b

        side : pos 0 <ℤ lam n v.point b
        side =
            let p : pos 0 <ℤ triple m up d = self-pos m slanted in
            let p' = same-plus (triple m up d) (triple m up (toward v.point b)) (turn-last m up d (toward v.point b) (SameDirection-turned (toward v.point b) d to-b)) p in
            same-plus (triple m up (toward v.point b)) (lam n v.point b) (turn-same m n up up (toward v.point b) (toward v.point b) (through-same m v.point slanted) (dir-self up up-some) (dir-self (toward v.point b) (direction-left (toward v.point b) d to-b))) p'

        clear : Clear (sliced s h) h hn level v.point b
        clear = clear-close (sliced s h) h hn level v.point b (start-close (reach_all hs v.point) v.point q)

        by-slant : Named
        by-slant =
            let z = ray-down s C S upright b inside-b (even-b b (inr (same-itself b))) in (
              b,
              z.0,
              at-b,
              z.1,
              all-good s C S upright linked v.point h hn level on-v vertex-t b x z.0 on-b side clear (λ r c. even-b r (inl c)) (even-b b (inr (same-itself b))) inside-b
                  (inl (
                    x.vertex,
                    v,
                    a,
                    same-itself v.point,
                    record {
                      steps = bound s v (toward v.point b);
                      large = omega arith;
                      seer = record { here = refl; label = l; has = has; sees = subst (λ (g : Vector). Sees v.map x.side g) (sym (no-way (bound s v (toward v.point b)) (toward v.point b))) (sees-way v.map d (toward v.point b) (SameDirection-turned (toward v.point b) d to-b) x.side o) };
                    },
                  )) z.1,
            )

      named : Named
      named = ⊎_elim (λ z. by (beside up d up-some some z)) (λ c. by-slant c) (zero-decided (cross up d))
        where
          by : Beside up d → Named
          by (same_way w) = by-up (SameDirection-turned up d w)
          by (other_way w) = by-down (SameDirection-turned (opposite up) d (opposite-way up d w))

  pub sides-name : SidesName s C
  sides-name x l (v, a, has) n = let o = side-sees v.map (S.cones x.vertex v a).valid.shaped x.side l has in named x l v a has n o.0 o.1

-- WHERE ITEMS WHOSE POINTS ARE JOINED ARE LINKED, SIDES ARE
pub converse-by_items : ConverseByItems
converse-by_items s C S upright linked = converse-by_segments s C S upright (sides-name s C S upright linked) (names-of_segments s C S upright linked)

pub converse-for_all : ConverseForAll
converse-for_all items s C x y p q S upright a b J = converse-by_items s C S upright (items s C S) x y p q a b J
