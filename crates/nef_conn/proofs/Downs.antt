-- Where no edge runs along up, the direction down is free at each vertex and edge; and a side that sees down from a vertex is linked with what the ray down names.
use Rattle.nef_conn.proofs.Prelude.{◌≡◌, ℕ, ◌≤◌, ℤ, pos, ◌+ℤ◌, ◌-ℤ◌, ◌*ℤ◌, ◌<ℤ◌, neg_ℤ, arith, sym, ◌∙◌, ◌⊎◌, inl, inr, ⊎_elim, ◌∷◌, subst, [], ints, ring, at, num, ◌⊕◌, ◌⊖◌, ◌⊗◌, Chained, FlatDim, SpacePoint, InFrame, toward, IsBetween, Set, Vector, blend, dot, cross, opposite, IsZero, IsDirection, SameDirection, up, Out, same-point_sym, between-same, same-nought, forms, Keeps, between-inner, IsAt, MapVertex, Map, Item, items, item_normal, IsFree, Sees, Shaped, direction-around, svertex-around, PlaceOf, svertex_place, item_place, free_place, place_of, item-forms, normal-form, on-level, amount, far-keeps, far-level, Vertex, Complex, Shows, VertexSide, RayDown, near_point, near-between, between-way, VolumeLink, IsUpright, IsEvenAfter, IsAtSide, sees-way, AreLinkedWhereJoined, nought-or, SameDirection-turned, SameDirection-trans, dot-opposite, direction-left}
use Rattle.nef_space.proofs.Chains.{chain-link}
use Rattle.nef_conn.proofs.SidePaths.{side-label, inside-label}
use Rattle.nef_conn.proofs.Leaves.{BesideVertex, toward-same}
use Rattle.nef_conn.proofs.Touch.{no-way}
use Rattle.nef_space.proofs.Elementary.{minor-opposite_back, same-itself}
use Rattle.law_geometry.proofs.near.Same.{dim-same}

pub down-some : IsDirection (opposite up)
down-some z = let e = z.2 in omega (arith, ints)

-- along down is along up
pub along-up : (d : Vector) → IsZero (cross d (opposite up)) → IsZero (cross d up)
along-up d z = (minor-opposite_back d.y d.z up.y up.z z.0, minor-opposite_back d.z d.x up.z up.x z.1, minor-opposite_back d.x d.y up.x up.y z.2)

module _ (s : Set) (C : Complex) (S : Shows s C) (upright : IsUpright C) (linked : AreLinkedWhereJoined s C) where
  module _ (i : ℕ) (v : Vertex) (a : IsAt C.vertices i v) where
    M : Map
    M = v.map

    V : Shaped v.map
    V = (S.cones i v a).valid.shaped

    low : (k : ℕ) (x : Item) → IsAt (items v.map) k x → dot (item_normal x) (opposite up) <ℤ pos 0
    low k x h = let e = dot-opposite (item_normal x) up in let u = upright (record { vertex = i; item = k }) v x (record { vertex = a; item = h }) in omega (arith, ints)

    -- from a vertex down is free, or an edge runs down
    pub vertex-down : IsFree v.map (opposite up) ⊎ ((k : ℕ) × (u : MapVertex) × IsAt v.map.svertices k u × SameDirection u.dir (opposite up))
    vertex-down = by (place_of v.map (opposite up) down-some)
      where
        by : PlaceOf v.map (opposite up) → IsFree v.map (opposite up) ⊎ ((k : ℕ) × (u : MapVertex) × IsAt v.map.svertices k u × SameDirection u.dir (opposite up))
        by (free_place f) = inl f
        by (item_place k x h o) = let l = low k x h in let e = on-level v.map x (opposite up) o in absurd (omega (arith, ints))
        by (svertex_place k u h w) = inr (k, u, h, w)

    -- close to a svertex
    pub svertex-down : (j : ℕ) (u : MapVertex) → IsAt v.map.svertices j u → IsDirection (cross u.dir up) → (K : ℕ) → amount (forms v.map) (opposite up) ≤ K → IsFree v.map (blend K u.dir 1 (opposite up))
    svertex-down j u b aside K large = by (place_of v.map (blend K u.dir 1 (opposite up)) (direction-around v.map V u.dir (blend K u.dir 1 (opposite up)) keeps (V.svertex_dirs j u b)))
      where
        keeps : Keeps (forms v.map) u.dir (blend K u.dir 1 (opposite up))
        keeps = far-keeps (forms v.map) u.dir (opposite up) K large

        one : (a b c d : ℤ) → a *ℤ (pos K *ℤ b +ℤ pos 1 *ℤ d) -ℤ b *ℤ (pos K *ℤ a +ℤ pos 1 *ℤ c) ≡ pos 0 → a *ℤ d -ℤ b *ℤ c ≡ pos 0
        one a b c d e = sym (ring (pos K ∷ a ∷ b ∷ c ∷ d ∷ []) (at 1 ⊗ (at 0 ⊗ at 2 ⊕ num (pos 1) ⊗ at 4) ⊖ at 2 ⊗ (at 0 ⊗ at 1 ⊕ num (pos 1) ⊗ at 3)) (at 1 ⊗ at 4 ⊖ at 2 ⊗ at 3) tt) ∙ e

        by : PlaceOf v.map (blend K u.dir 1 (opposite up)) → IsFree v.map (blend K u.dir 1 (opposite up))
        by (free_place f) = f
        by (item_place k x h o) =
            let e = on-level v.map x (blend K u.dir 1 (opposite up)) o in
            let l = low k x h in
            absurd (⊎_elim
            (λ z. let m = same-nought (dot (item_normal x) (blend K u.dir 1 (opposite up))) (dot (item_normal x) (opposite up)) (sym (far-level (forms v.map) u.dir (opposite up) K large (item_normal x) z)) e in omega (arith, ints))
            (λ n. n (same-nought (dot (item_normal x) (blend K u.dir 1 (opposite up))) (dot (item_normal x) u.dir) (sym (keeps (item_normal x) (item-forms v.map k x (item_normal x) h (normal-form v.map x)) n)) e))
            (nought-or (dot (item_normal x) u.dir)))
        by (svertex_place k q h w) =
            let d = u.dir in
            let o = svertex-around v.map V d (blend K d 1 (opposite up)) keeps k q h (V.svertex_dirs j u b) w in
            let p = SameDirection-trans d q.dir (blend K d 1 (opposite up)) (SameDirection-turned q.dir d o) w in
            let z = p.parallel in
            absurd (aside (along-up d (one d.y d.z (neg_ℤ up.y) (neg_ℤ up.z) z.0, one d.z d.x (neg_ℤ up.z) (neg_ℤ up.x) z.1, one d.x d.y (neg_ℤ up.x) (neg_ℤ up.y) z.2)))

  -- the link down
  pub vertex-falls : (y : SpacePoint) (x x2 : VertexSide) → BesideVertex s C S upright linked y (opposite up) x → (R : RayDown C y x2) → ((r : SpacePoint) → IsBetween y r R.place → FlatDim s r 3 × InFrame r) → Chained (VolumeLink C) x x2
  vertex-falls y x x2 (i, v, a, e, T) R second = chain-link (VolumeLink C) x x2 (inr (inr (inr (inl (record {
    vertex = v;
    is_vertex = listed;
    label = T.seer.label;
    has = T.seer.has;
    not_out = not-out;
    sees = sees;
    down = record {
      place = R.place;
      spot = R.spot;
      ahead = to-v;
      is_spot = R.is_spot;
      first = λ r m. R.first r (moved r m);
      above = R.above;
      label = R.label;
      has = R.has;
    };
  })))))
    where
      listed : IsAt C.vertices x.vertex v
      listed = subst (λ (n : ℕ). IsAt C.vertices n v) (sym T.seer.here) a

      sees : Sees v.map x.side (opposite up)
      sees = subst (λ (d : Vector). Sees v.map x.side d) (no-way T.steps (opposite up)) T.seer.sees

      moved : (r : SpacePoint) → IsBetween v.point r R.place → IsBetween y r R.place
      moved r m = between-same v.point r R.place y r R.place e (same-itself r) (same-itself R.place) m

      some : IsDirection (toward y R.place)
      some = direction-left (toward y R.place) (opposite up) R.ahead

      to-v : SameDirection (toward v.point R.place) (opposite up)
      to-v = SameDirection-trans (toward v.point R.place) (toward y R.place) (opposite up) (SameDirection-turned (toward y R.place) (toward v.point R.place) (toward-same y v.point R.place (same-point_sym v.point y e) some)) R.ahead

      half : SpacePoint
      half = near_point s v.point R.place

      amid : IsBetween v.point (near_point s v.point R.place) R.place
      amid = near-between s v.point R.place (direction-left (toward v.point R.place) (opposite up) to-v)

      even : IsEvenAfter s 3 v.point (near_point s v.point R.place)
      even r (inl m) = (second r (moved r (between-inner v.point (near_point s v.point R.place) R.place r amid m))).0
      even r (inr f) = dim-same s (near_point s v.point R.place) r 3 (same-point_sym r (near_point s v.point R.place) f) (second (near_point s v.point R.place) (moved (near_point s v.point R.place) amid)).0

      to-half : SameDirection (toward v.point (near_point s v.point R.place)) (opposite up)
      to-half = SameDirection-trans (toward v.point (near_point s v.point R.place)) (toward v.point R.place) (opposite up) (between-way v.point (near_point s v.point R.place) R.place amid) to-v

      at : IsAtSide s C x (near_point s v.point R.place)
      at = record {
        vertex = v;
        is_vertex = listed;
        label = T.seer.label;
        has = T.seer.has;
        sees = sees-way v.map (opposite up) (toward v.point (near_point s v.point R.place)) (SameDirection-turned (toward v.point (near_point s v.point R.place)) (opposite up) to-half) x.side sees;
        even = even;
      }

      not-out : T.seer.label ≡ Out → ⊥
      not-out = inside-label s (near_point s v.point R.place) T.seer.label (side-label s C S x (near_point s v.point R.place) at) (second (near_point s v.point R.place) (moved (near_point s v.point R.place) amid)).1
