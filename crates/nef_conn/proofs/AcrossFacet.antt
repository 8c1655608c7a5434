-- From a vertex beside which z lies, whose item goes on ahead, to a point of the facet there.
use Rattle.nef_conn.proofs.Prelude.{◌≡◌, pos, arith, inl, inr, ints, Chained, FlatDim, SpacePoint, Form, form_at, normal_of, toward, IsBetween, Set, Vector, opposite, dot, IsDirection, SameDirection, plane_dir, between-turned, item_normal, OnItem, ahead, on-direction, normal-is, Vertex, Complex, Corner, Shows, IsInFacetOf, item_plane, RayNames, IsFlatIn, plane-ahead, LinkAcross, FacetLink, through-same, facet-near, ahead-toward, even-after, on_item-way, way_inward, level-of_opposite, SameDirection-turned, SameDirection-trans, opposite-same}
use Rattle.nef_conn.proofs.WayInward.{dir-same, names-same}
use Rattle.nef_conn.proofs.Named
use Rattle.nef_space.proofs.Chains.{chain-here, chain-before}
use Rattle.nef_conn.proofs.Sector.{Through, Stops}
use Rattle.nef_conn.proofs.FacetStrip.{Strip, m-some, short-of, angle-ahead}
use Rattle.nef_conn.proofs.Beside.{turn-to, near, near-onward, Beside, off-edges, fan-beside}
use Rattle.law_geometry.proofs.complex.FacetEnds.{level-normal}

module _ (s : Set) (C : Complex) (S : Shows s C) (h g : Form) (d : Vector) (y z : SpacePoint) (T : Strip s C h g d y z) where
  abbrev n : Vector
  n = normal_of h

  abbrev m : Vector
  m = normal_of g

  abbrev Is_beside : Corner → Type 0
  Is_beside k = Beside s C S h g d y z T k

  some-m : IsDirection m
  some-m = m-some s C S h g d y z T

  level-opposite : dot n (opposite d) ≡ pos 0
  level-opposite = level-of_opposite n d T.level

  module _ (k : Corner) (N : Is_beside k) where
    abbrev v : Vertex
    v = N.vertex

    abbrev w : SpacePoint
    w = v.point

    abbrev Ends_before : Type 0
    Ends_before = Stops v.map N.item n m (toward w z) d T.seen

    -- ---- where the item goes on ahead, z is beside the facet that lies there
    -- a facet point ahead, with a clear way to z, whose ray names a linked corner
    pub record Facet_ahead : Type 0 where
      pub place : SpacePoint
      pub corner : Corner
      pub on_plane : form_at h place ≡ pos 0
      pub on_line : form_at (near s C S h g d y z T) place ≡ pos 0
      pub flat : IsFlatIn s h place
      pub ahead : SameDirection (toward w place) d
      pub clear : (r : SpacePoint) → IsBetween place r z → FlatDim s r 2
      pub named : RayNames C h place d corner
      pub chain : Chained (FacetLink C) k corner

    module _ (E : Through v.map N.item n m (toward w z) d) (inward : SameDirection (opposite (plane_dir n)) d) where
      abbrev e : Vector
      e = way_inward N.item

      one-way : SameDirection e d
      one-way = SameDirection-trans e (opposite (plane_dir n)) d (opposite-same (plane_dir (item_normal N.item)) (plane_dir n) (dir-same (item_normal N.item) n N.same)) inward

      o : OnItem v.map N.item e
      o = on_item-way v.map N.item d e (SameDirection-turned e d one-way) E.on

      abbrev q : SpacePoint
      q = ahead s w e

      F : IsInFacetOf s N.item q
      F = facet-near s C S k v N.item N.corner e o

      up : SameDirection (toward w q) d
      up = SameDirection-trans (toward w q) e d (ahead-toward s w e (on-direction v.map N.item e o)) one-way

      q-on : form_at h q ≡ pos 0
      q-on = plane-ahead h w q d up T.level N.on_plane

      q-near : form_at (near s C S h g d y z T) q ≡ pos 0
      q-near = near-onward s C S h g d y z T w q up N.on_line

      q-flat : IsFlatIn s h q
      q-flat = (F.dim, λ f. (λ x. level-normal (item_normal N.item) n f N.same ((F.flat f).0 x), λ x. (F.flat f).1 (level-normal n (item_normal N.item) f (SameDirection-turned (item_normal N.item) n N.same) x)))

      reach : (r : SpacePoint) → IsBetween z r q → FlatDim s r 2
      reach = fan-beside s C S h g d y z T k N q q-on (let x = q-near in omega (arith, ints)) (let l = short-of s C S h g d y z T q q-near in omega (arith, ints)) (angle-ahead s C S h g d y z T w q N.on_line up)
          (inl (inl (off-edges s C S h g d y z T k N, λ r b. even-after s 2 w e F.dim r (inl b)))) (λ f i x p r. E.between f i x p (turn-to m f (toward w q) d up r))

      pub facet-ahead : Facet_ahead
      facet-ahead =
          let found = Named.found s C S k v N.item N.corner o in
          let link : LinkAcross C k found.2.0 = record { vertex = v; item = N.item; corner = N.corner; inward = o; named = (found.0, Named.from-vertex s C S k v N.item N.corner o found.0 found.1, found.2.1) } in
          let one = SameDirection-trans (normal_of (item_plane v N.item)) (item_normal N.item) n (SameDirection-turned (item_normal N.item) (normal_of (item_plane v N.item)) (through-same (item_normal N.item) w (normal-is (S.cones k.vertex v N.corner.vertex).valid.shaped k.item N.item N.corner.item))) N.same in
          record {
            place = q;
            corner = found.2.0;
            on_plane = q-on;
            on_line = q-near;
            flat = q-flat;
            ahead = up;
            clear = λ r b. reach r (between-turned q z r b);
            named = names-same C (item_plane v N.item) h q (Named.on-q s C S k v N.item N.corner o) q-on one e d one-way found.2.0 (found.0, found.1, found.2.1);
            chain = chain-before (FacetLink C) k found.2.0 found.2.0 (inl (inr link)) (chain-here (FacetLink C) found.2.0);
          }
