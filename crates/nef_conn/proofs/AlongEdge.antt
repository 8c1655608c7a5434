-- From a vertex beside which z lies, whose arc goes on along an edge ahead, to the vertex at the edge's other end.
use Rattle.nef_conn.proofs.Prelude.{◌≡◌, ℕ, pos, neg_ℤ, ◌<ℤ◌, arith, refl, ◌⊎◌, inl, inr, ⊎_elim, subst, ints, Chained, FlatDim, SpacePoint, Form, form_at, normal_of, toward, IsBetween, Set, Vector, opposite, dot, triple, IsDirection, SameDirection, cross, between-turned, Arc, Item, item_normal, OnItem, Shaped, Vertex, Complex, Corner, IsCorner, Shows, plane-ahead, FacetLink, on_item-way, level-of_opposite, triple-turned, SameDirection-turned, SameDirection-trans, opposite-same, direction-opposite, right-turn, opposite-dot}
use Rattle.nef_space.proofs.Chains.{chain-here, chain-before}
use Rattle.nef_conn.proofs.Sector.{Seen, sector_end, seen-back, Through, Stops, turned}
use Rattle.nef_conn.proofs.Leads.{LeadsFrom, leads, link-of}
use Rattle.nef_conn.proofs.FacetStrip.{Strip, m-some, short-of, angle-ahead, turn-z}
use Rattle.nef_conn.proofs.Beside.{turn-to, near, near-onward, hidden, Beside, off-edges, fan-beside, seen-beside}

pub opposite-normal : (m a b : Vector) → triple (opposite m) a b ≡ neg_ℤ (triple m a b)
opposite-normal m a b = opposite-dot m (cross a b)

-- both the normal and one of the ways turned
both-opposite : (m a b : Vector) → triple (opposite m) a (opposite b) ≡ triple m a b
both-opposite m a b = let e = right-turn (opposite m) a b in let f = opposite-normal m a b in omega (arith, ints)

-- where an arc ends counterclockwise, and where another ends clockwise
ends-match : (n m : Vector) (O : Seen n m) (c b : Arc) (a e : ℕ) → sector_end n m O c ≡ a → sector_end n (opposite m) (seen-back n m O) b ≡ e → ((c.target ≡ a) × (b.source ≡ e)) ⊎ ((c.source ≡ a) × (b.target ≡ e))
ends-match n m (inl w) c b a e x y = inl (x, y)
ends-match n m (inr w) c b a e x y = inr (x, y)

module _ (s : Set) (C : Complex) (S : Shows s C) (h g : Form) (d : Vector) (y z : SpacePoint) (T : Strip s C h g d y z) where
  abbrev n : Vector
  n = normal_of h

  abbrev m : Vector
  m = normal_of g

  abbrev Is_beside : Corner → Type 0
  Is_beside k = Beside s C S h g d y z T k

  some-m : IsDirection m
  some-m = m-some s C S h g d y z T

  level-opposite : dot n (opposite d) ≡ pos 0
  level-opposite = level-of_opposite n d T.level

  -- a linked corner of a vertex ahead, beside which z lies too
  abbrev pub Goes_on : (k : Corner) → Is_beside k → Type 0
  Goes_on k N = (l : Corner) × (M : Is_beside l) × Chained (FacetLink C) k l × SameDirection (toward N.vertex.point M.vertex.point) d

  module _ (k : Corner) (N : Is_beside k) where
    abbrev v : Vertex
    v = N.vertex

    abbrev w : SpacePoint
    w = v.point

    abbrev Ends_before : Type 0
    Ends_before = Stops v.map N.item n m (toward w z) d T.seen

    -- ---- where the item is an arc that ends at a svertex in the direction d
    module _ (E : Ends_before) (way : SameDirection E.svertex.dir d) where
      abbrev a : ℕ
      a = sector_end n m T.seen E.arc

      L : LeadsFrom s C k.vertex a v E.svertex
      L = leads s C S k.vertex a v E.svertex N.corner.vertex E.end

      abbrev v1 : Vertex
      v1 = L.other

      up : SameDirection (toward w v1.point) d
      up = SameDirection-trans (toward w v1.point) E.svertex.dir d L.onward way

      on1 : form_at h v1.point ≡ pos 0
      on1 = plane-ahead h w v1.point d up T.level N.on_plane

      near1 : form_at (near s C S h g d y z T) v1.point ≡ pos 0
      near1 = near-onward s C S h g d y z T w v1.point up N.on_line

      reach : (r : SpacePoint) → IsBetween z r v1.point → FlatDim s r 2
      reach = fan-beside s C S h g d y z T k N v1.point on1 (let e = near1 in omega (arith, ints)) (let l = short-of s C S h g d y z T v1.point near1 in omega (arith, ints)) (angle-ahead s C S h g d y z T w v1.point N.on_line up)
          (inr (off-edges s C S h g d y z T k N, L.along)) (λ e i q p r. E.between e i q p (turn-to m e (toward w v1.point) E.svertex.dir L.onward r))

      -- the item toward z there begins at the edge
      module _ (l : Corner) (x : Item) (K : IsCorner C l v1 x) (same : SameDirection (item_normal x) n) (on : OnItem v1.map x (toward v1.point z)) (is : l.vertex ≡ L.there) where
        V : Shaped v1.map
        V = (S.cones l.vertex v1 K.vertex).valid.shaped

        back-way : SameDirection (opposite d) L.end.dir
        back-way = SameDirection-trans (opposite d) (opposite E.svertex.dir) L.end.dir (opposite-same d E.svertex.dir (SameDirection-turned E.svertex.dir d way)) L.back

        abbrev Back : Seen n (opposite m)
        Back = seen-back n m T.seen

        turn-right : pos 0 <ℤ triple (opposite m) (toward v1.point z) (opposite d)
        turn-right = let e = both-opposite m (toward v1.point z) d in let l = turn-z s C S h g d y z T v1.point near1 in omega (arith, ints)

        linked : Stops v1.map x n (opposite m) (toward v1.point z) (opposite d) Back → FacetLink C k l ⊎ FacetLink C l k
        linked t = ⊎_elim at-end (λ q. absurd (amid q)) t.before
          where
            amid : pos 0 <ℤ triple (opposite m) t.svertex.dir (opposite d) → ⊥
            amid q = hidden s C S h g d y z T l.vertex (sector_end n (opposite m) Back t.arc) v1 t.svertex K.vertex t.end on1 near1 t.level (let e = both-opposite m t.svertex.dir d in omega (arith, ints)) w N.on_plane N.on_line up N.all
                (inr (let e = opposite-normal m (toward v1.point z) t.svertex.dir in let f = triple-turned m t.svertex.dir (toward v1.point z) in let l = t.left in omega (arith, ints)))

            at-end : SameDirection t.svertex.dir (opposite d) → FacetLink C k l ⊎ FacetLink C l k
            at-end q =
                let one = V.svertices_apart (sector_end n (opposite m) Back t.arc) L.there_end t.svertex L.end t.end L.is_end (SameDirection-trans t.svertex.dir (opposite d) L.end.dir q back-way) in
                link-of s C k.vertex a v E.svertex L n k l E.arc t.arc refl is (subst (λ (r : Item). IsCorner C k v r) E.is_arc N.corner) (subst (λ (r : Item). IsCorner C l v1 r) t.is_arc K)
                (subst (λ (r : Item). SameDirection (item_normal r) n) E.is_arc N.same) (subst (λ (r : Item). SameDirection (item_normal r) n) t.is_arc same) (ends-match n m T.seen E.arc t.arc a L.there_end refl one)

        goes-on : Goes_on k N
        goes-on =
            let link = ⊎_elim (λ (t : Through v1.map x n (opposite m) (toward v1.point z) (opposite d)). absurd (V.no_svertex_on_item L.there_end l.item L.end x L.is_end K.item (on_item-way v1.map x (opposite d) L.end.dir back-way t.on))) linked
            (turned n (opposite m) Back (direction-opposite m some-m) v1.map V (toward v1.point z) (opposite d) (direction-opposite d T.some) level-opposite turn-right l.item x K.item same on) in (
              l,
              record { vertex = v1; item = x; corner = K; same = same; on_plane = on1; on_line = near1; on = on; all = λ r b. reach r (between-turned v1.point z r b) },
              chain-before (FacetLink C) k l l link (chain-here (FacetLink C) l),
              up,
            )

      pub along-edge : Goes_on k N
      along-edge = let X = seen-beside s C S h g d y z T L.there v1 L.is_there on1 near1 reach in goes-on X.0 X.1 X.2 X.3 X.4 X.5
