-- From a vertex beside which z lies, whose arc ends at an edge that leads to z's line: z's ray comes to this edge, and names the arc or the one linked with it along the edge.
use Rattle.nef_conn.proofs.Prelude.{◌≡◌, ℕ, ℤ, pos, neg_ℤ, ◌<ℤ◌, arith, refl, ap, sym, ◌∙◌, ◌⊎◌, inl, inr, subst, ints, sign, Chained, Flat, FlatDim, SpacePoint, Form, form_at, normal_of, toward, IsBetween, Set, Vector, opposite, dot, triple, IsDirection, SameDirection, between-inner, span-1, IsAt, Arc, Item, arc_item, item_normal, dir_of, same-plus, same-minus, normal-direction, at-arc, is-at_one, arc-at, dir-at, turn-same, Vertex, Edge, Complex, Corner, HasEnds, IsCorner, Shows, Cut, PlaneMeet, meets_edge, Meets, IsFirstInPlane, IsArcOnSide, IsCornerAt, RayNames, between-way, between-ends, two-off, meets-on, FacetLink, level-of_opposite, SameDirection-turned, dir-self, direction-opposite, direction-right, right-turn, back-triple}
use Rattle.nef_space.proofs.Chains.{chain-here, chain-before}
use Rattle.nef_conn.proofs.OneNamed.{one-met, one-corner}
use Rattle.nef_conn.proofs.Sector.{Seen, sector_end, Stops}
use Rattle.nef_conn.proofs.Leads.{LeadsFrom, edge-point, edge-lies_in, link-of}
use Rattle.nef_conn.proofs.FacetStrip.{Strip, m-some, beyond, angle-over}
use Rattle.nef_conn.proofs.AlongEdge.{opposite-normal}
use Rattle.nef_conn.proofs.Beside.{turn-to, far, edge-of, on-other, meets-far, on-x, way-x, ahead-x, Beside, off-edges, fan-beside}

module _ (s : Set) (C : Complex) (S : Shows s C) (h g : Form) (d : Vector) (y z : SpacePoint) (T : Strip s C h g d y z) where
  abbrev n : Vector
  n = normal_of h

  abbrev m : Vector
  m = normal_of g

  abbrev Is_beside : Corner → Type 0
  Is_beside k = Beside s C S h g d y z T k

  some-m : IsDirection m
  some-m = m-some s C S h g d y z T

  level-opposite : dot n (opposite d) ≡ pos 0
  level-opposite = level-of_opposite n d T.level

  -- what the ray from z first meets
  pub first-on : (x : SpacePoint) (q : PlaneMeet) → SameDirection (toward z x) d → Meets C h q x → ((r : SpacePoint) → IsBetween z r x → FlatDim s r 2) → IsFirstInPlane C h z d q
  first-on x q w e all = record { place = x; ahead = w; meets = e; first = λ r p b o. two-off s C S r (all r b) (meets-on s C S h p r o) }

  module _ (k : Corner) (N : Is_beside k) where
    abbrev v : Vertex
    v = N.vertex

    abbrev w : SpacePoint
    w = v.point

    abbrev Ends_before : Type 0
    Ends_before = Stops v.map N.item n m (toward w z) d T.seen

    -- ---- where it is an arc that ends before: z's ray comes to its edge
    module _ (E : Ends_before) (right : pos 0 <ℤ triple m E.svertex.dir d) where
      abbrev a : ℕ
      a = sector_end n m T.seen E.arc

      abbrev u : Vector
      u = E.svertex.dir

      abbrev L : LeadsFrom s C k.vertex a v E.svertex
      L = edge-of s C S h g d y z T k.vertex a v E.svertex N.corner.vertex E.end N.on_plane N.on_line E.level right

      abbrev X : Cut (far s C S h g d y z T) w L.other.point
      X = meets-far s C S h g d y z T k.vertex a v E.svertex N.corner.vertex E.end N.on_plane N.on_line E.level right

      abbrev x : SpacePoint
      x = X.place

      up : SameDirection (toward z x) d
      up = ahead-x s C S h g d y z T k.vertex a v E.svertex N.corner.vertex E.end N.on_plane N.on_line E.level right E.left

      to-x : SameDirection (toward w x) u
      to-x = way-x s C S h g d y z T k.vertex a v E.svertex N.corner.vertex E.end N.on_plane N.on_line E.level right

      there-on : form_at h L.other.point ≡ pos 0
      there-on = on-other s C S h g d y z T k.vertex a v E.svertex N.corner.vertex E.end N.on_plane N.on_line E.level right

      x-on : form_at h x ≡ pos 0
      x-on = on-x s C S h g d y z T k.vertex a v E.svertex N.corner.vertex E.end N.on_plane N.on_line E.level right

      part : (r : SpacePoint) → IsBetween w r x → FlatDim s r 1 × Flat s r (toward w x)
      part r b =
          let P = L.along r (between-inner w x L.other.point r X.between b) in
          (P.0, span-1 s r (toward w L.other.point) (toward w x) (between-ends w x L.other.point X.between) P.1 (let q = SameDirection-turned (toward w x) (toward w L.other.point) (between-way w x L.other.point X.between) in q.parallel))

      reach : (r : SpacePoint) → IsBetween z r x → FlatDim s r 2
      reach = fan-beside s C S h g d y z T k N x x-on (let l = beyond s C S h g d y z T x (let e = X.level in omega (arith, ints)) in omega (arith, ints)) (let e = X.level in omega (arith, ints)) (angle-over s C S h g d y z T w x N.on_line up)
          (inr (off-edges s C S h g d y z T k N, part)) (λ e i q p r. E.between e i q p (turn-to m e (toward w x) u to-x r))

      edge-met : IsFirstInPlane C h z d (meets_edge L.number)
      edge-met = first-on x (meets_edge L.number) up (edge-point s C k.vertex a v E.svertex L x X.between, edge-lies_in s C k.vertex a v E.svertex L h N.on_plane there-on) reach

      u-some : IsDirection u
      u-some = direction-right (toward w x) u to-x

      corner-here : IsCorner C k v (arc_item E.arc)
      corner-here = subst (λ (r : Item). IsCorner C k v r) E.is_arc N.corner

      same-here : SameDirection E.arc.normal n
      same-here = subst (λ (r : Item). SameDirection (item_normal r) n) E.is_arc N.same

      -- seen from the normal
      turn-n : SameDirection n m → pos 0 <ℤ triple n u d
      turn-n q = same-plus (triple m u d) (triple n u d) (turn-same m n u u d d (SameDirection-turned n m q) (dir-self u u-some) (dir-self d T.some)) right

      turn-opposite : SameDirection (opposite n) m → triple n u d <ℤ pos 0
      turn-opposite q =
          let h = same-plus (triple m u d) (triple (opposite n) u d) (turn-same m (opposite n) u u d d (SameDirection-turned (opposite n) m q) (dir-self u u-some) (dir-self d T.some)) right in
          let e = opposite-normal n u d in omega (arith, ints)

      -- the arc lies on the side of its edge to which the way back leads
      arc-side : (O : Seen n m) → dir_of v.map.svertices (sector_end n m O E.arc) ≡ u → IsArcOnSide v (sector_end n m O E.arc) n (opposite d) E.arc
      arc-side (inl q) e = inr (refl, subst (λ (r : Vector). triple n r (opposite d) <ℤ pos 0) (sym e) (let f = right-turn n u d in let l = turn-n q in omega (arith, ints)))
      arc-side (inr q) e = inl (refl, subst (λ (r : Vector). pos 0 <ℤ triple n r (opposite d)) (sym e) (let f = right-turn n u d in let l = turn-opposite q in omega (arith, ints)))

      -- and seen from the other end of the edge an arc on that side begins where this one ends
      there-sign : sign (triple n (dir_of L.other.map.svertices L.there_end) (opposite d)) ≡ sign (triple n u d)
      there-sign =
          let e = dir-at L.other.map.svertices L.there_end L.end L.is_end in
          let f = back-triple n u (opposite d) in
          let r = right-turn n u d in
          let i : IsDirection n = normal-direction n T.normal in
          let o = direction-opposite d T.some in
          ap (λ (r : Vector). sign (triple n r (opposite d))) e ∙ turn-same n n (opposite u) L.end.dir (opposite d) (opposite d) (dir-self n i) L.back (dir-self (opposite d) o)
          ∙ ap sign (plain (triple n (opposite u) (opposite d)) (triple n u (opposite d)) (triple n u d) f r)
        where
          plain : (x y z : ℤ) → x ≡ neg_ℤ y → y ≡ neg_ℤ z → x ≡ z
          plain x y z e f = omega (arith, ints)

      other-end : (O : Seen n m) (b : Arc) → IsArcOnSide L.other L.there_end n (opposite d) b → ((E.arc.target ≡ sector_end n m O E.arc) × (b.source ≡ L.there_end)) ⊎ ((E.arc.source ≡ sector_end n m O E.arc) × (b.target ≡ L.there_end))
      other-end (inl q) b (inl z) = inl (refl, z.0)
      other-end (inl q) b (inr z) = absurd (let l = same-minus (triple n (dir_of L.other.map.svertices L.there_end) (opposite d)) (triple n u d) (sym there-sign) z.1 in let r = turn-n q in omega (arith, ints))
      other-end (inr q) b (inl z) = absurd (let l = same-plus (triple n (dir_of L.other.map.svertices L.there_end) (opposite d)) (triple n u d) (sym there-sign) z.1 in let r = turn-opposite q in omega (arith, ints))
      other-end (inr q) b (inr z) = inr (refl, z.0)

      -- so the corner that the ray names there is this one, or linked with it along the edge
      met-named : (l : Corner) → IsCornerAt C h (opposite d) (meets_edge L.number) l → Chained (FacetLink C) k l
      met-named l (e, f, b, at-e, is, at-f, at-b, nb, side) = by L.which
        where
          one : e ≡ L.edge
          one = is-at_one C.edges L.number e L.edge at-e L.listed

          by : ((L.edge.low ≡ k.vertex) × (L.edge.low_svertex ≡ a) × (L.edge.high ≡ L.there) × (L.edge.high_svertex ≡ L.there_end) × HasEnds C L.edge v L.other)
              ⊎ ((L.edge.high ≡ k.vertex) × (L.edge.high_svertex ≡ a) × (L.edge.low ≡ L.there) × (L.edge.low_svertex ≡ L.there_end) × HasEnds C L.edge L.other v) → Chained (FacetLink C) k l
          by (inl (p, q, r, t, H)) =
              let here : IsCornerAt C h (opposite d) (meets_edge L.number) k = (
                L.edge,
                v,
                E.arc,
                L.listed,
                sym p,
                H.low,
                arc-at v.map.arcs v.map.sloop k.item E.arc corner-here.item,
                same-here,
                subst (λ (j : ℕ). IsArcOnSide v j n (opposite d) E.arc) (sym q) (arc-side T.seen (dir-at v.map.svertices a E.svertex E.end)),
              ) in
              subst (λ (j : Corner). Chained (FacetLink C) k j) (one-corner s C S h (opposite d) (direction-opposite d T.some) level-opposite k l (meets_edge L.number) here (e, f, b, at-e, is, at-f, at-b, nb, side)) (chain-here (FacetLink C) k)
          by (inr (p, q, r, t, H)) =
              let low = ap (λ (j : Edge). j.low) one in
              let other = is-at_one C.vertices L.edge.low f L.other (subst (λ (j : ℕ). IsAt C.vertices j f) low at-f) H.low in
              let there = is ∙ low ∙ r in
              let on-side = subst (λ (j : ℕ). IsArcOnSide L.other j n (opposite d) b) (ap (λ (j : Edge). j.low_svertex) one ∙ t) (subst (λ (x : Vertex). IsArcOnSide x e.low_svertex n (opposite d) b) other side) in
              let K : IsCorner C l L.other (arc_item b) = record {
                vertex = subst (λ (j : ℕ). IsAt C.vertices j L.other) (sym there) L.is_there;
                item = at-arc L.other.map.arcs L.other.map.sloop l.item b (subst (λ (x : Vertex). IsAt x.map.arcs l.item b) other at-b);
              } in
              chain-before (FacetLink C) k l l (link-of s C k.vertex a v E.svertex L n k l E.arc b refl there corner-here K same-here nb (other-end T.seen b on-side)) (chain-here (FacetLink C) l)

      pub over-edge : (l : Corner) → RayNames C h z d l → Chained (FacetLink C) k l
      over-edge l (q, J, c) = met-named l (one-met s C S h (opposite d) l z d (meets_edge L.number) q edge-met J c)
