-- The facet beside each item has a point that names a corner of its class: by the cases of the way inward, and by induction on the vertices ahead of it.
use Rattle.nef_conn.proofs.Prelude.{◌≡◌, ℕ, ◌<◌, ◌≤◌, ◌+◌, suc, zero, pos, ◌<ℤ◌, length, arith, refl, sym, ◌∙◌, ◌⊎◌, inl, inr, ⊎_elim, subst, ints, form_at, toward, IsPointBelow, Set, Vector, opposite, dot, triple, IsDirection, IsNormal, SameDirection, plane_dir, Decided, IsAt, MapVertex, Arc, arc_item, sloop_item, dir_of, OnItem, normal-is, OnItem-decided, SameDirection-decided, dir-at, arc-at, normals-not_opposite, at-arc, Ends, ends-of, Vertex, Edge, Complex, Corner, HasEnds, IsCorner, Shows, item_plane, svertex-edge, through-at, ahead-back, FacetLink, EndsOnSide, end-level, corner_of_numbers, EndsAt, way_inward, ItemsName, level-of_opposite, triple-turned, SameDirection-turned, SameDirection-trans, opposite-same, level-way, opposite-twice, from-opposite, right-turn}
use Rattle.nef_conn.proofs.Onward.{EdgeAway, from-low, from-high, arc-there, goes-on, link-up, link-down}
use Rattle.nef_conn.proofs.WayInward.{dir-level, dir-some, dir-same}
use Rattle.nef_conn.proofs.Named.{ReachesItem, carried, onward-named, edge-named, side-same}
use Rattle.nef_conn.proofs.Faces.{leads-away}
use Rattle.nef_space.proofs.Lists.{is-at_within}
use Rattle.law_geometry.proofs.near.Normals.{toward-normal}

-- the far end of an edge at which an arc ends lies in the arc's plane
far-on : (s : Set) (C : Complex) (S : Shows s C) (i a : ℕ) (v : Vertex) (j b : ℕ) (w : Vertex) (V : EdgeAway s C i a v j b w) (k : Corner) (c : Arc) (K : IsCorner C k v (arc_item c)) → EndsAt c a
    → form_at (item_plane v (arc_item c)) w.point ≡ pos 0
far-on s C S i a v j b w V k c K o =
    through-at c.normal v.point w.point ∙ level-way c.normal V.start.dir (toward v.point w.point) (SameDirection-turned (toward v.point w.point) V.start.dir V.onward) (end-level s C S k v c K a V.start V.is_start o)

-- a linked arc of the same plane, at a vertex ahead the way inward
pub record StepOn (C : Complex) (j : Corner) (v : Vertex) (c : Arc) : Type 0 where
  pub corner : Corner
  pub vertex : Vertex
  pub arc : Arc
  pub is_corner : IsCorner C corner vertex (arc_item arc)
  pub link : FacetLink C j corner ⊎ FacetLink C corner j
  pub same : SameDirection arc.normal c.normal
  pub on_plane : form_at (item_plane v (arc_item c)) vertex.point ≡ pos 0
  pub ahead : SameDirection (toward v.point vertex.point) (way_inward (arc_item c))
  pub order : ((j.vertex < corner.vertex) × IsPointBelow v.point vertex.point) ⊎ ((corner.vertex < j.vertex) × IsPointBelow vertex.point v.point)

module _ (s : Set) (C : Complex) (S : Shows s C) (j : Corner) (v : Vertex) (c : Arc) (K : IsCorner C j v (arc_item c)) where
  abbrev d : Vector
  d = way_inward (arc_item c)

  abbrev f : Vector
  f = opposite d

  listed : IsAt v.map.arcs j.item c
  listed = arc-at v.map.arcs v.map.sloop j.item c K.item

  n-some : IsDirection c.normal
  n-some = normal-is (S.cones j.vertex v K.vertex).valid.shaped j.item (arc_item c) K.item

  level-f : dot c.normal f ≡ pos 0
  level-f = subst (λ (r : Vector). dot c.normal r ≡ pos 0) (sym (opposite-twice (plane_dir c.normal))) (dir-level c.normal)

  f-some : IsDirection f
  f-some = subst IsDirection (sym (opposite-twice (plane_dir c.normal))) (dir-some c.normal n-some)

  level-d : dot c.normal d ≡ pos 0
  level-d = level-of_opposite c.normal (plane_dir c.normal) (dir-level c.normal)

  d-some : IsDirection d
  d-some z = dir-some c.normal n-some (let x = z.0 in omega (arith, ints), let y = z.1 in omega (arith, ints), let w = z.2 in omega (arith, ints))

  -- ---- at a svertex on whose side the way back leads
  module _ (a : ℕ) (u : MapVertex) (is-u : IsAt v.map.svertices a u) (side : EndsOnSide a (dir_of v.map.svertices a) f c) where
    faced : ReachesItem s C j v (arc_item c)
    faced = by (svertex-edge s C S j.vertex a v u K.vertex is-u)
      where
        low-end : (n : ℕ) (e : Edge) → IsAt C.edges n e → e.low ≡ j.vertex → e.low_svertex ≡ a → ReachesItem s C j v (arc_item c)
        low-end n e at-n low sv =
            let E = S.edges.edges n e at-n in
            let H : HasEnds C e v E.high_vertex = record { low = subst (λ (i : ℕ). IsAt C.vertices i v) (sym low) K.vertex; high = E.is_high } in
            let V = from-low s C S n e at-n v E.high_vertex H in
            let there = subst (λ (i : ℕ). EndsOnSide i (dir_of v.map.svertices i) f c) (sym sv) side in
            edge-named s C S n e at-n v E.high_vertex H j c K (sym low) (subst (λ (t : Vector). EndsOnSide e.low_svertex t f c) (dir-at v.map.svertices e.low_svertex V.start V.is_start) there)

        high-end : (n : ℕ) (e : Edge) → IsAt C.edges n e → e.high ≡ j.vertex → e.high_svertex ≡ a → ReachesItem s C j v (arc_item c)
        high-end n e at-n high sv =
            let E = S.edges.edges n e at-n in
            let w = E.low_vertex in
            let H : HasEnds C e w v = record { low = E.is_low; high = subst (λ (i : ℕ). IsAt C.vertices i v) (sym high) K.vertex } in
            let V = from-high s C S n e at-n w v H in
            let there = subst (λ (i : ℕ). EndsOnSide i (dir_of v.map.svertices i) f c) (sym sv) side in
            let here = subst (λ (t : Vector). EndsOnSide e.high_svertex t f c) (dir-at v.map.svertices e.high_svertex V.start V.is_start) there in
            let A = arc-there s C S e.high e.high_svertex v e.low e.low_svertex w V j.item c listed f level-f f-some here in
            let k = corner_of_numbers e.low A.number in
            let L : IsCorner C k w (arc_item A.arc) = record { vertex = E.is_low; item = at-arc w.map.arcs w.map.sloop A.number A.arc A.listed } in
            let same = SameDirection-turned c.normal A.arc.normal A.one_normal in
            let turned = opposite-same d (way_inward (arc_item A.arc)) (opposite-same (plane_dir c.normal) (plane_dir A.arc.normal) (dir-same c.normal A.arc.normal A.one_normal)) in
            carried s C S j v (arc_item c) K k w (arc_item A.arc) L (inr (inl (link-down s C S n e at-n w v H j c f (sym high) listed A))) same
            (far-on s C S e.high e.high_svertex v e.low e.low_svertex w V j c K (⊎_elim (λ r. inl r.0) (λ r. inr r.0) here))
            (edge-named s C S n e at-n w v H k A.arc L refl (side-same e.low_svertex V.end.dir f (opposite (way_inward (arc_item A.arc))) A.arc turned A.side))

        by : ((n : ℕ) × (e : Edge) × IsAt C.edges n e × (((e.low ≡ j.vertex) × (e.low_svertex ≡ a)) ⊎ ((e.high ≡ j.vertex) × (e.high_svertex ≡ a)))) → ReachesItem s C j v (arc_item c)
        by (n, e, at-n, inl x) = low-end n e at-n x.0 x.1
        by (n, e, at-n, inr x) = high-end n e at-n x.0 x.1

  -- ---- along an edge that leads the way inward
  module _ (a : ℕ) (u : MapVertex) (is-u : IsAt v.map.svertices a u) (o : EndsAt c a) (w : SameDirection (dir_of v.map.svertices a) d) where
    step-on : StepOn C j v c
    step-on = by-edge (svertex-edge s C S j.vertex a v u K.vertex is-u)
      where
        low-end : (n : ℕ) (e : Edge) → IsAt C.edges n e → e.low ≡ j.vertex → e.low_svertex ≡ a → StepOn C j v c
        low-end n e at-n low sv =
            let E = S.edges.edges n e at-n in
            let H : HasEnds C e v E.high_vertex = record { low = subst (λ (i : ℕ). IsAt C.vertices i v) (sym low) K.vertex; high = E.is_high } in
            let V = from-low s C S n e at-n v E.high_vertex H in
            let ends = subst (λ (i : ℕ). EndsAt c i) (sym sv) o in
            let way = subst (λ (t : Vector). SameDirection t d) (dir-at v.map.svertices e.low_svertex V.start V.is_start) (subst (λ (i : ℕ). SameDirection (dir_of v.map.svertices i) d) (sym sv) w) in
            let A = goes-on s C S e.low e.low_svertex v e.high e.high_svertex E.high_vertex V j.item c listed ends in
            record {
              corner = corner_of_numbers e.high A.1.number;
              vertex = E.high_vertex;
              arc = A.1.arc;
              is_corner = record { vertex = E.is_high; item = at-arc E.high_vertex.map.arcs E.high_vertex.map.sloop A.1.number A.1.arc A.1.listed };
              link = inl (inl (link-up s C S n e at-n v E.high_vertex H j c A.0 (sym low) listed A.1));
              same = SameDirection-turned c.normal A.1.arc.normal A.1.one_normal;
              on_plane = far-on s C S e.low e.low_svertex v e.high e.high_svertex E.high_vertex V j c K ends;
              ahead = SameDirection-trans (toward v.point E.high_vertex.point) V.start.dir d V.onward way;
              order = inl (subst (λ (i : ℕ). i < e.high) low E.upward, S.ordered e.low e.high v E.high_vertex E.upward H.low H.high);
            }

        high-end : (n : ℕ) (e : Edge) → IsAt C.edges n e → e.high ≡ j.vertex → e.high_svertex ≡ a → StepOn C j v c
        high-end n e at-n high sv =
            let E = S.edges.edges n e at-n in
            let x = E.low_vertex in
            let H : HasEnds C e x v = record { low = E.is_low; high = subst (λ (i : ℕ). IsAt C.vertices i v) (sym high) K.vertex } in
            let V = from-high s C S n e at-n x v H in
            let ends = subst (λ (i : ℕ). EndsAt c i) (sym sv) o in
            let way = subst (λ (t : Vector). SameDirection t d) (dir-at v.map.svertices e.high_svertex V.start V.is_start) (subst (λ (i : ℕ). SameDirection (dir_of v.map.svertices i) d) (sym sv) w) in
            let A = goes-on s C S e.high e.high_svertex v e.low e.low_svertex x V j.item c listed ends in
            record {
              corner = corner_of_numbers e.low A.1.number;
              vertex = x;
              arc = A.1.arc;
              is_corner = record { vertex = E.is_low; item = at-arc x.map.arcs x.map.sloop A.1.number A.1.arc A.1.listed };
              link = inr (inl (link-down s C S n e at-n x v H j c A.0 (sym high) listed A.1));
              same = SameDirection-turned c.normal A.1.arc.normal A.1.one_normal;
              on_plane = far-on s C S e.high e.high_svertex v e.low e.low_svertex x V j c K ends;
              ahead = SameDirection-trans (toward v.point x.point) V.start.dir d V.onward way;
              order = inr (subst (λ (i : ℕ). e.low < i) high E.upward, S.ordered e.low e.high x v E.upward H.low H.high);
            }

        by-edge : ((n : ℕ) × (e : Edge) × IsAt C.edges n e × (((e.low ≡ j.vertex) × (e.low_svertex ≡ a)) ⊎ ((e.high ≡ j.vertex) × (e.high_svertex ≡ a)))) → StepOn C j v c
        by-edge (n, e, at-n, inl x) = low-end n e at-n x.0 x.1
        by-edge (n, e, at-n, inr x) = high-end n e at-n x.0 x.1

  -- ---- the three cases
  ends : Ends v.map c
  ends = ends-of v.map (S.cones j.vertex v K.vertex).valid.shaped j.item c listed

  abbrev from : Vector
  from = dir_of v.map.svertices c.source

  abbrev to : Vector
  to = dir_of v.map.svertices c.target

  pub three-ways : ReachesItem s C j v (arc_item c) ⊎ StepOn C j v c
  three-ways = by (SameDirection-decided from d) (SameDirection-decided to d) (OnItem-decided v.map (arc_item c) d)
    where
      off : (triple c.normal from d <ℤ pos 0) ⊎ (triple c.normal d to <ℤ pos 0) → ReachesItem s C j v (arc_item c)
      off (inl h) = faced c.source ends.source ends.has_source (inl (refl, let r = right-turn c.normal from d in omega (arith, ints)))
      off (inr h) = faced c.target ends.target ends.has_target (inr (refl, let r = right-turn c.normal to d in let t = triple-turned c.normal to d in omega (arith, ints)))

      by : Decided (SameDirection from d) → Decided (SameDirection to d) → Decided (OnItem v.map (arc_item c) d) → ReachesItem s C j v (arc_item c) ⊎ StepOn C j v c
      by (inl w) _ _ = inr (step-on c.source ends.source ends.has_source (inl refl) w)
      by (inr _) (inl w) _ = inr (step-on c.target ends.target ends.has_target (inr refl) w)
      by (inr _) (inr _) (inl o) = inl (onward-named s C S j v (arc_item c) K o)
      by (inr f) (inr g) (inr h) = inl (off (leads-away c.normal from to d n-some ends.source_direction ends.target_direction d-some ends.source_level ends.target_level level-d f g h))

-- ---- the steps end

-- the direction, or its opposite, is the same as one in normal form
abbrev pub Rises : Vector → Type 0
Rises d = (a : Vector) × IsNormal a × SameDirection a d

pub never-both : (d : Vector) → Rises d → Rises (opposite d) → ⊥
never-both d (a, N, w) (b, M, u) = normals-not_opposite a b N M (from-opposite a b (SameDirection-trans (opposite a) (opposite d) b (opposite-same a d w) (SameDirection-turned b (opposite d) u)))

module _ (s : Set) (C : Complex) (S : Shows s C) where
  module _ (j : Corner) (v : Vertex) (c : Arc) (K : IsCorner C j v (arc_item c)) (T : StepOn C j v c) where
    abbrev there : Arc
    there = T.arc

    way-there : SameDirection (way_inward (arc_item c)) (way_inward (arc_item there))
    way-there = opposite-same (plane_dir c.normal) (plane_dir there.normal) (dir-same c.normal there.normal (SameDirection-turned there.normal c.normal T.same))

    back-here : ReachesItem s C T.corner T.vertex (arc_item there) → ReachesItem s C j v (arc_item c)
    back-here = carried s C S j v (arc_item c) K T.corner T.vertex (arc_item there) T.is_corner T.link T.same T.on_plane

    rises-there : Rises (way_inward (arc_item c)) → Rises (way_inward (arc_item there))
    rises-there (a, N, w) = (a, N, SameDirection-trans a (way_inward (arc_item c)) (way_inward (arc_item there)) w way-there)

    falls-there : Rises (opposite (way_inward (arc_item c))) → Rises (opposite (way_inward (arc_item there)))
    falls-there (a, N, w) = (a, N, SameDirection-trans a (opposite (way_inward (arc_item c))) (opposite (way_inward (arc_item there))) w (opposite-same (way_inward (arc_item c)) (way_inward (arc_item there)) way-there))

    upward : IsPointBelow v.point T.vertex.point → Rises (way_inward (arc_item c))
    upward b = (toward v.point T.vertex.point, toward-normal v.point T.vertex.point b, T.ahead)

    downward : IsPointBelow T.vertex.point v.point → Rises (opposite (way_inward (arc_item c)))
    downward b = (toward T.vertex.point v.point, toward-normal T.vertex.point v.point b, ahead-back v.point T.vertex.point (way_inward (arc_item c)) T.ahead)

  climb : (m : ℕ) (j : Corner) (v : Vertex) (c : Arc) → IsCorner C j v (arc_item c) → Rises (way_inward (arc_item c)) → length C.vertices ≤ j.vertex + m → ReachesItem s C j v (arc_item c)
  climb zero j v c K U l = absurd (omega (arith, is-at_within C.vertices j.vertex v K.vertex))
  climb (suc m) j v c K U l = ⊎_elim (λ r. r)
      (λ (T : StepOn C j v c). ⊎_elim
      (λ o. let h = o.0 in back-here j v c K T (climb m T.corner T.vertex T.arc T.is_corner (rises-there j v c K T U) (omega arith)))
      (λ o. absurd (never-both (way_inward (arc_item c)) U (downward j v c K T o.1))) T.order) (three-ways s C S j v c K)

  descend : (m : ℕ) (j : Corner) (v : Vertex) (c : Arc) → IsCorner C j v (arc_item c) → Rises (opposite (way_inward (arc_item c))) → j.vertex < m → ReachesItem s C j v (arc_item c)
  descend zero j v c K U l = absurd (omega arith)
  descend (suc m) j v c K U l = ⊎_elim (λ r. r)
      (λ (T : StepOn C j v c). ⊎_elim
      (λ o. absurd (never-both (way_inward (arc_item c)) (upward j v c K T o.1) U))
      (λ o. let h = o.0 in back-here j v c K T (descend m T.corner T.vertex T.arc T.is_corner (falls-there j v c K T U) (omega arith))) T.order) (three-ways s C S j v c K)

  arc-reaches : (j : Corner) (v : Vertex) (c : Arc) → IsCorner C j v (arc_item c) → ReachesItem s C j v (arc_item c)
  arc-reaches j v c K = by (three-ways s C S j v c K)
    where
      by : ReachesItem s C j v (arc_item c) ⊎ StepOn C j v c → ReachesItem s C j v (arc_item c)
      by (inl r) = r
      by (inr T) = ⊎_elim
          (λ o. climb (length C.vertices) j v c K (upward j v c K T o.1) (omega arith))
          (λ o. descend (suc j.vertex) j v c K (downward j v c K T o.1) (omega arith)) T.order

pub items-name : ItemsName
items-name s C j v (arc_item c) S K = arc-reaches s C S j v c K
items-name s C j v (sloop_item l) S K =
    let i = normal-is (S.cones j.vertex v K.vertex).valid.shaped j.item (sloop_item l) K.item in
    onward-named s C S j v (sloop_item l) K (record {
      direction = λ z. dir-some l.normal i (let x = z.0 in omega (arith, ints), let y = z.1 in omega (arith, ints), let w = z.2 in omega (arith, ints));
      level = level-of_opposite l.normal (plane_dir l.normal) (dir-level l.normal);
    })
