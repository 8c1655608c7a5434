-- A complex has its parts in one way alone, where each corner has one next corner.
use Rattle.nef_statement.proofs.text.Prelude.{◌≡◌, ℕ, zero, suc, ◌<◌, ◌≤◌, ⊎_elim, List, length, map, arith, refl, sym, ◌∙◌, ap, subst, IsInTable, normal_of, Label, form_of, Item, items, item_normal, sides_of, is-at_within, is-at_some, side-has, Vertex, Complex, Corner, IsCorner, VertexSide, HasSideLabel, corner_of, FacetLink, VolumeLink, IsCornerBelow, Cycles, IsSideNumber, count_items, count_sides, IsFacetOf, IsVolumeOf, IsSideBelow, pos_of, neg_of, IsFacet, IsParts, cycle_corners, shell_sides, Shells, Cycle, Facet, Parts, Shell, map-one, cross-turned, parallel-both, direction-right}
use Rattle.nef_complex.specs.declared.complex.Corner.{Corner as CornerValue}
use Rattle.nef_complex.proofs.SamePlanes.{parallel-equal}
use Rattle.nef_statement.proofs.text.Numbering.{IsEarlier, numbers-one}
use Rattle.nef_statement.proofs.text.Rows.{list-one, rows-one, rows-both, table-one}
use Rattle.nef_statement.proofs.text.OneCycles.{HasOneNext, cycles-one}
use Rattle.nef_statement.proofs.text.OneShells.{sfaces-one, shells-one}
use Rattle.nef_volumes.proofs.RowNumbers.{side-number_one}

-- ---- values
corner-one : (j k : CornerValue) → corner_of j ≡ corner_of k → j ≡ k
corner-one j k e = ap (λ (r : Corner). record { vertex = r.vertex; item = r.item }) e

cycle-one : (x y : Cycle) → map corner_of x.corners ≡ map corner_of y.corners → x ≡ y
cycle-one x y e = ap (λ (r : List CornerValue). record { corners = r }) (map-one corner_of corner-one x.corners y.corners e)

facet-equal : (f g : Facet) → f.plane ≡ g.plane → f.mark ≡ g.mark → f.pos ≡ g.pos → f.neg ≡ g.neg → f.cycles ≡ g.cycles → f ≡ g
facet-equal f g a b c d e =
    ap (λ r. record { plane = r; mark = f.mark; pos = f.pos; neg = f.neg; cycles = f.cycles }) a
    ∙ ap (λ r. record { plane = g.plane; mark = r; pos = f.pos; neg = f.neg; cycles = f.cycles }) b
    ∙ ap (λ r. record { plane = g.plane; mark = g.mark; pos = r; neg = f.neg; cycles = f.cycles }) c
    ∙ ap (λ r. record { plane = g.plane; mark = g.mark; pos = g.pos; neg = r; cycles = f.cycles }) d
    ∙ ap (λ r. record { plane = g.plane; mark = g.mark; pos = g.pos; neg = g.neg; cycles = r }) e

parts-equal : (p q : Parts) → p.facets ≡ q.facets → p.volumes ≡ q.volumes → p.facet_of ≡ q.facet_of → p.volume_of ≡ q.volume_of → p.sface_of ≡ q.sface_of → p.shells ≡ q.shells → p ≡ q
parts-equal p q a b c d e f =
    ap (λ r. record { facets = r; volumes = p.volumes; facet_of = p.facet_of; volume_of = p.volume_of; sface_of = p.sface_of; shells = p.shells }) a
    ∙ ap (λ r. record { facets = q.facets; volumes = r; facet_of = p.facet_of; volume_of = p.volume_of; sface_of = p.sface_of; shells = p.shells }) b
    ∙ ap (λ r. record { facets = q.facets; volumes = q.volumes; facet_of = r; volume_of = p.volume_of; sface_of = p.sface_of; shells = p.shells }) c
    ∙ ap (λ r. record { facets = q.facets; volumes = q.volumes; facet_of = q.facet_of; volume_of = r; sface_of = p.sface_of; shells = p.shells }) d
    ∙ ap (λ r. record { facets = q.facets; volumes = q.volumes; facet_of = q.facet_of; volume_of = q.volume_of; sface_of = r; shells = p.shells }) e
    ∙ ap (λ r. record { facets = q.facets; volumes = q.volumes; facet_of = q.facet_of; volume_of = q.volume_of; sface_of = q.sface_of; shells = r }) f

shell-equal : (g h : Shell) → g.sides ≡ h.sides → g ≡ h
shell-equal g h e = ap (λ r. record { sides = r }) e

no-more : (a b : ℕ) → ((n : ℕ) → n < a → n < b) → a ≤ b
no-more zero b h = omega arith
no-more (suc a) b h = let g = h a (omega arith) in omega arith

pub as-many : (a b : ℕ) → ((n : ℕ) → n < a → n < b) → ((n : ℕ) → n < b → n < a) → a ≡ b
as-many a b h g = let i = no-more a b h in let k = no-more b a g in omega arith

module _ (C : Complex) where
  volume-one : (rows : List (List ℕ)) (x : VertexSide) (m n : ℕ) → IsVolumeOf C rows x m → IsVolumeOf C rows x n → m ≡ n
  volume-one rows x m n (i, a, f) (k, b, g) = table-one rows x.vertex i m n f (subst (λ (j : ℕ). IsInTable rows x.vertex j n) (side-number_one C x k i b a) g)

  pub has-label : (x : VertexSide) (i : ℕ) → IsSideNumber C x i → (l : Label) × HasSideLabel C x l
  has-label x i a = (a.label, (a.vertex, a.is_vertex, side-has a.vertex.map i x.side a.label a.is_side))

module _ (C : Complex) (one : HasOneNext C) (p q : Parts) (P : IsParts C p) (Q : IsParts C q) where
  -- ---- the numbers of facets
  abbrev CornerPlace : Corner → ℕ → ℕ → Type 0
  CornerPlace x i k = (x.vertex ≡ i) × (x.item ≡ k)

  corner-before : (x y : Corner) (i k : ℕ) → IsCornerBelow y x → CornerPlace x i k → (j : ℕ) × (l : ℕ) × CornerPlace y j l × IsEarlier j l i k
  corner-before x y i k b (e, f) = (y.vertex, y.item, (refl, refl), subst (λ (r : ℕ). IsEarlier y.vertex y.item r k) e (subst (λ (r : ℕ). IsEarlier y.vertex y.item x.vertex r) f b))

  facet-numbers : p.facet_of ≡ q.facet_of
  facet-numbers = rows-one C count_items p.facet_of q.facet_of P.facet_numbers.shape Q.facet_numbers.shape
      (λ i k m n a b. numbers-one (FacetLink C) IsCornerBelow 0 (IsFacetOf p.facet_of) (IsFacetOf q.facet_of) CornerPlace corner-before P.facet_numbers.numbered Q.facet_numbers.numbered
      (λ x n h. rows-both C count_items p.facet_of q.facet_of P.facet_numbers.shape Q.facet_numbers.shape x.vertex x.item n h)
      (λ x n h. rows-both C count_items q.facet_of p.facet_of Q.facet_numbers.shape P.facet_numbers.shape x.vertex x.item n h)
      (λ x m n f g h. ⊎_elim (λ r. absurd (omega arith)) (λ r. absurd (omega arith)) h) i k (record { vertex = i; item = k }) m n (refl, refl) a b)

  -- ---- the numbers of volumes
  abbrev SidePlace : VertexSide → ℕ → ℕ → Type 0
  SidePlace x i k = (x.vertex ≡ i) × IsSideNumber C x k

  side-before : (x y : VertexSide) (i k : ℕ) → IsSideBelow C y x → SidePlace x i k → (j : ℕ) × (l : ℕ) × SidePlace y j l × IsEarlier j l i k
  side-before x y i k (l, m, a, b, h) (e, f) =
      (y.vertex, l, (refl, a), subst (λ (r : ℕ). IsEarlier y.vertex l r k) e (subst (λ (r : ℕ). IsEarlier y.vertex l x.vertex r) (side-number_one C x m k b f) h))

  outside-same : (r s : Parts) → IsParts C r → IsParts C s → (x : VertexSide) (m n : ℕ) → IsVolumeOf C r.volume_of x m → IsVolumeOf C s.volume_of x n → m < 1 → m ≡ n
  outside-same r s R S x m n a b h =
      let l = has-label C x (a.0) (a.1) in
      let z : m ≡ 0 = omega arith in
      z ∙ sym ((S.volume_numbers.outside x n (l.0) b (l.1)).1 ((R.volume_numbers.outside x m (l.0) a (l.1)).0 z))

  volume-there : (r s : Parts) → IsParts C r → IsParts C s → (x : VertexSide) (n : ℕ) → IsVolumeOf C r.volume_of x n → (m : ℕ) × IsVolumeOf C s.volume_of x m
  volume-there r s R S x n (j, a, f) = let g = rows-both C count_sides r.volume_of s.volume_of R.volume_numbers.shape S.volume_numbers.shape x.vertex j n f in (g.0, (j, a, g.1))

  -- the side with this number
  side-at : (i k m : ℕ) → IsInTable p.volume_of i k m → (x : VertexSide) × (x.vertex ≡ i) × IsSideNumber C x k
  side-at i k m (row, a, b) =
      let S = P.volume_numbers.shape in
      let h = is-at_within p.volume_of i row a in
      let e = S.as_many in
      let v = is-at_some C.vertices i (omega arith) in
      let w = (v.1) in
      let n = S.row i (v.0) row w a in
      let g = is-at_within row k m b in
      let s = is-at_some (sides_of (v.0).map) k (omega arith) in
      (record { vertex = i; side = (s.0).0 }, refl, record { vertex = v.0; is_vertex = w; label = (s.0).1; is_side = s.1 })

  volume-numbers : p.volume_of ≡ q.volume_of
  volume-numbers = rows-one C count_sides p.volume_of q.volume_of P.volume_numbers.shape Q.volume_numbers.shape
      (λ i k m n a b.
      let r = side-at i k m a in
      let x : VertexSide = r.0 in
      numbers-one (VolumeLink C) (IsSideBelow C) 1 (IsVolumeOf C p.volume_of) (IsVolumeOf C q.volume_of) SidePlace side-before P.volume_numbers.numbered Q.volume_numbers.numbered
      (λ x n h. volume-there p q P Q x n h) (λ x n h. volume-there q p Q P x n h)
      (λ x m n f g h. ⊎_elim (λ l. outside-same p q P Q x m n f g l) (λ l. sym (outside-same q p Q P x n m g f l)) h) i k x m n (r.1, r.2)
      (k, r.2, subst (λ (j : ℕ). IsInTable p.volume_of j k m) (sym (r.1)) a) (k, r.2, subst (λ (j : ℕ). IsInTable q.volume_of j k n) (sym (r.1)) b))

  -- ---- facets
  corner-there : (k : Corner) (n : ℕ) → IsFacetOf p.facet_of k n → (v : Vertex) × (x : Item) × IsCorner C k v x
  corner-there k n (row, a, b) =
      let S = P.facet_numbers.shape in
      let h = is-at_within p.facet_of k.vertex row a in
      let e = S.as_many in
      let v = is-at_some C.vertices k.vertex (omega arith) in
      let w = (v.1) in
      let m = S.row k.vertex (v.0) row w a in
      let g = is-at_within row k.item n b in
      let x = is-at_some (items (v.0).map) k.item (omega arith) in
      (v.0, x.0, record { vertex = w; item = (x.1) })

  facet-one : (n : ℕ) (f g : Facet) → IsFacet C p n f → IsFacet C q n g → f ≡ g
  facet-one n f g F G =
      let k : Corner = (F.some).0 in
      let h = (F.some).1 in
      let h' = subst (λ (rows : List (List ℕ)). IsFacetOf rows k n) facet-numbers h in
      let c = corner-there k n h in
      let a = F.corners k (c.0) (c.1) h (c.2) in
      let b = G.corners k (c.0) (c.1) h' (c.2) in
      let cycles = subst (λ (rows : List (List ℕ)). Cycles C (λ k. IsFacetOf rows k n) (cycle_corners g.cycles)) (sym facet-numbers) G.cycles in
      facet-equal f g
      (parallel-equal f.plane g.plane (c.0).point
      (parallel-both (item_normal (c.1)) (normal_of (form_of f.plane)) (normal_of (form_of g.plane)) (direction-right (normal_of (form_of f.plane)) (item_normal (c.1)) a.normal)
      (cross-turned (normal_of (form_of f.plane)) (item_normal (c.1)) a.normal.parallel) (cross-turned (normal_of (form_of g.plane)) (item_normal (c.1)) b.normal.parallel))
      a.through b.through)
      (a.mark ∙ sym b.mark)
      (volume-one C p.volume_of (pos_of k) f.pos g.pos a.pos (subst (λ (rows : List (List ℕ)). IsVolumeOf C rows (pos_of k) g.pos) (sym volume-numbers) b.pos))
      (volume-one C p.volume_of (neg_of k) f.neg g.neg a.neg (subst (λ (rows : List (List ℕ)). IsVolumeOf C rows (neg_of k) g.neg) (sym volume-numbers) b.neg))
      (map-one (λ (x : Cycle). map corner_of x.corners) cycle-one f.cycles g.cycles (cycles-one C one (λ k. IsFacetOf p.facet_of k n) (cycle_corners f.cycles) (cycle_corners g.cycles) F.cycles cycles))

  facets-one : p.facets ≡ q.facets
  facets-one = list-one p.facets q.facets
      (as-many (length p.facets) (length q.facets)
      (λ n h. let f = is-at_some p.facets n h in let s = (P.facets n (f.0) (f.1)).some in Q.all_facets (s.0) n (subst (λ (rows : List (List ℕ)). IsFacetOf rows (s.0) n) facet-numbers (s.1)))
      (λ n h. let f = is-at_some q.facets n h in let s = (Q.facets n (f.0) (f.1)).some in P.all_facets (s.0) n (subst (λ (rows : List (List ℕ)). IsFacetOf rows (s.0) n) (sym facet-numbers) (s.1))))
      (λ n f g a b. facet-one n f g (P.facets n f a) (Q.facets n g b))

  volumes-one : p.volumes ≡ q.volumes
  volumes-one = list-one p.volumes q.volumes
      (as-many (length p.volumes) (length q.volumes)
      (λ n h. let f = is-at_some p.volumes n h in let s = (P.volumes n (f.0) (f.1)).some in Q.all_volumes (s.0) n (subst (λ (rows : List (List ℕ)). IsVolumeOf C rows (s.0) n) volume-numbers (s.1)))
      (λ n h. let f = is-at_some q.volumes n h in let s = (Q.volumes n (f.0) (f.1)).some in P.all_volumes (s.0) n (subst (λ (rows : List (List ℕ)). IsVolumeOf C rows (s.0) n) (sym volume-numbers) (s.1))))
      (λ n l m a b.
      let s = (P.volumes n l a).some in
      let x : VertexSide = s.0 in
      let i = has-label C x ((s.1).0) ((s.1).1) in
      (P.volumes n l a).labels x (i.0) (s.1) (i.1) ∙ sym ((Q.volumes n m b).labels x (i.0) (subst (λ (rows : List (List ℕ)). IsVolumeOf C rows x n) volume-numbers (s.1)) (i.1)))

  sface-numbers : p.sface_of ≡ q.sface_of
  sface-numbers = list-one p.sface_of q.sface_of (P.sface_numbers.as_many ∙ sym Q.sface_numbers.as_many)
      (λ i m n a b.
      let w = is-at_within p.sface_of i m a in
      let e = P.sface_numbers.as_many in
      let v = is-at_some C.vertices i (omega (arith, w, e)) in
      let c = (v.1) in
      sfaces-one ((v.0).map) m n (P.sface_numbers.row i (v.0) m c a) (Q.sface_numbers.row i (v.0) n c b))

  shells-same : p.shells ≡ q.shells
  shells-same = list-one p.shells q.shells (P.as_many_shells ∙ ap (λ (ls : List Label). length ls) volumes-one ∙ sym Q.as_many_shells)
      (λ n x y a b. map-one (λ (h : Shell). h.sides) shell-equal x y
      (shells-one C (side-number_one C) (λ z. IsVolumeOf C p.volume_of z n) (shell_sides x) (shell_sides y) (P.shells n x a)
      (subst (λ (rows : List (List ℕ)). Shells C (λ z. IsVolumeOf C rows z n) (shell_sides y)) (sym volume-numbers) (Q.shells n y b))))

  pub parts-one : p ≡ q
  parts-one = parts-equal p q facets-one volumes-one facet-numbers volume-numbers sface-numbers shells-same
