-- Every complex of the program that shows a set has parts.
use Rattle.nef_statement.proofs.text.existence.Prelude.{◌≡◌, ℕ, suc, ◌<◌, ◌≤◌, pos, arith, refl, sym, ap, ◌⊎◌, inl, inr, ⊎_elim, List, length, subst, cases_order, IsAt, IsInTable, Form, form_at, normal_of, Set, IsNormal, SameDirection, Label, Out, form_of, Plane, Item, items, item_normal, item_mark, item_pos, item_neg, Vertex, Corner, Complex as PlainComplex, VertexSide, HasSideLabel, Shows, IsUpright, is-at_one, is-at_within, is-at_some, AreSfaces, is-at_map, vertex_of, complex_of, corner_of, Cycles, IsSideNumber, cycle_corners, IsFacetOf, IsVolumeOf, FacetNumbers, VolumeNumbers, pos_of, neg_of, shell_sides, IsParts, SfaceNumbers, Shells, Cycle, Facet, Parts, Shell, carried, HasItem, AreCorners, IsPlaneAt, IsMarkAt, AreFirsts, IsFacetParts, AreVolumeLabels, HasVolumesBeside, AreFacetsOf, HasLeastMaps, upright-by_maps, chain-label, numbered-side, neg}
use Rattle.nef_complex.specs.declared.complex.Corner.{Corner as ProgramCorner}
use Rattle.nef_complex.specs.declared.complex.Complex.{Complex}
use Rattle.nef_facets.specs.Carriers.{IsPlaneThrough}
use Rattle.nef_facets.specs.declared.parts.FacetParts.{FacetParts}
use Rattle.nef_facets.proofs.PartsOf.{facet-parts}
use Rattle.nef_volumes.proofs.AllParts.{all-first, parts-are, beside-first}
use Rattle.nef_volumes.proofs.OutsideSide.{out-side}
use Rattle.nef_statement.proofs.text.existence.Cycles.{corners, firsts, cycles-exist}
use Rattle.nef_statement.proofs.text.existence.Facets.{facet-numbers}
use Rattle.nef_statement.proofs.text.existence.Rows.{Made, make-list, make-each, most-in}
use Rattle.nef_statement.proofs.text.existence.Sfaces.{sfaces-exist}
use Rattle.nef_statement.proofs.text.existence.Shells.{shells-are}
use Rattle.nef_statement.proofs.text.existence.Shown.{shown-maps}
use Rattle.nef_statement.proofs.text.existence.Volumes.{SideAt, side-row, side-col, volume-numbers, all-sides, side-make, number-label}
use Rattle.std.proofs.Math.Nat.{eq-zero-or-pos}
use Rattle.nef_volumes.proofs.Components.{volume-side}

-- ---- facets
module _ (s : Set) (c : Complex) (S : Shows s (complex_of c)) where
  -- the plane of an item
  plane-of : (k : Corner) → HasItem (complex_of c) k → (h : Plane) × IsPlaneAt (complex_of c) h k
  plane-of k (v, x, K) =
      let P = carried s (complex_of c) k v x S K in
      let (h, a, e) = is-at_map form_of c.carriers P.number P.plane P.listed in
      let n = P.normal (subst (λ (f : Form). IsNormal (normal_of f)) e h.normal) in (
        h,
        λ w y L.
            let f = is-at_one (complex_of c).vertices k.vertex v w K.vertex L.vertex in
            let g = is-at_one (items w.map) k.item x y (subst (λ (u : Vertex). IsAt (items u.map) k.item x) f K.item) L.item in
            alike h v w x y f g (subst (λ (q : Form). through-of q v) (sym e) P.through, subst (λ (q : Form). normal-as q x) (sym e) n),
      )
    where
      through-of : Form → Vertex → Type 0
      through-of q v = form_at q v.point ≡ pos 0

      normal-as : Form → Item → Type 0
      normal-as q x = SameDirection (normal_of q) (item_normal x)

      alike : (h : Plane) (v w : Vertex) (x y : Item) → v ≡ w → x ≡ y → IsPlaneThrough h v.point (item_normal x) → IsPlaneThrough h w.point (item_normal y)
      alike h v w x y f g p = subst (λ (u : Vertex). IsPlaneThrough h u.point (item_normal y)) f (subst (λ (z : Item). IsPlaneThrough h v.point (item_normal z)) g p)

  mark-of : (k : Corner) → HasItem (complex_of c) k → (l : Label) × IsMarkAt (complex_of c) l k
  mark-of k (v, x, K) = (
    item_mark x,
    λ w y L.
        let f = is-at_one (complex_of c).vertices k.vertex v w K.vertex L.vertex in
        ap item_mark (is-at_one (items w.map) k.item x y (subst (λ (u : Vertex). IsAt (items u.map) k.item x) f K.item) L.item),
  )

  pub facets-exist : (p : FacetParts) × IsFacetParts (complex_of c) p
  facets-exist = by (facet-numbers s (complex_of c) S) (corners (complex_of c))
    where
      by : ((rows : List (List ℕ)) × FacetNumbers (complex_of c) rows) → ((ks : List ProgramCorner) × AreCorners (complex_of c) ks) → (p : FacetParts) × IsFacetParts (complex_of c) p
      by (rows, N) (ks, K) = then (firsts (complex_of c) rows N ks K)
        where
          then : ((js : List ProgramCorner) × AreFirsts rows ks js) → (p : FacetParts) × IsFacetParts (complex_of c) p
          then (js, F) = all (make-each js (λ (k : ProgramCorner) (h : Plane). IsPlaneAt (complex_of c) h (corner_of k)) (λ n k a. plane-of (corner_of k) (item n k a)))
              (make-each js (λ (k : ProgramCorner) (l : Label). IsMarkAt (complex_of c) l (corner_of k)) (λ n k a. mark-of (corner_of k) (item n k a)))
              (cycles-exist s (complex_of c) S rows N ks K js F)
            where
              item : (n : ℕ) (k : ProgramCorner) → IsAt js n k → HasItem (complex_of c) (corner_of k)
              item n k a = let r = (F.each n k a).1 in K.each r.0 k r.1

              all : Made (length js) (λ n h. (k : ProgramCorner) × IsAt js n k × IsPlaneAt (complex_of c) h (corner_of k)) → Made (length js) (λ n l. (k : ProgramCorner) × IsAt js n k × IsMarkAt (complex_of c) l (corner_of k))
                  → ((ys : List (List Cycle)) × (length ys ≡ length js) × ((n : ℕ) (row : List Cycle) → IsAt ys n row → Cycles (complex_of c) (λ k. IsFacetOf rows k n) (cycle_corners row))) → (p : FacetParts) × IsFacetParts (complex_of c) p
              all P M (ys, e, Y) = (
                record { planes = P.list; marks = M.list; cycles = ys; facet_of = rows },
                facet-parts s (complex_of c) (record { planes = P.list; marks = M.list; cycles = ys; facet_of = rows }) ks js S N K F P.as_many M.as_many e
                    (λ n h k a b. let (j, d, q) = P.each n h a in subst (λ (i : ProgramCorner). IsPlaneAt (complex_of c) h (corner_of i)) (is-at_one js n j k d b) q)
                    (λ n l k a b. let (j, d, q) = M.each n l a in subst (λ (i : ProgramCorner). IsMarkAt (complex_of c) l (corner_of i)) (is-at_one js n j k d b) q)
                    Y,
              )

-- ---- the labels of volumes
module _ (s : Set) (C : PlainComplex) (S : Shows s C) (U : IsUpright C) (out : (x : VertexSide) × HasSideLabel C x Out) (rows : List (List ℕ)) (N : VolumeNumbers C rows) where
  -- what stands in the table is the number of a side
  in-table : (i k n : ℕ) → IsInTable rows i k n → (x : VertexSide) × (l : Label) × IsVolumeOf C rows x n × HasSideLabel C x l
  in-table i k n (row, a, b) = by (is-at_some C.vertices i (let l = is-at_within rows i row a in let e = (N.shape).as_many in omega (arith, l, e)))
    where
      made : ((x : SideAt C) × (side-row C x ≡ i) × (side-col C x ≡ k)) → (x : VertexSide) × (l : Label) × IsVolumeOf C rows x n × HasSideLabel C x l
      made (x, e, g) = (x.side, x.is.label, (k, subst (IsSideNumber C x.side) g x.is, subst (λ j. IsInTable rows j k n) (sym e) (row, a, b)), number-label C x.side x.number x.is)

      by : ((v : Vertex) × IsAt C.vertices i v) → (x : VertexSide) × (l : Label) × IsVolumeOf C rows x n × HasSideLabel C x l
      by (v, c) = made (side-make C i k v c (let l = is-at_within row k n b in let f = (N.shape).row i v row c a in omega (arith, l, f)))

  pub labels-exist : (ls : List Label) × AreVolumeLabels C rows ls
  labels-exist = by (most-in rows)
    where
      by : ((m : ℕ) × ((i k n : ℕ) → IsInTable rows i k n → n ≤ m) × ((m ≡ 0) ⊎ ((i : ℕ) × (k : ℕ) × IsInTable rows i k m))) → (ls : List Label) × AreVolumeLabels C rows ls
      by (m, under, got) = then (make-list (suc m) HasVolume volume)
        where
          HasVolume : ℕ → Label → Type 0
          HasVolume n l = (x : VertexSide) × IsVolumeOf C rows x n × HasSideLabel C x l

          outside : (l : Label) × HasVolume 0 l
          outside =
              let r = numbered-side C rows N out.0 Out out.1 in
              (Out, (out.0, subst (IsVolumeOf C rows out.0) ((N.outside out.0 r.0 Out r.1 out.1).1 refl) r.1, out.1))

          last : (m ≡ 0) ⊎ ((i : ℕ) × (k : ℕ) × IsInTable rows i k m) → (l : Label) × HasVolume m l
          last (inl e) = subst (λ n. (l : Label) × HasVolume n l) (sym e) outside
          last (inr (i, k, h)) = let (x, l, a, b) = in-table i k m h in (l, (x, a, b))

          volume : (n : ℕ) → n < suc m → (l : Label) × HasVolume n l
          volume n l = ⊎_elim (λ e. subst (λ j. (l : Label) × HasVolume j l) (sym e) outside)
              (λ o. ⊎_elim (λ e. subst (λ j. (l : Label) × HasVolume j l) (sym e) (last got)) (λ o. ⊎_elim (λ less. before n less) (λ h. absurd (omega (arith, h, l))) o) (cases_order n m))
              (eq-zero-or-pos n)
            where
              before : (n : ℕ) → n < m → (l : Label) × HasVolume n l
              before n less =
                  ⊎_elim (λ e. subst (λ j. (l : Label) × HasVolume j l) (sym e) outside)
                  (λ low.
                  let (l, (x, a, b)) = last got in
                  let (y, d, f) = N.numbered.by_appearance x n m a low less in
                  let (k, g) = volume-side C rows y n f in
                  (k, (y, f, g)))
                  (eq-zero-or-pos n)

          then : Made (suc m) HasVolume → (ls : List Label) × AreVolumeLabels C rows ls
          then M = (
            M.list,
            record {
              some = λ k l a. let r = M.each k l a in (r.0, r.1);
              labels = λ k l x j a X h. let r = M.each k l a in chain-label s C S U r.0 x l j ((N.numbered.by_class r.0 x k k r.1 X).0 refl) r.2 h;
              all = λ x k X. let (j, J, h) = X in let u = under x.vertex j k h in let e = M.as_many in omega (arith, u, e);
            },
          )

-- ---- the facets with the volumes beside them
module _ (C : PlainComplex) (rows : List (List ℕ)) (N : VolumeNumbers C rows) (p : FacetParts) (F : IsFacetParts C p) where
  pub with-volumes : (fs : List Facet) × AreFacetsOf C rows p.planes p.marks p.cycles fs
  with-volumes = by (make-list (length p.cycles) IsOf facet)
    where
      IsOf : ℕ → Facet → Type 0
      IsOf n f = IsAt p.planes n f.plane × IsAt p.marks n f.mark × IsAt p.cycles n f.cycles × HasVolumesBeside C rows f

      facet : (n : ℕ) → n < length p.cycles → (f : Facet) × IsOf n f
      facet n l =
          let d = F.as_many_cycles in
          let e = F.as_many_marks in
          let (h, a) = is-at_some p.planes n (omega (arith, l, d)) in
          let (m, b) = is-at_some p.marks n (omega (arith, l, d, e)) in
          let (xs, q) = is-at_some p.cycles n l in
          let (k, (y, f, g), (v, x, K)) = all-first C p.planes p.marks p.cycles p.facet_of F n xs q in
          let u = numbered-side C rows N (pos_of (corner_of k)) (item_pos x) (v, K.vertex, (x, K.item, refl)) in
          let w = numbered-side C rows N (neg_of (corner_of k)) (item_neg x) (v, K.vertex, (x, K.item, refl)) in
          (record { plane = h; mark = m; pos = u.0; neg = w.0; cycles = xs }, (a, b, q, beside-first C rows xs y k u.0 w.0 f g u.1 w.1))

      by : Made (length p.cycles) IsOf → (fs : List Facet) × AreFacetsOf C rows p.planes p.marks p.cycles fs
      by M = (
        M.list,
        record {
          as_many = M.as_many;
          plane = λ n f a. (M.each n f a).0;
          mark = λ n f a. (M.each n f a).1;
          cycles_of = λ n f a. (M.each n f a).2;
          beside = λ n f a. (M.each n f a).3;
        },
      )

-- EVERY COMPLEX THAT SHOWS A SET HAS PARTS
pub parts-exist : (s : Set) (c : Complex) → Shows s (complex_of c) → (p : Parts) × IsParts (complex_of c) p
parts-exist s c S = by (facets-exist s c S) (volume-numbers s (complex_of c) S upright)
  where
    maps : HasLeastMaps c
    maps = shown-maps s c S

    upright : IsUpright (complex_of c)
    upright = upright-by_maps s c S (shown-maps s c S)

    faces : (i : ℕ) (v : Vertex) → IsAt (complex_of c).vertices i v → (ns : List ℕ) × AreSfaces v.map ns
    faces i v a =
        let (u, b, e) = is-at_map vertex_of c.vertices i v a in
        let M = maps i u b in
        let (ns, F) = sfaces-exist u.map M.sphere_map in
        (ns, subst (λ (w : Vertex). AreSfaces w.map ns) e F)

    sfaces : (rows : List (List ℕ)) × SfaceNumbers (complex_of c) rows
    sfaces = got (make-list (length (complex_of c).vertices) (λ (i : ℕ) (ns : List ℕ). (v : Vertex) × IsAt (complex_of c).vertices i v × AreSfaces v.map ns) (λ i l. let (v, a) = is-at_some (complex_of c).vertices i l in let (ns, F) = faces i v a in (ns, (v, a, F))))
      where
        got : Made (length (complex_of c).vertices) (λ (i : ℕ) (ns : List ℕ). (v : Vertex) × IsAt (complex_of c).vertices i v × AreSfaces v.map ns) → (rows : List (List ℕ)) × SfaceNumbers (complex_of c) rows
        got M = (M.list, record { as_many = M.as_many; row = λ i v ns a b. let (w, d, F) = M.each i ns b in subst (λ (u : Vertex). AreSfaces u.map ns) (is-at_one (complex_of c).vertices i w v d a) F })

    by : ((p : FacetParts) × IsFacetParts (complex_of c) p) → ((rows : List (List ℕ)) × VolumeNumbers (complex_of c) rows) → (p : Parts) × IsParts (complex_of c) p
    by (p, F) (rows, N) = then (labels-exist s (complex_of c) S upright (out-side s c S maps) rows N) (with-volumes (complex_of c) rows N p F) sfaces
      where
        then : ((ls : List Label) × AreVolumeLabels (complex_of c) rows ls) → ((fs : List Facet) × AreFacetsOf (complex_of c) rows p.planes p.marks p.cycles fs) → ((faces : List (List ℕ)) × SfaceNumbers (complex_of c) faces) → (p : Parts) × IsParts (complex_of c) p
        then (ls, L) (fs, A) (sf, SF) = last (make-list (length ls) (λ (n : ℕ) (hs : List Shell). Shells (complex_of c) (λ x. IsVolumeOf (complex_of c) rows x n) (shell_sides hs)) (λ n l. shells-are s (complex_of c) S faces (all-sides (complex_of c)) rows N n))
          where
            last : Made (length ls) (λ (n : ℕ) (hs : List Shell). Shells (complex_of c) (λ x. IsVolumeOf (complex_of c) rows x n) (shell_sides hs)) → (p : Parts) × IsParts (complex_of c) p
            last M = (
              record { facets = fs; volumes = ls; facet_of = p.facet_of; volume_of = rows; sface_of = sf; shells = M.list },
              parts-are (complex_of c) p.planes p.marks p.cycles p.facet_of F rows N ls L fs A sf SF M.list M.as_many M.each,
            )
