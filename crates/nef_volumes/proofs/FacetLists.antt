-- Lists of facets, and the numbers of the volumes beside them.
use Rattle.nef_volumes.proofs.Prelude.{◌≡◌, ℕ, ◌<◌, ⊎_elim, List, [], ◌∷◌, ◌++◌, length, length-append, Bool, true, false, Some, slice_get, arith, refl, ap, sym, ◌∙◌, subst, IsAt, Label, Plane, items, item_pos, item_neg, HasSide, map_of, sides_of, side_number, is-at_one, is-at_within, is-at_some, is-at_left, is-at_last, side-number, Vertex, Complex as PlainComplex, Corner as PlainCorner, vertex_of, complex_of, IsVolumeOf, VolumeNumbers, Cycle, Facet, side_at, HasItem, side_beside, HasVolumesBeside, AreFacetsOf}
use Rattle.nef_complex.specs.declared.complex.Complex.{Complex}
use Rattle.nef_complex.specs.declared.complex.Vertex.{Vertex as ProgramVertex}
use Rattle.nef_volumes.proofs.ReadVertex.{vertex-there, vertex-read, vertex-within}
use Rattle.nef_space.proofs.Elementary.{less-or-last}

-- ---- the volume at a side of an item
module _ (c : Complex) (k : PlainCorner) (h : HasItem (complex_of c) k) where
  pub corner-within : k.vertex < length c.vertices
  corner-within = let K = h.2 in vertex-within c k.vertex h.0 K.vertex

  module _ (u : ProgramVertex) (e : slice_get c.vertices k.vertex ≡ Some u) where
    there : IsAt (items (map_of u.map)) k.item h.1
    there = let K = h.2 in subst (λ (v : Vertex). IsAt (items v.map) k.item h.1) (vertex-read c k.vertex u h.0 e K.vertex) K.item

    pub item-within : k.item < length (items (map_of u.map))
    item-within = is-at_within (items (map_of u.map)) k.item h.1 there

    side-has_label : (b : Bool) → (l : Label) × HasSide (map_of u.map) (side_at b k.item) l
    side-has_label true = (item_pos h.1, (h.1, there, refl))
    side-has_label false = (item_neg h.1, (h.1, there, refl))

    module _ (rows : List (List ℕ)) (N : VolumeNumbers (complex_of c) rows) (row : List ℕ) (i : IsAt rows k.vertex row) (b : Bool) (s : ℕ) (f : s ≡ side_number (map_of u.map) (side_at b k.item)) where
      pub side-within : s < length row
      side-within =
          let r = side-has_label b in
          let S = N.shape in
          let n = S.row k.vertex (vertex_of u) row (vertex-there c k.vertex u e) i in
          let w = is-at_within (sides_of (map_of u.map)) (side_number (map_of u.map) (side_at b k.item)) (side_at b k.item, r.0) (side-number (map_of u.map) (side_at b k.item) r.0 r.1) in
          omega (arith, n, w, f)

      pub volume-is : (n : ℕ) → IsAt row s n → IsVolumeOf (complex_of c) rows (side_beside b k) n
      volume-is n a =
          let r = side-has_label b in
          let g = side-number (map_of u.map) (side_at b k.item) r.0 r.1 in
          (side_number (map_of u.map) (side_at b k.item), record { vertex = vertex_of u; is_vertex = vertex-there c k.vertex u e; label = r.0; is_side = g }, (row, i, subst (λ (j : ℕ). IsAt row j n) f a))

-- ---- one facet more
module _ (C : PlainComplex) (rows : List (List ℕ)) (planes : List Plane) (marks : List Label) where
  pub facets-more : (cycles : List (List Cycle)) (fs : List Facet) (own : List Cycle) (f : Facet) → AreFacetsOf C rows planes marks cycles fs → IsAt planes (length fs) f.plane → IsAt marks (length fs) f.mark → f.cycles ≡ own → HasVolumesBeside C rows f
      → AreFacetsOf C rows planes marks (cycles ++ own ∷ []) (fs ++ f ∷ [])
  facets-more cycles fs own f D p q e b = record {
    as_many = let m = D.as_many in let h = length-append fs (f ∷ []) in let i = length-append cycles (own ∷ []) in omega (arith, m, h, i);
    plane = λ n g a. split n g a (IsAt planes n g.plane) (λ h. D.plane n g h) (λ i h. subst (λ (k : ℕ). IsAt planes k g.plane) (sym i) (subst (λ (r : Facet). IsAt planes (length fs) r.plane) h p));
    mark = λ n g a. split n g a (IsAt marks n g.mark) (λ h. D.mark n g h) (λ i h. subst (λ (k : ℕ). IsAt marks k g.mark) (sym i) (subst (λ (r : Facet). IsAt marks (length fs) r.mark) h q));
    cycles_of = λ n g a. split n g a (IsAt (cycles ++ own ∷ []) n g.cycles) (λ h. is-at_left cycles (own ∷ []) n g.cycles (D.cycles_of n g h))
        (λ i h. subst (λ (k : ℕ). IsAt (cycles ++ own ∷ []) k g.cycles) (sym (i ∙ D.as_many)) (subst (λ (ys : List Cycle). IsAt (cycles ++ own ∷ []) (length cycles) ys) (sym e ∙ ap (λ (r : Facet). r.cycles) h) (is-at_last cycles own)));
    beside = λ n g a. split n g a (HasVolumesBeside C rows g) (λ h. D.beside n g h) (λ i h. subst (HasVolumesBeside C rows) h b);
  }
    where
      split : (n : ℕ) (g : Facet) → IsAt (fs ++ f ∷ []) n g → (P : Type 0) → (IsAt fs n g → P) → (n ≡ length fs → f ≡ g → P) → P
      split n g a P old new = ⊎_elim
          (λ h. old (let r = is-at_some fs n h in subst (λ (z : Facet). IsAt fs n z) (is-at_one (fs ++ f ∷ []) n r.0 g (is-at_left fs (f ∷ []) n r.0 r.1) a) r.1))
          (λ h. new h (is-at_one (fs ++ f ∷ []) n f g (subst (λ (k : ℕ). IsAt (fs ++ f ∷ []) k f) (sym h) (is-at_last fs f)) a))
          (less-or-last n (length fs) (let w = is-at_within (fs ++ f ∷ []) n g a in let h = length-append fs (f ∷ []) in omega (arith, w, h)))
