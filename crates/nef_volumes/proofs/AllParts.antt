-- The parts of a complex, put together.
use Rattle.nef_volumes.proofs.Prelude.{◌≡◌, ℕ, ◌<◌, List, [], ◌∷◌, length, map, arith, refl, sym, subst, IsAt, Chained, Label, Plane, Item, item_pos, item_neg, is-at_one, is-at_within, Vertex, Complex, Corner, IsCorner, VertexSide, HasSideLabel, corner_of, VolumeLink, IsCycle, Cycles, IsFacetOf, IsVolumeOf, VolumeNumbers, pos_of, neg_of, IsFacetAt, cycle_corners, IsFacet, shell_sides, IsParts, SfaceNumbers, Shells, Cycle, Facet, Parts, Shell, IsFacetParts, AreVolumeLabels, HasItem, IsFirstCorner, HasFirst, AreFacetsOf}
use Rattle.nef_space.proofs.Lists.{is-at_none}
use Rattle.nef_complex.specs.declared.complex.Corner.{Corner as ProgramCorner}
use Rattle.nef_facets.proofs.FirstCorners.{facet-item}
use Rattle.nef_volumes.proofs.FacetSides.{chain-pos, chain-neg}
use Rattle.nef_volumes.proofs.VolumeLabels.{numbered-side}

module _ (C : Complex) (planes : List Plane) (marks : List Label) (cycles : List (List Cycle)) (facet_of : List (List ℕ))
    (F : IsFacetParts C (record { planes = planes; marks = marks; cycles = cycles; facet_of = facet_of })) where
  -- ---- the first corners of facets
  first-corner : (n : ℕ) (xs : List Cycle) → Cycles C (λ k. IsFacetOf facet_of k n) (cycle_corners xs) → (j : Corner) → IsFacetOf facet_of j n → (k : ProgramCorner) × IsFirstCorner xs k × IsFacetOf facet_of (corner_of k) n
  first-corner n [] Y j p = let r = Y.complete j p in absurd (is-at_none r.3)
  first-corner n (x ∷ xs) Y j p = by x.corners refl (Y.cycles 0 (map corner_of x.corners) refl) (λ k h. Y.within 0 0 (map corner_of x.corners) k refl h)
    where
      by : (ks : List ProgramCorner) → x.corners ≡ ks → IsCycle C (map corner_of ks) → ((k : Corner) → IsAt (map corner_of x.corners) 0 k → IsFacetOf facet_of k n) → (k : ProgramCorner) × IsFirstCorner (x ∷ xs) k × IsFacetOf facet_of (corner_of k) n
      by [] e c w = absurd c
      by (k ∷ ks) e c w = (k, (x, refl, subst (λ (zs : List ProgramCorner). IsAt zs 0 k) (sym e) refl), w (corner_of k) (subst (λ (zs : List ProgramCorner). IsAt (map corner_of zs) 0 (corner_of k)) (sym e) refl))

  first-of : (n : ℕ) (xs : List Cycle) → IsAt cycles n xs → (k : ProgramCorner) × IsFirstCorner xs k × IsFacetOf facet_of (corner_of k) n
  first-of n xs a =
      let l = is-at_within cycles n xs a in
      let j = F.some n (let e = F.as_many_cycles in omega (arith, l, e)) in
      first-corner n xs (F.cycles n xs a) j.0 j.1

  pub all-first : (n : ℕ) (xs : List Cycle) → IsAt cycles n xs → HasFirst C xs
  all-first n xs a = let r = first-of n xs a in (r.0, r.1, facet-item C facet_of F.numbers (corner_of r.0) n r.2)

  module _ (rows : List (List ℕ)) (N : VolumeNumbers C rows) (ls : List Label) (L : AreVolumeLabels C rows ls) (fs : List Facet) (A : AreFacetsOf C rows planes marks cycles fs)
      (faces : List (List ℕ)) (S : SfaceNumbers C faces) (shells : List (List Shell)) (many : length shells ≡ length ls)
      (H : (n : ℕ) (hs : List Shell) → IsAt shells n hs → Shells C (λ x. IsVolumeOf C rows x n) (shell_sides hs)) where
    abbrev all : Parts
    all = record { facets = fs; volumes = ls; facet_of = facet_of; volume_of = rows; sface_of = faces; shells = shells }

    -- the side of another item of the facet is of the same volume
    same-volume : (x y : VertexSide) (l : Label) (n : ℕ) → IsVolumeOf C rows x n → HasSideLabel C y l → Chained (VolumeLink C) x y → IsVolumeOf C rows y n
    same-volume x y l n X h c =
        let r = numbered-side C rows N y l h in
        subst (λ (m : ℕ). IsVolumeOf C rows y m) (sym ((N.numbered.by_class x y n r.0 X r.1).1 c)) r.1

    facet-corner : (n : ℕ) (f : Facet) → IsAt fs n f → (k : Corner) (v : Vertex) (x : Item) → IsFacetOf facet_of k n → IsCorner C k v x → IsFacetAt C all f k v x
    facet-corner n f a k v x p K =
        let r = first-of n f.cycles (A.cycles_of n f a) in
        let B = A.beside n f a r.0 r.1 in
        let G = F.numbers in
        let c = (G.numbered.by_class (corner_of r.0) k n n r.2 p).0 refl in
        let q = F.planes n f.plane k v x (A.plane n f a) p K in
        record {
          through = q.0;
          normal = q.1;
          mark = F.marks n f.mark k v x (A.mark n f a) p K;
          pos = same-volume (pos_of (corner_of r.0)) (pos_of k) (item_pos x) f.pos B.0 (v, K.vertex, (x, K.item, refl)) (chain-pos C (corner_of r.0) k c);
          neg = same-volume (neg_of (corner_of r.0)) (neg_of k) (item_neg x) f.neg B.1 (v, K.vertex, (x, K.item, refl)) (chain-neg C (corner_of r.0) k c);
        }

    facet-is : (n : ℕ) (f : Facet) → IsAt fs n f → IsFacet C all n f
    facet-is n f a = record {
      some = F.some n (let l = is-at_within fs n f a in let e = A.as_many in let h = F.as_many_cycles in omega (arith, l, e, h));
      corners = facet-corner n f a;
      cycles = F.cycles n f.cycles (A.cycles_of n f a);
    }

    -- ALL PARTS
    pub parts-are : IsParts C all
    parts-are = record {
      facet_numbers = F.numbers;
      volume_numbers = N;
      facets = facet-is;
      all_facets = λ k n p. let l = F.all k n p in let e = A.as_many in let h = F.as_many_cycles in omega (arith, l, e, h);
      volumes = λ n l a. record { some = L.some n l a; labels = λ x m X h. L.labels n l x m a X h };
      all_volumes = λ x n X. L.all x n X;
      sface_numbers = S;
      as_many_shells = many;
      shells = H;
    }

-- the first corner is one of a first cycle
pub some-cycle : (C : Complex) (xs : List Cycle) → HasFirst C xs → 0 < length xs
some-cycle C xs (j, (y, a, b), h) = is-at_within xs 0 y a

pub some-corner : (C : Complex) (xs : List Cycle) → HasFirst C xs → (x : Cycle) → IsAt xs 0 x → 0 < length x.corners
some-corner C xs (j, (y, a, b), h) x e = is-at_within x.corners 0 j (subst (λ (z : Cycle). IsAt z.corners 0 j) (is-at_one xs 0 y x a e) b)

-- there is an item at the first corner
pub first-item : (C : Complex) (xs : List Cycle) → HasFirst C xs → (x : Cycle) (k : ProgramCorner) → IsAt xs 0 x → IsAt x.corners 0 k → HasItem C (corner_of k)
first-item C xs (j, (y, a, b), h) x k e f =
    let one = is-at_one xs 0 y x a e in
    let same = is-at_one x.corners 0 j k (subst (λ (z : Cycle). IsAt z.corners 0 j) one b) f in
    subst (λ (i : ProgramCorner). HasItem C (corner_of i)) same h

-- the volumes beside the first corner are those of the facet
pub beside-first : (C : Complex) (rows : List (List ℕ)) (xs : List Cycle) (x : Cycle) (k : ProgramCorner) (p n : ℕ) → IsAt xs 0 x → IsAt x.corners 0 k
    → IsVolumeOf C rows (pos_of (corner_of k)) p → IsVolumeOf C rows (neg_of (corner_of k)) n
    → (j : ProgramCorner) → IsFirstCorner xs j → IsVolumeOf C rows (pos_of (corner_of j)) p × IsVolumeOf C rows (neg_of (corner_of j)) n
beside-first C rows xs x k p n e f P N j (y, a, b) =
    let one = is-at_one xs 0 x y e a in
    let same = is-at_one x.corners 0 k j f (subst (λ (z : Cycle). IsAt z.corners 0 j) (sym one) b) in
    subst (λ (i : ProgramCorner). IsVolumeOf C rows (pos_of (corner_of i)) p × IsVolumeOf C rows (neg_of (corner_of i)) n) same (P, N)
