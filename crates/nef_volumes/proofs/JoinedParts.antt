-- Points are joined exactly where they lie in one part.
use Rattle.nef_volumes.proofs.Prelude.{Bool, ◌≡◌, ℕ, arith, refl, ap, subst, ◌↔◌, Decides-like, Decides-eqb, FlatDim, Joined, SpacePoint, Set, FlatDim-one, joined-both, joined-turned, Complex as PlainComplex, edge-points, facet-of, facet-point, free-flat, facet-at, complex_of, ShowsSet, IsParts, Parts, IsPartAt, Volume}
use Rattle.std.specs.Bool.{Decides}
use Rattle.nef_conn.proofs.Reaching.{corners-reached, sides-reached}
use Rattle.nef_conn.proofs.OnEdges.{joined-as_flat, joined-vertices, joined-edges}
use Rattle.nef_complex.specs.declared.complex.Complex.{Complex}
use Rattle.nef_volumes.specs.declared.all.Part.{Part}
use Rattle.nef_volumes.specs.declared.all.Part.TheVariants.{Vertex, Edge, Facet}
use Rattle.nef_volumes.specs.contracts.all.PartPartialEq.TheImpl.{eq-value as part_eq}
use Rattle.nef_volumes.proofs.Components.{facets-are_components, volumes-are_components}
use Rattle.nef_volumes.proofs.SideLabels.{upright}
use Rattle.law_geometry.proofs.near.Same.{dim-same}

module _ (s : Set) (c : Complex) (p : Parts) (S : ShowsSet s c) (I : IsParts (complex_of c) p) where
  abbrev C : PlainComplex
  C = complex_of c

  flatness : Part → ℕ
  flatness (Vertex n) = 0
  flatness (Edge n) = 1
  flatness (Facet n) = 2
  flatness (Volume n) = 3

  -- the number of flat directions of a point in a part
  part-flat : (y : SpacePoint) (a : Part) → IsPartAt (complex_of c) p y a → FlatDim s y (flatness a)
  unfolding flatness
  part-flat y (Vertex n) (v, h, e) = let S' = S.shows in dim-same s v.point y 0 e (S'.vertices n v h)
  part-flat y (Edge n) (e, v, w, a, H, b) = (edge-points s (complex_of c) n e v w y S.shows a H b).0
  part-flat y (Facet n) (k, H, h) = (facet-point s (complex_of c) S.shows H.beside H.vertex H.item y H.is_beside H.facet_point).dim
  part-flat y (Volume n) (x, (off, R), h) = free-flat s (complex_of c) S.shows (facet-at s (complex_of c) S.shows) (facet-of s (complex_of c) S.shows) y off

  module _ (y z : SpacePoint) where
    -- where points are joined, their parts are of one kind
    one-kind : (a b : Part) → IsPartAt (complex_of c) p y a → IsPartAt (complex_of c) p z b → Joined s y z → flatness a ≡ flatness b
    one-kind a b A B J = FlatDim-one s z (flatness a) (flatness b) (joined-as_flat s y z (flatness a) J (part-flat y a A)) (part-flat z b B)

    -- in one facet, and in one volume
    facet-joined : (m n : ℕ) → IsPartAt (complex_of c) p y (Facet m) → IsPartAt (complex_of c) p z (Facet n) → Joined s y z ↔ (m ≡ n)
    facet-joined m n (j, H, a) (k, K, b) =
        let (y', A, J) = corners-reached s (complex_of c) y j S.shows H in
        let (z', B, L) = corners-reached s (complex_of c) z k S.shows K in
        let one = facets-are_components c p I s j k m n y' z' S a b A B in (
          λ h. one.0 (joined-both s y' y z' (joined-turned s y y' J) (joined-both s y z z' h L)),
          λ e. joined-both s y y' z J (joined-both s y' z' z (one.1 e) (joined-turned s z z' L)),
        )

    volume-joined : (m n : ℕ) → IsPartAt (complex_of c) p y (Volume m) → IsPartAt (complex_of c) p z (Volume n) → Joined s y z ↔ (m ≡ n)
    volume-joined m n (x, H, a) (w, K, b) =
        let (y', A, J) = sides-reached s (complex_of c) y x S.shows (upright s c S) H in
        let (z', B, L) = sides-reached s (complex_of c) z w S.shows (upright s c S) K in
        let one = volumes-are_components c p I s x w m n y' z' S a b A B in (
          λ h. one.0 (joined-both s y' y z' (joined-turned s y y' J) (joined-both s y z z' h L)),
          λ e. joined-both s y y' z J (joined-both s y' z' z (one.1 e) (joined-turned s z z' L)),
        )

    joined-same : (a b : Part) → IsPartAt (complex_of c) p y a → IsPartAt (complex_of c) p z b → Joined s y z → flatness a ≡ flatness b → a ≡ b
    unfolding flatness
    joined-same (Vertex m) (Vertex n) A B J e = ap (λ i. Vertex i) ((joined-vertices s (complex_of c) m n y z S.shows A B).0 J)
    joined-same (Edge m) (Edge n) A B J e = ap (λ i. Edge i) ((joined-edges s (complex_of c) m n y z S.shows A B).0 J)
    joined-same (Facet m) (Facet n) A B J e = ap (λ i. Facet i) ((facet-joined m n A B).0 J)
    joined-same (Volume m) (Volume n) A B J e = ap (λ i. Volume i) ((volume-joined m n A B).0 J)
    joined-same (Vertex m) (Edge n) A B J e = absurd (omega arith)
    joined-same (Vertex m) (Facet n) A B J e = absurd (omega arith)
    joined-same (Vertex m) (Volume n) A B J e = absurd (omega arith)
    joined-same (Edge m) (Vertex n) A B J e = absurd (omega arith)
    joined-same (Edge m) (Facet n) A B J e = absurd (omega arith)
    joined-same (Edge m) (Volume n) A B J e = absurd (omega arith)
    joined-same (Facet m) (Vertex n) A B J e = absurd (omega arith)
    joined-same (Facet m) (Edge n) A B J e = absurd (omega arith)
    joined-same (Facet m) (Volume n) A B J e = absurd (omega arith)
    joined-same (Volume m) (Vertex n) A B J e = absurd (omega arith)
    joined-same (Volume m) (Edge n) A B J e = absurd (omega arith)
    joined-same (Volume m) (Facet n) A B J e = absurd (omega arith)

    one-joined : (a : Part) → IsPartAt (complex_of c) p y a → IsPartAt (complex_of c) p z a → Joined s y z
    one-joined (Vertex n) A B = (joined-vertices s (complex_of c) n n y z S.shows A B).1 refl
    one-joined (Edge n) A B = (joined-edges s (complex_of c) n n y z S.shows A B).1 refl
    one-joined (Facet n) A B = (facet-joined n n A B).1 refl
    one-joined (Volume n) A B = (volume-joined n n A B).1 refl

    -- JOINED JUST IN ONE PART
    pub joined-parts : (a b : Part) → IsPartAt (complex_of c) p y a → IsPartAt (complex_of c) p z b → (a ≡ b) ↔ Joined s y z
    joined-parts a b A B = (
      λ e. one-joined b (subst (λ (r : Part). IsPartAt (complex_of c) p y r) e A) B,
      λ J. joined-same a b A B J (one-kind a b A B J),
    )

-- ---- the test of parts
abbrev pub part_test : Part → Part → Bool
part_test = part_eq.it

pub part-decides : (a b : Part) → Decides (part_test a b) (a ≡ b)
part-decides (Vertex m) (Vertex n) = Decides-like (part_test (Vertex m) (Vertex n)) (λ e. ap (λ i. Vertex i) e) (λ e. cc) (Decides-eqb m n)
part-decides (Edge m) (Edge n) = Decides-like (part_test (Edge m) (Edge n)) (λ e. ap (λ i. Edge i) e) (λ e. cc) (Decides-eqb m n)
part-decides (Facet m) (Facet n) = Decides-like (part_test (Facet m) (Facet n)) (λ e. ap (λ i. Facet i) e) (λ e. cc) (Decides-eqb m n)
part-decides (Volume m) (Volume n) = Decides-like (part_test (Volume m) (Volume n)) (λ e. ap (λ i. Volume i) e) (λ e. cc) (Decides-eqb m n)
part-decides (Vertex m) (Edge n) = (λ e. cc, λ e. cc)
part-decides (Vertex m) (Facet n) = (λ e. cc, λ e. cc)
part-decides (Vertex m) (Volume n) = (λ e. cc, λ e. cc)
part-decides (Edge m) (Vertex n) = (λ e. cc, λ e. cc)
part-decides (Edge m) (Facet n) = (λ e. cc, λ e. cc)
part-decides (Edge m) (Volume n) = (λ e. cc, λ e. cc)
part-decides (Facet m) (Vertex n) = (λ e. cc, λ e. cc)
part-decides (Facet m) (Edge n) = (λ e. cc, λ e. cc)
part-decides (Facet m) (Volume n) = (λ e. cc, λ e. cc)
part-decides (Volume m) (Vertex n) = (λ e. cc, λ e. cc)
part-decides (Volume m) (Edge n) = (λ e. cc, λ e. cc)
part-decides (Volume m) (Facet n) = (λ e. cc, λ e. cc)
