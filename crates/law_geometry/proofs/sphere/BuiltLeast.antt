-- A built map is valid, has the labels that it was built of, and is least where its svertices are needed.
use Rattle.law_geometry.proofs.sphere.Prelude.{arith, ℕ, ◌+◌, ◌≤◌, ap, sym, ◌∙◌, ⊎_elim, ◌↔◌, List, ◌++◌, subst, sign, nought-or, Lies, SpacePoint, Vector, IsDirection, cross, dot, IsZero, blend, Set, Label, HasLabel, Germ, carriers, IsAt, MapVertex, Map, MapLabel, NearLabel, Valid, SameSigns, axes, forms, by_side, NearPlain, NearStraight, Least, Cone, Labelling, Near, IsSmooth, plain, straight, ByOp, IsBuilt, NoneSmooth, lies-left, lies-right, zero-decided, in-span}
use Rattle.law_geometry.proofs.sphere.Generic.{amount, far-keeps, far-level}
use Rattle.law_geometry.proofs.sphere.Forms.{axes-forms}
use Rattle.law_geometry.proofs.sphere.Built.{agrees-valid, agrees-label, label-agrees}
use Rattle.law_geometry.proofs.sphere.Labellings.{normals_of, germ-labelling, op-labelling, cone-from_agrees}
use Rattle.law_geometry.proofs.sphere.Flips.{Axial, far_directed-by}
use Rattle.law_geometry.proofs.sphere.Builder.{built-shaped, built-agrees, item-proper}

pub labelling-more : (gs hs : List Vector) (F : Vector → Label → Type 0) → ((g : Vector) → Lies gs g → Lies hs g) → Labelling gs F → Labelling hs F
labelling-more gs hs F sub L = record { exists = L.exists; one = L.one; cells = λ d e m f g s a. L.cells d e m f g (λ h l. s h (sub h l)) a }

module _ (gs : List Vector) (F : Vector → Label → Type 0) (L : Labelling gs F) (axial : Axial gs) (M : Map) (B : IsBuilt M F) where
  pub built-valid : Valid M
  built-valid = agrees-valid gs F L M (built-shaped gs F L axial M B) (built-agrees gs F L axial M B)

  pub built-labels : (d : Vector) (m : Label) → IsDirection d → MapLabel M d m ↔ F d m
  built-labels d m h =
      let S = built-shaped gs F L axial M B in
      let A = built-agrees gs F L axial M B in
      (agrees-label gs F L M S A d m, label-agrees gs F L M S A d m h)

  -- near labels of the map are those of the labelling
  near-labels : (d e : Vector) (m : Label) → IsDirection d → NearLabel M d e m → Near F d e m
  near-labels d e m h (k, f) = (k + amount gs e, λ i l. (built-labels (blend i d 1 e) m (far_directed-by gs axial d e i (later k i l) h)).0 (f i (sooner k i l)))
    where
      later : (k i : ℕ) → k + amount gs e ≤ i → amount gs e ≤ i
      later k i l = omega arith

      sooner : (k i : ℕ) → k + amount gs e ≤ i → k ≤ i
      sooner k i l = omega arith

  -- along d itself
  near-parallel : (d e : Vector) (m : Label) → IsDirection d → IsZero (cross d e) → F d m → Near F d e m
  near-parallel d e m h z a = (amount gs e, λ k l. L.cells d (blend k d 1 e) m h (far_directed-by gs axial d e k l h) (same k l) a)
    where
      same : (k : ℕ) → amount gs e ≤ k → SameSigns gs d (blend k d 1 e)
      same k l g i = ⊎_elim
          (λ y. far-level gs d e k l g y ∙ ap sign (in-span g d e h z y) ∙ sym (ap sign y))
          (λ f. far-keeps gs d e k l g i f) (nought-or (dot g d))

  plain-labels : (d : Vector) → IsDirection d → NearPlain M d → IsSmooth F d
  plain-labels d h P =
      let a = (built-labels d P.label h).0 P.at_d in
      plain P.label (record { at_d = a; near = λ e. ⊎_elim (λ z. near-parallel d e P.label h z a) (λ f. near-labels d e P.label h (P.near e f)) (zero-decided (cross d e)) })

  straight-labels : (d : Vector) → IsDirection d → NearStraight M d → IsSmooth F d
  straight-labels d h P =
      let a = (built-labels d P.label h).0 P.at_d in
      straight P.normal P.pos P.label P.neg P.direction (record {
        level = P.level;
        at_d = a;
        near = λ e. ⊎_elim
            (λ z. subst (Near F d e) (ap (by_side P.pos P.label P.neg) (sym (ap sign (in-span P.normal d e h z P.level)))) (near-parallel d e P.label h z a))
            (λ f. near-labels d e (by_side P.pos P.label P.neg (sign (dot P.normal e))) h (P.near e f)) (zero-decided (cross d e));
      })

  pub built-least : ((k : ℕ) (v : MapVertex) → IsAt M.svertices k v → IsSmooth F v.dir → ⊥) → Least M
  built-least kept = record {
    no_plain = λ k v a p. kept k v a (plain-labels v.dir (B.svertex_dirs k v a) p);
    no_straight = λ k v a p. kept k v a (straight-labels v.dir (B.svertex_dirs k v a) p);
    items_differ = λ k x a. item-proper gs F L axial M B k x a;
  }

-- ---- an operation on two maps
pub op-build : (A B M : Map) (op : Label → Label → Label) → Valid A → Valid B → IsBuilt M (ByOp A B op) → NoneSmooth M (ByOp A B op)
    → Valid M × Least M × ((d : Vector) (m : Label) → IsDirection d → MapLabel M d m ↔ ByOp A B op d m)
op-build A B M op V W I K =
    let gs = forms A ++ forms B in
    let L = op-labelling A B op V W in
    let axial : Axial gs = λ g l. lies-left (forms A) (forms B) g (axes-forms A g l) in
    (built-valid gs (ByOp A B op) L axial M I, built-least gs (ByOp A B op) L axial M I K, built-labels gs (ByOp A B op) L axial M I)

-- ---- a set
pub set-build : (M : Map) (s : Set) (p : SpacePoint) → HasLabel s p M.mark → IsBuilt M (Germ s p) → NoneSmooth M (Germ s p) → Cone M s p × Least M
set-build M s p h I K =
    let gs = axes ++ normals_of (carriers s) in
    let L = labelling-more (normals_of (carriers s)) gs (Germ s p) (λ g l. lies-right axes (normals_of (carriers s)) g l) (germ-labelling s p) in
    let axial : Axial gs = λ g l. lies-left axes (normals_of (carriers s)) g l in
    (cone-from_agrees M s p (built-shaped gs (Germ s p) L axial M I) h (built-agrees gs (Germ s p) L axial M I), built-least gs (Germ s p) L axial M I K)
