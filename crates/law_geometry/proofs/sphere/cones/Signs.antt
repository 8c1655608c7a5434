-- Near labels of a labelling: each direction has one toward each vector, which the signs of the forms determine.
use Rattle.law_geometry.proofs.sphere.cones.Prelude.{◌≡◌, ℕ, ◌+◌, ◌≤◌, ℤ, pos, ◌<ℤ◌, arith, refl, ap, sym, ◌∙◌, ⊎_elim, List, subst, Sign, minus, nought, plus, sign, sign_times, sign-plus, sign-minus, sign-scaled, sign_of_product, by_order, nought-is, nought-or, Lies, Vector, IsDirection, cross, dot, IsZero, SameDirection, blend, Label, SameSigns, by_side, Labelling, Near, StraightAt, amount, far-keeps, far-level, Axial, far_directed-by, dot-comm, self-pos, dot-scaled}
use Rattle.law_geometry.proofs.sphere.building.SideLabels.{side-same_way}

-- ---- signs
-- the first of two signs that isn't nought
abbrev pub leading : Sign → Sign → Sign
leading minus t = minus
leading nought t = t
leading plus t = plus

pub leading-joined : (r s t : Sign) → leading (leading r s) t ≡ leading r (leading s t)
leading-joined minus s t = refl
leading-joined nought s t = refl
leading-joined plus s t = refl

pub leading-self : (s : Sign) → leading s s ≡ s
leading-self minus = refl
leading-self nought = refl
leading-self plus = refl

pub leading-off : (a : ℤ) (t : Sign) → (a ≡ pos 0 → ⊥) → leading (sign a) t ≡ sign a
leading-off a t f = by_order a (pos 0)
    (λ l. ap (λ s. leading s t) (sign-minus a l) ∙ sym (sign-minus a l))
    (λ z. absurd (f z))
    (λ l. ap (λ s. leading s t) (sign-plus a l) ∙ sym (sign-plus a l))

pub leading-level : (a : ℤ) (t : Sign) → a ≡ pos 0 → leading (sign a) t ≡ t
leading-level a t z = ap (λ r. leading (sign r) t) z

-- the same first sign, and the same second one where the first is nought
pub leading-same : (a : ℤ) (s t : Sign) → (a ≡ pos 0 → s ≡ t) → leading (sign a) s ≡ leading (sign a) t
leading-same a s t f = ⊎_elim (λ z. ap (leading (sign a)) (f z)) (λ n. leading-off a s n ∙ sym (leading-off a t n)) (nought-or a)

-- both are nought where the leading sign is
pub leading-nought : (a b : ℤ) → leading (sign a) (sign b) ≡ nought → (a ≡ pos 0) × (b ≡ pos 0)
leading-nought a b e = ⊎_elim
    (λ z. (z, nought-is b (sym (leading-level a (sign b) z) ∙ e)))
    (λ n. absurd (n (nought-is a (sym (leading-off a (sign b) n) ∙ e))))
    (nought-or a)

pub far-leading : (gs : List Vector) (d e : Vector) (k : ℕ) → amount gs e ≤ k → (g : Vector) → Lies gs g → sign (dot g (blend k d 1 e)) ≡ leading (sign (dot g d)) (sign (dot g e))
far-leading gs d e k l g m = ⊎_elim
    (λ z. far-level gs d e k l g z ∙ sym (leading-level (dot g d) (sign (dot g e)) z))
    (λ f. far-keeps gs d e k l g m f ∙ sym (leading-off (dot g d) (sign (dot g e)) f))
    (nought-or (dot g d))

-- (g.g)(h.e) = (g.h)(g.e) for parallel g and h
pub parallel-signs : (g h d e : Vector) → IsDirection g → IsZero (cross g h) → sign (dot g d) ≡ sign (dot g e) → sign (dot h d) ≡ sign (dot h e)
parallel-signs g h d e hg p s = one d ∙ ap (sign_times (sign (dot g h))) s ∙ sym (one e)
  where
    one : (v : Vector) → sign (dot h v) ≡ sign_times (sign (dot g h)) (sign (dot g v))
    one v = ap sign (dot-comm h v) ∙ sym (sign-scaled (dot g g) (dot v h) (self-pos g hg)) ∙ ap sign (dot-scaled v g h p) ∙ sign_of_product (dot g h) (dot v g) ∙ ap (λ r. sign_times (sign (dot g h)) (sign r)) (dot-comm v g)

-- ---- near labels
module _ (gs : List Vector) (F : Vector → Label → Type 0) (L : Labelling gs F) (axial : Axial gs) where
  -- from the label of a vector whose signs are those near d toward e
  pub near-at : (d e z : Vector) (m : Label) → IsDirection d → IsDirection z → ((g : Vector) → Lies gs g → sign (dot g z) ≡ leading (sign (dot g d)) (sign (dot g e))) → F z m → Near F d e m
  near-at d e z m hd hz s f = (amount gs e, λ k l. L.cells z (blend k d 1 e) m hz (far_directed-by gs axial d e k l hd) (λ g i. far-leading gs d e k l g i ∙ sym (s g i)) f)

  pub near-back : (d e z : Vector) (m : Label) → IsDirection d → IsDirection z → ((g : Vector) → Lies gs g → sign (dot g z) ≡ leading (sign (dot g d)) (sign (dot g e))) → Near F d e m → F z m
  near-back d e z m hd hz s (n, f) =
      let k = n + amount gs e in
      L.cells (blend k d 1 e) z m (far_directed-by gs axial d e k (omega arith) hd) hz (λ g i. s g i ∙ sym (far-leading gs d e k (omega arith) g i)) (f k (omega arith))

  pub near-of : (d e : Vector) → IsDirection d → (m : Label) × Near F d e m
  near-of d e h =
      let k = amount gs e in
      let z = blend k d 1 e in
      let hz = far_directed-by gs axial d e k (omega arith) h in
      let r = L.exists z hz in
      (r.0, near-at d e z r.0 h hz (λ g i. far-leading gs d e k (omega arith) g i) r.1)

  pub near-by_signs : (d e c u : Vector) (m : Label) → IsDirection d → IsDirection c
      → ((g : Vector) → Lies gs g → leading (sign (dot g c)) (sign (dot g u)) ≡ leading (sign (dot g d)) (sign (dot g e))) → Near F d e m → Near F c u m
  near-by_signs d e c u m hd hc s f =
      let k = amount gs u in
      let z = blend k c 1 u in
      let hz = far_directed-by gs axial c u k (omega arith) hc in
      let i = λ (g : Vector) (l : Lies gs g). far-leading gs c u k (omega arith) g l in
      near-at c u z m hc hz i (near-back d e z m hd hz (λ g l. i g l ∙ s g l) f)

  pub near-one : (d e : Vector) (k l : Label) → IsDirection d → Near F d e k → Near F d e l → k ≡ l
  near-one d e k l h (i, f) (j, g) = let t = i + j + amount gs e in L.one (blend t d 1 e) k l (far_directed-by gs axial d e t (omega arith) h) (f t (omega arith)) (g t (omega arith))

  -- straight about a plane at z, and at c with the same signs
  pub straight-carried : (n u : Vector) (a m b : Label) (z c : Vector) → IsDirection z → IsDirection c → SameDirection n u → dot u c ≡ pos 0 → SameSigns gs z c → StraightAt F n a m b z → StraightAt F u a m b c
  straight-carried n u a m b z c hz hc w q s p = record {
    level = q;
    at_d = L.cells z c m hz hc s p.at_d;
    near = λ e. subst (Near F c e) (ap (by_side a m b) (sym (side-same_way n u e w)))
        (near-by_signs z e c e (by_side a m b (sign (dot n e))) hz hc (λ g l. ap (λ r. leading r (sign (dot g e))) (s g l)) (p.near e));
  }

  -- the labels of a straight direction are one
  pub straight-pos : (n : Vector) (a m b : Label) (z e : Vector) (l : Label) → IsDirection z → StraightAt F n a m b z → pos 0 <ℤ dot n e → Near F z e l → a ≡ l
  straight-pos n a m b z e l h p q f = near-one z e a l h (subst (Near F z e) (ap (by_side a m b) (sign-plus (dot n e) q)) (p.near e)) f

  pub straight-neg : (n : Vector) (a m b : Label) (z e : Vector) (l : Label) → IsDirection z → StraightAt F n a m b z → dot n e <ℤ pos 0 → Near F z e l → b ≡ l
  straight-neg n a m b z e l h p q f = near-one z e b l h (subst (Near F z e) (ap (by_side a m b) (sign-minus (dot n e) q)) (p.near e)) f
