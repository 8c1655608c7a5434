-- Near a point only the carriers through it matter; along a ray the label settles at once.
use Rattle.law_geometry.proofs.near.Prelude.{◌≡◌, ℕ, ◌+◌, pos, ◌<ℤ◌, arith, refl, sym, ◌∙◌, ⊎_elim, List, ints, nought, sign, nought-is, Lies, sign_at, frame, carriers, SameSigns, SpacePoint, Form, form_at, slope, Ratio, step, Within, InFrame, Vector, Set, Holds, halves, IsShort, HasLabel, Germ, Label, Out, Not, In, lies-left, lies-right}
use Rattle.law_geometry.proofs.near.Near.{reach_all, ray-level, stride, step-within}
use Rattle.law_geometry.proofs.near.Cells.{same-sym, keeps-all, Cells, InFrame-cells, Holds-cells, is_nought}

-- q and r have the same signs at the forms through p
abbrev pub SameThrough : List Form → SpacePoint → SpacePoint → SpacePoint → Type 0
SameThrough hs p q r = (h : Form) → Lies hs h → sign_at h p ≡ nought → sign_at h q ≡ sign_at h r

pub near-same : (hs : List Form) (p q r : SpacePoint) → Within (reach_all hs p) p q → Within (reach_all hs p) p r → SameThrough hs p q r → SameSigns hs q r
near-same hs p q r c d same h l = ⊎_elim (λ e. same h l e) (λ e. keeps-all hs p q c h l e ∙ sym (keeps-all hs p r d h l e)) (is_nought (sign_at h p))

pub Label-cells : (s : Set) (m : Label) → Cells (carriers s) (λ p. HasLabel s p m)
Label-cells s m = by m
  where
    inner : Cells (carriers s) InFrame
    inner = InFrame-cells (carriers s) (λ h l. lies-left frame (halves s) h l)

    holds : Cells (carriers s) (Holds s)
    holds = Holds-cells (carriers s) (λ h l. lies-left frame (halves s) h l) s (λ h l. lies-right frame (halves s) h l)

    by : (m : Label) → Cells (carriers s) (λ p. HasLabel s p m)
    by Out p q same n = λ i. n (inner q p (same-sym (carriers s) p q same) i)
    by Not p q same n = (inner p q same n.0, λ i. n.1 (holds q p (same-sym (carriers s) p q same) i))
    by In p q same n = (inner p q same n.0, holds p q same n.1)

-- close to p the label depends only on the signs at the carriers through p
pub locality : (s : Set) (m : Label) (p q r : SpacePoint) → Within (reach_all (carriers s) p) p q → Within (reach_all (carriers s) p) p r → SameThrough (carriers s) p q r → HasLabel s q m → HasLabel s r m
locality s m p q r c d same = Label-cells s m q r (near-same (carriers s) p q r c d same)

-- at a form through p, a step along d has the sign of the slope
pub sign-along : (h : Form) (p : SpacePoint) (t : Ratio) (d : Vector) → sign_at h p ≡ nought → pos 0 <ℤ t.a → sign_at h (step p t d) ≡ sign (slope h d)
sign-along h p t d e a = ray-level h p t d a (nought-is (form_at h p) e)

-- how short a step along d must be
abbrev pub short_enough : Set → SpacePoint → Vector → ℕ
short_enough s p d = stride (reach_all (carriers s) p) d

pub along-same : (s : Set) (m : Label) (p : SpacePoint) (d : Vector) (t u : Ratio) → IsShort (short_enough s p d) t → IsShort (short_enough s p d) u → HasLabel s (step p t d) m → HasLabel s (step p u d) m
along-same s m p d t u h k = locality s m p (step p t d) (step p u d) (step-within (reach_all (carriers s) p) p d t h) (step-within (reach_all (carriers s) p) p d u k)
    (λ f l e. sign-along f p t d e h.0 ∙ sym (sign-along f p u d e k.0))

abbrev pub sample : Set → SpacePoint → Vector → Ratio
sample s p d = record { a = pos 1; b = short_enough s p d + 1; proper = omega arith }

pub sample-short : (s : Set) (p : SpacePoint) (d : Vector) → IsShort (short_enough s p d) (sample s p d)
sample-short s p d = (omega (arith, ints), omega (arith, ints))

-- the label of one short step is the germ
pub Germ-from_sample : (s : Set) (p : SpacePoint) (d : Vector) (m : Label) → HasLabel s (step p (sample s p d) d) m → Germ s p d m
Germ-from_sample s p d m h = (short_enough s p d, omega arith, λ t k. along-same s m p d (sample s p d) t (sample-short s p d) k h)

pub label-one : (s : Set) (p : SpacePoint) (m k : Label) → HasLabel s p m → HasLabel s p k → m ≡ k
label-one s p Out Out h i = refl
label-one s p Out Not h i = absurd (h i.0)
label-one s p Out In h i = absurd (h i.0)
label-one s p Not Out h i = absurd (i h.0)
label-one s p Not Not h i = refl
label-one s p Not In h i = absurd (h.1 i.1)
label-one s p In Out h i = absurd (i h.0)
label-one s p In Not h i = absurd (i.1 h.1)
label-one s p In In h i = refl

pub Germ-unique : (s : Set) (p : SpacePoint) (d : Vector) (m k : Label) → Germ s p d m → Germ s p d k → m ≡ k
Germ-unique s p d m k (n, some, f) (n', some', g) =
    let t : Ratio = record { a = pos 1; b = n + n' + 1; proper = omega arith } in
    label-one s (step p t d) m k (f t (omega (arith, ints), omega (arith, ints))) (g t (omega (arith, ints), omega (arith, ints)))
