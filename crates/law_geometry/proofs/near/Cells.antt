-- Points at which all carriers have the same signs lie in the same sets.
use Rattle.law_geometry.proofs.near.Prelude.{◌≡◌, ℕ, ◌+◌, ◌*◌, ◌<◌, ℤ, pos, negsuc, ◌-ℤ◌, ◌*ℤ◌, neg_ℤ, ◌≤ℤ◌, nat_abs, arith, refl, ap, sym, ◌∙◌, ◌⊎◌, inl, inr, ⊎_elim, ◌↔◌, List, ◌∷◌, Bool, true, false, [], ints, ring, at, num, ◌⊖◌, ◌⊗◌, Sign, minus, nought, plus, sign, sign-minus, plus-is, minus-is, nought-is, sign-scaled, SpacePoint, Form, form_at, slope, Ratio, step, toward, Within, InFrame, Vector, Set, Interior, Closure, InHalf, halves, half_side, Lies, sign_at, side, frame, SameSigns, lies-left, lies-right}
use Rattle.nef_space.specs.Sets.{Holds}
use Rattle.law_geometry.proofs.near.Near.{reach_all, keeps-all as keeps-form, slope-toward, weaken, stride, step-within, ray-level}
use Rattle.nef_space.proofs.Elementary.{counted-positive}

-- q keeps the signs of those forms that are not nought at p
abbrev pub KeepsPointSigns : List Form → SpacePoint → SpacePoint → Type 0
KeepsPointSigns hs p q = (h : Form) → Lies hs h → (sign_at h p ≡ nought → ⊥) → sign_at h q ≡ sign_at h p

pub same-sym : (hs : List Form) (p q : SpacePoint) → SameSigns hs p q → SameSigns hs q p
same-sym hs p q f h l = sym (f h l)

pub reach-some : (hs : List Form) (p : SpacePoint) → 0 < reach_all hs p
reach-some [] p = omega arith
reach-some (h ∷ hs) p = omega arith

pub keeps-all : (hs : List Form) (p q : SpacePoint) → Within (reach_all hs p) p q → KeepsPointSigns hs p q
keeps-all hs p q c h l n = keeps-form hs p q c h l (λ z. n (ap sign z))

-- ---- a small copy of the way from q' to r', laid at q
pub is_nought : (s : Sign) → (s ≡ nought) ⊎ (s ≡ nought → ⊥)
is_nought minus = inr (λ e. cc)
is_nought nought = inl refl
is_nought plus = inr (λ e. cc)

-- toward q the slope of a form that is nought at p has the sign of the form at q
slope-level : (h : Form) (p q : SpacePoint) → form_at h p ≡ pos 0 → sign (slope h (toward p q)) ≡ sign_at h q
slope-level h p q z = ap sign (slope-toward h p q ∙ ap (λ r. pos p.w *ℤ form_at h q -ℤ pos q.w *ℤ r) z ∙ ring (pos p.w ∷ form_at h q ∷ pos q.w ∷ []) (at 0 ⊗ at 1 ⊖ at 2 ⊗ num (pos 0)) (at 0 ⊗ at 1) tt)
    ∙ sign-scaled (pos p.w) (form_at h q) (counted-positive p.w p.proper)

pub record Copy (hs : List Form) (n : ℕ) (q r' : SpacePoint) : Type 0 where
  pub at_place : SpacePoint
  pub close : Within n q at_place
  pub same : SameSigns hs at_place r'

module _ (hs : List Form) (n : ℕ) (q q' r' : SpacePoint) where
  abbrev way : Vector
  way = toward q' r'

  abbrev ball : ℕ
  ball = n + reach_all hs q

  abbrev part : Ratio
  part = record { a = pos 1; b = stride ball way + 1; proper = omega arith }

  abbrev there : SpacePoint
  there = step q part way

  there-close : Within ball q there
  there-close = step-within ball q way part (omega (arith, ints), omega (arith, ints))

  there-keeps : KeepsPointSigns hs q there
  there-keeps = keeps-all hs q there (weaken (reach_all hs q) ball q there (omega arith) there-close)

  there-signs : SameSigns hs q q' → KeepsPointSigns hs q' r' → SameSigns hs there r'
  there-signs same keep h l = ⊎_elim
      (λ e. ray-level h q part way (omega (arith, ints)) (nought-is (form_at h q) e) ∙ slope-level h q' r' (nought-is (form_at h q') (sym (same h l) ∙ e)))
      (λ e. there-keeps h l e ∙ same h l ∙ sym (keep h l (λ f. e (same h l ∙ f)))) (is_nought (sign_at h q))

  pub copied : SameSigns hs q q' → KeepsPointSigns hs q' r' → Copy hs n q r'
  copied same keep = record { at_place = there; close = weaken n ball q there (omega arith) there-close; same = there-signs same keep }

-- ---- a predicate on points that the signs of the forms decide
abbrev pub Cells : List Form → (SpacePoint → Type 0) → Type 0
Cells hs P = (p q : SpacePoint) → SameSigns hs p q → P p → P q

-- a coordinate is in the frame where two of the forms are negative
pub coordinate-in : (f g : Form) (x : ℤ) (p : SpacePoint) → form_at f p ≡ x -ℤ pos (half_side * p.w) → form_at g p ≡ neg_ℤ x -ℤ pos (half_side * p.w) → (nat_abs x < half_side * p.w) ↔ ((sign_at f p ≡ minus) × (sign_at g p ≡ minus))
coordinate-in f g x p e e' = (
  λ h. (sign-minus (form_at f p) (omega (arith, ints)), sign-minus (form_at g p) (omega (arith, ints))),
  λ h. let a = minus-is (form_at f p) h.0 in let b = minus-is (form_at g p) h.1 in omega (arith, ints),
)

module _ (hs : List Form) (sub : (h : Form) → Lies frame h → Lies hs h) where
  pub InFrame-cells : Cells hs InFrame
  InFrame-cells p q same c = record {
    along_x = by (side (pos 1) (pos 0) (pos 0)) (side (negsuc 0) (pos 0) (pos 0)) (λ r. r.x) (sub _ (inl refl)) (sub _ (inr (inl refl))) (λ r. omega (arith, ints)) (λ r. omega (arith, ints)) c.along_x;
    along_y = by (side (pos 0) (pos 1) (pos 0)) (side (pos 0) (negsuc 0) (pos 0)) (λ r. r.y) (sub _ (inr (inr (inl refl)))) (sub _ (inr (inr (inr (inl refl))))) (λ r. omega (arith, ints)) (λ r. omega (arith, ints)) c.along_y;
    along_z = by (side (pos 0) (pos 0) (pos 1)) (side (pos 0) (pos 0) (negsuc 0)) (λ r. r.z) (sub _ (inr (inr (inr (inr (inl refl)))))) (sub _ (inr (inr (inr (inr (inr (inl refl))))))) (λ r. omega (arith, ints)) (λ r. omega (arith, ints)) c.along_z;
  }
    where
      by : (f g : Form) (x : SpacePoint → ℤ) → Lies hs f → Lies hs g → ((r : SpacePoint) → form_at f r ≡ x r -ℤ pos (half_side * r.w)) → ((r : SpacePoint) → form_at g r ≡ neg_ℤ (x r) -ℤ pos (half_side * r.w)) → nat_abs (x p) < half_side * p.w → nat_abs (x q) < half_side * q.w
      by f g x l m e d h =
          let s = (coordinate-in f g (x p) p (e p) (d p)).0 h in
          (coordinate-in f g (x q) q (e q) (d q)).1 (sym (same f l) ∙ s.0, sym (same g m) ∙ s.1)

pub Interior-cells : (hs : List Form) (P : SpacePoint → Type 0) → Cells hs InFrame → Cells hs P → Cells hs (Interior P)
Interior-cells hs P F C p q same (n, some, f) = (
  reach_all hs q,
  reach-some hs q,
  λ r i c.
      let k = copied hs n p q r same (keeps-all hs q r c) in
      C k.at_place r k.same (f k.at_place (F r k.at_place (same-sym hs k.at_place r k.same) i) k.close),
)

pub Closure-cells : (hs : List Form) (P : SpacePoint → Type 0) → Cells hs InFrame → Cells hs P → Cells hs (Closure P)
Closure-cells hs P F C p q same f n some =
    let r = f (reach_all hs p) (reach-some hs p) in
    let k = copied hs n q p r.0 (same-sym hs p q same) (keeps-all hs p r.0 r.2) in
    (k.at_place, F r.0 k.at_place (same-sym hs k.at_place r.0 k.same) r.1, k.close, C r.0 k.at_place (same-sym hs k.at_place r.0 k.same) r.3)

-- ---- every set
abbrev pub Inside : List Form → List Form → Type 0
Inside ks hs = (h : Form) → Lies ks h → Lies hs h

InHalf-cells : (hs : List Form) (h : Form) (c : Bool) → Lies hs h → Cells hs (InHalf h c)
InHalf-cells hs h false l p q same i = minus-is (form_at h q) (sym (same h l) ∙ sign-minus (form_at h p) i)
InHalf-cells hs h true l p q same i = by (sign_at h p) refl
  where
    by : (s : Sign) → sign_at h p ≡ s → form_at h q ≤ℤ pos 0
    by minus e = let m = minus-is (form_at h q) (sym (same h l) ∙ e) in omega (arith, ints)
    by nought e = let m = nought-is (form_at h q) (sym (same h l) ∙ e) in omega (arith, ints)
    by plus e = let m = plus-is (form_at h p) e in absurd (omega (arith, ints))

module _ (hs : List Form) (wide : Inside frame hs) where
  pub Holds-cells : (s : Set) → Inside (halves s) hs → Cells hs (Holds s)
  unfolding Holds
  Holds-cells (Set.half h c) sub = InHalf-cells hs h c (sub h (inl refl))
  Holds-cells Set.empty sub = λ p q same i. i
  Holds-cells Set.full sub = λ p q same i. i
  Holds-cells (Set.both a b) sub = λ p q same i. (
    Holds-cells a (λ h l. sub h (lies-left (halves a) (halves b) h l)) p q same i.0,
    Holds-cells b (λ h l. sub h (lies-right (halves a) (halves b) h l)) p q same i.1,
  )
  Holds-cells (Set.either a b) sub = λ p q same i.
      ⊎_elim (λ j. inl (Holds-cells a (λ h l. sub h (lies-left (halves a) (halves b) h l)) p q same j))
      (λ j. inr (Holds-cells b (λ h l. sub h (lies-right (halves a) (halves b) h l)) p q same j)) i
  Holds-cells (Set.less a b) sub = λ p q same i. (
    Holds-cells a (λ h l. sub h (lies-left (halves a) (halves b) h l)) p q same i.0,
    λ j. i.1 (Holds-cells b (λ h l. sub h (lies-right (halves a) (halves b) h l)) q p (same-sym hs p q same) j),
  )
  Holds-cells (Set.one_of a b) sub = λ p q same i.
      let f = Holds-cells a (λ h l. sub h (lies-left (halves a) (halves b) h l)) in
      let g = Holds-cells b (λ h l. sub h (lies-right (halves a) (halves b) h l)) in
      let back = same-sym hs p q same in
      ⊎_elim (λ j. inl (f p q same j.0, λ k. j.1 (g q p back k))) (λ j. inr (λ k. j.0 (f q p back k), g p q same j.1)) i
  Holds-cells (Set.other a) sub = λ p q same i j. i (Holds-cells a sub q p (same-sym hs p q same) j)
  Holds-cells (Set.inside a) sub = Interior-cells hs (Holds a) (InFrame-cells hs wide) (Holds-cells a sub)
  Holds-cells (Set.closed a) sub = Closure-cells hs (Holds a) (InFrame-cells hs wide) (Holds-cells a sub)
  Holds-cells (Set.border a) sub = λ p q same i. (
    Closure-cells hs (Holds a) (InFrame-cells hs wide) (Holds-cells a sub) p q same i.0,
    λ j. i.1 (Interior-cells hs (Holds a) (InFrame-cells hs wide) (Holds-cells a sub) q p (same-sym hs p q same) j),
  )
  Holds-cells (Set.regular a) sub = Closure-cells hs (Interior (Holds a)) (InFrame-cells hs wide) (Interior-cells hs (Holds a) (InFrame-cells hs wide) (Holds-cells a sub))
