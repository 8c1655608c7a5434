-- Each set holds or does not hold at each point: no axiom is needed, since finitely many directions decide an interior.
use Rattle.law_geometry.proofs.near.Prelude.{ℕ, ◌+◌, ◌*◌, ◌<◌, ◌≤◌, pos, nat_abs, arith, refl, sym, ◌∙◌, ◌⊎◌, inl, inr, ⊎_elim, List, ◌∷◌, subst, Bool, true, false, [], ints, by_lt_z, cases_lt, half_side, Lies, frame, carriers, SameSigns, SameSlopes, SpacePoint, Form, form_at, normal_of, Ratio, step, Within, InFrame, toward, Vector, Set, Interior, Closure, InHalf, halves, IsShort, HasLabel, Germ, Label, Out, Not, In, each, lies-each, lies-left, lies-right}
use Rattle.nef_space.specs.Sets.{Holds}
use Rattle.law_geometry.proofs.near.Representatives.{representative_directions, Representative, representative}
use Rattle.law_geometry.proofs.near.Near.{stride, step-within, reach_all}
use Rattle.law_geometry.proofs.near.Cells.{same-sym, reach-some, Cells, Inside, InFrame-cells, Holds-cells, Interior-cells}
use Rattle.law_geometry.proofs.near.Germs.{near-same, sign-along, Germ-from_sample, sample}
use Rattle.law_geometry.proofs.near.Flats.{sign-toward}

abbrev pub Decided : Type 0 → Type 0
Decided A = A ⊎ (A → ⊥)

-- the directions that decide
abbrev pub ways : List Form → List Vector
ways hs = representative_directions (each normal_of hs)

abbrev pub way_of : (hs : List Form) (d : Vector) → Representative (each normal_of hs) d
way_of hs d = representative (each normal_of hs) d

pub same-slopes : (hs : List Form) (d : Vector) → SameSlopes hs d (way_of hs d).direction
same-slopes hs d h l = (way_of hs d).same (normal_of h) (lies-each normal_of hs h l)

-- short steps along one direction, and the points that they lead to
abbrev size : List Form → SpacePoint → Vector → ℕ
size hs q d = stride (reach_all hs q) d

abbrev part_of : ℕ → Ratio
part_of k = record { a = pos 1; b = k + 1; proper = omega arith }

abbrev spot : List Form → SpacePoint → Vector → SpacePoint
spot hs q d = step q (part_of (size hs q d)) d

part-short : (n k : ℕ) → n ≤ k → IsShort n (part_of k)
part-short n k h = (omega (arith, ints), omega (arith, ints))

-- all short steps along d lead to one cell
spot-same : (hs : List Form) (q : SpacePoint) (d : Vector) (k : ℕ) → size hs q d ≤ k → SameSigns hs (spot hs q d) (step q (part_of k) d)
spot-same hs q d k l = near-same hs q (spot hs q d) (step q (part_of k) d)
    (step-within (reach_all hs q) q d (part_of (size hs q d)) (part-short (size hs q d) (size hs q d) (omega arith)))
    (step-within (reach_all hs q) q d (part_of k) (part-short (size hs q d) k l))
    (λ h i e. sign-along h q (part_of (size hs q d)) d e (omega (arith, ints)) ∙ sym (sign-along h q (part_of k) d e (omega (arith, ints))))

-- a close point lies in the cell of one of the deciding directions
spot-of : (hs : List Form) (q r : SpacePoint) → Within (reach_all hs q) q r → SameSigns hs r (spot hs q (way_of hs (toward q r)).direction)
spot-of hs q r c =
    let w = way_of hs (toward q r) in
    let d = w.direction in
    near-same hs q r (spot hs q d) c (step-within (reach_all hs q) q d (part_of (size hs q d)) (part-short (size hs q d) (size hs q d) (omega arith)))
    (λ h i e. sign-toward h q r e ∙ same-slopes hs (toward q r) h i ∙ sym (sign-along h q (part_of (size hs q d)) d e (omega (arith, ints))))

-- ---- deciding over a list
pub every : {A : Type 0} (xs : List A) (Q : A → Type 0) → ((x : A) → Decided (Q x)) → ((x : A) × Lies xs x × (Q x → ⊥)) ⊎ ((x : A) → Lies xs x → Q x)
every [] Q f = inr (λ x l. absurd l)
every {A} (y ∷ ys) Q f = by (f y) (every ys Q f)
  where
    by : Decided (Q y) → ((x : A) × Lies ys x × (Q x → ⊥)) ⊎ ((x : A) → Lies ys x → Q x) → ((x : A) × Lies (y ∷ ys) x × (Q x → ⊥)) ⊎ ((x : A) → Lies (y ∷ ys) x → Q x)
    by (inr n) r = inl (y, inl refl, n)
    by (inl h) (inl (x, l, n)) = inl (x, inr l, n)
    by (inl h) (inr g) = inr (λ x l. ⊎_elim (λ e. subst Q e h) (g x) l)

pub decided-not : {A : Type 0} → Decided A → Decided (A → ⊥)
decided-not (inl a) = inr (λ f. f a)
decided-not (inr n) = inl n

pub decided-to : {A B : Type 0} → Decided A → Decided B → Decided (A → B)
decided-to d (inl b) = inl (λ a. b)
decided-to (inl a) (inr n) = inr (λ f. n (f a))
decided-to (inr m) (inr n) = inl (λ a. absurd (m a))

pub decided-both : {A B : Type 0} → Decided A → Decided B → Decided (A × B)
decided-both (inl a) (inl b) = inl (a, b)
decided-both (inl a) (inr n) = inr (λ p. n p.1)
decided-both (inr m) d = inr (λ p. m p.0)

pub decided-or : {A B : Type 0} → Decided A → Decided B → Decided (A ⊎ B)
decided-or (inl a) d = inl (inl a)
decided-or (inr m) (inl b) = inl (inr b)
decided-or (inr m) (inr n) = inr (λ p. ⊎_elim m n p)

pub decided-lt : (a b : ℕ) → Decided (a < b)
decided-lt a b = ⊎_elim (λ h. inl h) (λ h. inr (λ k. omega arith)) (cases_lt a b)

pub InFrame-decided : (p : SpacePoint) → Decided (InFrame p)
InFrame-decided p = by (decided-lt (nat_abs p.x) (half_side * p.w)) (decided-lt (nat_abs p.y) (half_side * p.w)) (decided-lt (nat_abs p.z) (half_side * p.w))
  where
    by : Decided (nat_abs p.x < half_side * p.w) → Decided (nat_abs p.y < half_side * p.w) → Decided (nat_abs p.z < half_side * p.w) → Decided (InFrame p)
    by (inr n) e f = inr (λ c. n c.along_x)
    by (inl d) (inr n) f = inr (λ c. n c.along_y)
    by (inl d) (inl e) (inr n) = inr (λ c. n c.along_z)
    by (inl d) (inl e) (inl f) = inl (record { along_x = d; along_y = e; along_z = f })

module _ (hs : List Form) (P : SpacePoint → Type 0) (F : Cells hs InFrame) (C : Cells hs P) (D : (p : SpacePoint) → Decided (P p)) where
  Interior-decided : (q : SpacePoint) → Decided (Interior P q)
  Interior-decided q = by (every (ways hs) (λ v. InFrame (spot hs q v) → P (spot hs q v))
      (λ v. decided-to (InFrame-decided (spot hs q v)) (D (spot hs q v))))
    where
      by : ((v : Vector) × Lies (ways hs) v × ((InFrame (spot hs q v) → P (spot hs q v)) → ⊥)) ⊎ ((v : Vector) → Lies (ways hs) v → InFrame (spot hs q v) → P (spot hs q v)) → Decided (Interior P q)
      by (inr f) = inl (
        reach_all hs q,
        reach-some hs q,
        λ r i c.
            let w = way_of hs (toward q r) in
            let e = spot-of hs q r c in
            let t = spot hs q w.direction in
            C t r (same-sym hs r t e) (f w.direction w.listed (F r t e i)),
      )
      by (inl (v, l, n)) = inr (λ h.
          let d = v in
          let k = size hs q d + stride h.0 d in
          let r = step q (part_of k) d in
          let e = spot-same hs q d k (omega arith) in
          let c = step-within h.0 q d (part_of k) (part-short (stride h.0 d) k (omega arith)) in
          n (λ i. C r (spot hs q d) (same-sym hs (spot hs q d) r e) (h.2 r (F (spot hs q d) r e i) c)))

  Closure-decided : (q : SpacePoint) → Decided (Closure P q)
  Closure-decided q = by (every (ways hs) (λ v. InFrame (spot hs q v) × P (spot hs q v) → ⊥)
      (λ v. decided-not (decided-both (InFrame-decided (spot hs q v)) (D (spot hs q v)))))
    where
      stable : (v : Vector) → ((InFrame (spot hs q v) × P (spot hs q v) → ⊥) → ⊥) → InFrame (spot hs q v) × P (spot hs q v)
      stable v n = ⊎_elim (λ a. a) (λ b. absurd (n b)) (decided-both (InFrame-decided (spot hs q v)) (D (spot hs q v)))

      by : ((v : Vector) × Lies (ways hs) v × ((InFrame (spot hs q v) × P (spot hs q v) → ⊥) → ⊥)) ⊎ ((v : Vector) → Lies (ways hs) v → InFrame (spot hs q v) × P (spot hs q v) → ⊥) → Decided (Closure P q)
      by (inr f) = inr (λ h.
          let r = h (reach_all hs q) (reach-some hs q) in
          let w = way_of hs (toward q r.0) in
          let e = spot-of hs q r.0 r.2 in
          let t = spot hs q w.direction in
          f w.direction w.listed (F r.0 t e r.1, C r.0 t e r.3))
      by (inl (v, l, n)) = inl (λ k some.
          let d = v in
          let i = stable v n in
          let j = size hs q d + stride k d in
          let r = step q (part_of j) d in
          let e = spot-same hs q d j (omega arith) in
          (r, F (spot hs q d) r e i.0, step-within k q d (part_of j) (part-short (stride k d) j (omega arith)), C (spot hs q d) r e i.1))

InHalf-decided : (h : Form) (c : Bool) (p : SpacePoint) → Decided (InHalf h c p)
InHalf-decided h false p = by_lt_z (form_at h p) (pos 0) (λ l. inl l) (λ l. inr (λ m. omega (arith, ints)))
InHalf-decided h true p = by_lt_z (pos 0) (form_at h p) (λ l. inr (λ m. omega (arith, ints))) (λ l. inl l)

module _ (hs : List Form) (wide : Inside frame hs) where
  -- each set holds or does not hold at each point
  pub Holds-decided : (s : Set) → Inside (halves s) hs → (p : SpacePoint) → Decided (Holds s p)
  unfolding Holds
  Holds-decided (Set.half h c) sub = InHalf-decided h c
  Holds-decided Set.empty sub = λ p. inr (λ e. e)
  Holds-decided Set.full sub = λ p. inl tt
  Holds-decided (Set.both a b) sub = λ p. decided-both (Holds-decided a (λ h l. sub h (lies-left (halves a) (halves b) h l)) p) (Holds-decided b (λ h l. sub h (lies-right (halves a) (halves b) h l)) p)
  Holds-decided (Set.either a b) sub = λ p. decided-or (Holds-decided a (λ h l. sub h (lies-left (halves a) (halves b) h l)) p) (Holds-decided b (λ h l. sub h (lies-right (halves a) (halves b) h l)) p)
  Holds-decided (Set.less a b) sub = λ p. decided-both (Holds-decided a (λ h l. sub h (lies-left (halves a) (halves b) h l)) p) (decided-not (Holds-decided b (λ h l. sub h (lies-right (halves a) (halves b) h l)) p))
  Holds-decided (Set.one_of a b) sub = λ p.
      let d = Holds-decided a (λ h l. sub h (lies-left (halves a) (halves b) h l)) p in
      let e = Holds-decided b (λ h l. sub h (lies-right (halves a) (halves b) h l)) p in
      decided-or (decided-both d (decided-not e)) (decided-both (decided-not d) e)
  Holds-decided (Set.other a) sub = λ p. decided-not (Holds-decided a sub p)
  Holds-decided (Set.inside a) sub = Interior-decided hs (Holds a) (InFrame-cells hs wide) (Holds-cells hs wide a sub) (Holds-decided a sub)
  Holds-decided (Set.closed a) sub = Closure-decided hs (Holds a) (InFrame-cells hs wide) (Holds-cells hs wide a sub) (Holds-decided a sub)
  Holds-decided (Set.border a) sub = λ p. decided-both
      (Closure-decided hs (Holds a) (InFrame-cells hs wide) (Holds-cells hs wide a sub) (Holds-decided a sub) p)
      (decided-not (Interior-decided hs (Holds a) (InFrame-cells hs wide) (Holds-cells hs wide a sub) (Holds-decided a sub) p))
  Holds-decided (Set.regular a) sub =
      let cells = Interior-cells hs (Holds a) (InFrame-cells hs wide) (Holds-cells hs wide a sub) in
      let here = Interior-decided hs (Holds a) (InFrame-cells hs wide) (Holds-cells hs wide a sub) (Holds-decided a sub) in
      Closure-decided hs (Interior (Holds a)) (InFrame-cells hs wide) cells here

-- ---- so each point has one label, and each direction one germ
pub label_of : (s : Set) (p : SpacePoint) → (m : Label) × HasLabel s p m
label_of s p = ⊎_elim
    (λ i. ⊎_elim (λ h. (In, (i, h))) (λ n. (Not, (i, n)))
    (Holds-decided (carriers s) (λ h l. lies-left frame (halves s) h l) s (λ h l. lies-right frame (halves s) h l) p))
    (λ n. (Out, n)) (InFrame-decided p)

pub germ_of : (s : Set) (p : SpacePoint) (d : Vector) → (m : Label) × Germ s p d m
germ_of s p d = let r = label_of s (step p (sample s p d) d) in (r.0, Germ-from_sample s p d r.0 r.1)
