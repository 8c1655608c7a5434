-- Runs of parallel planes, and the one of a run that holds a point.
use Rattle.nef_index.proofs.Prelude.{◌≡◌, ℕ, zero, suc, ◌+◌, ◌-◌, ◌<◌, ◌≤◌, ℤ, pos, negsuc, ◌+ℤ◌, ◌-ℤ◌, ◌*ℤ◌, ◌<ℤ◌, List, [], ◌∷◌, ◌++◌, length, get_or, take, drop, arith, refl, ap, sym, ◌∙◌, ◌⊎◌, inl, inr, ⊎_elim, subst, Bool, true, false, IsTrue, Option, Some, None, is_some, IfSome, Result, Ok, Err, IsNonDecreasingBy, IsSearchInRange, IsBinarySearchResult, int_cmp, ordering_index, drop_of_length-le, cases_lt, cases_order, ints, drop_more, length-drop, get_or-take, get_or-drop, lt_by, mul_pos, sub_pos, at, ◌⊕◌, ◌⊖◌, ◌⊗◌, false≢true, IsAt, IsBelow, SpacePoint, Form, form_at, form_numbers, normal_of, Vector, form_of, Plane, sign_number, sign_of, is-at_one, is-at_some, is-at_within, is-at_get, is-at_is, AreInOrder, IsRun, AreRunsTo, AreRuns, ContinuesRun, IsHolderIn, IsOnlyHolder}
use Rattle.std.proofs.Common.{Ordering, Less, Equal, Greater}
use Rattle.std.specs.Bool.{then_some}
use Rattle.std.specs.Result.{IfOk, is_ok}
use Rattle.std.proofs.lemmas.List.{length-take}
use Rattle.nef_space.proofs.Elementary.{less-or-last}

-- ---- the runs, one after the other
run-one : (hs : List Plane) (k : ℕ) → k < length hs → IsRun hs k (k + 1)
run-one hs k l =
    let h = is-at_some hs k l in
    record {
      normal = normal_of (form_of h.0);
      ordered = omega arith;
      within = omega arith;
      parallel = λ i g a b c. let e : i ≡ k = omega arith in ap (λ (x : Plane). normal_of (form_of x)) (is-at_one hs k g h.0 (subst (λ (j : ℕ). IsAt hs j g) e c) h.1);
    }

run-more : (hs : List Plane) (first k : ℕ) → first ≤ k → IsRun hs first (k + 1) → ContinuesRun hs k → IsRun hs first (k + 1 + 1)
run-more hs first k le R (g, h, a, b, same) = record {
  normal = R.normal;
  ordered = omega arith;
  within = let l = is-at_within hs (k + 1) h b in omega arith;
  parallel = λ i x l m c. ⊎_elim (λ o. R.parallel i x l o c)
      (λ e. ap (λ (y : Plane). normal_of (form_of y)) (is-at_one hs (k + 1) x h (subst (λ (j : ℕ). IsAt hs j x) e c) b) ∙ sym same ∙ R.parallel k g le (omega arith) a)
      (less-or-last i (k + 1) m);
}

runs-end : (hs : List Plane) (first : ℕ) (ends : List ℕ) (next past : ℕ) → AreRunsTo hs first ends next → IsRun hs next past → AreRunsTo hs first (ends ++ past ∷ []) past
runs-end hs first [] next past R r = (subst (λ (k : ℕ). IsRun hs k past) (sym R) r, refl)
runs-end hs first (end ∷ ends) next past R r = (R.0, runs-end hs end ends next past R.1 r)

-- before plane n all runs but one have ended: the one that plane n goes on with or begins
pub record IsInRun (hs : List Plane) (ends : List ℕ) (n : ℕ) : Type 0 where
  pub first : ℕ
  pub le : first ≤ n
  pub ended : AreRunsTo hs 0 ends first
  pub inside : n < length hs → IsRun hs first (n + 1)
  pub last : length hs ≤ n → first ≡ n

pub in-run_none : (hs : List Plane) → IsInRun hs [] 0
in-run_none hs = record { first = 0; le = omega arith; ended = refl; inside = λ l. run-one hs 0 l; last = λ l. refl }

pub in-run_on : (hs : List Plane) (ends : List ℕ) (n : ℕ) → IsInRun hs ends n → ContinuesRun hs n → IsInRun hs ends (n + 1)
in-run_on hs ends n I G =
    let l = is-at_within hs (n + 1) G.1 G.3 in
    record {
      first = I.first;
      le = let m = I.le in omega arith;
      ended = I.ended;
      inside = λ m. run-more hs I.first n I.le (I.inside (omega arith)) G;
      last = λ m. absurd (omega arith);
    }

pub in-run_end : (hs : List Plane) (ends : List ℕ) (n : ℕ) → n < length hs → IsInRun hs ends n → IsInRun hs (ends ++ (n + 1) ∷ []) (n + 1)
in-run_end hs ends n l I = record {
  first = n + 1;
  le = omega arith;
  ended = runs-end hs 0 ends I.first (n + 1) I.ended (I.inside l);
  inside = λ m. run-one hs (n + 1) m;
  last = λ m. refl;
}

pub in-run_all : (hs : List Plane) (ends : List ℕ) (n : ℕ) → n ≡ length hs → IsInRun hs ends n → AreRuns hs ends
in-run_all hs ends n e I = subst (AreRunsTo hs 0 ends) (I.last (omega arith) ∙ e) I.ended

-- the run that begins at `first`, and those after it
pub runs-next : (hs : List Plane) (ends : List ℕ) (n first past : ℕ) → n < length ends → AreRunsTo hs first (drop n ends) past → IsRun hs first (get_or ends n 0) × AreRunsTo hs (get_or ends n 0) (drop (n + 1) ends) past
runs-next hs ends n first past l R = subst (λ (ks : List ℕ). AreRunsTo hs first ks past) (drop_more ends n 0 l) R

pub runs-all : (hs : List Plane) (ends : List ℕ) (n first past : ℕ) → length ends ≤ n → AreRunsTo hs first (drop n ends) past → first ≡ past
runs-all hs ends n first past l R = subst (λ (ks : List ℕ). AreRunsTo hs first ks past) (drop_of_length-le ends {i = n} l) R

-- ---- parallel forms at a point
rise-numbers : (a b c d e x y z w : ℤ) → d <ℤ e → pos 0 <ℤ w → (a *ℤ x +ℤ b *ℤ y +ℤ c *ℤ z +ℤ d *ℤ w) <ℤ (a *ℤ x +ℤ b *ℤ y +ℤ c *ℤ z +ℤ e *ℤ w)
rise-numbers a b c d e x y z w l p =
    lt_by (a ∷ b ∷ c ∷ d ∷ e ∷ x ∷ y ∷ z ∷ w ∷ []) (at 0 ⊗ at 5 ⊕ at 1 ⊗ at 6 ⊕ at 2 ⊗ at 7 ⊕ at 3 ⊗ at 8) (at 0 ⊗ at 5 ⊕ at 1 ⊗ at 6 ⊕ at 2 ⊗ at 7 ⊕ at 4 ⊗ at 8) ((at 4 ⊖ at 3) ⊗ at 8) tt (mul_pos (e -ℤ d) w (sub_pos d e l) p)

rise : (f g : Form) (p : SpacePoint) → normal_of f ≡ normal_of g → f.d <ℤ g.d → form_at f p <ℤ form_at g p
rise f g p same l =
    subst (λ (n : Vector). form_at f p <ℤ (n.x *ℤ p.x +ℤ n.y *ℤ p.y +ℤ n.z *ℤ p.z +ℤ g.d *ℤ pos p.w)) same
    (rise-numbers f.a f.b f.c f.d g.d p.x p.y p.z (pos p.w) l (let m = p.proper in omega (arith, ints)))

-- of two forms with one normal the one below has the smaller last number
last-below : (f g : Form) → normal_of f ≡ normal_of g → IsBelow (form_numbers f) (form_numbers g) → f.d <ℤ g.d
last-below f g same below = first (ap (λ (n : Vector). n.x) same) (ap (λ (n : Vector). n.y) same) (ap (λ (n : Vector). n.z) same) below
  where
    first : f.a ≡ g.a → f.b ≡ g.b → f.c ≡ g.c → IsBelow (form_numbers f) (form_numbers g) → f.d <ℤ g.d
    first a b c (inl l) = absurd (omega (arith, ints))
    first a b c (inr (_, inl l)) = absurd (omega (arith, ints))
    first a b c (inr (_, inr (_, inl l))) = absurd (omega (arith, ints))
    first a b c (inr (_, inr (_, inr (_, inl l)))) = l
    first a b c (inr (_, inr (_, inr (_, inr (_, never))))) = absurd never

-- ---- searching a run
abbrev pub run_of : List Plane → ℕ → ℕ → List Plane
run_of hs first past = take (past - first) (drop first hs)

-- how the closure of the search answers at a form's number
abbrev number_order : ℤ → Ordering
number_order z = int_cmp (sign_number (sign_of z)) (pos 0)

abbrev pub side_order : SpacePoint → Plane → Ordering
side_order p h = number_order (form_at (form_of h) p)

is-negative : (z : ℤ) → number_order z ≡ Less → z <ℤ pos 0
is-negative (pos zero) e = let i : ◌≡◌ {A = ℕ} 1 0 = ap ordering_index e in absurd (omega arith)
is-negative (pos (suc n)) e = let i : ◌≡◌ {A = ℕ} 2 0 = ap ordering_index e in absurd (omega arith)
is-negative (negsuc n) e = omega (arith, ints)

is-nought : (z : ℤ) → number_order z ≡ Equal → z ≡ pos 0
is-nought (pos zero) e = refl
is-nought (pos (suc n)) e = let i : ◌≡◌ {A = ℕ} 2 1 = ap ordering_index e in absurd (omega arith)
is-nought (negsuc n) e = let i : ◌≡◌ {A = ℕ} 0 1 = ap ordering_index e in absurd (omega arith)

is-positive : (z : ℤ) → number_order z ≡ Greater → pos 0 <ℤ z
is-positive (pos zero) e = let i : ◌≡◌ {A = ℕ} 1 2 = ap ordering_index e in absurd (omega arith)
is-positive (pos (suc n)) e = omega (arith, ints)
is-positive (negsuc n) e = let i : ◌≡◌ {A = ℕ} 0 2 = ap ordering_index e in absurd (omega arith)

order-rises : (y z : ℤ) → y <ℤ z → ordering_index (number_order y) ≤ ordering_index (number_order z)
order-rises (negsuc n) z l = omega arith
order-rises (pos zero) (pos zero) l = omega arith
order-rises (pos zero) (pos (suc m)) l = omega arith
order-rises (pos (suc n)) (pos (suc m)) l = omega arith
order-rises (pos (suc n)) (pos zero) l = absurd (omega (arith, ints))
order-rises (pos n) (negsuc m) l = absurd (omega (arith, ints))

module _ (hs : List Plane) (first past : ℕ) (p : SpacePoint) (order : AreInOrder hs) (R : IsRun hs first past) where
  rises : (i j : ℕ) (g h : Plane) → first ≤ i → i < j → j < past → IsAt hs i g → IsAt hs j h → form_at (form_of g) p <ℤ form_at (form_of h) p
  rises i j g h l m n a b =
      let same = R.parallel i g l (omega arith) a ∙ sym (R.parallel j h (omega arith) n b) in
      rise (form_of g) (form_of h) p same (last-below (form_of g) (form_of h) same (order i j g h m a b))

  found-holder : (k : ℕ) (h : Plane) → first ≤ k → k < past → IsAt hs k h → form_at (form_of h) p ≡ pos 0 → IsOnlyHolder hs first past p k
  found-holder k h l m b z = record { holder = (l, m, (h, b, (z, z))); only = λ i (u, v, (g, a, (y, _))). one i g u v a y (cases_order i k) }
    where
      one : (i : ℕ) (g : Plane) → first ≤ i → i < past → IsAt hs i g → form_at (form_of g) p ≡ pos 0 → (i ≡ k) ⊎ (i < k) ⊎ (k < i) → i ≡ k
      one i g u v a y (inr (inl o)) = let r = rises i k g h u o m a b in absurd (omega (arith, ints))
      one i g u v a y (inl e) = e
      one i g u v a y (inr (inr o)) = let r = rises k i h g l o v b a in absurd (omega (arith, ints))

  -- a run of one plane, of which a test tells whether it holds the point
  pub found-alone : (h : Plane) (t : Bool) (o : Option ℕ) → IsAt hs first h → first < past → (IsTrue t → form_at (form_of h) p ≡ pos 0) → o ≡ then_some t first → IfSome o (λ k. IsOnlyHolder hs first past p k)
  found-alone h true o a l z e = subst (λ (r : Option ℕ). IfSome r (λ k. IsOnlyHolder hs first past p k)) (sym e) (found-holder first h (omega arith) l a (z refl))
  found-alone h false o a l z e = subst (λ (r : Option ℕ). IfSome r (λ k. IsOnlyHolder hs first past p k)) (sym e) tt

  pub missed-alone : (h : Plane) (t : Bool) (o : Option ℕ) → IsAt hs first h → past ≡ first + 1 → (form_at (form_of h) p ≡ pos 0 → IsTrue t) → o ≡ then_some t first → is_some o ≡ false → (k : ℕ) → IsHolderIn hs first past p k → ⊥
  missed-alone h true (Some j) a l z e n k m = cc
  missed-alone h true None a l z e n k m = cc
  missed-alone h false o a l z e n k (u, v, (g, b, (y, _))) =
      let same : k ≡ first = omega arith in
      false≢true (z (subst (λ (r : Plane). form_at (form_of r) p ≡ pos 0) (is-at_one hs first g h (subst (λ (j : ℕ). IsAt hs j g) same b) a) y))

  read-run : (i : ℕ) (d : Plane) → i < past - first → get_or (run_of hs first past) i d ≡ get_or hs (first + i) d
  read-run i d l = get_or-take (past - first) (drop first hs) i d l ∙ get_or-drop first hs i d

  run-at : (i : ℕ) (d : Plane) → i < past - first → IsAt hs (first + i) (get_or (run_of hs first past) i d)
  run-at i d l = subst (IsAt hs (first + i)) (sym (read-run i d l)) (is-at_get hs (first + i) d (let w = R.within in omega arith))

  length-run : length (run_of hs first past) ≡ past - first
  length-run = let a = length-take (past - first) (drop first hs) in let b = length-drop first hs in let w = R.within in omega (arith, a, b)

  run-rises : IsNonDecreasingBy (λ (h : Plane). ordering_index (side_order p h)) (run_of hs first past)
  run-rises i j d le lt =
      let e = length-run in
      let l : j < past - first = omega (arith, e) in
      let n = run_of hs first past in
      ⊎_elim
      (λ o. order-rises (form_at (form_of (get_or n i d)) p) (form_at (form_of (get_or n j d)) p)
      (rises (first + i) (first + j) (get_or n i d) (get_or n j d) (omega arith) (omega arith) (omega arith) (run-at i d (omega arith)) (run-at j d l)))
      (λ o. let same : i ≡ j = omega arith in omega (arith, ap (λ (k : ℕ). ordering_index (side_order p (get_or n k d))) same))
      (cases_lt i j)

  pub found-in-run : (r : Result ℕ ℕ) → IsSearchInRange r (length (run_of hs first past)) → IsBinarySearchResult (side_order p) (run_of hs first past) r → IfOk r (λ i. IsOnlyHolder hs first past p (first + i))
  found-in-run (Ok i) l f =
      let e = length-run in
      let m : i < past - first = omega (arith, e) in
      let d : Plane = (is-at_some hs (first + i) (let w = R.within in omega arith)).0 in
      let h : Plane = get_or (run_of hs first past) i d in
      found-holder (first + i) h (omega arith) (omega arith) (run-at i d m) (is-nought (form_at (form_of h) p) (f d))
  found-in-run (Err i) l f = tt

  pub missed-in-run : (r : Result ℕ ℕ) → IsSearchInRange r (length (run_of hs first past)) → IsBinarySearchResult (side_order p) (run_of hs first past) r → is_ok r ≡ false → (k : ℕ) → IsHolderIn hs first past p k → ⊥
  missed-in-run (Ok i) l f failed k h = cc
  missed-in-run (Err i) l f failed k (u, v, (h, a, (z, _))) =
      let e = length-run in
      let m : k - first < past - first = omega arith in
      let n : Plane = get_or (run_of hs first past) (k - first) h in
      let back : first + (k - first) ≡ k = omega arith in
      let same : n ≡ h = read-run (k - first) h m ∙ ap (λ (j : ℕ). get_or hs j h) back ∙ is-at_is hs k h h a in
      let y : form_at (form_of n) p ≡ pos 0 = ap (λ (g : Plane). form_at (form_of g) p) same ∙ z in
      let sides = f run-rises in
      ⊎_elim
      (λ o. let b = is-negative (form_at (form_of n) p) (sides.0 (k - first) h (omega arith) o) in omega (arith, ints))
      (λ o. let b = is-positive (form_at (form_of n) p) (sides.1 (k - first) h o (omega (arith, e))) in omega (arith, ints))
      (cases_lt (k - first) i)
