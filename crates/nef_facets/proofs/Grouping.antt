-- The cycles of orbits in rows, one orbit after the other.
use Rattle.nef_facets.proofs.Prelude.{◌≡◌, ℕ, ◌+◌, ◌<◌, ◌≤◌, List, [], ◌∷◌, ◌++◌, length, arith, sym, ◌⊎◌, inl, inr, ⊎_elim, subst, set, cases_order, IsAt, Either, earlier, last, is-at_pushed, is-at_last, is-at_left, is-at_one, is-at_within, Corner, Cycle, AreCornersOf, IsCycleOf, AreCycleRows, set-same, set-other, set-at}
use Rattle.nef_facets.proofs.Lists.{HasOneForEach}
use Rattle.nef_space.proofs.Elementary.{less-or-last}

pub corners-of : (ks : List Corner) (is : List ℕ) (n : ℕ) (xs : List Corner) → HasOneForEach (λ (x : Corner) (i : ℕ). IsAt ks i x) n xs is → length is ≤ n → AreCornersOf ks is xs
corners-of ks is n xs E h = record { as_many = let e = E.as_many in let l = E.within in omega arith; each = λ k i x a b. E.each k x i b a }

pub grouped-none : (rows : List (List ℕ)) (ks : List Corner) (orbits : List (List ℕ)) (ys : List (List Cycle)) → ((n : ℕ) (row : List Cycle) → IsAt ys n row → row ≡ []) → AreCycleRows rows ks orbits 0 ys
grouped-none rows ks orbits ys none = record {
  each = λ n q row y a b. absurd (no q y (subst (λ (r : List Cycle). IsAt r q y) (none n row a) b));
  all = λ m h. absurd (omega arith);
  ordered = λ n q r row y z l a b d. absurd (no q y (subst (λ (w : List Cycle). IsAt w q y) (none n row a) b));
}
  where
    no : (q : ℕ) (y : Cycle) → IsAt {X = Cycle} [] q y → ⊥
    no q y a = cc

module _ (rows : List (List ℕ)) (ks : List Corner) (orbits : List (List ℕ)) (i : ℕ) (ys : List (List Cycle)) (G : AreCycleRows rows ks orbits i ys)
    (n : ℕ) (row : List Cycle) (at : IsAt ys n row) (y : Cycle) (Y : IsCycleOf rows ks orbits n i y) where
  abbrev longer : List Cycle
  longer = row ++ y ∷ []

  abbrev new : List (List Cycle)
  new = set ys n longer

  here : IsAt new n longer
  here = set-same ys n longer (is-at_within ys n row at)

  each-last : (q : ℕ) (z : Cycle) → Either row q z y → (m : ℕ) × (m < i + 1) × IsCycleOf rows ks orbits n m z
  each-last q z (earlier a) = let r = G.each n q row z at a in (r.0, (let h = r.1 in omega arith), r.2)
  each-last q z (last e f) = (i, omega arith, subst (λ (w : Cycle). IsCycleOf rows ks orbits n i w) (sym f) Y)

  order-last : (q r : ℕ) (x z : Cycle) → q < r → Either row q x y → Either row r z y → (l : ℕ) × (m : ℕ) × (l < m) × IsCycleOf rows ks orbits n l x × IsCycleOf rows ks orbits n m z
  order-last q r x z h (earlier a) (earlier b) = G.ordered n q r row x z h at a b
  order-last q r x z h (earlier a) (last e f) = let p = G.each n q row x at a in (p.0, i, p.1, p.2, subst (λ (w : Cycle). IsCycleOf rows ks orbits n i w) (sym f) Y)
  order-last q r x z h (last e f) (earlier b) = let g = is-at_within row r z b in absurd (omega arith)
  order-last q r x z h (last e f) (last g k) = absurd (omega arith)

  -- a row of before, or the one that got longer
  each-row : (j q : ℕ) (w : List Cycle) (z : Cycle) → ((j ≡ n) × (w ≡ longer)) ⊎ IsAt ys j w → IsAt w q z → (m : ℕ) × (m < i + 1) × IsCycleOf rows ks orbits j m z
  each-row j q w z (inl e) b =
      subst (λ (p : ℕ). (m : ℕ) × (m < i + 1) × IsCycleOf rows ks orbits p m z) (sym e.0) (each-last q z (is-at_pushed row q z y (subst (λ (r : List Cycle). IsAt r q z) e.1 b)))
  each-row j q w z (inr a) b = let r = G.each j q w z a b in (r.0, (let h = r.1 in omega arith), r.2)

  order-row : (j q r : ℕ) (w : List Cycle) (x z : Cycle) → q < r → ((j ≡ n) × (w ≡ longer)) ⊎ IsAt ys j w → IsAt w q x → IsAt w r z → (l : ℕ) × (m : ℕ) × (l < m) × IsCycleOf rows ks orbits j l x × IsCycleOf rows ks orbits j m z
  order-row j q r w x z h (inl e) a b =
      subst (λ (p : ℕ). (l : ℕ) × (m : ℕ) × (l < m) × IsCycleOf rows ks orbits p l x × IsCycleOf rows ks orbits p m z) (sym e.0)
      (order-last q r x z h (is-at_pushed row q x y (subst (λ (v : List Cycle). IsAt v q x) e.1 a)) (is-at_pushed row r z y (subst (λ (v : List Cycle). IsAt v r z) e.1 b)))
  order-row j q r w x z h (inr d) a b = G.ordered j q r w x z h d a b

  -- a row of before still has its cycles
  still : (j q : ℕ) (w : List Cycle) (z : Cycle) → IsAt ys j w → IsAt w q z → (v : List Cycle) × IsAt new j v × IsAt v q z
  still j q w z a b = ⊎_elim
      (λ e. (longer, subst (λ (p : ℕ). IsAt new p longer) (sym e) here, is-at_left row (y ∷ []) q z (subst (λ (v : List Cycle). IsAt v q z) (is-at_one ys n w row (subst (λ (p : ℕ). IsAt ys p w) e a) at) b)))
      (λ o. (w, set-other ys n j longer w (⊎_elim (λ l e. absurd (omega arith)) (λ l e. absurd (omega arith)) o) a, b)) (cases_order j n)

  pub grouped-more : AreCycleRows rows ks orbits (i + 1) new
  grouped-more = record {
    each = λ j q w z a b. each-row j q w z (set-at ys n j longer w a) b;
    all = λ m h. ⊎_elim
        (λ l. let r = G.all m l in let v = still r.0 r.1 r.2 r.3 r.4 r.5 in (r.0, r.1, v.0, r.3, v.1, v.2, r.6))
        (λ e. (n, length row, longer, y, here, is-at_last row y, subst (λ (p : ℕ). IsCycleOf rows ks orbits n p y) (sym e) Y)) (less-or-last m i h);
    ordered = λ j q r w x z h a b d. order-row j q r w x z h (set-at ys n j longer w a) b d;
  }
