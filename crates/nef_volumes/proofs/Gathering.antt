-- Sides put into the lists of their shells, one after the other.
use Rattle.nef_volumes.proofs.Prelude.{◌≡◌, ◌≢◌, ℕ, suc, ◌+◌, ◌<◌, ◌≤◌, pos, ◌⊎◌, inl, inr, ⊎_elim, List, [], ◌∷◌, ◌++◌, length, set, arith, refl, ap, sym, ◌∙◌, subst, cases_order, ints, IsAt, Either, earlier, last, is-at_pushed, is-at_one, is-at_within, set-same, set-at, IsNameBelow, AreRowsByNumber, IsShellOf, AreNumberedNames, IsNamedBefore, AreGathered, IsPut}
use Rattle.nef_complex.specs.declared.parts.Side.{Side}
use Rattle.nef_volumes.proofs.Held.{held-as, held-opened, held-more}
use Rattle.nef_space.proofs.Elementary.{less-or-last}

same-name : (i j k l : ℕ) → i ≡ j → k ≡ l → ◌≡◌ {A = Side} (record { vertex = i; side = k }) (record { vertex = j; side = l })
same-name i j k l e f = cc

first-of : {X : Type 0} (xs : List X) (x : X) → (y : X) × IsAt (xs ++ x ∷ []) 0 y
first-of [] x = (x, refl)
first-of (y ∷ xs) x = (y, refl)

suc-one : (m n : ℕ) → suc m ≡ suc n → m ≡ n
suc-one m n e = omega (arith, e)

-- a side before another, which is the next, has been put
before-next : (i k : ℕ) (s : Side) → IsNameBelow s (record { vertex = i; side = k }) → IsNamedBefore i k s
before-next i k s (inl h) = inl (omega (arith, ints, h))
before-next i k s (inr (e, inl h)) = inr (omega (arith, ints, e), omega (arith, ints, h))
before-next i k s (inr (e, inr (f, h))) = absurd h

next-above : (i k : ℕ) (s : Side) → IsNamedBefore i k s → IsNameBelow s (record { vertex = i; side = k })
next-above i k s (inl h) = inl (omega (arith, ints, h))
next-above i k s (inr (e, h)) = inr (ap pos e, inl (omega (arith, ints, h)))

module _ (rows : List (List ℕ)) (A : AreNumberedNames rows) (i k : ℕ) (hs : List (List Side)) (G : AreGathered rows i k hs) (n : ℕ) (number : IsShellOf rows (record { vertex = i; side = k }) n) where
  abbrev x : Side
  x = record { vertex = i; side = k }

  -- its number is that of a list, or the next
  pub next-number : n ≤ length hs
  next-number = ⊎_elim (λ e. omega (arith, e)) (λ o. ⊎_elim (λ l. omega (arith, l)) (λ l. absurd (late l)) o) (cases_order n (length hs))
    where
      late : length hs < n → ⊥
      late l =
          let r = A.by_appearance x (length hs) n number l in
          let f = G.held.all r.0 (length hs) r.2 (before-next i k r.0 r.1) in
          let w = is-at_within hs (length hs) f.0 f.2 in
          omega (arith, w)

  one-number : (m : ℕ) → IsShellOf rows x m → m ≡ n
  one-number m (row, a, b) =
      let (t, c, d) = number in
      suc-one m n (is-at_one t k (suc m) (suc n) (subst (λ (u : List ℕ). IsAt u k (suc m)) (is-at_one rows (i + 1) row t a c) b) d)

  to-more : (s : Side) → IsNamedBefore i k s → IsNamedBefore i (k + 1) s
  to-more s (inl h) = inl h
  to-more s (inr (e, h)) = inr (e, omega (arith, h))

  one-more : (s : Side) → IsNamedBefore i (k + 1) s → IsNamedBefore i k s ⊎ (s ≡ x)
  one-more s (inl h) = inl (inl h)
  one-more s (inr (e, h)) = ⊎_elim (λ l. inl (inr (e, l))) (λ f. inr (same-name s.vertex i s.side k e f)) (less-or-last s.side k h)

  module _ (new : List (List Side)) (P : IsPut n x hs new) where
    opened-held : AreRowsByNumber (IsShellOf rows) (IsNamedBefore i k) IsNameBelow P.rows
    opened-held = by P.opened
      where
        by : ((P.rows ≡ hs) × (n < length hs)) ⊎ ((P.rows ≡ hs ++ [] ∷ []) × (n ≡ length hs)) → AreRowsByNumber (IsShellOf rows) (IsNamedBefore i k) IsNameBelow P.rows
        by (inl e) = subst (AreRowsByNumber (IsShellOf rows) (IsNamedBefore i k) IsNameBelow) (sym e.0) G.held
        by (inr e) = subst (AreRowsByNumber (IsShellOf rows) (IsNamedBefore i k) IsNameBelow) (sym e.0) (held-opened (IsShellOf rows) (IsNamedBefore i k) IsNameBelow hs G.held)

    now : IsNamedBefore i (k + 1) x
    now = inr (refl, omega arith)

    some-old : (m : ℕ) (h : List Side) → m ≢ n → IsAt P.rows m h → (s : Side) × IsAt h 0 s
    some-old m h d a = by P.opened
      where
        in-more : m ≢ length hs → Either hs m h [] → (s : Side) × IsAt h 0 s
        in-more u (earlier b) = G.some m h b
        in-more u (last e f) = absurd (u e)

        by : ((P.rows ≡ hs) × (n < length hs)) ⊎ ((P.rows ≡ hs ++ [] ∷ []) × (n ≡ length hs)) → (s : Side) × IsAt h 0 s
        by (inl e) = G.some m h (subst (λ (rs : List (List Side)). IsAt rs m h) e.0 a)
        by (inr e) = in-more (λ u. d (u ∙ sym e.1)) (is-at_pushed hs m h [] (subst (λ (rs : List (List Side)). IsAt rs m h) e.0 a))

    abbrev longer : List Side
    longer = P.row ++ x ∷ []

    some-new : (m : ℕ) (h : List Side) → IsAt (set P.rows n longer) m h → (s : Side) × IsAt h 0 s
    some-new m h a = ⊎_elim
        (λ e. let f = is-at_one (set P.rows n longer) n h longer (subst (λ (j : ℕ). IsAt (set P.rows n longer) j h) e a) (set-same P.rows n longer (is-at_within P.rows n P.row P.is_row)) in
        subst (λ (g : List Side). (s : Side) × IsAt g 0 s) (sym f) (first-of P.row x))
        (λ o. let d : m ≢ n = ⊎_elim (λ l e. absurd (omega (arith, l, e))) (λ l e. absurd (omega (arith, l, e))) o in
        ⊎_elim (λ e. absurd (d e.0)) (λ b. some-old m h d b) (set-at P.rows n m longer h a))
        (cases_order m n)

    -- A SIDE MORE
    pub gathered-more : AreGathered rows i (k + 1) new
    gathered-more = subst (AreGathered rows i (k + 1)) (sym P.longer) (record {
      held = held-more (IsShellOf rows) (IsNamedBefore i k) IsNameBelow P.rows opened-held (IsNamedBefore i (k + 1)) to-more n P.row P.is_row x number one-number now
          (λ y q b. next-above i k y (opened-held.each n q P.row y P.is_row b).1) one-more;
      some = some-new;
    })

-- all sides of a vertex
pub gathered-row : (rows : List (List ℕ)) (i k : ℕ) (row : List ℕ) (hs : List (List Side)) → IsAt rows (i + 1) row → length row ≤ k → AreGathered rows i k hs → AreGathered rows (i + 1) 0 hs
gathered-row rows i k row hs a w G = record { held = held-as (IsShellOf rows) (IsNamedBefore i k) (IsNamedBefore (i + 1) 0) IsNameBelow IsNameBelow hs (λ s m n b. to s b) from (λ s t b. b) G.held; some = G.some }
  where
    to : (s : Side) → IsNamedBefore i k s → IsNamedBefore (i + 1) 0 s
    to s (inl h) = inl (omega (arith, h))
    to s (inr (e, h)) = inl (omega (arith, e))

    from : (s : Side) (m : ℕ) → IsShellOf rows s m → IsNamedBefore (i + 1) 0 s → IsNamedBefore i k s
    from s m (r, b, c) (inl h) = ⊎_elim
        (λ l. inl l)
        (λ e. inr (e, (let f = is-at_one rows (i + 1) r row (subst (λ (j : ℕ). IsAt rows (j + 1) r) e b) a in let g = is-at_within row s.side (suc m) (subst (λ (u : List ℕ). IsAt u s.side (suc m)) f c) in omega (arith, g, w))))
        (less-or-last s.vertex i h)
    from s m n (inr (e, h)) = absurd (omega (arith, h))

-- all sides
pub gathered-all : (rows : List (List ℕ)) (i : ℕ) (hs : List (List Side)) → length rows ≤ i + 1 → AreGathered rows i 0 hs → AreGathered rows (length rows) 0 hs
gathered-all rows i hs w G = record { held = held-as (IsShellOf rows) (IsNamedBefore i 0) (IsNamedBefore (length rows) 0) IsNameBelow IsNameBelow hs (λ s m n b. within s m n) (λ s m n b. below s m n) (λ s t b. b) G.held; some = G.some }
  where
    within : (s : Side) (m : ℕ) → IsShellOf rows s m → IsNamedBefore (length rows) 0 s
    within s m (r, b, c) = let l = is-at_within rows (s.vertex + 1) r b in inl (omega (arith, l))

    below : (s : Side) (m : ℕ) → IsShellOf rows s m → IsNamedBefore i 0 s
    below s m (r, b, c) = let l = is-at_within rows (s.vertex + 1) r b in inl (omega (arith, l, w))
