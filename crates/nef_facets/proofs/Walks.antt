-- Walks along the steps, and the orbits that they make.
use Rattle.nef_facets.proofs.Prelude.{◌≡◌, ℕ, zero, suc, ◌+◌, ◌<◌, ◌≤◌, List, [], ◌∷◌, ◌++◌, length, Bool, true, false, arith, refl, ap, sym, ◌∙◌, ◌⊎◌, inl, inr, ⊎_elim, subst, set, replicate, Option, Some, length-set, cases_order, length-replicate, get_or-replicate, get_or_from_slice_get, IsAt, Either, earlier, last, is-at_pushed, is-at_last, is-at_left, is-at_one, is-at_within, is-at_some, set-same, set-other, set-at, IsStep, IsClosedUnderSteps, StepsOver, ComesBack, AreMarked, IsOrbit, AreOrbits}
use Rattle.nef_space.proofs.Lists.{all-of}
use Rattle.nef_space.proofs.Elementary.{less-or-last}

-- ---- marks that are left
abbrev pub unmarked_count : List Bool → ℕ
unmarked_count [] = 0
unmarked_count (true ∷ bs) = unmarked_count bs
unmarked_count (false ∷ bs) = suc (unmarked_count bs)

pub fewer : (bs : List Bool) (i : ℕ) → IsAt bs i false → unmarked_count (set bs i true) < unmarked_count bs
fewer [] i a = cc
fewer (true ∷ bs) zero a = let e : ◌≡◌ {A = Option Bool} (Some true) (Some false) = a in cc
fewer (false ∷ bs) zero a = omega arith
fewer (true ∷ bs) (suc i) a = fewer bs i a
fewer (false ∷ bs) (suc i) a = let h = fewer bs i a in omega arith

-- ---- steps
steps-more : (ns : List ℕ) (j : ℕ) (ks : List ℕ) (now y : ℕ) → StepsOver ns j ks now → IsAt ns now y → StepsOver ns j (ks ++ now ∷ []) y
steps-more ns j [] now y a b = (a, b)
steps-more ns j (k ∷ ks) now y (a, s) b = (a, steps-more ns k ks now y s b)

steps-last : (ns : List ℕ) (j : ℕ) (ks : List ℕ) (z : ℕ) → StepsOver ns j ks z → (p : ℕ) × IsAt (j ∷ ks) (length ks) p × IsAt ns p z
steps-last ns j [] z a = (j, refl, a)
steps-last ns j (k ∷ ks) z (a, s) = steps-last ns k ks z s

steps-before : (ns : List ℕ) (j : ℕ) (ks : List ℕ) (z m x : ℕ) → StepsOver ns j ks z → IsAt (j ∷ ks) (suc m) x → (p : ℕ) × IsAt (j ∷ ks) m p × IsAt ns p x
steps-before ns j [] z m x a b = cc
steps-before ns j (k ∷ ks) z zero x (a, s) b = (j, refl, subst (λ (i : ℕ). IsAt ns j i) (let e : ◌≡◌ {A = Option ℕ} (Some k) (Some x) = b in cc) a)
steps-before ns j (k ∷ ks) z (suc m) x (a, s) b = steps-before ns k ks z m x s b

-- from the start over the list and on to a number
abbrev pub IsPath : List ℕ → ℕ → List ℕ → ℕ → Type 0
IsPath ns start [] now = now ≡ start
IsPath ns start (j ∷ ks) now = (j ≡ start) × StepsOver ns j ks now

path-more : (ns : List ℕ) (start : ℕ) (xs : List ℕ) (now y : ℕ) → IsPath ns start xs now → IsAt ns now y → IsPath ns start (xs ++ now ∷ []) y
path-more ns start [] now y e a = (e, a)
path-more ns start (j ∷ ks) now y (e, s) a = (e, steps-more ns j ks now y s a)

pub record IsWalk (ns : List ℕ) (start : ℕ) (old : List Bool) (xs : List ℕ) (now : ℕ) (bs : List Bool) : Type 0 where
  pub path : IsPath ns start xs now
  pub marked : AreMarked xs old bs
  pub apart : (k l i : ℕ) → IsAt xs k i → IsAt xs l i → k ≡ l
  pub as_many : length bs ≡ length ns
  pub within : now < length ns

pub walk-none : (ns : List ℕ) (start : ℕ) (old : List Bool) → length old ≡ length ns → IsAt old start false → IsWalk ns start old [] start old
walk-none ns start old e a = record {
  path = refl;
  marked = record { fresh = λ k i b. cc; listed = λ k i b. cc; kept = λ i b. b; only = λ i b. inl b };
  apart = λ k l i b d. cc;
  as_many = e;
  within = let h = is-at_within old start false a in omega arith;
}

true-not_false : (bs : List Bool) (i : ℕ) → IsAt bs i true → IsAt bs i false → ⊥
true-not_false bs i a b = let e = is-at_one bs i true false a b in cc

module _ (ns : List ℕ) (S : IsStep ns) (start : ℕ) (old : List Bool) (as-many : length old ≡ length ns) (xs : List ℕ) (now : ℕ) (bs : List Bool) (W : IsWalk ns start old xs now bs) where
  -- ---- one step more
  module _ (free : IsAt bs now false) (y : ℕ) (step : IsAt ns now y) where
    abbrev next : List Bool
    next = set bs now true

    now-within : now < length bs
    now-within = is-at_within bs now false free

    was-free : IsAt old now false
    was-free = by (is-at_some old now (let h = W.within in omega arith))
      where
        by : (b : Bool) × IsAt old now b → IsAt old now false
        by (true, a) = absurd (true-not_false bs now (W.marked.kept now a) free)
        by (false, a) = a

    -- the step's number isn't on the list yet
    new : (k : ℕ) → IsAt xs k now → ⊥
    new k a = true-not_false bs now (W.marked.listed k now a) free

    still : (i : ℕ) → IsAt bs i true → IsAt next i true
    still i a = ⊎_elim
        (λ e. subst (λ (j : ℕ). IsAt next j true) (sym e) (set-same bs now true now-within))
        (λ o. set-other bs now i true true (⊎_elim (λ l e. absurd (omega arith)) (λ l e. absurd (omega arith)) o) a) (cases_order i now)

    fresh : (k i : ℕ) → Either xs k i now → IsAt old i false
    fresh k i (earlier a) = W.marked.fresh k i a
    fresh k i (last e f) = subst (λ (j : ℕ). IsAt old j false) (sym f) was-free

    listed : (k i : ℕ) → Either xs k i now → IsAt next i true
    listed k i (earlier a) = still i (W.marked.listed k i a)
    listed k i (last e f) = subst (λ (j : ℕ). IsAt next j true) (sym f) (set-same bs now true now-within)

    only : (i : ℕ) → ((i ≡ now) × (true ≡ true)) ⊎ IsAt bs i true → IsAt old i true ⊎ ((k : ℕ) × IsAt (xs ++ now ∷ []) k i)
    only i (inl e) = inr (length xs, subst (λ (j : ℕ). IsAt (xs ++ now ∷ []) (length xs) j) (sym e.0) (is-at_last xs now))
    only i (inr a) = ⊎_elim (λ b. inl b) (λ b. inr (b.0, is-at_left xs (now ∷ []) b.0 i b.1)) (W.marked.only i a)

    alone : (k l i : ℕ) → Either xs k i now → Either xs l i now → k ≡ l
    alone k l i (earlier a) (earlier b) = W.apart k l i a b
    alone k l i (earlier a) (last e f) = absurd (new k (subst (λ (j : ℕ). IsAt xs k j) f a))
    alone k l i (last e f) (earlier a) = absurd (new l (subst (λ (j : ℕ). IsAt xs l j) f a))
    alone k l i (last e f) (last g h) = e ∙ sym g

    pub walk-more : IsWalk ns start old (xs ++ now ∷ []) y next
    walk-more = record {
      path = path-more ns start xs now y W.path step;
      marked = record {
        fresh = λ k i a. fresh k i (is-at_pushed xs k i now a);
        listed = λ k i a. listed k i (is-at_pushed xs k i now a);
        kept = λ i a. still i (W.marked.kept i a);
        only = λ i a. only i (set-at bs now i true true a);
      };
      apart = λ k l i a b. alone k l i (is-at_pushed xs k i now a) (is-at_pushed xs l i now b);
      as_many = length-set bs now true ∙ W.as_many;
      within = S.within now y step;
    }

-- ---- the walk ends where it began
module _ (ns : List ℕ) (S : IsStep ns) (start : ℕ) (old : List Bool) (free : IsAt old start false) (closed : IsClosedUnderSteps ns old) (now : ℕ) (bs : List Bool) (stop : IsAt bs now true) where
  pub walk-back : (xs : List ℕ) → IsWalk ns start old xs now bs → ComesBack ns start xs
  walk-back [] W = ⊎_elim (λ a. true-not_false old start (subst (λ (i : ℕ). IsAt old i true) W.path a) free) (λ a. none a.0 a.1) (W.marked.only now stop)
    where
      none : (k : ℕ) → IsAt {X = ℕ} [] k now → ⊥
      none k a = cc
  walk-back (j ∷ ks) W = ⊎_elim (λ a. absurd (away a)) (λ a. by a.0 a.1) (W.marked.only now stop)
    where
      end : (p : ℕ) × IsAt (j ∷ ks) (length ks) p × IsAt ns p now
      end = steps-last ns j ks now W.path.1

      away : IsAt old now true → ⊥
      away a = true-not_false old end.0 (closed end.0 now end.2 a) (W.marked.fresh (length ks) end.0 end.1)

      by : (m : ℕ) → IsAt (j ∷ ks) m now → (j ≡ start) × StepsOver ns j ks j
      by zero a = (W.path.0, subst (λ (i : ℕ). StepsOver ns j ks i) (let e : ◌≡◌ {A = Option ℕ} (Some j) (Some now) = a in let f : j ≡ now = cc in sym f) W.path.1)
      by (suc m) a =
          let p = steps-before ns j ks now m now W.path.1 a in
          let e = S.injective p.0 end.0 now p.2 end.2 in
          let f = W.apart m (length ks) end.0 (subst (λ (i : ℕ). IsAt (j ∷ ks) m i) e p.1) end.1 in
          let h = is-at_within (j ∷ ks) (suc m) now a in
          absurd (omega arith)

-- ---- what the marks are after a walk
module _ (ns : List ℕ) (S : IsStep ns) (start : ℕ) (old new : List Bool) (closed : IsClosedUnderSteps ns old) where
  led-by : (xs : List ℕ) → ComesBack ns start xs → (k i : ℕ) → IsAt xs k i → (l : ℕ) × (p : ℕ) × IsAt xs l p × IsAt ns p i
  led-by [] B k i a = absurd B
  led-by (j ∷ ks) B zero i a = let r = steps-last ns j ks j B.1 in (length ks, r.0, r.1, subst (λ (n : ℕ). IsAt ns r.0 n) (let e : ◌≡◌ {A = Option ℕ} (Some j) (Some i) = a in cc) r.2)
  led-by (j ∷ ks) B (suc k) i a = let r = steps-before ns j ks j k i B.1 a in (k, r.0, r.1, r.2)

  pub closed-more : (xs : List ℕ) → ComesBack ns start xs → AreMarked xs old new → IsClosedUnderSteps ns new
  closed-more xs B M j i a m = ⊎_elim
      (λ b. M.kept j (closed j i a b))
      (λ b. let r = led-by xs B b.0 i b.1 in subst (λ (n : ℕ). IsAt new n true) (S.injective r.1 j i r.3 a) (M.listed r.0 r.1 r.2)) (M.only i m)

-- ---- all orbits

-- the orbits from the numbers below start on
pub record AreOrbitsTo (ns : List ℕ) (start : ℕ) (xs : List (List ℕ)) (bs : List Bool) : Type 0 where
  pub as_many : length bs ≡ length ns
  pub closed : IsClosedUnderSteps ns bs
  pub below : (i : ℕ) → i < start → i < length ns → IsAt bs i true
  pub each : (m : ℕ) (x : List ℕ) → IsAt xs m x → IsOrbit ns x
  pub all : (i : ℕ) → IsAt bs i true → (m : ℕ) × (k : ℕ) × (x : List ℕ) × IsAt xs m x × IsAt x k i
  pub ordered : (m n i j : ℕ) (x y : List ℕ) → m < n → IsAt xs m x → IsAt xs n y → IsAt x 0 i → IsAt y 0 j → i < j
  pub low : (m i : ℕ) (x : List ℕ) → IsAt xs m x → IsAt x 0 i → i < start

pub orbits-none : (ns : List ℕ) (bs : List Bool) → length bs ≡ length ns → ((i : ℕ) (b : Bool) → IsAt bs i b → b ≡ false) → AreOrbitsTo ns 0 [] bs
orbits-none ns bs e none = record {
  as_many = e;
  closed = λ j i a b. let f = none i true b in cc;
  below = λ i h. absurd (omega arith);
  each = λ m x a. cc;
  all = λ i a. let f = none i true a in cc;
  ordered = λ m n i j x y l a. cc;
  low = λ m i x a. cc;
}

-- none is marked at first
unmarked-at : (n : ℕ) (bs : List Bool) → bs ≡ replicate n false → (i : ℕ) (b : Bool) → IsAt bs i b → b ≡ false
unmarked-at n bs e i b a =
    let at : IsAt (replicate n false) i b = subst (λ (xs : List Bool). IsAt xs i b) e a in
    let l = is-at_within (replicate n false) i b at in
    let m = length-replicate n false in
    sym (get_or_from_slice_get (replicate n false) i b b at) ∙ get_or-replicate n i false b (omega (arith, l, m))

pub orbits-begun : (ns : List ℕ) (bs : List Bool) → bs ≡ replicate (length ns) false → AreOrbitsTo ns 0 [] bs
orbits-begun ns bs e = orbits-none ns bs (ap length e ∙ length-replicate (length ns) false) (unmarked-at (length ns) bs e)

pub orbits-all : (ns : List ℕ) (start : ℕ) (xs : List (List ℕ)) (bs : List Bool) → AreOrbitsTo ns start xs bs → length ns ≤ start → AreOrbits ns xs
orbits-all ns start xs bs O h = record { each = O.each; all = λ i l. O.all i (O.below i (omega arith) l); ordered = O.ordered }

module _ (ns : List ℕ) (S : IsStep ns) (start : ℕ) (xs : List (List ℕ)) (bs : List Bool) (O : AreOrbitsTo ns start xs bs) where
  pub orbits-pass : IsAt bs start true → AreOrbitsTo ns (start + 1) xs bs
  orbits-pass a = record {
    as_many = O.as_many;
    closed = O.closed;
    below = λ i h l. ⊎_elim (λ g. O.below i g l) (λ e. subst (λ (j : ℕ). IsAt bs j true) (sym e) a) (less-or-last i start h);
    each = O.each;
    all = O.all;
    ordered = O.ordered;
    low = λ m i x b d. let h = O.low m i x b d in omega arith;
  }

  module _ (z : List ℕ) (new : List Bool) (within : start < length ns) (B : ComesBack ns start z) (M : AreMarked z bs new) (apart : (k l i : ℕ) → IsAt z k i → IsAt z l i → k ≡ l) (count : length new ≡ length ns) where
    -- what wasn't marked isn't below the start
    not-below : (i : ℕ) → IsAt bs i false → start ≤ i
    not-below i a = ⊎_elim (λ e. omega arith) (λ o. ⊎_elim (λ l. absurd (true-not_false bs i (O.below i l (let h = is-at_within bs i false a in let e = O.as_many in omega arith)) a)) (λ l. omega arith) o) (cases_order i start)

    first-is : (w : List ℕ) → ComesBack ns start w → (i : ℕ) → IsAt w 0 i → i ≡ start
    first-is [] b i a = absurd b
    first-is (j ∷ ks) b i a = let e : ◌≡◌ {A = Option ℕ} (Some j) (Some i) = a in let f : j ≡ i = cc in sym f ∙ b.0

    first-there : (w : List ℕ) → ComesBack ns start w → IsAt w 0 start
    first-there [] b = absurd b
    first-there (j ∷ ks) b = ap Some b.0

    as-orbit : (w : List ℕ) → ComesBack ns start w → ((k i : ℕ) → IsAt w k i → IsAt bs i false) → ((k l i : ℕ) → IsAt w k i → IsAt w l i → k ≡ l) → IsOrbit ns w
    as-orbit [] b f d = absurd b
    as-orbit (j ∷ ks) b f d = (
      b.1,
      all-of (λ k. j < k) ks (λ l k a.
          let h = not-below k (f (suc l) k a) in
          let s = b.0 in
          ⊎_elim (λ e. absurd (let g = d (suc l) 0 k a (ap Some e) in omega arith)) (λ o. ⊎_elim (λ q. q) (λ q. absurd (omega arith)) o) (cases_order j k)),
    )

    pub orbits-more : AreOrbitsTo ns (start + 1) (xs ++ z ∷ []) new
    orbits-more = record {
      as_many = count;
      closed = closed-more ns S start bs new O.closed z B M;
      below = λ i h l. ⊎_elim (λ g. M.kept i (O.below i g l)) (λ e. subst (λ (j : ℕ). IsAt new j true) (sym e) (M.listed 0 start (first-there z B))) (less-or-last i start h);
      each = λ m x a. each m x (is-at_pushed xs m x z a);
      all = λ i a. ⊎_elim (λ b. let r = O.all i b in (r.0, r.1, r.2, is-at_left xs (z ∷ []) r.0 r.2 r.3, r.4)) (λ b. (length xs, b.0, z, is-at_last xs z, b.1)) (M.only i a);
      ordered = λ m n i j x y l a b d e. order m n i j x y l (is-at_pushed xs m x z a) (is-at_pushed xs n y z b) d e;
      low = λ m i x a b. lower m i x (is-at_pushed xs m x z a) b;
    }
      where
        each : (m : ℕ) (x : List ℕ) → Either xs m x z → IsOrbit ns x
        each m x (earlier a) = O.each m x a
        each m x (last e f) = subst (λ (w : List ℕ). IsOrbit ns w) (sym f) (as-orbit z B M.fresh apart)

        lower : (m i : ℕ) (x : List ℕ) → Either xs m x z → IsAt x 0 i → i < start + 1
        lower m i x (earlier a) b = let h = O.low m i x a b in omega arith
        lower m i x (last e f) b = let g = first-is z B i (subst (λ (w : List ℕ). IsAt w 0 i) f b) in omega arith

        order : (m n i j : ℕ) (x y : List ℕ) → m < n → Either xs m x z → Either xs n y z → IsAt x 0 i → IsAt y 0 j → i < j
        order m n i j x y l (earlier a) (earlier b) d e = O.ordered m n i j x y l a b d e
        order m n i j x y l (earlier a) (last f g) d e = let h = O.low m i x a d in let k = first-is z B j (subst (λ (w : List ℕ). IsAt w 0 j) g e) in omega arith
        order m n i j x y l (last f g) (earlier b) d e = let h = is-at_within xs n y b in absurd (omega arith)
        order m n i j x y l (last f g) (last h k) d e = absurd (omega arith)
