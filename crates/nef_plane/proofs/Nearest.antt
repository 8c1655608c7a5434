-- The nearest of what a ray meets.
use Rattle.nef_plane.proofs.Prelude.{◌≡◌, ℕ, ◌<◌, ◌≤◌, ◌+◌, List, Option, Some, None, arith, refl, sym, ◌⊎◌, inl, inr, ⊎_elim, subst, eq-or-lt_of_le, cases_lt, IsAt, SpacePoint, toward, IsAhead, IsBetween, Vector, between-same, between-inner, between-way, IfSome, is-at_one, Span, Encounter, IsReachedEncounter, IsMissed, IsNearest, IsNearestMet, IsNearer, IsNotPast, IsOutside, HoldsBefore, SameDirection-turned, SameDirection-trans}
use Rattle.law_geometry.specs.complex.Skeleton.{PlaneMeet}
use Rattle.nef_plane.proofs.Choosing.{keep-first}
use Rattle.std.proofs.lemmas.Option.{same_Some}
use Rattle.nef_space.proofs.Elementary.{same-itself}

-- what lies between a point and one ahead of it is ahead
pub between-ahead : (p q x : SpacePoint) (d : Vector) → IsBetween p q x → IsAhead p d x → IsAhead p d q
between-ahead p q x d b w = SameDirection-trans (toward p q) (toward p x) d (between-way p q x b) w

module _ {X : Type 0} (seen : X → Encounter) (p : SpacePoint) (d : Vector) where
  -- what lies before a hit lies before each hit that it isn't past
  inner : (x y : Encounter) (q : SpacePoint) → IsAhead p d x.at.place → IsNotPast d x y → IsBetween p q x.at.place → IsBetween p q y.at.place
  inner x y q w n b = ⊎_elim
      (λ s. between-same p q x.at.place p q y.at.place (same-itself p) (same-itself q) s b)
      (λ f. between-inner p x.at.place y.at.place q (SameDirection-trans (toward p x.at.place) d (toward x.at.place y.at.place) w (SameDirection-turned (toward x.at.place y.at.place) d f)) b) n

  nearest-reached : (P : PlaneMeet → SpacePoint → Type 0) (o : Option X) → IsNearest seen p d P o → IfSome o (λ x. IsReachedEncounter p d (seen x))
  nearest-reached P None A = tt
  nearest-reached P (Some x) A = A.reached

  -- r is the nearer of two that stand at their steps
  abbrev pub NearerOf : Option X → Option X → Option X → Type 0
  NearerOf a b r = IfSome a (λ x. IsReachedEncounter p d (seen x)) → IfSome b (λ x. IsReachedEncounter p d (seen x)) → IsNearer seen d a b r

  module _ (P Q : PlaneMeet → SpacePoint → Type 0) where
    abbrev Either : PlaneMeet → SpacePoint → Type 0
    Either m q = P m q ⊎ Q m q

    left : (x r : X) → r ≡ x → IsNearestMet p d P (seen x) → ((n : PlaneMeet) (q : SpacePoint) → IsBetween p q (seen r).at.place → Q n q → ⊥) → IsNearestMet p d Either (seen r)
    left x r e A f = let B : IsNearestMet p d P (seen r) = subst (λ (y : X). IsNearestMet p d P (seen y)) (sym e) A in record { reached = B.reached; ahead = B.ahead; met = inl B.met; first = λ n q b. ⊎_elim (B.first n q b) (f n q b) }

    right : (x r : X) → r ≡ x → IsNearestMet p d Q (seen x) → ((n : PlaneMeet) (q : SpacePoint) → IsBetween p q (seen r).at.place → P n q → ⊥) → IsNearestMet p d Either (seen r)
    right x r e A f = let B : IsNearestMet p d Q (seen r) = subst (λ (y : X). IsNearestMet p d Q (seen y)) (sym e) A in record { reached = B.reached; ahead = B.ahead; met = inr B.met; first = λ n q b. ⊎_elim (f n q b) (B.first n q b) }

    either : (a b r : Option X) → IsNearer seen d a b r → IsNearest seen p d P a → IsNearest seen p d Q b → IsNearest seen p d Either r
    either None None None N A B = λ n q w. ⊎_elim (A n q w) (B n q w)
    either None None (Some r) N A B = absurd (⊎_elim (λ (e : Some r ≡ None). cc) (λ (e : Some r ≡ None). cc) N.one)
    either (Some x) None None N A B = let y = N.first x refl in let e : None ≡ Some y.0 = y.1 in cc
    either None (Some x) None N A B = let y = N.second x refl in let e : None ≡ Some y.0 = y.1 in cc
    either (Some x) (Some z) None N A B = let y = N.first x refl in let e : None ≡ Some y.0 = y.1 in cc
    either (Some x) None (Some r) N A B = ⊎_elim
        (λ (e : Some r ≡ Some x). let f : r ≡ x = cc in
        left x r f A (λ n q b. B n q (between-ahead p q (seen r).at.place d b (subst (λ (v : X). IsAhead p d (seen v).at.place) (sym f) A.ahead))))
        (λ (e : Some r ≡ None). absurd cc) N.one
    either None (Some x) (Some r) N A B = ⊎_elim
        (λ (e : Some r ≡ None). absurd cc)
        (λ (e : Some r ≡ Some x). let f : r ≡ x = cc in
        right x r f B (λ n q b. A n q (between-ahead p q (seen r).at.place d b (subst (λ (v : X). IsAhead p d (seen v).at.place) (sym f) B.ahead)))) N.one
    either (Some x) (Some z) (Some r) N A B = ⊎_elim
        (λ (e : Some r ≡ Some x). let f : r ≡ x = cc in let y = N.second z refl in let g : r ≡ y.0 = same_Some r y.0 y.1 in
        left x r f A (λ n q b. B.first n q (inner (seen r) (seen z) q (subst (λ (v : X). IsAhead p d (seen v).at.place) (sym f) A.ahead) (subst (λ (v : X). IsNotPast d (seen v) (seen z)) (sym g) y.2) b)))
        (λ (e : Some r ≡ Some z). let f : r ≡ z = cc in let y = N.first x refl in let g : r ≡ y.0 = same_Some r y.0 y.1 in
        right z r f B (λ n q b. A.first n q (inner (seen r) (seen x) q (subst (λ (v : X). IsAhead p d (seen v).at.place) (sym f) B.ahead) (subst (λ (v : X). IsNotPast d (seen v) (seen x)) (sym g) y.2) b))) N.one

    pub nearest-either : (a b r : Option X) → NearerOf a b r → IsNearest seen p d P a → IsNearest seen p d Q b → IsNearest seen p d Either r
    nearest-either a b r N A B = either a b r (N (nearest-reached P a A) (nearest-reached Q b B)) A B

    -- the nearest of what has P is the nearest of either where what has Q lies outside the window
    nearest-apart : (a : Option X) (w : Option Span) → HoldsBefore seen p a w → IsNearest seen p d P a → ((m : PlaneMeet) (q : SpacePoint) → IsAhead p d q → Q m q → IsOutside w q) → IsNearest seen p d Either a
    nearest-apart None None H A f = λ n q w. ⊎_elim (A n q w) (f n q w)
    nearest-apart None (Some s) H A f = absurd H
    nearest-apart (Some x) None H A f = record { reached = A.reached; ahead = A.ahead; met = inl A.met; first = λ n q b. ⊎_elim (A.first n q b) (f n q (between-ahead p q (seen x).at.place d b A.ahead)) }
    nearest-apart (Some x) (Some s) H A f = record { reached = A.reached; ahead = A.ahead; met = inl A.met; first = λ n q b. ⊎_elim (A.first n q b) (λ y. f n q (between-ahead p q (seen x).at.place d b A.ahead) y (H q b)) }

    -- the same of what is the same ahead
    nearest-as : (o : Option X) → ((m : PlaneMeet) (q : SpacePoint) → P m q → Q m q) → ((m : PlaneMeet) (q : SpacePoint) → IsAhead p d q → Q m q → P m q) → IsNearest seen p d P o → IsNearest seen p d Q o
    nearest-as None f g A = λ n q w x. A n q w (g n q w x)
    nearest-as (Some x) f g A = record { reached = A.reached; ahead = A.ahead; met = f (seen x).meet (seen x).at.place A.met; first = λ n q b y. A.first n q b (g n q (between-ahead p q (seen x).at.place d b A.ahead) y) }

  -- ---- of a list
  module _ (R : ℕ → PlaneMeet → SpacePoint → Type 0) where
    abbrev pub First : ℕ → PlaneMeet → SpacePoint → Type 0
    First i m q = (k : ℕ) × (k < i) × R k m q

    abbrev pub AnyNearest : PlaneMeet → SpacePoint → Type 0
    AnyNearest m q = (k : ℕ) × R k m q

    nearest-more : (i : ℕ) (a b r : Option X) → NearerOf a b r → IsNearest seen p d (First i) a → IsNearest seen p d (R i) b → IsNearest seen p d (First (i + 1)) r
    nearest-more i a b r N A B = nearest-as (λ m q. First i m q ⊎ R i m q) (First (i + 1)) r
        (λ m q. ⊎_elim (λ (x : First i m q). let l = x.1 in (x.0, omega (arith, l), x.2)) (λ (x : R i m q). (i, omega arith, x)))
        (λ m q w (k, l, x). ⊎_elim (λ o. inr (subst (λ j. R j m q) o x)) (λ o. inl (k, o, x)) (eq-or-lt_of_le {n = k} {m = i} (omega (arith, l))))
        (nearest-either (First i) (R i) a b r N A B)

    -- with what is met of the next, the nearest of one more
    pub all-more : (i : ℕ) (a b r o : Option X) → o ≡ r → NearerOf a b r → IsNearest seen p d (First i) a → IsNearest seen p d (R i) b → IsNearest seen p d (First (i + 1)) o
    all-more i a b r o e M A B = subst (IsNearest seen p d (First (i + 1))) (sym e) (nearest-more i a b r M A B)

    -- one that isn't met is passed over
    pub all-past : (i : ℕ) (a o : Option X) → o ≡ a → IsNearest seen p d (First i) a → IsMissed p d (R i) → IsNearest seen p d (First (i + 1)) o
    all-past i a o e A B = all-more i a None a o e (λ x y. keep-first seen d a None a refl refl) A B

    -- where each that is met ahead has a number below the end, the nearest of those is the nearest of all
    pub all-met : (n i : ℕ) (o : Option X) → n ≤ i → ((k : ℕ) (m : PlaneMeet) (q : SpacePoint) → IsAhead p d q → R k m q → k < n) → IsNearest seen p d (First i) o → IsNearest seen p d AnyNearest o
    all-met n i o l f A = nearest-as (First i) AnyNearest o (λ m q (k, t, x). (k, x)) (λ m q w (k, x). let b = f k m q w x in (k, omega (arith, l, b), x)) A

  -- ---- of those with the listed numbers
  module _ (ns : List ℕ) (R : ℕ → PlaneMeet → SpacePoint → Type 0) where
    abbrev pub InPlace : ℕ → PlaneMeet → SpacePoint → Type 0
    InPlace i m q = (k : ℕ) × IsAt ns i k × R k m q

    pub asked-more : (i k : ℕ) (a b r o : Option X) → o ≡ r → IsAt ns i k → NearerOf a b r → IsNearest seen p d (First InPlace i) a → IsNearest seen p d (R k) b → IsNearest seen p d (First InPlace (i + 1)) o
    asked-more i k a b r o e l M A B = all-more InPlace i a b r o e M A
        (nearest-as (R k) (InPlace i) b (λ m q x. (k, l, x)) (λ m q w (j, t, x). subst (λ (n : ℕ). R n m q) (is-at_one ns i j k t l) x) B)

    -- one that isn't met is passed over
    pub asked-past : (i k : ℕ) (a o : Option X) → o ≡ a → IsAt ns i k → IsNearest seen p d (First InPlace i) a → IsMissed p d (R k) → IsNearest seen p d (First InPlace (i + 1)) o
    asked-past i k a o e l A B = asked-more i k a None a o e l (λ x y. keep-first seen d a None a refl refl) A B

    -- where each that is met ahead is asked, and none is met from a place on, the nearest of those before it is the nearest of all
    pub asked-all : (n i : ℕ) (o : Option X) → n ≤ i → ((j k : ℕ) → n ≤ j → IsAt ns j k → IsMissed p d (R k)) → ((k : ℕ) (m : PlaneMeet) (q : SpacePoint) → IsAhead p d q → R k m q → (j : ℕ) × IsAt ns j k)
        → IsNearest seen p d (First InPlace i) o → IsNearest seen p d (AnyNearest R) o
    asked-all n i o l missed f A = nearest-as (First InPlace i) (AnyNearest R) o (λ m q (j, t, y). (y.0, y.2))
        (λ m q w (k, x).
        let a = f k m q w x in
        ⊎_elim (λ t. (a.0, t, (k, a.1, x))) (λ t. absurd (missed a.0 k (omega (arith, l, t)) a.1 m q w x)) (cases_lt a.0 i)) A

    -- ---- from a place on
    abbrev pub From : ℕ → PlaneMeet → SpacePoint → Type 0
    From i m q = (j : ℕ) × (i ≤ j) × InPlace j m q

    -- where none is met from a place on, there is no nearest of those
    pub asked-none : (n : ℕ) → ((j k : ℕ) → n ≤ j → IsAt ns j k → IsMissed p d (R k)) → IsNearest seen p d (From n) None
    asked-none n off = λ m q w (j, t, (k, l, x)). off j k t l m q w x

    -- the nearest of those or of the one before is the nearest of one more
    with-before : (i n k : ℕ) (r : Option X) → n ≡ i + 1 → IsAt ns i k → IsNearest seen p d (λ m q. From n m q ⊎ R k m q) r → IsNearest seen p d (From i) r
    with-before i n k r f l A = nearest-as (λ m q. From n m q ⊎ R k m q) (From i) r
        (λ m q. ⊎_elim (λ (x : From n m q). let t = x.1 in (x.0, omega (arith, t, f), x.2)) (λ (x : R k m q). (i, omega arith, (k, l, x))))
        (λ m q w (j, t, (h, g, x)).
        ⊎_elim (λ u. inr (subst (λ z. R z m q) (is-at_one ns i h k (subst (λ z. IsAt ns z h) (sym u) g) l) x)) (λ u. inl (j, omega (arith, u, f), (h, g, x))) (eq-or-lt_of_le {n = i} {m = j} t))
        A

    -- with what is met of the one before, the nearest of one more
    pub asked-before : (i n k : ℕ) (a b r o : Option X) → o ≡ r → n ≡ i + 1 → IsAt ns i k → NearerOf a b r → IsNearest seen p d (From n) a → IsNearest seen p d (R k) b → IsNearest seen p d (From i) o
    asked-before i n k a b r o e f l M A B = subst (IsNearest seen p d (From i)) (sym e) (with-before i n k r f l (nearest-either (From n) (R k) a b r M A B))

    -- one that lies outside the window is passed over
    pub asked-apart : (i n k : ℕ) (a o : Option X) (w : Option Span) → o ≡ a → n ≡ i + 1 → IsAt ns i k → HoldsBefore seen p a w → IsNearest seen p d (From n) a → ((m : PlaneMeet) (q : SpacePoint) → IsAhead p d q → R k m q → IsOutside w q) → IsNearest seen p d (From i) o
    asked-apart i n k a o w e f l H A out = subst (IsNearest seen p d (From i)) (sym e) (with-before i n k a f l (nearest-apart (From n) (R k) a w H A out))

    -- those before that aren't met are passed over
    pub asked-over : (i n : ℕ) (a o : Option X) → o ≡ a → i ≤ n → ((j k : ℕ) → i ≤ j → j < n → IsAt ns j k → IsMissed p d (R k)) → IsNearest seen p d (From n) a → IsNearest seen p d (From i) o
    asked-over i n a o e le off A = subst (IsNearest seen p d (From i)) (sym e)
        (nearest-as (From n) (From i) a
        (λ m q (j, t, x). (j, omega (arith, t, le), x))
        (λ m q w (j, t, (k, l, x)). ⊎_elim (λ u. absurd (off j k t u l m q w x)) (λ u. (j, u, (k, l, x))) (cases_lt j n)) A)

    -- where each that is met ahead is listed, the nearest from the first place on is the nearest of all
    pub asked-each : (n : ℕ) (o : Option X) → n ≡ 0 → ((k : ℕ) (m : PlaneMeet) (q : SpacePoint) → IsAhead p d q → R k m q → (j : ℕ) × IsAt ns j k) → IsNearest seen p d (From n) o → IsNearest seen p d (AnyNearest R) o
    asked-each n o e f A = nearest-as (From n) (AnyNearest R) o (λ m q (j, t, (k, l, x)). (k, x)) (λ m q w (k, x). let a = f k m q w x in (a.0, omega (arith, e), (k, a.1, x))) A
