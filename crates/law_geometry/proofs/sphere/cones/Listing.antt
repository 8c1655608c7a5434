-- Lists of exactly the elements that are wanted, in order.
use Rattle.law_geometry.proofs.sphere.cones.Prelude.{◌≡◌, ℕ, zero, suc, arith, refl, sym, ◌⊎◌, inl, inr, ⊎_elim, List, ◌∷◌, subst, [], Lies, each, lies-each, IsAt, InOrder, at-lies, is-at_none, is-at_first}

-- ---- places
pub at-or : {A : Type 0} (xs : List A) (k : ℕ) → ((x : A) × IsAt xs k x) ⊎ ((x : A) → IsAt xs k x → ⊥)
at-or [] k = inr (λ x a. is-at_none a)
at-or (y ∷ ys) zero = inl (y, refl)
at-or (y ∷ ys) (suc k) = at-or ys k

-- the numbers of the places of a list
abbrev pub numbers : {A : Type 0} → List A → List ℕ
numbers [] = []
numbers (y ∷ ys) = zero ∷ each suc (numbers ys)

pub at-number : {A : Type 0} (xs : List A) (k : ℕ) (x : A) → IsAt xs k x → Lies (numbers xs) k
at-number [] k x a = absurd (is-at_none a)
at-number (y ∷ ys) zero x e = inl refl
at-number (y ∷ ys) (suc k) x a = inr (lies-each suc (numbers ys) k (at-number ys k x a))

-- ---- one for each element, at the same place
pub record Mapped {X A : Type 0} (xs : List X) (S : ℕ → X → A → Type 0) : Type 0 where
  pub list : List A
  pub sound : (k : ℕ) (a : A) → IsAt list k a → (x : X) × IsAt xs k x × S k x a
  pub all : (k : ℕ) (x : X) → IsAt xs k x → (a : A) × IsAt list k a × S k x a

pub map-list : {X A : Type 0} (xs : List X) (S : ℕ → X → A → Type 0) → ((k : ℕ) (x : X) → IsAt xs k x → (a : A) × S k x a) → Mapped xs S
map-list [] S f = record { list = []; sound = λ k a l. absurd (is-at_none l); all = λ k x l. absurd (is-at_none l) }
map-list {X} {A} (y ∷ ys) S f = by (f zero y refl) (map-list ys (λ k x a. S (suc k) x a) (λ k x l. f (suc k) x l))
  where
    by : ((a : A) × S zero y a) → Mapped ys (λ k x a. S (suc k) x a) → Mapped (y ∷ ys) S
    by (b, s) r = record { list = b ∷ r.list; sound = sound; all = all }
      where
        sound : (k : ℕ) (a : A) → IsAt (b ∷ r.list) k a → (x : X) × IsAt (y ∷ ys) k x × S k x a
        sound zero a e = (y, refl, subst (S zero y) (is-at_first e) s)
        sound (suc k) a l = r.sound k a l

        all : (k : ℕ) (x : X) → IsAt (y ∷ ys) k x → (a : A) × IsAt (b ∷ r.list) k a × S k x a
        all zero x e = (b, refl, subst (λ (z : X). S zero z b) (is-at_first e) s)
        all (suc k) x l = r.all k x l

-- ---- what each element of a list gives, or doesn't
pub record Collected {X A : Type 0} (xs : List X) (S : X → A → Type 0) (W : X → Type 0) : Type 0 where
  pub list : List A
  pub sound : (a : A) → Lies list a → (x : X) × Lies xs x × S x a
  pub all : (x : X) → Lies xs x → W x → (a : A) × Lies list a × S x a

pub collect : {X A : Type 0} (xs : List X) (S : X → A → Type 0) (W : X → Type 0) → ((x : X) → ((a : A) × S x a) ⊎ (W x → ⊥)) → Collected xs S W
collect [] S W f = record { list = []; sound = λ a l. absurd l; all = λ x l w. absurd l }
collect {X} {A} (y ∷ ys) S W f = by (f y) (collect ys S W f)
  where
    by : ((a : A) × S y a) ⊎ (W y → ⊥) → Collected ys S W → Collected (y ∷ ys) S W
    by (inl (b, s)) r = record {
      list = b ∷ r.list;
      sound = λ a l. ⊎_elim (λ e. (y, inl refl, subst (S y) e s)) (λ m. let q = r.sound a m in (q.0, inr q.1, q.2)) l;
      all = λ x l w. ⊎_elim (λ e. (b, inl refl, subst (λ (z : X). S z b) e s)) (λ m. let q = r.all x m w in (q.0, inr q.1, q.2)) l;
    }
    by (inr n) r = record {
      list = r.list;
      sound = λ a l. let q = r.sound a l in (q.0, inr q.1, q.2);
      all = λ x l w. ⊎_elim (λ e. absurd (n (subst W (sym e) w))) (λ m. let q = r.all x m w in (q.0, q.1, q.2)) l;
    }

-- ---- order
module _ {A : Type 0} (Below Same : A → A → Type 0) where
  -- each element below the later ones
  abbrev pub Chain : List A → Type 0
  Chain [] = Unit {0}
  Chain (x ∷ xs) = ((y : A) → Lies xs y → Below x y) × Chain xs

  pub record Sorted (xs : List A) : Type 0 where
    pub list : List A
    pub chain : Chain list
    pub sound : (x : A) → Lies list x → Lies xs x
    pub all : (x : A) → Lies xs x → (y : A) × Lies list y × Same x y

  pub chain-order : (xs : List A) → Chain xs → InOrder Below xs
  chain-order [] c i k x y l a b = absurd (is-at_none a)
  chain-order (z ∷ zs) c zero zero x y l a b = absurd (omega arith)
  chain-order (z ∷ zs) c zero (suc k) x y l e b = subst (λ (r : A). Below r y) (is-at_first e) (c.0 y (at-lies zs k y b))
  chain-order (z ∷ zs) c (suc i) zero x y l a b = absurd (omega arith)
  chain-order (z ∷ zs) c (suc i) (suc k) x y l a b = chain-order zs c.1 i k x y (omega arith) a b

  module _ (trans : (x y z : A) → Below x y → Below y z → Below x z) (self : (x : A) → Same x x) (either : (x y : A) → Below x y ⊎ Same x y ⊎ Below y x) where
    record Inserted (x : A) (xs : List A) : Type 0 where
      list : List A
      chain : Chain list
      sound : (y : A) → Lies list y → (x ≡ y) ⊎ Lies xs y
      new : (y : A) × Lies list y × Same x y
      old : (y : A) → Lies xs y → Lies list y

    insert : (x : A) (xs : List A) → Chain xs → Inserted x xs
    insert x [] c = record { list = x ∷ []; chain = ((λ y l. absurd l), tt); sound = λ y l. ⊎_elim (λ e. inl e) (λ m. absurd m) l; new = (x, inl refl, self x); old = λ y l. absurd l }
    insert x (z ∷ zs) c = by (either x z) (insert x zs c.1)
      where
        by : Below x z ⊎ Same x z ⊎ Below z x → Inserted x zs → Inserted x (z ∷ zs)
        by (inl b) r = record {
          list = x ∷ z ∷ zs;
          chain = ((λ y l. ⊎_elim (λ e. subst (Below x) e b) (λ m. trans x z y b (c.0 y m)) l), c);
          sound = λ y l. l;
          new = (x, inl refl, self x);
          old = λ y l. inr l;
        }
        by (inr (inl s)) r = record { list = z ∷ zs; chain = c; sound = λ y l. inr l; new = (z, inl refl, s); old = λ y l. l }
        by (inr (inr b)) r = record {
          list = z ∷ r.list;
          chain = ((λ y l. ⊎_elim (λ e. subst (Below z) e b) (λ m. c.0 y m) (r.sound y l)), r.chain);
          sound = λ y l. ⊎_elim (λ e. inr (inl e)) (λ m. ⊎_elim (λ e. inl e) (λ q. inr (inr q)) (r.sound y m)) l;
          new = let q = r.new in (q.0, inr q.1, q.2);
          old = λ y l. ⊎_elim (λ e. inl e) (λ m. inr (r.old y m)) l;
        }

    pub sort : (xs : List A) → Sorted xs
    sort [] = record { list = []; chain = tt; sound = λ x l. l; all = λ x l. absurd l }
    sort (x ∷ xs) =
        let r = sort xs in
        let i = insert x r.list r.chain in record {
          list = i.list;
          chain = i.chain;
          sound = λ y l. ⊎_elim (λ e. inl e) (λ m. inr (r.sound y m)) (i.sound y l);
          all = λ y l. ⊎_elim (λ e. subst (λ (z : A). (w : A) × Lies i.list w × Same z w) e i.new) (λ m. let q = r.all y m in (q.0, i.old q.0 q.1, q.2)) l;
        }
