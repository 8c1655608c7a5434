-- Numbers by first appearance, and tables of numbers.
use Rattle.nef_statement.proofs.text.existence.Prelude.{◌≡◌, ◌≢◌, ℕ, zero, suc, ◌+◌, ◌<◌, ◌≤◌, pos, arith, refl, sym, ap, ◌∙◌, ◌⊎◌, inl, inr, ◌↔◌, List, ◌∷◌, ◌++◌, length, map, take, get_or, Option, Some, None, subst, [], ints, cases_order, length-map, take_all, IsAt, IsInTable, IsBelow, Decided, InOrder, is-at_one, is-at_within, is-at_some, take-more, IsNumberedTo, numbered-earlier, numbered-new, is-at_map, map-is_at, eq-decided, is-at_none, is-at_first}
use Rattle.nef_classes.specs.Classes.{AreNumbered}

-- ---- by first appearance
find-number : (cs : List ℕ) (x : ℕ) → ((e : ℕ) × IsAt cs e x) ⊎ ((k c : ℕ) → IsAt cs k c → c ≢ x)
find-number [] x = inr (λ k c a e. let l = is-at_within [] k c a in omega (arith, l))
find-number (c ∷ cs) x = by (eq-decided c x) (find-number cs x)
  where
    by : Decided (c ≡ x) → ((e : ℕ) × IsAt cs e x) ⊎ ((k d : ℕ) → IsAt cs k d → d ≢ x) → ((e : ℕ) × IsAt (c ∷ cs) e x) ⊎ ((k d : ℕ) → IsAt (c ∷ cs) k d → d ≢ x)
    by (inl e) o = inl (zero, ap Some e)
    by (inr n) (inl (e, a)) = inl (suc e, a)
    by (inr n) (inr f) = inr (λ k d a. none k d a)
      where
        none : (k d : ℕ) → IsAt (c ∷ cs) k d → d ≢ x
        none zero d e g = n (is-at_first e ∙ g)
        none (suc k) d a g = f k d a g

record NumberedTo (cs : List ℕ) : Type 0 where
  list : List ℕ
  next : ℕ
  is : IsNumberedTo cs list next

none-numbered : NumberedTo []
none-numbered = record {
  list = [];
  next = 0;
  is = record {
    numbered = record { as_many = refl; same = λ s t c d m n a. absurd (nothing s c a); by_appearance = λ s m n a. absurd (nothing s n a) };
    below = λ s n a. absurd (nothing s n a);
    each = λ m l. absurd (omega (arith, l));
    few = omega arith;
  };
}
  where
    nothing : (s c : ℕ) → IsAt [] s c → ⊥
    nothing s c a = let l = is-at_within [] s c a in omega (arith, l)

one-more : (cs : List ℕ) (x : ℕ) → NumberedTo cs → NumberedTo (cs ++ x ∷ [])
one-more cs x N = by (find-number cs x)
  where
    by : ((e : ℕ) × IsAt cs e x) ⊎ ((k c : ℕ) → IsAt cs k c → c ≢ x) → NumberedTo (cs ++ x ∷ [])
    by (inl (e, a)) =
        let m = is-at_some N.list e (let l = is-at_within cs e x a in let k = N.is.numbered.as_many in omega (arith, l, k)) in
        record { list = N.list ++ m.0 ∷ []; next = N.next; is = numbered-earlier cs N.list N.next N.is x e m.0 a m.1 }
    by (inr new) = record { list = N.list ++ N.next ∷ []; next = N.next + 1; is = numbered-new cs N.list N.next N.is x new }

numbered-to : (cs : List ℕ) (k : ℕ) → k ≤ length cs → NumberedTo (take k cs)
numbered-to cs zero l = none-numbered
numbered-to cs (suc k) l =
    let e : k + 1 ≡ suc k = omega arith in
    subst (λ n. NumberedTo (take n cs)) e (subst NumberedTo (sym (take-more cs k 0 (omega (arith, l)))) (one-more (take k cs) (get_or cs k 0) (numbered-to cs k (omega (arith, l)))))

pub numbered-exist : (cs : List ℕ) → (ns : List ℕ) × AreNumbered cs ns
numbered-exist cs = let N = subst NumberedTo (take_all (length cs) cs (omega arith)) (numbered-to cs (length cs) (omega arith)) in (N.list, N.is.numbered)

-- ---- the elements of a list, by classes
pub record Numbered {X : Type 0} (xs : List X) (id : X → ℕ) : Type 0 where
  pub list : List ℕ
  pub as_many : length list ≡ length xs
  pub same : (p q : ℕ) (x y : X) (m n : ℕ) → IsAt xs p x → IsAt xs q y → IsAt list p m → IsAt list q n → (m ≡ n) ↔ (id x ≡ id y)
  pub by_appearance : (p : ℕ) (x : X) (m n : ℕ) → IsAt xs p x → IsAt list p n → m < n → (q : ℕ) × (y : X) × (q < p) × IsAt xs q y × IsAt list q m

pub number-all : {X : Type 0} (xs : List X) (id : X → ℕ) → Numbered xs id
number-all {X} xs id = by (numbered-exist (map id xs))
  where
    by : ((ns : List ℕ) × AreNumbered (map id xs) ns) → Numbered xs id
    by (ns, N) = record {
      list = ns;
      as_many = N.as_many ∙ length-map xs id;
      same = λ p q x y m n a b c d. N.same p q (id x) (id y) m n (map-is_at id xs p x a) (map-is_at id xs q y b) c d;
      by_appearance = λ p x m n a c l.
          let r = N.by_appearance p m n c l in
          let w = is-at_within ns r.0 m r.2 in
          let z = is-at_some (map id xs) r.0 (let e = N.as_many in omega (arith, w, e)) in
          let y = is-at_map id xs r.0 z.0 z.1 in
          (r.0, y.0, r.1, y.1, r.2);
    }

-- ---- tables
-- a row of numbers that R says
pub row-of : (c : ℕ) (R : ℕ → ℕ → Type 0) → ((k : ℕ) → k < c → (n : ℕ) × R k n) → (row : List ℕ) × (length row ≡ c) × ((k n : ℕ) → IsAt row k n → R k n)
row-of zero R f = ([], refl, λ k n a. absurd (is-at_none a))
row-of (suc c) R f = by (f zero (omega arith)) (row-of c (λ k n. R (suc k) n) (λ k l. f (suc k) (omega (arith, l))))
  where
    by : ((n : ℕ) × R zero n) → ((row : List ℕ) × (length row ≡ c) × ((k n : ℕ) → IsAt row k n → R (suc k) n)) → (row : List ℕ) × (length row ≡ suc c) × ((k n : ℕ) → IsAt row k n → R k n)
    by (n, r) (row, e, all) = (n ∷ row, ap suc e, each)
      where
        each : (k m : ℕ) → IsAt (n ∷ row) k m → R k m
        each zero m q = subst (R zero) (is-at_first q) r
        each (suc k) m a = all k m a

pub record NumberTable {V : Type 0} (vs : List V) (count : V → ℕ) (R : ℕ → ℕ → ℕ → Type 0) : Type 0 where
  pub rows : List (List ℕ)
  pub as_many : length rows ≡ length vs
  pub long : (i : ℕ) (v : V) (row : List ℕ) → IsAt vs i v → IsAt rows i row → length row ≡ count v
  pub each : (i k n : ℕ) (row : List ℕ) → IsAt rows i row → IsAt row k n → R i k n

pub table-of : {V : Type 0} (vs : List V) (count : V → ℕ) (R : ℕ → ℕ → ℕ → Type 0) → ((i k : ℕ) (v : V) → IsAt vs i v → k < count v → (n : ℕ) × R i k n) → NumberTable vs count R
table-of [] count R f = record { rows = []; as_many = refl; long = λ i v row a. absurd (is-at_none a); each = λ i k n row a. absurd (is-at_none a) }
table-of {V} (v ∷ vs) count R f = by (row-of (count v) (R zero) (λ k l. f zero k v refl l)) (table-of vs count (λ i k n. R (suc i) k n) (λ i k w a l. f (suc i) k w a l))
  where
    by : ((row : List ℕ) × (length row ≡ count v) × ((k n : ℕ) → IsAt row k n → R zero k n)) → NumberTable vs count (λ i k n. R (suc i) k n) → NumberTable (v ∷ vs) count R
    by (row, e, all) T = record { rows = row ∷ T.rows; as_many = ap suc T.as_many; long = long; each = each }
      where
        long : (i : ℕ) (w : V) (r : List ℕ) → IsAt (v ∷ vs) i w → IsAt (row ∷ T.rows) i r → length r ≡ count w
        long zero w r a b = ap length (sym (is-at_first b)) ∙ e ∙ ap count (is-at_first a)
        long (suc i) w r a b = T.long i w r a b

        each : (i k n : ℕ) (r : List ℕ) → IsAt (row ∷ T.rows) i r → IsAt r k n → R i k n
        each zero k n r b c = all k n (subst (λ z. IsAt z k n) (sym (is-at_first b)) c)
        each (suc i) k n r b c = T.each i k n r b c

-- ---- the order of pairs of numbers
abbrev pub PairBelow : ℕ → ℕ → ℕ → ℕ → Type 0
PairBelow i k j l = IsBelow (pos i ∷ pos k ∷ []) (pos j ∷ pos l ∷ [])

pub pair-trans : (i k j l m n : ℕ) → PairBelow i k j l → PairBelow j l m n → PairBelow i k m n
pair-trans i k j l m n (inl a) (inl b) = inl (omega (arith, ints, a, b))
pair-trans i k j l m n (inl a) (inr (e, b)) = inl (omega (arith, ints, a, e))
pair-trans i k j l m n (inr (e, a)) (inl b) = inl (omega (arith, ints, e, b))
pair-trans i k j l m n (inr (e, inl a)) (inr (f, inl b)) = inr (e ∙ f, inl (omega (arith, ints, a, b)))
pair-trans i k j l m n (inr (e, inl a)) (inr (f, inr b)) = absurd b.1
pair-trans i k j l m n (inr (e, inr a)) b = absurd a.1

pub pair-either : (i k j l : ℕ) → PairBelow i k j l ⊎ ((i ≡ j) × (k ≡ l)) ⊎ PairBelow j l i k
pair-either i k j l = by (cases_order i j) (cases_order k l)
  where
    by : (i ≡ j) ⊎ ((i < j) ⊎ (j < i)) → (k ≡ l) ⊎ ((k < l) ⊎ (l < k)) → PairBelow i k j l ⊎ ((i ≡ j) × (k ≡ l)) ⊎ PairBelow j l i k
    by (inr (inl a)) b = inl (inl (omega (arith, ints, a)))
    by (inr (inr a)) b = inr (inr (inl (omega (arith, ints, a))))
    by (inl e) (inl f) = inr (inl (e, f))
    by (inl e) (inr (inl b)) = inl (inr (ap pos e, inl (omega (arith, ints, b))))
    by (inl e) (inr (inr b)) = inr (inr (inr (ap pos (sym e), inl (omega (arith, ints, b)))))

pub pair-itself : (i k : ℕ) → PairBelow i k i k → ⊥
pair-itself i k (inl a) = omega (arith, ints, a)
pair-itself i k (inr (e, inl a)) = omega (arith, ints, a)
pair-itself i k (inr (e, inr a)) = absurd a.1

-- ---- a list of numbers, cut into a table
module _ {X V : Type 0} (row col : X → ℕ) (xs : List X) (ordered : InOrder (λ x y. PairBelow (row x) (col x) (row y) (col y)) xs) (vs : List V) (count : V → ℕ)
    (complete : (i k : ℕ) (v : V) → IsAt vs i v → k < count v → (p : ℕ) × (x : X) × IsAt xs p x × (row x ≡ i) × (col x ≡ k))
    (sound : (p : ℕ) (x : X) → IsAt xs p x → (v : V) × IsAt vs (row x) v × (col x < count v)) (ns : List ℕ) (as_many : length ns ≡ length xs) where
  -- two elements with the same row and column stand at one place
  pub one-place : (p q : ℕ) (x y : X) → IsAt xs p x → IsAt xs q y → row x ≡ row y → col x ≡ col y → p ≡ q
  one-place p q x y a b e f = by (cases_order p q)
    where
      same : PairBelow (row x) (col x) (row y) (col y) → ⊥
      same h = pair-itself (row y) (col y) (subst (λ i. PairBelow i (col y) (row y) (col y)) e (subst (λ k. PairBelow (row x) k (row y) (col y)) f h))

      turned : PairBelow (row y) (col y) (row x) (col x) → ⊥
      turned h = pair-itself (row y) (col y) (subst (λ i. PairBelow (row y) (col y) i (col y)) e (subst (λ k. PairBelow (row y) (col y) (row x) k) f h))

      by : (p ≡ q) ⊎ ((p < q) ⊎ (q < p)) → p ≡ q
      by (inl g) = g
      by (inr (inl l)) = absurd (same (ordered p q x y l a b))
      by (inr (inr l)) = absurd (turned (ordered q p y x l b a))

  -- the number of the element with this row and column
  abbrev pub Placed : ℕ → ℕ → ℕ → Type 0
  Placed i k n = (p : ℕ) × (x : X) × IsAt xs p x × (row x ≡ i) × (col x ≡ k) × IsAt ns p n

  pub table : NumberTable vs count Placed
  table = table-of vs count Placed (λ i k v a l.
      let (p, x, b, e, f) = complete i k v a l in
      let n = is-at_some ns p (let w = is-at_within xs p x b in let m = as_many in omega (arith, w, m)) in
      (n.0, (p, x, b, e, f, n.1)))

  pub placed : (i k n : ℕ) → IsInTable table.rows i k n → Placed i k n
  placed i k n (r, a, b) = table.each i k n r a b

  pub has-place : (p : ℕ) (x : X) (n : ℕ) → IsAt xs p x → IsAt ns p n → IsInTable table.rows (row x) (col x) n
  has-place p x n a b = in-row (sound p x a)
    where
      number : (r : List ℕ) → IsAt table.rows (row x) r → (m : ℕ) → IsAt r (col x) m → Placed (row x) (col x) m → IsInTable table.rows (row x) (col x) n
      number r f m g (q, y, d, e, h, k) = (r, f, subst (IsAt r (col x)) (is-at_one ns p m n (subst (λ j. IsAt ns j m) (one-place q p y x d a e h) k) b) g)

      in-row : ((v : V) × IsAt vs (row x) v × (col x < count v)) → IsInTable table.rows (row x) (col x) n
      in-row (v, c, l) =
          let (r, f) = is-at_some table.rows (row x) (let w = is-at_within vs (row x) v c in let m = table.as_many in omega (arith, w, m)) in
          let (m, g) = is-at_some r (col x) (let long = table.long (row x) v r c f in omega (arith, long, l)) in
          number r f m g (table.each (row x) (col x) m r f g)

-- ---- classes after one that comes first, whose number is 0
pub record NumberedAfter {X : Type 0} (xs : List X) (id : X → ℕ) : Type 0 where
  pub list : List ℕ
  pub as_many : length list ≡ length xs
  pub same : (p q : ℕ) (x y : X) (m n : ℕ) → IsAt xs p x → IsAt xs q y → IsAt list p m → IsAt list q n → (m ≡ n) ↔ (id x ≡ id y)
  pub first : (p : ℕ) (x : X) (m : ℕ) → IsAt xs p x → IsAt list p m → (m ≡ 0) ↔ (id x ≡ 0)
  pub by_appearance : (p : ℕ) (x : X) (m n : ℕ) → IsAt xs p x → IsAt list p n → 1 ≤ m → m < n → (q : ℕ) × (y : X) × (q < p) × IsAt xs q y × IsAt list q m

id-or_zero : {X : Type 0} → (X → ℕ) → Option X → ℕ
id-or_zero id None = 0
id-or_zero id (Some x) = id x

pub number-after : {X : Type 0} (xs : List X) (id : X → ℕ) → NumberedAfter xs id
unfolding id-or_zero
number-after {X} xs id = by (number-all (None ∷ map (λ (x : X). Some x) xs) (id-or_zero id))
  where
    by : Numbered (None ∷ map (λ (x : X). Some x) xs) (id-or_zero id) → NumberedAfter xs id
    by N = cases N.list refl
      where
        some : List (Option X)
        some = map (λ (x : X). Some x) xs

        at-more : (p : ℕ) (x : X) → IsAt xs p x → IsAt (None ∷ map (λ (x : X). Some x) xs) (suc p) (Some x)
        at-more p x a = map-is_at (λ (x : X). Some x) xs p x a

        cases : (ns : List ℕ) → N.list ≡ ns → NumberedAfter xs id
        cases [] e = absurd (let l = N.as_many in let f = ap length e in omega (arith, l, f))
        cases (z ∷ ns) e = record {
          list = ns;
          as_many = (let l = N.as_many in let f = ap length e in let g = length-map xs (λ (x : X). Some x) in omega (arith, l, f, g));
          same = λ p q x y m n a b c d. unfolded x y (N.same (suc p) (suc q) (Some x) (Some y) m n (at-more p x a) (at-more q y b) (later p m c) (later q n d));
          first = λ p x m a c. let r = N.same (suc p) 0 (Some x) None m z (at-more p x a) refl (later p m c) here in first x m r;
          by_appearance = λ p x m n a c low l. found p m low (N.by_appearance (suc p) (Some x) m n (at-more p x a) (later p n c) l);
        }
          where
            here : IsAt N.list 0 z
            here = subst (λ (r : List ℕ). IsAt r 0 z) (sym e) refl

            later : (p m : ℕ) → IsAt ns p m → IsAt N.list (suc p) m
            later p m a = subst (λ (r : List ℕ). IsAt r (suc p) m) (sym e) a

            zero-first : z ≡ 0
            zero-first = by-size z refl
              where
                by-size : (n : ℕ) → z ≡ n → z ≡ 0
                by-size zero f = f
                by-size (suc n) f = absurd (let r = N.by_appearance 0 None 0 z refl here (omega (arith, f)) in let l = r.2 in omega (arith, l))

            unfolded : (x y : X) {m n : ℕ} → (m ≡ n) ↔ (id-or_zero id (Some x) ≡ id-or_zero id (Some y)) → (m ≡ n) ↔ (id x ≡ id y)
            unfolded x y r = r

            first : (x : X) (m : ℕ) → (m ≡ z) ↔ (id-or_zero id (Some x) ≡ id-or_zero id None) → (m ≡ 0) ↔ (id x ≡ 0)
            first x m r = (λ f. r.0 (f ∙ sym zero-first), λ f. r.1 f ∙ zero-first)

            found : (p m : ℕ) → 1 ≤ m → ((q : ℕ) × (y : Option X) × (q < suc p) × IsAt (None ∷ map (λ (x : X). Some x) xs) q y × IsAt N.list q m) → (q : ℕ) × (y : X) × (q < p) × IsAt xs q y × IsAt ns q m
            found p m low (zero, y, l, a, b) = absurd (let f = is-at_one N.list 0 z m here b in let g = zero-first in omega (arith, low, f, g))
            found p m low (suc q, y, l, a, b) =
                let x = is-at_map (λ (x : X). Some x) xs q y a in
                (q, x.0, omega (arith, l), x.1, (subst (λ (r : List ℕ). IsAt r (suc q) m) e b))
