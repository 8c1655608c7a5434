-- The laws of exact arithmetic. Each is a clause of a public function of this crate.
use Rattle.std.specs.Prelude.{◌≡◌, ℕ, ◌*◌, ◌<◌, ◌≤◌, ℤ, pos, ◌-ℤ◌, ◌+ℤ◌, ◌*ℤ◌, neg_ℤ, ◌≤ℤ◌, ◌<ℤ◌, nat_abs, unsigned_abs, List, length, ◌↔◌, T, leb, FitsSigned}
use mir.Syntax.{Width}
use Rattle.nef_space.specs.Polynomial.{Poly, ◌⊖◌, ◌⊗◌, value, IsNought, GivenEquations, weighted_sum}
use Rattle.nef_space.specs.Machine.{Code, wrap, run, meant, limit, fits, Limited}
use Rattle.nef_space.specs.Signs.{Sign, minus, nought, plus, sign, sign_times, Lies}
use Rattle.nef_space.specs.Linear.{dot_list, IsPoint}

-- ---- identities
-- two polynomials whose difference computes to nought are equal at all values
abbrev pub EveryIdentity : Type 0
EveryIdentity = (xs : List ℤ) (p q : Poly) → IsNought (p ⊖ q) → value xs p ≡ value xs q

-- two polynomials whose difference computes to a combination of equations that hold are equal at the values
abbrev pub EveryCombination : Type 0
EveryCombination = (xs : List ℤ) (p q : Poly) (g : GivenEquations xs) → IsNought (p ⊖ q ⊖ weighted_sum g) → value xs p ≡ value xs q

-- p and q are equal, where p k - q k computes to a combination of equations that hold, and k is positive; not where k
-- is nought: then any two would be
abbrev pub EveryCombinationTimes : Type 0
EveryCombinationTimes = (xs : List ℤ) (k p q : Poly) (g : GivenEquations xs) → pos 0 <ℤ value xs k → IsNought (p ⊗ k ⊖ q ⊗ k ⊖ weighted_sum g) → value xs p ≡ value xs q

-- where q - p computes to r, a positive r gives p < q, and an r that isn't negative p <= q
abbrev pub EveryOrder : Type 0
EveryOrder = (xs : List ℤ) (p q r : Poly) → IsNought (q ⊖ p ⊖ r) → (pos 0 <ℤ value xs r → value xs p <ℤ value xs q) × (pos 0 ≤ℤ value xs r → value xs p ≤ℤ value xs q)

-- ---- machine integers, each variable within its bound
-- a value whose test passes fits its type
abbrev pub NothingOverflows : Type 0
NothingOverflows = (bs : List ℕ) (xs : List ℤ) (w : Width) (e : Code) → Limited bs xs → T (fits bs (wrap w e)) → FitsSigned w (run xs e)

-- where the test passes, the machine computes the polynomial itself
abbrev pub EveryValueIsExact : Type 0
EveryValueIsExact = (bs : List ℕ) (xs : List ℤ) (e : Code) → Limited bs xs → T (fits bs e) → run xs e ≡ value xs (meant e)

-- where the test passes, the size of the value is at most the computed bound
abbrev pub EverySizeIsBounded : Type 0
EverySizeIsBounded = (bs : List ℕ) (xs : List ℤ) (n : ℕ) (e : Code) → Limited bs xs → T (fits bs e) → T (leb (limit bs e) n) → unsigned_abs (run xs e) ≤ n

-- ---- signs
abbrev pub SignsAreOrders : Type 0
SignsAreOrders = (a : ℤ) → ((sign a ≡ plus) ↔ (pos 0 <ℤ a)) × ((sign a ≡ minus) ↔ (a <ℤ pos 0)) × ((sign a ≡ nought) ↔ (a ≡ pos 0))

abbrev pub SignOfProduct : Type 0
SignOfProduct = (a b : ℤ) → sign (a *ℤ b) ≡ sign_times (sign a) (sign b)

-- a sum of two numbers of one sign has that sign
abbrev pub SignOfSum : Type 0
SignOfSum = (a b : ℤ) (s : Sign) → sign a ≡ s → sign b ≡ s → sign (a +ℤ b) ≡ s

-- ---- fractions a/b, c/d, e/f with positive denominators, compared by cross products
abbrev pub FractionsAreOrdered : Type 0
FractionsAreOrdered = (a b c d e f : ℤ) → pos 0 <ℤ b → pos 0 <ℤ d → pos 0 <ℤ f
    → ((a *ℤ d) <ℤ (c *ℤ b) → (c *ℤ f) <ℤ (e *ℤ d) → (a *ℤ f) <ℤ (e *ℤ b))
    × ((a *ℤ d) ≤ℤ (c *ℤ b) → (c *ℤ f) ≤ℤ (e *ℤ d) → (a *ℤ f) ≤ℤ (e *ℤ b))
    × (a *ℤ d ≡ c *ℤ b → c *ℤ f ≡ e *ℤ d → a *ℤ f ≡ e *ℤ b)

-- equal fractions a/b and e/f compare alike with c/d; not for negative b: 1/(-1) and (-1)/1 lie on both sides of 0/1
abbrev pub EqualFractionsCompareAlike : Type 0
EqualFractionsCompareAlike = (a b c d e f : ℤ) → pos 0 <ℤ b → pos 0 <ℤ f → a *ℤ f ≡ e *ℤ b → sign (a *ℤ d -ℤ c *ℤ b) ≡ sign (e *ℤ d -ℤ c *ℤ f)

-- ---- sizes
-- a sum of products of numbers of size at most m and n is at most m n, times their count
abbrev pub SizeOfSum : Type 0
SizeOfSum = (m n : ℕ) (xs ys : List ℤ) → ((x : ℤ) → Lies xs x → nat_abs x ≤ m) → ((y : ℤ) → Lies ys y → nat_abs y ≤ n) → nat_abs (dot_list xs ys) ≤ length xs * (m * n)

-- ---- n |a| < b, which says that a/b is nearer to nought than 1/n
abbrev pub IsSmallRatio : ℕ → ℤ → ℕ → Type 0
IsSmallRatio n a b = n * nat_abs a < b

abbrev pub SmallWeakens : Type 0
SmallWeakens = (m n : ℕ) (a : ℤ) (b : ℕ) → m ≤ n → IsSmallRatio n a b → IsSmallRatio m a b

-- the sum of two numbers is half as near to nought as each of the two
abbrev pub SmallAdds : Type 0
SmallAdds = (n : ℕ) (a c : ℤ) (b : ℕ) → IsSmallRatio (2 * n) a b → IsSmallRatio (2 * n) c b → IsSmallRatio n (a +ℤ c) b

abbrev pub SmallScales : Type 0
SmallScales = (n : ℕ) (a : ℤ) (b k : ℕ) → 0 < k → IsSmallRatio n a b ↔ IsSmallRatio n (pos k *ℤ a) (k * b)

abbrev pub SmallIsTwoSided : Type 0
SmallIsTwoSided = (n : ℕ) (a : ℤ) (b : ℕ) → IsSmallRatio n a b ↔ (neg_ℤ (pos b) <ℤ (pos n *ℤ a)) × (pos n *ℤ a) <ℤ pos b

-- finitely many vectors with a positive last number have all signs that such vectors have on finitely many linear forms
abbrev pub FinitelyManyPoints : Type 0
FinitelyManyPoints = (n : ℕ) (ks : List (List ℤ)) → (us : List (List ℤ)) × ((v : List ℤ) → IsPoint n v → (u : List ℤ) × Lies us u × IsPoint n u × ((k : List ℤ) → Lies ks k → sign (dot_list k v) ≡ sign (dot_list k u)))

-- finitely many vectors of n numbers have all signs that such vectors have on finitely many linear forms
abbrev pub FinitelyManyVectors : Type 0
FinitelyManyVectors = (n : ℕ) (ks : List (List ℤ)) → (us : List (List ℤ)) × ((v : List ℤ) → length v ≡ n → (u : List ℤ) × Lies us u × (length u ≡ n) × ((k : List ℤ) → Lies ks k → sign (dot_list k v) ≡ sign (dot_list k u)))
