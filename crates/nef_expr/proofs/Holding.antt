-- Where plain sets hold.
use Rattle.nef_expr.proofs.Prelude.{◌≡◌, ℕ, zero, suc, ◌<◌, ℤ, pos, negsuc, ◌<ℤ◌, arith, refl, Bool, true, false, ◌&&◌, ◌||◌, not, List, [], ◌∷◌, ◌++◌, length, get_or, Some, inl, inr, length-append, ◌↔◌, IsTrue, slice_get, ints, false≢true, cases_lt, get_or-append, get_or-append_seam, SpacePoint, Form, form_at, Set, InHalf, sign_of, Oriented, given_form, operand, node_set, sets_after, NamesBelow, Node, IsPlainSet, TellsHolds, TellsEach, TellsNext}
use mathlib.Core.Bool.{beq}
use Rattle.nef_space.specs.Sets.{Holds}
use Rattle.nef_geo.specs.declared.sign.Sign.TheVariants.{Minus, Zero, Plus}
use Rattle.nef_expr.specs.declared.nodes.Node.TheVariants as node
use Rattle.nef_expr.proofs.Sets.{each-set}
use Rattle.nef_geo.proofs.Signs.{plus-above}

minus-below : (z : ℤ) → Minus ≡ sign_of z → z <ℤ pos 0
minus-below (pos zero) e = cc
minus-below (pos (suc n)) e = cc
minus-below (negsuc n) e = omega (arith, ints)

zero-is : (z : ℤ) → Zero ≡ sign_of z → z ≡ pos 0
zero-is (pos zero) e = refl
zero-is (pos (suc n)) e = cc
zero-is (negsuc n) e = cc

pub half-minus : (h : Form) (c : Bool) (p : SpacePoint) → Minus ≡ sign_of (form_at h p) → IsTrue true ↔ InHalf h c p
half-minus h false p e = let b = minus-below (form_at h p) e in (λ _. b, λ _. refl)
half-minus h true p e = let b = minus-below (form_at h p) e in (λ _. omega (arith, ints), λ _. refl)

pub half-zero : (h : Form) (c : Bool) (p : SpacePoint) → Zero ≡ sign_of (form_at h p) → IsTrue c ↔ InHalf h c p
half-zero h false p e = let b = zero-is (form_at h p) e in (λ t. absurd (false≢true t), λ k. absurd (omega (arith, ints)))
half-zero h true p e = let b = zero-is (form_at h p) e in (λ _. omega (arith, ints), λ _. refl)

pub half-plus : (h : Form) (c : Bool) (p : SpacePoint) → Plus ≡ sign_of (form_at h p) → IsTrue false ↔ InHalf h c p
half-plus h false p e = let b = plus-above (form_at h p) e in (λ t. absurd (false≢true t), λ k. absurd (omega (arith, ints)))
half-plus h true p e = let b = plus-above (form_at h p) e in (λ t. absurd (false≢true t), λ k. absurd (omega (arith, ints)))

and-tells : (a b : Bool) (s t : Set) (p : SpacePoint) → TellsHolds a s p → TellsHolds b t p → TellsHolds (a && b) (Set.both s t) p
unfolding Holds
and-tells true b s t p (f, g) (h, k) = (λ e. (f refl, h e), λ w. k w.1)
and-tells false b s t p (f, g) (h, k) = (λ e. absurd (false≢true e), λ w. g w.0)

or-tells : (a b : Bool) (s t : Set) (p : SpacePoint) → TellsHolds a s p → TellsHolds b t p → TellsHolds (a || b) (Set.either s t) p
unfolding Holds
or-tells true b s t p (f, g) (h, k) = (λ e. inl (f refl), λ w. refl)
or-tells false b s t p (f, g) (h, k) = (λ e. inr (h e), λ w. elim w [ inl x ↦ absurd (false≢true (g x)) | inr y ↦ k y ])

diff-tells : (a b : Bool) (s t : Set) (p : SpacePoint) → TellsHolds a s p → TellsHolds b t p → TellsHolds (a && not b) (Set.less s t) p
unfolding Holds
diff-tells true true s t p (f, g) (h, k) = (λ e. absurd (false≢true e), λ w. absurd (w.1 (h refl)))
diff-tells true false s t p (f, g) (h, k) = (λ e. (f refl, λ y. false≢true (k y)), λ w. refl)
diff-tells false b s t p (f, g) (h, k) = (λ e. absurd (false≢true e), λ w. g w.0)

xor-tells : (a b : Bool) (s t : Set) (p : SpacePoint) → TellsHolds a s p → TellsHolds b t p → TellsHolds (not (beq a b)) (Set.one_of s t) p
unfolding Holds
xor-tells true true s t p (f, g) (h, k) = (λ e. absurd (false≢true e), λ w. elim w [ inl x ↦ absurd (x.1 (h refl)) | inr y ↦ absurd (y.0 (f refl)) ])
xor-tells true false s t p (f, g) (h, k) = (λ e. inl (f refl, λ y. false≢true (k y)), λ w. refl)
xor-tells false true s t p (f, g) (h, k) = (λ e. inr (λ x. false≢true (g x), h refl), λ w. refl)
xor-tells false false s t p (f, g) (h, k) = (λ e. absurd (false≢true e), λ w. elim w [ inl x ↦ g x.0 | inr y ↦ k y.1 ])

not-tells : (a : Bool) (s : Set) (p : SpacePoint) → TellsHolds a s p → TellsHolds (not a) (Set.other s) p
unfolding Holds
not-tells true s p (f, g) = (λ e. absurd (false≢true e), λ w. absurd (w (f refl)))
not-tells false s p (f, g) = (λ e. λ x. false≢true (g x), λ w. refl)

-- the values of the operands of a node, among those of the earlier nodes
abbrev value : List Bool → ℕ → Bool
value holding k = get_or holding k false

pub half-told : (bs : List Bool) (o : Oriented) (c r : Bool) (p : SpacePoint) → IsTrue r ↔ InHalf (given_form o) c p → TellsNext bs (node.Half o c) r p
unfolding Holds
half-told bs o c r p h ss tells plain = h

pub empty-told : (bs : List Bool) (p : SpacePoint) → TellsNext bs node.Empty false p
unfolding Holds
empty-told bs p ss tells plain = (λ e. false≢true e, λ w. absurd w)

pub full-told : (bs : List Bool) (p : SpacePoint) → TellsNext bs node.Full true p
unfolding Holds
full-told bs p ss tells plain = (λ e. tt, λ w. refl)

pub and-told : (bs : List Bool) (i j : ℕ) (p : SpacePoint) → (i < length bs) × (j < length bs) → TellsNext bs (node.And i j) (value bs i && value bs j) p
and-told bs i j p below ss tells plain = and-tells _ _ _ _ p (tells i below.0 plain.0) (tells j below.1 plain.1)

pub or-told : (bs : List Bool) (i j : ℕ) (p : SpacePoint) → (i < length bs) × (j < length bs) → TellsNext bs (node.Or i j) (value bs i || value bs j) p
or-told bs i j p below ss tells plain = or-tells _ _ _ _ p (tells i below.0 plain.0) (tells j below.1 plain.1)

pub diff-told : (bs : List Bool) (i j : ℕ) (p : SpacePoint) → (i < length bs) × (j < length bs) → TellsNext bs (node.Diff i j) (value bs i && not (value bs j)) p
diff-told bs i j p below ss tells plain = diff-tells _ _ _ _ p (tells i below.0 plain.0) (tells j below.1 plain.1)

pub xor-told : (bs : List Bool) (i j : ℕ) (p : SpacePoint) → (i < length bs) × (j < length bs) → TellsNext bs (node.Xor i j) (not (beq (value bs i) (value bs j))) p
xor-told bs i j p below ss tells plain = xor-tells _ _ _ _ p (tells i below.0 plain.0) (tells j below.1 plain.1)

pub not-told : (bs : List Bool) (i : ℕ) (p : SpacePoint) → i < length bs → TellsNext bs (node.Not i) (not (value bs i)) p
not-told bs i p below ss tells plain = not-tells _ _ p (tells i below plain)

-- one more truth value
pub tells_each-push : (bs : List Bool) (r : Bool) (ss : List Set) (p : SpacePoint) → TellsEach bs ss p → (IsPlainSet (operand ss (length bs)) → TellsHolds r (operand ss (length bs)) p) → TellsEach (bs ++ r ∷ []) ss p
tells_each-push bs r ss p each here k below plain = elim (cases_lt k (length bs)) [
  | inl earlier ↦ let same : get_or (bs ++ r ∷ []) k false ≡ get_or bs k false = get_or-append bs (r ∷ []) false k earlier in rw same (each k earlier plain)
  | inr past ↦
      let last : k ≡ length bs = omega (arith, length-append {A = Bool}) in
      let value_is : get_or (bs ++ r ∷ []) (length bs) false ≡ r = get_or-append_seam bs r [] false in
      rw (last, value_is) (here (rw last at plain))
]

-- what is told of a node is told of its set in the list
pub told-in_list : (ns : List Node) (k : ℕ) (n : Node) (bs : List Bool) (r : Bool) (p : SpacePoint) → slice_get ns k ≡ Some n → NamesBelow k n → TellsEach bs (sets_after [] ns) p → TellsNext bs n r p → IsPlainSet (node_set ns k) → TellsHolds r (node_set ns k) p
told-in_list ns k n bs r p is below each next plain = let e = each-set ns k n is below in rw e (next (sets_after [] ns) each (rw e at plain))
