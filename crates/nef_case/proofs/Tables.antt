-- A table in which every row passes a test that computes has the plain definition's value at each key.
use Rattle.nef_case.proofs.Prelude.{◌≡◌, ℕ, ◌<◌, ◌^◌, ℤ, w8, to_z, of_z, List, length, Bool, true, false, cond, get_or, Some, sym, refl, ◌∙◌, ap, slice_get, get_or_from_slice_get, int_eq, All, to_z-of_z, IsSign, row_of}
use Rattle.std.proofs.lemmas.Bool.Decides.{Decides-int_eq}
use lib.Dec.{T}
use lib.Signed.{mag}
use Rattle.nef_case.proofs.Rows.{every_key, passes_at}

-- a test of two values by which they are the same
pub record Tests {A : Type 0} (same : A → A → Bool) : Type 0 where
  pub is_sound : (a b : A) → T (same a b) → a ≡ b

abbrev pub agrees : {A : Type 0} → (A → A → Bool) → A → (List ℤ → A) → List A → List ℤ → Bool
agrees same d plain rows k = same (get_or rows (row_of k) d) (plain k)

pub row_is_plain : {A : Type 0} (same : A → A → Bool) → Tests same → (d : A) (n : ℕ) (plain : List ℤ → A) (rows held : List A) (key : List ℤ) (r : A) → held ≡ rows → slice_get held (row_of key) ≡ Some r → T (every_key n (agrees same d plain rows)) → length key ≡ n → All IsSign key → r ≡ plain key
row_is_plain {A} same tests d n plain rows held key r e f t l s =
    sym (get_or_from_slice_get held (row_of key) r d f) ∙ ap (λ (xs : List A). get_or xs (row_of key) d) e
    ∙ tests.is_sound _ _ (passes_at n (agrees same d plain rows) t key l s)

abbrev pub same_bool : Bool → Bool → Bool
same_bool true b = b
same_bool false b = cond b false true

pub bool_tests : Tests same_bool
bool_tests = record { is_sound = is_same }
  where
    is_same : (a b : Bool) → T (same_bool a b) → a ≡ b
    is_same true true t = refl
    is_same true false t = absurd t
    is_same false true t = absurd t
    is_same false false t = refl

is_true : (b : Bool) → T b → b ≡ true
is_true true t = refl
is_true false t = absurd t

pub int_tests : Tests int_eq
int_tests = record { is_sound = λ a b t. (Decides-int_eq a b).0 (is_true _ t) }

-- the same for a table of numbers that a machine returns
pub number_is_plain : (d : ℤ) (n : ℕ) (plain : List ℤ → ℤ) (rows held : List ℤ) (key : List ℤ) (r : ℤ) → mag r < 2 ^ 7 → held ≡ rows → slice_get held (row_of key) ≡ Some r → T (every_key n (agrees int_eq d plain rows)) → length key ≡ n → All IsSign key → to_z w8 (of_z w8 r) ≡ plain key
number_is_plain d n plain rows held key r h e f t l s = to_z-of_z w8 r (record { sfits = h }) ∙ row_is_plain int_eq int_tests d n plain rows held key r e f t l s
