-- The number of a word, by its sign and its digits.
use Rattle.nef_lex.proofs.Prelude.{◌≡◌, ℕ, ◌==◌, Bool, true, false, cond, List, [], ◌∷◌, Some, None, if◌then◌else◌, refl, pos, neg_ℤ, minus_sign, decimal_value, number_of, has_minus, without_minus, is_digits}
use Rattle.std.specs.Option.{option_map}

pub number_of_parts : (word : List ℕ) → number_of word ≡ cond (is_digits (without_minus word)) (Some (cond (has_minus word) (neg_ℤ (pos (decimal_value (without_minus word)))) (pos (decimal_value (without_minus word))))) None
number_of_parts [] = refl
number_of_parts (b ∷ bs) = by (b == minus_sign)
  where
    signed : (t : Bool) (n : ℕ) → option_map (λ n. neg_ℤ (pos n)) (if t then Some n else None) ≡ cond t (Some (neg_ℤ (pos n))) None
    signed true n = refl
    signed false n = refl

    plain : (t : Bool) (n : ℕ) → option_map (λ n. pos n) (if t then Some n else None) ≡ cond t (Some (pos n)) None
    plain true n = refl
    plain false n = refl

    by : (t : Bool) → (if t then option_map (λ n. neg_ℤ (pos n)) (if is_digits bs then Some (decimal_value bs) else None) else option_map (λ n. pos n) (if is_digits (b ∷ bs) then Some (decimal_value (b ∷ bs)) else None))
        ≡ cond (is_digits (cond t bs (b ∷ bs))) (Some (cond t (neg_ℤ (pos (decimal_value (cond t bs (b ∷ bs))))) (pos (decimal_value (cond t bs (b ∷ bs)))))) None
    by true = signed (is_digits bs) (decimal_value bs)
    by false = plain (is_digits (b ∷ bs)) (decimal_value (b ∷ bs))
