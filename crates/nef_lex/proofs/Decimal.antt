-- The value of decimal digits, one more digit at a time.
use Rattle.nef_lex.proofs.Prelude.{◌≡◌, ℕ, ◌+◌, ◌-◌, ◌*◌, ◌<◌, ◌≤◌, List, [], ◌∷◌, ◌++◌, length, take, drop, arith, refl, length-append, get_or, add-one, ap, ◌∙◌, subst, decimal_value, zero_digit}
use Rattle.std.proofs.lemmas.List.{take_more, take-append-drop}
use Rattle.std.proofs.Math.Nat.{pow-le-pow_right, mul-le-mul_left, pow-suc}

pub decimal_value-push : (bs : List ℕ) (b : ℕ) → decimal_value (bs ++ b ∷ []) ≡ decimal_value bs * 10 + (b - zero_digit)
decimal_value-push [] b = omega arith
decimal_value-push (a ∷ bs) b =
    let last = decimal_value-push bs b in
    let longer : length (bs ++ b ∷ []) ≡ length bs + 1 = simp length-append refl in
    rw (longer, last, add-one, pow-suc) (omega arith)

pub decimal_value-append : (bs cs : List ℕ) → decimal_value bs ≤ decimal_value (bs ++ cs)
decimal_value-append [] cs = omega arith
decimal_value-append (b ∷ bs) cs =
    let fewer = decimal_value-append bs cs in
    let length_le : length bs ≤ length (bs ++ cs) = simp length-append (omega arith) in
    let more = mul-le-mul_left (b - zero_digit) (pow-le-pow_right {n = 10} (omega arith) length_le) in
    omega (arith, fewer, more)

pub decimal_value-more : (bs : List ℕ) (i : ℕ) → i < length bs → decimal_value (take (i + 1) bs) ≡ decimal_value (take i bs) * 10 + (get_or bs i 0 - zero_digit)
decimal_value-more bs i below = ap decimal_value (take_more bs i 0 below) ∙ decimal_value-push (take i bs) (get_or bs i 0)

pub decimal_value-take : (bs : List ℕ) (i : ℕ) → decimal_value (take i bs) ≤ decimal_value bs
decimal_value-take bs i = subst (λ l. decimal_value (take i bs) ≤ decimal_value l) (take-append-drop i bs) (decimal_value-append (take i bs) (drop i bs))
