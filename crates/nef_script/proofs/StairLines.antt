-- The script of boxes that stand as stairs has no refusal.
use Rattle.nef_script.proofs.Prelude.{◌≡◌, ℕ, zero, suc, ◌+◌, ◌-◌, ◌*◌, ◌<◌, ◌≤◌, Bool, true, false, ◌&&◌, nat_eq, List, [], ◌∷◌, ◌++◌, length, if◌then◌else◌, refl, sym, subst, arith, append-nil, append_assoc, length-append, flat_map, range_with_len, most_stairs, names_of, IsAccepted, box_name, whole_name, step_lines, stairs_text, or_line, count_command, step_box, join_lines}
use Rattle.std.specs.Fmt.{digits}
use Rattle.nef_script.proofs.Accepted.{passes_after, and_parts, passes_after-append, accepted_lines}

-- the lines of the k boxes from i on pass, one box after the other, and after each box the count of all so far would
abbrev stairs_pass : ℕ → ℕ → List (List ℕ) → Bool
stairs_pass zero i names = true
stairs_pass (suc k) i names =
    let lines = step_lines i in
    let bound = names ++ names_of lines in
    (passes_after names lines && passes_after bound (count_command (whole_name i) ∷ [])) && stairs_pass k (i + 1) bound

all_pass : stairs_pass 32 0 [] ≡ true
unfolding digits
all_pass = refl

-- so the lines of the first boxes, with a count after the last of them, pass
counted_pass : (k i j : ℕ) (names : List (List ℕ)) → stairs_pass k i names ≡ true → j < k → passes_after names (flat_map step_lines (range_with_len i (suc j)) ++ count_command (whole_name (i + j)) ∷ []) ≡ true
counted_pass zero i j names pass below = absurd (omega arith)
counted_pass (suc k) i zero names pass below =
    let parts = and_parts _ (stairs_pass k (i + 1) (names ++ names_of (step_lines i))) pass in
    let here = and_parts (passes_after names (step_lines i)) _ parts.0 in
    let joined = passes_after-append names (step_lines i) (count_command (whole_name i) ∷ []) here.0 here.1 in
    let first : i ≡ i + 0 = omega arith in
    let alone : step_lines i ≡ step_lines i ++ [] = sym (append-nil (step_lines i)) in
    subst (λ l. passes_after names (l ++ count_command (whole_name (i + 0)) ∷ []) ≡ true) alone
    (subst (λ m. passes_after names (step_lines i ++ count_command (whole_name m) ∷ []) ≡ true) first joined)
counted_pass (suc k) i (suc j) names pass below =
    let parts = and_parts _ (stairs_pass k (i + 1) (names ++ names_of (step_lines i))) pass in
    let here = and_parts (passes_after names (step_lines i)) _ parts.0 in
    let rest = flat_map step_lines (range_with_len (i + 1) (suc j)) in
    let same : (i + 1) + j ≡ i + suc j = omega arith in
    let later = subst (λ m. passes_after (names ++ names_of (step_lines i)) (rest ++ count_command (whole_name m) ∷ []) ≡ true) same
    (counted_pass k (i + 1) j (names ++ names_of (step_lines i)) parts.1 (omega arith)) in
    let last = count_command (whole_name (i + suc j)) ∷ [] in
    subst (λ l. passes_after names l ≡ true) (sym (append_assoc (step_lines i) rest last))
    (passes_after-append names (step_lines i) (rest ++ last) here.0 later)

-- a box with the line after it has at most twelve lines
join_few : (i : ℕ) → length (join_lines i) ≤ 1
join_few i = few (nat_eq i 0)
  where
    few : (t : Bool) → length (if t then [] else or_line (whole_name i) (whole_name (i - 1)) (box_name i) ∷ []) ≤ 1
    few true = omega arith
    few false = omega arith

step_few : (i : ℕ) → length (step_lines i) ≤ 12
step_few i =
    let few = join_few i in
    let both = length-append (step_box i) (join_lines i) in
    omega arith

boxes_few : (i n : ℕ) → length (flat_map step_lines (range_with_len i n)) ≤ 12 * n
boxes_few i zero = omega arith
boxes_few i (suc n) =
    let here = step_few i in
    let later = boxes_few (i + 1) n in
    let both = length-append (step_lines i) (flat_map step_lines (range_with_len (i + 1) n)) in
    omega arith

pub stairs-accepted : (n : ℕ) → 1 ≤ n → n ≤ most_stairs → IsAccepted (stairs_text n)
stairs-accepted zero some most = absurd (omega arith)
stairs-accepted (suc j) some most =
    let last : 0 + j ≡ suc j - 1 = omega arith in
    let counted = counted_pass 32 0 j [] all_pass (omega arith) in
    let pass = subst (λ m. passes_after [] (flat_map step_lines (range_with_len 0 (suc j)) ++ count_command (whole_name m) ∷ []) ≡ true) last counted in
    let few = boxes_few 0 (suc j) in
    let longer = length-append (flat_map step_lines (range_with_len 0 (suc j))) (count_command (whole_name (suc j - 1)) ∷ []) in
    accepted_lines (flat_map step_lines (range_with_len 0 (suc j)) ++ count_command (whole_name (suc j - 1)) ∷ []) pass (omega arith)
