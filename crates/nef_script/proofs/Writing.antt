-- The lines of a script written one after the other.
use Rattle.nef_script.proofs.Prelude.{◌≡◌, ℕ, zero, suc, ◌+◌, ◌-◌, List, [], ◌∷◌, ◌++◌, codes, refl, sym, ◌∙◌, ap, arith, append-nil, append_assoc, ne_eqb, flat_map, range_with_len, script_of, box_lines, step_lines, stairs_text, box_name, whole_name, filled, or_line, count_command, join_lines}
use Rattle.std.specs.Prelude.{if◌then◌else◌}

-- ---- bytes after bytes

piece-next : (o t s x y : List ℕ) → t ≡ o ++ x → s ≡ t ++ y → s ≡ o ++ (x ++ y)
piece-next o t s x y e f = f ∙ ap (λ r. r ++ y) e ∙ append_assoc o x y

pub script_of-append : (xs ys : List (List ℕ)) → script_of (xs ++ ys) ≡ script_of xs ++ script_of ys
script_of-append [] ys = refl
script_of-append (x ∷ xs) ys = ap (λ l. x ++ (10 ∷ l)) (script_of-append xs ys) ∙ sym (append_assoc x (10 ∷ script_of xs) (script_of ys))

pub lines-next : (o t s : List ℕ) (xs ys : List (List ℕ)) → t ≡ o ++ script_of xs → s ≡ t ++ script_of ys → s ≡ o ++ script_of (xs ++ ys)
lines-next o t s xs ys e f = piece-next o t s (script_of xs) (script_of ys) e f ∙ ap (λ r. o ++ r) (sym (script_of-append xs ys))

-- one line more
line-next : (o t s : List ℕ) (xs : List (List ℕ)) (line : List ℕ) → t ≡ o ++ script_of xs → s ≡ t ++ (line ++ 10 ∷ []) → s ≡ o ++ script_of (xs ++ line ∷ [])
line-next o t s xs line e f = lines-next o t s xs (line ∷ []) e f

-- ---- templates

abbrev pub box_template : List ℕ
box_template = codes "half @a -1 0 0 < closed\nhalf @b 1 0 0 -> closed\nhalf @c 0 -1 0 < closed\nhalf @d 0 1 0 -> closed\nhalf @e 0 0 -1 < closed\nhalf @f 0 0 1 -> closed\nand @g @a @b\nand @h @g @c\nand @i @h @d\nand @j @i @e\nand @ @j @f\n"

half-filled : (name x offset r s : List ℕ) → r ≡ s → (codes "half " ++ name ++ x ++ offset ++ codes " closed") ++ (10 ∷ r) ≡ codes "half " ++ (name ++ (x ++ (offset ++ (codes " closed" ++ (10 ∷ s)))))
half-filled name x offset r s e =
    ap (λ l. codes "half " ++ l) (append_assoc (name ++ x ++ offset) (codes " closed") (10 ∷ r) ∙ append_assoc (name ++ x) offset (codes " closed" ++ (10 ∷ r)) ∙ append_assoc name x (offset ++ (codes " closed" ++ (10 ∷ r))))
    ∙ ap (λ l. codes "half " ++ (name ++ (x ++ (offset ++ (codes " closed" ++ (10 ∷ l)))))) e

and-filled : (name x y z r s : List ℕ) → r ≡ s → (codes "and " ++ name ++ x ++ name ++ y ++ name ++ z) ++ (10 ∷ r) ≡ codes "and " ++ (name ++ (x ++ (name ++ (y ++ (name ++ (z ++ (10 ∷ s)))))))
and-filled name x y z r s e =
    ap (λ l. codes "and " ++ l) (append_assoc (name ++ x ++ name ++ y ++ name) z (10 ∷ r) ∙ append_assoc (name ++ x ++ name ++ y) name (z ++ (10 ∷ r)) ∙ append_assoc (name ++ x ++ name) y (name ++ (z ++ (10 ∷ r)))
    ∙ append_assoc (name ++ x) name (y ++ (name ++ (z ++ (10 ∷ r)))) ∙ append_assoc name x (name ++ (y ++ (name ++ (z ++ (10 ∷ r))))))
    ∙ ap (λ l. codes "and " ++ (name ++ (x ++ (name ++ (y ++ (name ++ (z ++ (10 ∷ l)))))))) e

pub box-filled : (name low high : List ℕ) → script_of (box_lines name low high) ≡ filled name low high box_template
box-filled name low high =
    half-filled name (codes "a -1 0 0 ") low _ _ (half-filled name (codes "b 1 0 0 -") high _ _ (half-filled name (codes "c 0 -1 0 ") low _ _
    (half-filled name (codes "d 0 1 0 -") high _ _ (half-filled name (codes "e 0 0 -1 ") low _ _ (half-filled name (codes "f 0 0 1 -") high _ _
    (and-filled name (codes "g ") (codes "a ") (codes "b") _ _ (and-filled name (codes "h ") (codes "g ") (codes "c") _ _ (and-filled name (codes "i ") (codes "h ") (codes "d") _ _
    (and-filled name (codes "j ") (codes "i ") (codes "e") _ _ (and-filled name (codes " ") (codes "j ") (codes "f") [] [] refl))))))))))

-- the line that joins a box to those before it
pub join-filled : (i : ℕ) → (i ≡ 0 → ⊥) → (name whole before : List ℕ) → name ≡ box_name i → whole ≡ whole_name i → before ≡ whole_name (i - 1) → filled name whole before (codes "or < > @\n") ≡ script_of (join_lines i)
join-filled i some name whole before is_name is_whole is_before =
    written name whole before
    ∙ ap (λ w. script_of (or_line whole before w ∷ [])) is_name
    ∙ ap (λ w. script_of (or_line w before (box_name i) ∷ [])) is_whole
    ∙ ap (λ w. script_of (or_line (whole_name i) w (box_name i) ∷ [])) is_before
    ∙ ap (λ none. script_of (if none then [] else or_line (whole_name i) (whole_name (i - 1)) (box_name i) ∷ [])) (sym (ne_eqb i 0 some))
  where
    written : (name whole before : List ℕ) → filled name whole before (codes "or < > @\n") ≡ script_of (or_line whole before name ∷ [])
    written name whole before = simp append_assoc refl

-- ---- boxes after boxes

pub boxes-more : (a n : ℕ) → flat_map step_lines (range_with_len a (suc n)) ≡ flat_map step_lines (range_with_len a n) ++ step_lines (a + n)
boxes-more a zero =
    let here : a ≡ a + 0 = omega arith in
    append-nil (step_lines a) ∙ ap step_lines here
boxes-more a (suc n) =
    let same : (a + 1) + n ≡ a + suc n = omega arith in
    ap (λ l. step_lines a ++ l) (boxes-more (a + 1) n)
    ∙ ap (λ m. step_lines a ++ (flat_map step_lines (range_with_len (a + 1) n) ++ step_lines m)) same
    ∙ sym (append_assoc (step_lines a) (flat_map step_lines (range_with_len (a + 1) n)) (step_lines (a + suc n)))

pub box-next : (o t s : List ℕ) (i : ℕ) → t ≡ o ++ script_of (flat_map step_lines (range_with_len 0 i)) → s ≡ t ++ script_of (step_lines i) → s ≡ o ++ script_of (flat_map step_lines (range_with_len 0 (i + 1)))
box-next o t s i e f =
    let here : i ≡ 0 + i = omega arith in
    let more : suc i ≡ i + 1 = omega arith in
    let all = lines-next o t s (flat_map step_lines (range_with_len 0 i)) (step_lines i) e f in
    all ∙ ap (λ m. o ++ script_of (flat_map step_lines (range_with_len 0 i) ++ step_lines m)) here
    ∙ ap (λ l. o ++ script_of l) (sym (boxes-more 0 i))
    ∙ ap (λ m. o ++ script_of (flat_map step_lines (range_with_len 0 m))) more

-- all boxes, and the count
pub stairs-written : (t s : List ℕ) (i n : ℕ) → i ≡ n → t ≡ script_of (flat_map step_lines (range_with_len 0 i)) → s ≡ t ++ (count_command (whole_name (n - 1)) ++ 10 ∷ []) → s ≡ stairs_text n
stairs-written t s i n all e f =
    line-next [] t s (flat_map step_lines (range_with_len 0 n)) (count_command (whole_name (n - 1))) (e ∙ ap (λ m. script_of (flat_map step_lines (range_with_len 0 m))) all) f
