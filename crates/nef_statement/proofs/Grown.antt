-- What is told grows by a front of bytes.
use Rattle.nef_statement.proofs.Prelude.{◌≡◌, ℕ, sym, ap, ◌∙◌, subst, List, ◌++◌, length, take, Option, Some, None, append-nil, append_assoc, drop, take-append-drop, take-length, take-append_seam, Grows, GrowsWithin}

-- the whole is a front
pub grows_within-all : (a b : Option (List ℕ)) (xs : List ℕ) → Grows a b xs → GrowsWithin a b xs
grows_within-all a b xs h = (length xs, subst (λ z. Grows a b z) (sym (take-length xs)) h)

-- nothing is a front of all bytes
pub grows_within-none : (a : Option (List ℕ)) (xs : List ℕ) → GrowsWithin a a xs
grows_within-none None xs = (0, tt)
grows_within-none (Some bs) xs = (0, sym (append-nil bs))

-- a front is one of more bytes
pub grows_within-longer : (a b : Option (List ℕ)) (xs ys : List ℕ) → GrowsWithin a b xs → GrowsWithin a b (xs ++ ys)
grows_within-longer a b xs ys (n, h) =
    let front = take n xs in
    let same : take (length front) (xs ++ ys) ≡ front =
    ap (λ z. take (length front) (z ++ ys)) (sym (take-append-drop n xs)) ∙ ap (λ z. take (length front) z) (append_assoc front (drop n xs) ys) ∙ take-append_seam front (drop n xs ++ ys) in
    (length front, subst (λ z. Grows a b z) (sym same) h)
