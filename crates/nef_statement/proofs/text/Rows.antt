-- Lists and tables with the same elements are one.
use Rattle.nef_statement.proofs.text.Prelude.{◌≡◌, ℕ, suc, List, [], ◌∷◌, length, arith, refl, sym, ◌∙◌, ap, subst, IsAt, IsInTable, is-at_within, is-at_some, is-at_one, Vertex, Complex, HasRows}

pub list-one : {X : Type 0} (xs ys : List X) → length xs ≡ length ys → ((k : ℕ) (x y : X) → IsAt xs k x → IsAt ys k y → x ≡ y) → xs ≡ ys
list-one [] [] e same = refl
list-one [] (y ∷ ys) e same = absurd (omega arith)
list-one (x ∷ xs) [] e same = absurd (omega arith)
list-one {X} (x ∷ xs) (y ∷ ys) e same =
    ap (λ (z : X). z ∷ xs) (same 0 x y refl refl) ∙ ap (λ (zs : List X). y ∷ zs) (list-one xs ys (omega arith) (λ k a b f g. same (suc k) a b f g))

-- tables with one shape and one number at each place are one
pub rows-one : (C : Complex) (count : Vertex → ℕ) (ps qs : List (List ℕ)) → HasRows C count ps → HasRows C count qs
    → ((i k m n : ℕ) → IsInTable ps i k m → IsInTable qs i k n → m ≡ n) → ps ≡ qs
rows-one C count ps qs P Q same = list-one ps qs (P.as_many ∙ sym Q.as_many) row
  where
    row : (i : ℕ) (p q : List ℕ) → IsAt ps i p → IsAt qs i q → p ≡ q
    row i p q a b =
        let h = is-at_within ps i p a in
        let e = P.as_many in
        let v = is-at_some C.vertices i (omega arith) in
        let w = (v.1) in
        list-one p q (P.row i (v.0) p w a ∙ sym (Q.row i (v.0) q w b)) (λ k m n f g. same i k m n (p, a, f) (q, b, g))

-- and what has a number in one has a number in the other
pub rows-both : (C : Complex) (count : Vertex → ℕ) (ps qs : List (List ℕ)) → HasRows C count ps → HasRows C count qs → (i k m : ℕ) → IsInTable ps i k m → (n : ℕ) × IsInTable qs i k n
rows-both C count ps qs P Q i k m (p, a, f) =
    let h = is-at_within ps i p a in
    let e = P.as_many in
    let g = Q.as_many in
    let v = is-at_some C.vertices i (omega arith) in
    let w = (v.1) in
    let q = is-at_some qs i (omega arith) in
    let s = P.row i (v.0) p w a in
    let t = Q.row i (v.0) (q.0) w (q.1) in
    let j = is-at_within p k m f in
    let n = is-at_some (q.0) k (omega arith) in
    (n.0, (q.0, q.1, n.1))

pub table-one : (rows : List (List ℕ)) (i k m n : ℕ) → IsInTable rows i k m → IsInTable rows i k n → m ≡ n
table-one rows i k m n (p, a, f) (q, b, g) = is-at_one p k m n f (subst (λ (r : List ℕ). IsAt r k n) (is-at_one rows i q p b a) g)
