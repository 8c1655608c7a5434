-- Rows cut from a list, one after the other.
use Rattle.nef_classes.proofs.Prelude.{◌≡◌, ℕ, zero, suc, ◌+◌, ◌<◌, ◌≤◌, List, [], ◌∷◌, ◌++◌, length, take, drop, get_or, arith, ap, sym, ◌∙◌, subst, Some, Option, length-append, length-drop, take_at, take-append-le, take_all, get_or-take, IsAt, cell_total, HasCounts, AreStarts, AreCut}
use Rattle.std.proofs.Common.{length-take}
use Rattle.nef_classes.proofs.ClassLists.{Either, earlier, last, is-at_take, is-at_pushed}
use Rattle.nef_space.proofs.Lists.{is-at_within, is-at_get, is-at_is}

pub total-append : (xs : List ℕ) (y : ℕ) → cell_total (xs ++ y ∷ []) ≡ cell_total xs + y
total-append [] y = omega arith
total-append (x ∷ xs) y = let e = total-append xs y in omega arith

-- one more row begins where the last ends
pub more-starts : (cs ss : List ℕ) (c : ℕ) → AreStarts cs ss → AreStarts (cs ++ c ∷ []) (ss ++ (cell_total cs + c) ∷ [])
more-starts cs ss c S = record {
  as_many = let e = S.as_many in let f = length-append ss ((cell_total cs + c) ∷ []) in let g = length-append cs (c ∷ []) in omega arith;
  each = λ k s a. by k s (is-at_pushed ss k s (cell_total cs + c) a);
}
  where
    by : (k s : ℕ) → Either ss k s (cell_total cs + c) → s ≡ cell_total (take k (cs ++ c ∷ []))
    by k s (earlier b) = let h = is-at_within ss k s b in let e = S.as_many in S.each k s b ∙ ap cell_total (sym (take-append-le k cs (c ∷ []) (omega arith)))
    by k s (last e f) = f ∙ sym (total-append cs c) ∙ ap cell_total (sym (take_all k (cs ++ c ∷ []) (let g = length-append cs (c ∷ []) in let h = S.as_many in omega arith)))

-- the last row ends where the table does
pub starts-end : (cs ss : List ℕ) (d : ℕ) → AreStarts cs ss → get_or ss (length cs) d ≡ cell_total cs
starts-end cs ss d S = let e = S.as_many in S.each (length cs) (get_or ss (length cs) d) (is-at_get ss (length cs) d (omega arith)) ∙ ap cell_total (take_all (length cs) cs (omega arith))

at-drop : {X : Type 0} (xs : List X) (i k : ℕ) (x : X) → IsAt (drop i xs) k x → IsAt xs (i + k) x
at-drop {X} xs zero k x a = subst (λ (n : ℕ). IsAt {X = X} xs n x) {x = k} {y = zero + k} (omega arith) a
at-drop [] (suc i) k x a = cc
at-drop {X} (y ∷ xs) (suc i) k x a = subst (λ (n : ℕ). IsAt {X = X} (y ∷ xs) n x) {x = suc (i + k)} {y = suc i + k} (omega arith) (at-drop xs i k x a)

pub take-at : {X : Type 0} (n : ℕ) (xs : List X) (k : ℕ) (x : X) → k < n → IsAt xs k x → IsAt (take n xs) k x
take-at n xs k x h a =
    let w = is-at_within xs k x a in
    let l = length-take n xs in
    subst (IsAt (take n xs) k) (get_or-take n xs k x h ∙ is-at_is xs k x x a) (is-at_get (take n xs) k x (omega (arith, l)))

-- one more row, cut where the last ends
pub more-cut : (cs ns : List ℕ) (rows : List (List ℕ)) (c : ℕ) → HasCounts cs rows → AreCut cs ns rows → AreCut (cs ++ c ∷ []) ns (rows ++ take c (drop (cell_total cs) ns) ∷ [])
more-cut cs ns rows c H C i k n (row, a, b) = by (is-at_pushed rows i row (take c (drop (cell_total cs) ns)) a)
  where
    by : Either rows i row (take c (drop (cell_total cs) ns)) → IsAt ns (cell_total (take i (cs ++ c ∷ [])) + k) n
    by (earlier d) =
        let h = is-at_within rows i row d in let e = H.as_many in
        subst (λ (xs : List ℕ). IsAt ns (cell_total xs + k) n) (sym (take-append-le i cs (c ∷ []) (omega arith))) (C i k n (row, d, b))
    by (last e f) =
        subst (λ (xs : List ℕ). IsAt ns (cell_total xs + k) n) (sym (take_at cs (c ∷ []) i (sym (e ∙ H.as_many))))
        (at-drop ns (cell_total cs) k n (is-at_take c (drop (cell_total cs) ns) k n (subst (λ (r : List ℕ). IsAt r k n) f b)))

pub more-counts : (cs ns : List ℕ) (rows : List (List ℕ)) (c : ℕ) → (cell_total cs + c) ≤ length ns → HasCounts cs rows → HasCounts (cs ++ c ∷ []) (rows ++ take c (drop (cell_total cs) ns) ∷ [])
more-counts cs ns rows c l H = record {
  as_many = let e = H.as_many in let f = length-append rows (take c (drop (cell_total cs) ns) ∷ []) in let g = length-append cs (c ∷ []) in omega arith;
  row = λ i n r a b. by i n r (is-at_pushed cs i n c a) (is-at_pushed rows i r (take c (drop (cell_total cs) ns)) b);
}
  where
    cut : length (take c (drop (cell_total cs) ns)) ≡ c
    cut = let e = length-drop (cell_total cs) ns in length-take c (drop (cell_total cs) ns) ∙ omega arith

    by : (i n : ℕ) (r : List ℕ) → Either cs i n c → Either rows i r (take c (drop (cell_total cs) ns)) → length r ≡ n
    by i n r (earlier a) (earlier b) = H.row i n r a b
    by i n r (earlier a) (last e f) = let h = is-at_within cs i n a in let g = H.as_many in absurd (omega arith)
    by i n r (last e f) (earlier b) = let h = is-at_within rows i r b in let g = H.as_many in absurd (omega arith)
    by i n r (last e f) (last g h) = ap length h ∙ cut ∙ sym f

-- the first rows have no more elements than all
pub total-take : (cs : List ℕ) (k c : ℕ) → IsAt cs k c → (cell_total (take k cs) + c) ≤ cell_total cs
total-take [] k c a = cc
total-take (d ∷ cs) zero c a = let e : ◌≡◌ {A = Option ℕ} (Some d) (Some c) = a in let f : d ≡ c = cc in omega arith
total-take (d ∷ cs) (suc k) c a = let h = total-take cs k c a in omega arith
