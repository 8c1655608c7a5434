-- Points with the outcomes there, pair after pair.
use Rattle.nef_result.proofs.Prelude.{◌≡◌, ℕ, zero, suc, ◌<◌, List, [], ◌∷◌, ◌++◌, length, map, get_or, arith, refl, sym, ap, subst, ◌∙◌, Bor, zip, map-append, length-map, Point, IsAt, Vertex, Outcome, MapSource, ArePointsInOrder, IsAdded, AreBegun, Some}
use Rattle.std.proofs.lemmas.Slice.Zip.{seconds-zip}
use Rattle.nef_result.proofs.Vertices.{begun-added}

-- a pair that the loop yields
abbrev pub Pair : Type 0
Pair = Bor Point × Outcome

abbrev pub shown : Pair → Point × Outcome
shown p = (p.0.now, p.1)

abbrev pub outcomes_of : List Pair → List Outcome
outcomes_of xs = map (λ (p : Pair). p.1) xs

at-zip : (ps : List Point) (cs : List Outcome) (n : ℕ) (q : Point × Outcome) → n < length (zip ps cs) → q ≡ get_or (zip ps cs) n q → IsAt ps n q.0
at-zip [] cs n q l e = absurd (omega (arith, l))
at-zip (p ∷ ps) [] n q l e = absurd (omega (arith, l))
at-zip (p ∷ ps) (c ∷ cs) zero q l e = ap (λ (r : Point × Outcome). Some r.0) (sym e)
at-zip (p ∷ ps) (c ∷ cs) (suc n) q l e = at-zip ps cs n q (omega (arith, l)) e

-- a pair that is yielded is one of no more than there are points
pub zip-within : (ps : List Point) (cs : List Outcome) (n : ℕ) → n < length (zip ps cs) → n < length ps
zip-within [] cs n l = absurd (omega (arith, l))
zip-within (p ∷ ps) [] n l = absurd (omega (arith, l))
zip-within (p ∷ ps) (c ∷ cs) zero l = omega arith
zip-within (p ∷ ps) (c ∷ cs) (suc n) l = let k = zip-within ps cs n (omega (arith, l)) in omega (arith, k)

seconds : (xs : List Pair) → map (λ (q : Point × Outcome). q.1) (map shown xs) ≡ outcomes_of xs
seconds [] = refl
seconds (x ∷ xs) = ap (λ (os : List Outcome). x.1 ∷ os) (seconds xs)

-- at the end all outcomes were yielded
pub all-yielded : (ps : List Point) (os : List Outcome) (xs : List Pair) (vs : List Vertex) (fs : List MapSource) → length os ≡ length ps → map shown xs ≡ zip ps os → AreBegun ps (outcomes_of xs) vs fs → AreBegun ps os vs fs
all-yielded ps os xs vs fs alike e B =
    subst (λ (ls : List Outcome). AreBegun ps ls vs fs) (sym (seconds xs) ∙ ap (map (λ (q : Point × Outcome). q.1)) e ∙ seconds-zip ps os alike) B

pub pair-added : (ps : List Point) (cs : List Outcome) (xs : List Pair) (x : Pair) → length xs < length (zip ps cs) → shown x ≡ get_or (zip ps cs) (length xs) (shown x) → ArePointsInOrder ps
    → (vs ws : List Vertex) (fs gs : List MapSource) → AreBegun ps (outcomes_of xs) vs fs → IsAdded x.0.now x.1 vs fs ws gs → AreBegun ps (outcomes_of (xs ++ x ∷ [])) ws gs
pair-added ps cs xs x within is r vs ws fs gs B added =
    subst (λ (ls : List Outcome). AreBegun ps ls ws gs) (sym (map-append (λ (p : Pair). p.1) xs (x ∷ [])))
    (begun-added ps (outcomes_of xs) vs fs B x.1 r x.0.now (subst (λ (n : ℕ). IsAt ps n x.0.now) (sym (length-map xs (λ (p : Pair). p.1))) (at-zip ps cs (length xs) (shown x) within is)) ws gs added)
