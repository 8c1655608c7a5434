-- The sets of the nodes of a list: a node added later doesn't change them, and each is made by its node of the others.
use Rattle.nef_expr.proofs.Prelude.{◌≡◌, ℕ, zero, suc, ◌+◌, ◌<◌, arith, refl, ap, sym, ◌∙◌, List, [], ◌∷◌, ◌++◌, length, Some, length-append, slice_get, get_or-append, get_or-append_seam, slice_get_within, Set, Node, Shape, shape_of, operand, made_of, set_of, sets_after, UsesBelow, NamesBelow}
use Rattle.nef_expr.specs.Laws.{EarlierSetsStay, NewSetIsOfItsNode, EachSetIsOfItsNode}

pub sets_after-length : (ss : List Set) (ns : List Node) → length (sets_after ss ns) ≡ length ss + length ns
sets_after-length ss [] = omega arith
sets_after-length ss (n ∷ ns) = let h = sets_after-length (ss ++ set_of ss n ∷ []) ns in omega (arith, length-append {A = Set})

sets_after-append : (ss : List Set) (ns ms : List Node) → sets_after ss (ns ++ ms) ≡ sets_after (sets_after ss ns) ms
sets_after-append ss [] ms = refl
sets_after-append ss (n ∷ ns) ms = sets_after-append (ss ++ set_of ss n ∷ []) ns ms

pub operand-append : (ss ts : List Set) (k : ℕ) → k < length ss → operand (ss ++ ts) k ≡ operand ss k
operand-append ss ts k h = get_or-append ss ts Set.empty k h

-- the first sets stay
operand-sets_after : (ss : List Set) (ns : List Node) (k : ℕ) → k < length ss → operand (sets_after ss ns) k ≡ operand ss k
operand-sets_after ss [] k h = refl
operand-sets_after ss (n ∷ ns) k h =
    operand-sets_after (ss ++ set_of ss n ∷ []) ns k (omega (arith, length-append {A = Set})) ∙ operand-append ss (set_of ss n ∷ []) k h

pub earlier-sets_stay : EarlierSetsStay
earlier-sets_stay ns n k h =
    ap (λ ss. operand ss k) (sets_after-append [] ns (n ∷ [])) ∙ operand-append (sets_after [] ns) (set_of (sets_after [] ns) n ∷ []) k (let e = sets_after-length [] ns in omega arith)

pub operand-last : (ss : List Set) (s : Set) → operand (ss ++ s ∷ []) (length ss) ≡ s
operand-last ss s = get_or-append_seam ss s [] Set.empty

pub new-set : NewSetIsOfItsNode
new-set ns n =
    let e = sets_after-length [] ns in
    let f : length ns ≡ length (sets_after [] ns) = omega arith in
    ap (λ ss. operand ss (length ns)) (sets_after-append [] ns (n ∷ [])) ∙ ap (operand (sets_after [] ns ++ set_of (sets_after [] ns) n ∷ [])) f ∙ operand-last (sets_after [] ns) (set_of (sets_after [] ns) n)

-- a node makes the same set of operands that are the same
made_of-same : (k : ℕ) (ss ts : List Set) (s : Shape) → ((i : ℕ) → i < k → operand ss i ≡ operand ts i) → UsesBelow k s → made_of ss s ≡ made_of ts s
made_of-same k ss ts (Shape.leaf s) same b = refl
made_of-same k ss ts (Shape.unary make i) same b = ap make (same i b)
made_of-same k ss ts (Shape.binary make i j) same b = let e = same i b.0 in let f = same j b.1 in cc

pub set_of-same : (k : ℕ) (ss ts : List Set) (n : Node) → ((i : ℕ) → i < k → operand ss i ≡ operand ts i) → NamesBelow k n → set_of ss n ≡ set_of ts n
set_of-same k ss ts n same b = made_of-same k ss ts (shape_of n) same b

-- the set made at place k of the nodes, after the sets ss, is the one that its node makes of all
at-place : (ss : List Set) (ns : List Node) (k : ℕ) (n : Node) → slice_get ns k ≡ Some n → NamesBelow (length ss + k) n → operand (sets_after ss ns) (length ss + k) ≡ set_of (sets_after ss ns) n
at-place ss [] k n is b = absurd (omega (arith, slice_get_within [] k n is))
at-place ss (m ∷ ns) zero n is b =
    let same : m ≡ n = cc in
    let here : length ss + zero ≡ length ss = omega arith in
    let ts : List Set = ss ++ set_of ss m ∷ [] in
    let more : length ss < length ts = omega (arith, length-append {A = Set}) in
    ap (operand (sets_after ss (m ∷ ns))) here
    ∙ operand-sets_after ts ns (length ss) more
    ∙ operand-last ss (set_of ss m)
    ∙ ap (set_of ss) same
    ∙ set_of-same (length ss + zero) ss (sets_after ss (m ∷ ns)) n (λ i below. sym (operand-sets_after ts ns i (omega arith) ∙ operand-append ss (set_of ss m ∷ []) i (omega arith))) b
at-place ss (m ∷ ns) (suc k) n is b =
    let ts : List Set = ss ++ set_of ss m ∷ [] in
    let shift : length ss + suc k ≡ length ts + k = omega (arith, length-append {A = Set}) in
    ap (operand (sets_after ts ns)) shift ∙ at-place ts ns k n is (rw shift at b)

pub each-set : EachSetIsOfItsNode
each-set ns k n is below =
    let none : 0 + k ≡ k = omega arith in
    ap (operand (sets_after [] ns)) (sym none) ∙ at-place [] ns k n is (rw (← none) at below)
