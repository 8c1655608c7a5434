-- Where the words of a line end, and the line.
use Rattle.nef_statement.proofs.text.Prelude.{◌≡◌, ℕ, ◌<◌, ◌≤◌, arith, refl, ap, sym, ◌∙◌, List, [], ◌∷◌, ◌++◌, append_assoc, subst, Word, line}

-- each element has P
abbrev pub Each : {A : Type 0} → (A → Type 0) → List A → Type 0
Each P [] = Unit {0}
Each P (x ∷ xs) = P x × Each P xs

pub Each-append : {A : Type 0} (P : A → Type 0) (xs ys : List A) → Each P xs → Each P ys → Each P (xs ++ ys)
Each-append P [] ys h k = k
Each-append P (x ∷ xs) ys h k = (h.0, Each-append P xs ys h.1 k)

-- a word has neither a blank nor LF
abbrev pub IsPlainWord : Word → Type 0
IsPlainWord = Each (λ (b : ℕ). 32 < b)

abbrev pub ArePlain : List Word → Type 0
ArePlain = Each IsPlainWord

-- ---- lists with equal ends
pub same-head : {A : Type 0} (a b : A) (x y : List A) → a ∷ x ≡ b ∷ y → a ≡ b
same-head a b x y e = cc

pub same-tail : {A : Type 0} (a b : A) (x y : List A) → a ∷ x ≡ b ∷ y → x ≡ y
same-tail a b x y e = cc

pub same-both : {A : Type 0} (a b : A) (x y : List A) → a ≡ b → x ≡ y → a ∷ x ≡ b ∷ y
same-both {A} a b x y e f = ap (λ (r : A). r ∷ x) e ∙ ap (λ (r : List A). b ∷ r) f

-- ---- words
-- a plain word ends at the first blank or LF
pub word-ends : (u v : Word) (s t : ℕ) (x y : List ℕ) → IsPlainWord u → IsPlainWord v → s ≤ 32 → t ≤ 32 → u ++ (s ∷ x) ≡ v ++ (t ∷ y) → (u ≡ v) × (s ≡ t) × (x ≡ y)
word-ends [] [] s t x y P Q i j e = (refl, same-head s t x y e, same-tail s t x y e)
word-ends [] (c ∷ v) s t x y P Q i j e = let h = same-head s c x (v ++ (t ∷ y)) e in let k = Q.0 in absurd (omega arith)
word-ends (b ∷ u) [] s t x y P Q i j e = let h = same-head b t (u ++ (s ∷ x)) y e in let k = P.0 in absurd (omega arith)
word-ends (b ∷ u) (c ∷ v) s t x y P Q i j e =
    let h = same-head b c (u ++ (s ∷ x)) (v ++ (t ∷ y)) e in
    let r = word-ends u v s t x y P.1 Q.1 i j (same-tail b c (u ++ (s ∷ x)) (v ++ (t ∷ y)) e) in
    (same-both b c u v h r.0, r.1, r.2)

-- ---- lines
-- the line begins with its first word
last-word : (w : Word) (x : List ℕ) → line (w ∷ []) ++ x ≡ w ++ (10 ∷ x)
last-word w x = append_assoc w (10 ∷ []) x

first-word : (w u : Word) (ws : List Word) (x : List ℕ) → line (w ∷ u ∷ ws) ++ x ≡ w ++ (32 ∷ (line (u ∷ ws) ++ x))
first-word w u ws x = ap (λ (r : List ℕ). r ++ x) (append_assoc w _ (10 ∷ [])) ∙ append_assoc w (32 ∷ line (u ∷ ws)) x

-- lines of plain words that begin two equal lists of bytes are equal, and so is what follows them
pub line-ends : (w : Word) (ws : List Word) (v : Word) (vs : List Word) (x y : List ℕ) → ArePlain (w ∷ ws) → ArePlain (v ∷ vs)
    → line (w ∷ ws) ++ x ≡ line (v ∷ vs) ++ y → (w ∷ ws ≡ v ∷ vs) × (x ≡ y)
line-ends w [] v [] x y P Q e =
    let r = word-ends w v 10 10 x y P.0 Q.0 (omega arith) (omega arith) (sym (last-word w x) ∙ e ∙ last-word v y) in
    (same-both w v [] [] r.0 refl, r.2)
line-ends w [] v (u ∷ vs) x y P Q e =
    let r = word-ends w v 10 32 x _ P.0 Q.0 (omega arith) (omega arith) (sym (last-word w x) ∙ e ∙ first-word v u vs y) in
    let h = r.1 in
    absurd (omega arith)
line-ends w (u ∷ ws) v [] x y P Q e =
    let r = word-ends w v 32 10 _ y P.0 Q.0 (omega arith) (omega arith) (sym (first-word w u ws x) ∙ e ∙ last-word v y) in
    let h = r.1 in
    absurd (omega arith)
line-ends w (u ∷ ws) v (t ∷ vs) x y P Q e =
    let r = word-ends w v 32 32 _ _ P.0 Q.0 (omega arith) (omega arith) (sym (first-word w u ws x) ∙ e ∙ first-word v t vs y) in
    let s = line-ends u ws t vs x y P.1 Q.1 r.2 in
    (same-both w v (u ∷ ws) (t ∷ vs) r.0 s.0, s.1)

-- ---- first letters
-- the bytes begin with this letter
abbrev pub Starts : ℕ → List ℕ → Type 0
Starts c u = (w : List ℕ) × (u ≡ c ∷ w)

-- or don't
abbrev pub Lacks : ℕ → List ℕ → Type 0
Lacks c [] = Unit {0}
Lacks c (b ∷ x) = b ≡ c → ⊥

pub line-starts : (c : ℕ) (w : Word) (ws : List Word) → Starts c (line ((c ∷ w) ∷ ws))
line-starts c w [] = (w ++ 10 ∷ [], refl)
line-starts c w (u ∷ ws) = (line (w ∷ u ∷ ws), refl)

pub starts-onto : (c : ℕ) (u x : List ℕ) → Starts c u → Starts c (u ++ x)
starts-onto c u x s = (s.0 ++ x, ap (λ (r : List ℕ). r ++ x) s.1)

pub starts-lacks : (c d : ℕ) (u : List ℕ) (x : List ℕ) → Starts c u → (c ≡ d → ⊥) → Lacks d (u ++ x)
starts-lacks c d u x s n = subst (λ (r : List ℕ). Lacks d (r ++ x)) (sym s.1) n

pub starts-never : (c : ℕ) (u x y : List ℕ) → Starts c u → Lacks c y → y ≡ u ++ x → ⊥
starts-never c u x y s n e = subst (Lacks c) (e ∙ ap (λ (r : List ℕ). r ++ x) s.1) n refl
