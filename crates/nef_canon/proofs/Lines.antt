-- Lines written word by word.
use Rattle.nef_canon.proofs.Prelude.{◌≡◌, Result, Ok, Err, OnOk, is_ok, if◌then◌else◌, List, ℕ, zero, suc, ◌+◌, ◌<◌, ◌≤◌, [], ◌∷◌, ◌++◌, length, take, get_or, Option, Some, None, MatchOption, option_to_list, slice_get, arith, refl, ap, sym, ◌∙◌, subst, append_assoc, append-nil, take_more, take_all, get_or_from_slice_get, flat_map, join_with_byte, TextVersion, Word, line, with_rows, vertex_text, sface_line, vertices_text, volume_line, shell_line, volumes_text, blanked}
use Rattle.nef_core.specs.declared.work.TextVersion.TheVariants.{One, Two}
use Rattle.nef_complex.specs.declared.complex.Complex.{Complex}
use Rattle.nef_complex.specs.declared.parts.Parts.{Parts}
use Rattle.nef_complex.proofs.TextRows.{length-with_rows}

pub blanked-append : (us vs : List Word) → blanked (us ++ vs) ≡ blanked us ++ blanked vs
blanked-append [] vs = refl
blanked-append (u ∷ us) vs = ap (λ (r : List ℕ). 32 ∷ (u ++ r)) (blanked-append us vs) ∙ ap (λ (r : List ℕ). 32 ∷ r) (sym (append_assoc u (blanked us) (blanked vs)))

joined : (w : Word) (ws : List Word) → join_with_byte 32 (w ∷ ws) ≡ w ++ blanked ws
joined w [] = sym (append-nil w)
joined w (v ∷ ws) = ap (λ (r : List ℕ). w ++ 32 ∷ r) (joined v ws)

-- more words are added to a line begun at o with the word w
pub more-words : (o w t s : List ℕ) (us vs : List Word) → t ≡ o ++ (w ++ blanked us) → s ≡ t ++ blanked vs → s ≡ o ++ (w ++ blanked (us ++ vs))
more-words o w t s us vs e f =
    f ∙ ap (λ (r : List ℕ). r ++ blanked vs) e ∙ append_assoc o (w ++ blanked us) (blanked vs)
    ∙ ap (λ (r : List ℕ). o ++ r) (append_assoc w (blanked us) (blanked vs) ∙ ap (λ (r : List ℕ). w ++ r) (sym (blanked-append us vs)))

-- the line is ended
pub line-ended : (o w t s : List ℕ) (us : List Word) → t ≡ o ++ (w ++ blanked us) → s ≡ t ++ 10 ∷ [] → s ≡ o ++ line (w ∷ us)
line-ended o w t s us e f =
    f ∙ ap (λ (r : List ℕ). r ++ 10 ∷ []) e ∙ append_assoc o (w ++ blanked us) (10 ∷ [])
    ∙ ap (λ (r : List ℕ). o ++ (r ++ 10 ∷ [])) (sym (joined w us))

-- bytes that are added by the last call
pub appended : {T E : Type 0} (r : Result T E) (s a b : List ℕ) → s ≡ (if is_ok r then a else b) → OnOk r (s ≡ a)
appended (Ok x) s a b e = e
appended (Err x) s a b e = tt

-- a blank and a word
pub one-word : (s p t bytes : List ℕ) (w : Word) → p ≡ s ++ 32 ∷ [] → t ≡ p ++ bytes → bytes ≡ w → t ≡ s ++ blanked (w ∷ [])
one-word s p t bytes w e f g = f ∙ ap (λ (r : List ℕ). r ++ bytes) e ∙ append_assoc s (32 ∷ []) bytes ∙ ap (λ (r : List ℕ). s ++ 32 ∷ r) (g ∙ sym (append-nil w))

-- its first word is written
pub line-begun : (o w t : List ℕ) → t ≡ o ++ w → t ≡ o ++ (w ++ blanked [])
line-begun o w t e = e ∙ ap (λ (r : List ℕ). o ++ r) (sym (append-nil w))

pub flat_map-last : {X Y : Type 0} (f : X → List Y) (xs : List X) (x : X) → flat_map f (xs ++ x ∷ []) ≡ flat_map f xs ++ f x
flat_map-last f [] x = append-nil (f x)
flat_map-last f (y ∷ xs) x = ap (λ (r : List _). f y ++ r) (flat_map-last f xs x) ∙ sym (append_assoc (f y) (flat_map f xs) (f x))

-- the words of one element more
pub more-elements : {X : Type 0} (f : X → List Word) (xs ys : List X) → xs ≡ ys → (i : ℕ) (d : X) → i < length xs → (o w s t : List ℕ) → s ≡ o ++ (w ++ blanked (flat_map f (take i ys))) → t ≡ s ++ blanked (f (get_or xs i d))
    → t ≡ o ++ (w ++ blanked (flat_map f (take (i + 1) ys)))
more-elements {X} f xs ys same i d l o w s t e g =
    let m : i < length ys = subst (λ (zs : List X). i < length zs) same l in
    let own : t ≡ s ++ blanked (f (get_or ys i d)) = g ∙ ap (λ (zs : List X). s ++ blanked (f (get_or zs i d))) same in
    let more : flat_map f (take (i + 1) ys) ≡ flat_map f (take i ys) ++ f (get_or ys i d) = ap (flat_map f) (take_more ys i d m) ∙ flat_map-last f (take i ys) (get_or ys i d) in
    more-words o w s t (flat_map f (take i ys)) (f (get_or ys i d)) e own ∙ ap (λ (ws : List Word). o ++ (w ++ blanked ws)) (sym more)

pub all-elements : {X : Type 0} (f : X → List Word) (xs ys : List X) → xs ≡ ys → (i : ℕ) → length xs ≤ i → (o w t : List ℕ) → t ≡ o ++ (w ++ blanked (flat_map f (take i ys))) → t ≡ o ++ (w ++ blanked (flat_map f ys))
all-elements {X} f xs ys same i l o w t e =
    e ∙ ap (λ (zs : List X). o ++ (w ++ blanked (flat_map f zs))) (take_all i ys (subst (λ (zs : List X). length zs ≤ i) same l))

-- what an option is read as
pub as-list : {X : Type 0} (o : Option X) (xs : List X) → MatchOption o (xs ≡ []) (λ x. xs ≡ x ∷ []) → xs ≡ option_to_list o
as-list None xs h = h
as-list (Some x) xs h = h

-- four pieces one after the other, behind what there was
pub pieces-behind : (o s t u r a b c d : List ℕ) → s ≡ o ++ a → t ≡ s ++ b → u ≡ t ++ c → r ≡ u ++ d → r ≡ o ++ a ++ b ++ c ++ d
pieces-behind o s t u r a b c d e f g h = h ∙ ap (λ (x : List ℕ). x ++ d) (g ∙ ap (λ (x : List ℕ). x ++ c) (f ∙ ap (λ (x : List ℕ). x ++ b) e))

pub four-pieces : (o s t u r a b c d : List ℕ) → s ≡ o ++ a → t ≡ s ++ b → u ≡ t ++ c → r ≡ u ++ d → r ≡ o ++ (a ++ b ++ c ++ d)
four-pieces o s t u r a b c d e f g h =
    pieces-behind o s t u r a b c d e f g h ∙ ap (λ (x : List ℕ). x ++ d) (ap (λ (x : List ℕ). x ++ c) (append_assoc o a b) ∙ append_assoc o (a ++ b) c)
    ∙ append_assoc o (a ++ b ++ c) d

-- ---- elements with their rows

at-with_rows : {X Y : Type 0} (xs : List X) (rows : List (List Y)) (k : ℕ) (x : X) (row : List Y) → slice_get xs k ≡ Some x → slice_get rows k ≡ Some row → slice_get (with_rows xs rows) k ≡ Some (x, row)
at-with_rows [] rows k x row a b = cc
at-with_rows (y ∷ xs) [] k x row a b = cc
at-with_rows (y ∷ xs) (r ∷ rows) zero x row a b = cc
at-with_rows (y ∷ xs) (r ∷ rows) (suc k) x row a b = at-with_rows xs rows k x row a b

-- the text of an element with its row more
pub row-more : {X Y : Type 0} (f : X × List Y → List ℕ) (xs : List X) (rows : List (List Y)) (k : ℕ) (x : X) (row : List Y) → slice_get xs k ≡ Some x → slice_get rows k ≡ Some row → k < length xs
    → (o s t : List ℕ) → s ≡ o ++ flat_map f (take k (with_rows xs rows)) → t ≡ s ++ f (x, row) → t ≡ o ++ flat_map f (take (k + 1) (with_rows xs rows))
row-more {X} {Y} f xs rows k x row a b l o s t e g =
    let zs = with_rows xs rows in
    let z : X × List Y = (x, row) in
    let n = length-with_rows xs rows in
    let more : take (k + 1) zs ≡ take k zs ++ z ∷ [] = take_more zs k z (omega (arith, n, l)) ∙ ap (λ (w : X × List Y). take k zs ++ w ∷ []) (get_or_from_slice_get zs k z z (at-with_rows xs rows k x row a b)) in
    g ∙ ap (λ (r : List ℕ). r ++ f z) e ∙ append_assoc o (flat_map f (take k zs)) (f z) ∙ ap (λ (r : List ℕ). o ++ r) (sym (flat_map-last f (take k zs) z) ∙ ap (flat_map f) (sym more))

-- all elements
pub rows-all : {X Y : Type 0} (f : X × List Y → List ℕ) (xs : List X) (rows : List (List Y)) (k : ℕ) → length xs ≤ k → flat_map f (take k (with_rows xs rows)) ≡ flat_map f (with_rows xs rows)
rows-all f xs rows k l = ap (flat_map f) (take_all k (with_rows xs rows) (let n = length-with_rows xs rows in omega (arith, n, l)))

-- ---- the two versions
-- the text of an element, and in the second version that of its row
abbrev pub versioned : {X Y : Type 0} → (X → List ℕ) → (List Y → List ℕ) → TextVersion → X × List Y → List ℕ
versioned f g One = λ x. f x.0
versioned f g Two = λ x. f x.0 ++ g x.1

pub first-version : {X Y : Type 0} (f : X → List ℕ) (g : List Y → List ℕ) (version : TextVersion) (x : X) (row : List Y) (s t : List ℕ) → version ≡ One → t ≡ s ++ f x → t ≡ s ++ versioned f g version (x, row)
first-version f g version x row s t e h = subst (λ (v : TextVersion). t ≡ s ++ versioned f g v (x, row)) (sym e) h

pub second-version : {X Y : Type 0} (f : X → List ℕ) (g : List Y → List ℕ) (version : TextVersion) (x : X) (row : List Y) (s u t : List ℕ) → version ≡ Two → u ≡ s ++ f x → t ≡ u ++ g row → t ≡ s ++ versioned f g version (x, row)
second-version f g version x row s u t e h k =
    subst (λ (v : TextVersion). t ≡ s ++ versioned f g v (x, row)) (sym e) (k ∙ ap (λ (r : List ℕ). r ++ g row) h ∙ append_assoc s (f x) (g row))

-- in the first version the rows are left out
rows-first : {X Y : Type 0} (f : X → List ℕ) (xs : List X) (rows : List (List Y)) → flat_map (λ (z : X × List Y). f z.0) (with_rows xs rows) ≡ flat_map f xs
rows-first f [] rows = refl
rows-first f (x ∷ xs) [] = ap (λ (r : List ℕ). f x ++ r) (rows-first f xs [])
rows-first f (x ∷ xs) (row ∷ rows) = ap (λ (r : List ℕ). f x ++ r) (rows-first f xs rows)

pub vertices-all : (version : TextVersion) (c : Complex) (p : Parts) → flat_map (versioned vertex_text sface_line version) (with_rows c.vertices p.sface_of) ≡ vertices_text version c p
vertices-all One c p = rows-first vertex_text c.vertices p.sface_of
vertices-all Two c p = refl

pub volumes-all : (version : TextVersion) (p : Parts) → flat_map (versioned volume_line (flat_map shell_line) version) (with_rows p.volumes p.shells) ≡ volumes_text version p
volumes-all One p = rows-first volume_line p.volumes p.shells
volumes-all Two p = refl
