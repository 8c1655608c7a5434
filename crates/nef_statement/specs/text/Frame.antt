-- The texts of the empty set and of the whole frame, in the first version.
use Rattle.std.specs.Prelude.{◌≡◌, ◌∷◌, ◌++◌, ◌==◌, ℕ, List, [], codes, map, take, drop, cond}
use Rattle.std.specs.List.{concat}
use Rattle.nef_complex.specs.Prelude.{SameSet, Set, complex_of, ShowsSet, IsParts, text}
use Rattle.nef_complex.specs.declared.complex.Complex.{Complex}
use Rattle.nef_core.specs.declared.work.TextVersion.TheVariants.{One}
use Rattle.nef_complex.specs.declared.parts.Parts.{Parts}

abbrev pub empty_text : List ℕ
empty_text = concat (
    codes "nef3 1 8 12 6 2\n"
    ∷ codes "v -2048 -2048 -2048 1 o -\n"
    ∷ codes "s 0 0 1 o -\n"
    ∷ codes "s 0 1 0 o -\n"
    ∷ codes "s 1 0 0 o -\n"
    ∷ codes "a 2 1 0 0 1 o n o\n"
    ∷ codes "a 0 2 0 1 0 o n o\n"
    ∷ codes "a 1 0 1 0 0 o n o\n"
    ∷ codes "v -2048 -2048 2048 1 o -\n"
    ∷ codes "s 0 0 -1 o -\n"
    ∷ codes "s 0 1 0 o -\n"
    ∷ codes "s 1 0 0 o -\n"
    ∷ codes "a 2 1 0 0 1 o o n\n"
    ∷ codes "a 2 0 0 1 0 o n o\n"
    ∷ codes "a 0 1 1 0 0 o n o\n"
    ∷ codes "v -2048 2048 -2048 1 o -\n"
    ∷ codes "s 0 -1 0 o -\n"
    ∷ codes "s 0 0 1 o -\n"
    ∷ codes "s 1 0 0 o -\n"
    ∷ codes "a 0 2 0 0 1 o n o\n"
    ∷ codes "a 1 2 0 1 0 o o n\n"
    ∷ codes "a 1 0 1 0 0 o n o\n"
    ∷ codes "v -2048 2048 2048 1 o -\n"
    ∷ codes "s 0 -1 0 o -\n"
    ∷ codes "s 0 0 -1 o -\n"
    ∷ codes "s 1 0 0 o -\n"
    ∷ codes "a 0 2 0 0 1 o o n\n"
    ∷ codes "a 2 1 0 1 0 o o n\n"
    ∷ codes "a 0 1 1 0 0 o n o\n"
    ∷ codes "v 2048 -2048 -2048 1 o -\n"
    ∷ codes "s -1 0 0 o -\n"
    ∷ codes "s 0 0 1 o -\n"
    ∷ codes "s 0 1 0 o -\n"
    ∷ codes "a 2 0 0 0 1 o n o\n"
    ∷ codes "a 0 1 0 1 0 o n o\n"
    ∷ codes "a 2 1 1 0 0 o o n\n"
    ∷ codes "v 2048 -2048 2048 1 o -\n"
    ∷ codes "s -1 0 0 o -\n"
    ∷ codes "s 0 0 -1 o -\n"
    ∷ codes "s 0 1 0 o -\n"
    ∷ codes "a 2 0 0 0 1 o o n\n"
    ∷ codes "a 1 0 0 1 0 o n o\n"
    ∷ codes "a 1 2 1 0 0 o o n\n"
    ∷ codes "v 2048 2048 -2048 1 o -\n"
    ∷ codes "s -1 0 0 o -\n"
    ∷ codes "s 0 -1 0 o -\n"
    ∷ codes "s 0 0 1 o -\n"
    ∷ codes "a 0 1 0 0 1 o n o\n"
    ∷ codes "a 0 2 0 1 0 o o n\n"
    ∷ codes "a 2 1 1 0 0 o o n\n"
    ∷ codes "v 2048 2048 2048 1 o -\n"
    ∷ codes "s -1 0 0 o -\n"
    ∷ codes "s 0 -1 0 o -\n"
    ∷ codes "s 0 0 -1 o -\n"
    ∷ codes "a 0 1 0 0 1 o o n\n"
    ∷ codes "a 2 0 0 1 0 o o n\n"
    ∷ codes "a 1 2 1 0 0 o o n\n"
    ∷ codes "e 0 0 1 0 o\n"
    ∷ codes "e 0 1 2 0 o\n"
    ∷ codes "e 0 2 4 0 o\n"
    ∷ codes "e 1 1 3 0 o\n"
    ∷ codes "e 1 2 5 0 o\n"
    ∷ codes "e 2 1 3 1 o\n"
    ∷ codes "e 2 2 6 0 o\n"
    ∷ codes "e 3 2 7 0 o\n"
    ∷ codes "e 4 1 5 1 o\n"
    ∷ codes "e 4 2 6 1 o\n"
    ∷ codes "e 5 2 7 1 o\n"
    ∷ codes "e 6 2 7 2 o\n"
    ∷ codes "f 0 0 1 2048 o 1 0\n"
    ∷ codes "c 0 0 4 0 6 0 2 0\n"
    ∷ codes "f 0 1 0 2048 o 1 0\n"
    ∷ codes "c 0 1 1 1 5 1 4 1\n"
    ∷ codes "f 1 0 0 2048 o 1 0\n"
    ∷ codes "c 0 2 2 2 3 2 1 2\n"
    ∷ codes "f 0 0 1 -2048 o 0 1\n"
    ∷ codes "c 1 0 5 0 7 0 3 0\n"
    ∷ codes "f 0 1 0 -2048 o 0 1\n"
    ∷ codes "c 2 1 3 1 7 1 6 1\n"
    ∷ codes "f 1 0 0 -2048 o 0 1\n"
    ∷ codes "c 4 2 6 2 7 2 5 2\n"
    ∷ codes "w o\n"
    ∷ codes "w n\n" ∷ []
    )

-- the text with In for Not: the letter i for each letter n, except in the first word
abbrev pub with_in : List ℕ → List ℕ
with_in bytes = take 4 bytes ++ map (λ b. cond (b == 110) 105 b) (drop 4 bytes)

-- each complex that shows an empty set has this text, however the set was made
abbrev pub EmptyText : Type 0
EmptyText = (s : Set) (c : Complex) (p : Parts) → SameSet s Set.empty → ShowsSet s c → IsParts (complex_of c) p → text One c p ≡ empty_text

-- each complex that shows the whole frame has the empty set's text with In for Not
abbrev pub FullText : Type 0
FullText = (s : Set) (c : Complex) (p : Parts) → SameSet s Set.full → ShowsSet s c → IsParts (complex_of c) p → text One c p ≡ with_in empty_text
