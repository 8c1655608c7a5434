-- Words by their number.
use Rattle.nef_script.proofs.Prelude.{◌≡◌, ℕ, List, [], ◌∷◌, length, get_or, refl, ap, arith, length-map, pointed}
use denote.Ref.{Bor}

-- what reading past the end of a list of words gives
abbrev pub no_word : Bor (List ℕ)
no_word = record { ref_ptr = (0, 0); now = [] }

pub length-pointed : (words : List (Bor (List ℕ))) → length (pointed words) ≡ length words
length-pointed words = length-map words (λ w. w.now)

-- the word at a place
abbrev pub word_at : List (Bor (List ℕ)) → ℕ → List ℕ
word_at words i = (get_or words i no_word).now

-- so many words, one by one
pub one_word : (ws : List (Bor (List ℕ))) → length ws ≡ 1 → pointed ws ≡ word_at ws 0 ∷ []
one_word [] e = absurd (omega arith)
one_word (a ∷ []) e = refl
one_word (a ∷ b ∷ ws) e = absurd (omega arith)

pub two_words : (ws : List (Bor (List ℕ))) → length ws ≡ 2 → pointed ws ≡ word_at ws 0 ∷ word_at ws 1 ∷ []
two_words [] e = absurd (omega arith)
two_words (a ∷ ws) e = ap (λ l. a.now ∷ l) (one_word ws (omega arith))

pub three_words : (ws : List (Bor (List ℕ))) → length ws ≡ 3 → pointed ws ≡ word_at ws 0 ∷ word_at ws 1 ∷ word_at ws 2 ∷ []
three_words [] e = absurd (omega arith)
three_words (a ∷ ws) e = ap (λ l. a.now ∷ l) (two_words ws (omega arith))

four_words : (ws : List (Bor (List ℕ))) → length ws ≡ 4 → pointed ws ≡ word_at ws 0 ∷ word_at ws 1 ∷ word_at ws 2 ∷ word_at ws 3 ∷ []
four_words [] e = absurd (omega arith)
four_words (a ∷ ws) e = ap (λ l. a.now ∷ l) (three_words ws (omega arith))

pub five_words : (ws : List (Bor (List ℕ))) → length ws ≡ 5 → pointed ws ≡ word_at ws 0 ∷ word_at ws 1 ∷ word_at ws 2 ∷ word_at ws 3 ∷ word_at ws 4 ∷ []
five_words [] e = absurd (omega arith)
five_words (a ∷ ws) e = ap (λ l. a.now ∷ l) (four_words ws (omega arith))

pub six_words : (ws : List (Bor (List ℕ))) → length ws ≡ 6 → pointed ws ≡ word_at ws 0 ∷ word_at ws 1 ∷ word_at ws 2 ∷ word_at ws 3 ∷ word_at ws 4 ∷ word_at ws 5 ∷ []
six_words [] e = absurd (omega arith)
six_words (a ∷ ws) e = ap (λ l. a.now ∷ l) (five_words ws (omega arith))

pub eight_words : (ws : List (Bor (List ℕ))) → length ws ≡ 8 → pointed ws ≡ word_at ws 0 ∷ word_at ws 1 ∷ word_at ws 2 ∷ word_at ws 3 ∷ word_at ws 4 ∷ word_at ws 5 ∷ word_at ws 6 ∷ word_at ws 7 ∷ []
eight_words [] e = absurd (omega arith)
eight_words (a ∷ []) e = absurd (omega arith)
eight_words (a ∷ b ∷ ws) e = ap (λ l. a.now ∷ b.now ∷ l) (six_words ws (omega arith))

pub nine_words : (ws : List (Bor (List ℕ))) → length ws ≡ 9 → pointed ws ≡ word_at ws 0 ∷ word_at ws 1 ∷ word_at ws 2 ∷ word_at ws 3 ∷ word_at ws 4 ∷ word_at ws 5 ∷ word_at ws 6 ∷ word_at ws 7 ∷ word_at ws 8 ∷ []
nine_words [] e = absurd (omega arith)
nine_words (a ∷ ws) e = ap (λ l. a.now ∷ l) (eight_words ws (omega arith))
