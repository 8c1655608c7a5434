-- Words after blanks.
use Rattle.std.specs.Prelude.{ℕ, List, [], ◌∷◌, ◌++◌}
use Rattle.nef_complex.specs.Text.{Word, numbers, label_word, option_word, dir_words, point_words, plane_words}
use Rattle.nef_canon.specs.declared.words.Entry.{Entry}
use Rattle.nef_canon.specs.declared.words.Entry.TheVariants as entry

-- the words, each after a blank
abbrev pub blanked : List Word → List ℕ
blanked [] = []
blanked (w ∷ ws) = 32 ∷ (w ++ blanked ws)

-- the words of an entry
abbrev pub entry_words : Entry → List Word
entry_words (entry.Counts ns) = numbers ns.now
entry_words (entry.Label l) = label_word l ∷ []
entry_words (entry.Option l) = option_word l ∷ []
entry_words (entry.Dir d) = dir_words d
entry_words (entry.Point p) = point_words p
entry_words (entry.Plane h) = plane_words h
