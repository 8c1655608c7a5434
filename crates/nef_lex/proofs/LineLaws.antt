-- The laws of lines.
use Rattle.nef_lex.proofs.Prelude.{◌≡◌, ℕ, false, cond, List, [], ◌∷◌, ◌++◌, refl, ap, ◌∙◌, inl, inr, All, ne_eqb, eqb_tells, All-head, All-tail, All-cons, All-nil, line_feed, carriage_return, is_line_feed, LacksFeed, each_ended, PiecesOfEnded, EndedPieces, ReturnDropped, OthersKept}
use Rattle.nef_lex.proofs.Pieces.{pieces_of-at, pieces_of-whole, without_return-push}

lacks : ℕ → Type 0
lacks b = is_line_feed b ≡ false

pub pieces_of_ended : PiecesOfEnded
pieces_of_ended [] [] all_lack rest_lacks = refl
pieces_of_ended [] (b ∷ bs) all_lack rest_lacks = pieces_of-whole b bs rest_lacks
pieces_of_ended (piece ∷ pieces) rest all_lack rest_lacks =
    pieces_of-at piece line_feed (each_ended pieces rest) (All-head LacksFeed piece pieces all_lack) refl
    ∙ ap (λ ps. piece ∷ ps) (pieces_of_ended pieces rest (All-tail LacksFeed piece pieces all_lack) rest_lacks)

abbrev Made : List ℕ → Type 0
Made bytes = (pieces : List (List ℕ)) × (rest : List ℕ) × All LacksFeed pieces × LacksFeed rest × (bytes ≡ each_ended pieces rest)

put_feed : (b : ℕ) (bs : List ℕ) → b ≡ line_feed → Made bs → Made (b ∷ bs)
put_feed b bs is_feed (pieces, rest, all_lack, rest_lacks, is_made) =
    ([] ∷ pieces, rest, All-cons LacksFeed [] pieces (All-nil (λ b. is_line_feed b ≡ false)) all_lack, rest_lacks, rw (is_feed, is_made))

put_other : (b : ℕ) (bs : List ℕ) → is_line_feed b ≡ false → Made bs → Made (b ∷ bs)
put_other b bs is_other ([], rest, all_lack, rest_lacks, is_made) =
    ([], b ∷ rest, all_lack, All-cons (λ b. is_line_feed b ≡ false) b rest is_other rest_lacks, ap (λ l. b ∷ l) is_made)
put_other b bs is_other (piece ∷ pieces, rest, all_lack, rest_lacks, is_made) = (
  (b ∷ piece) ∷ pieces,
  rest,
  All-cons LacksFeed (b ∷ piece) pieces (All-cons (λ b. is_line_feed b ≡ false) b piece is_other (All-head LacksFeed piece pieces all_lack)) (All-tail LacksFeed piece pieces all_lack),
  rest_lacks,
  ap (λ l. b ∷ l) is_made,
)

pub ended_pieces : EndedPieces
ended_pieces [] = ([], [], All-nil LacksFeed, All-nil (λ b. is_line_feed b ≡ false), refl)
ended_pieces (b ∷ bs) = elim (eqb_tells b line_feed) [
  | inl same ↦ put_feed b bs same.1 (ended_pieces bs)
  | inr other ↦ put_other b bs other.0 (ended_pieces bs)
]

pub return_dropped : ReturnDropped
return_dropped bytes = without_return-push bytes carriage_return

pub others_kept : OthersKept
others_kept bytes b other = without_return-push bytes b ∙ ap (λ t. cond t bytes (bytes ++ b ∷ [])) (ne_eqb b carriage_return other)
