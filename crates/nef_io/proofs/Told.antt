-- Told bytes over two steps, and over one write to a buffer.
use Rattle.nef_io.proofs.Prelude.{◌≡◌, ℕ, ◌-◌, ◌≤◌, ◌<◌, Bool, true, false, List, ◌++◌, length, Option, None, Some, refl, ap, ◌∙◌, append_assoc, inl, inr, Grows}
use Rattle.std.specs.Prelude.{if◌then◌else◌}
use Rattle.std.proofs.lemmas.Bool.{cases_lt}
use Rattle.nef_io.specs.Memory.{SinkBytes, written_of}

-- xs is written, and then ys
pub Grows-trans : (a b c : Option (List ℕ)) (xs ys : List ℕ) → Grows a b xs → Grows b c ys → Grows a c (xs ++ ys)
Grows-trans a b None xs ys h k = tt
Grows-trans a None (Some cs) xs ys h k = absurd k
Grows-trans None (Some bs) (Some cs) xs ys h k = absurd h
Grows-trans (Some us) (Some bs) (Some cs) xs ys h k = k ∙ (ap (λ z. z ++ ys) h ∙ append_assoc us xs ys)

-- what is not lost grows
Grows-kept : (lost : Bool) (bytes piece : List ℕ) → Grows (if lost then None else Some bytes) (if lost then None else Some (bytes ++ piece)) piece
Grows-kept true bytes piece = tt
Grows-kept false bytes piece = refl

-- a piece is kept where it fits, and lost where it does not: what is told grows by it
pub Grows-written_of : (old new : SinkBytes) (piece : List ℕ)
    → (length piece ≤ old.free → new ≡ record { bytes = old.bytes ++ piece; free = old.free - length piece; lost = old.lost })
    → (old.free < length piece → new ≡ record old { lost = true })
    → Grows (written_of old) (written_of new) piece
Grows-written_of old new piece fits past = elim (cases_lt old.free (length piece)) [
  | inl h ↦ rw (past h) tt
  | inr h ↦ rw (fits h) (Grows-kept old.lost old.bytes piece)
]
