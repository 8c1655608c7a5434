-- One shell more in the row of its volume.
use Rattle.nef_volumes.proofs.Prelude.{◌≡◌, ℕ, ◌⊎◌, inl, inr, List, [], ◌∷◌, ◌++◌, length, set, ap, subst, IsAt, IsInTable, Either, earlier, last, is-at_pushed, is-at_one, is-at_within, is-at_left, is-at_last, Shell, IsOfVolume, IsOneOf, StandsBefore, AreShellsOf}
use Rattle.nef_complex.specs.declared.parts.Side.{Side}
use Rattle.nef_volumes.proofs.Held.{held-as, held-more}
use Rattle.nef_volumes.proofs.Joining.{cell-one_number}

module _ (volume_of : List (List ℕ)) (lists : List (List Side)) (rows : List (List Shell)) (H : AreShellsOf volume_of lists rows) (own : List Side) (n : ℕ) (row : List Shell) (at : IsAt rows n row)
    (s : Side) (first : IsAt own 0 s) (number : IsInTable volume_of s.vertex s.side n) where
  abbrev shell : Shell
  shell = record { sides = own }

  abbrev more : List (List Side)
  more = lists ++ own ∷ []

  kept : (h : Shell) → IsOneOf lists h → IsOneOf more h
  kept h (k, a) = (k, is-at_left lists (own ∷ []) k h.sides a)

  still-before : (g h : Shell) → StandsBefore lists g h → StandsBefore more g h
  still-before g h (k, l, b, x, y) = (k, l, b, is-at_left lists (own ∷ []) k g.sides x, is-at_left lists (own ∷ []) l h.sides y)

  one-volume : (m : ℕ) → IsOfVolume volume_of shell m → m ≡ n
  one-volume m (t, b, h) =
      let e = is-at_one own 0 t s b first in
      cell-one_number volume_of (record { row = s.vertex; column = s.side }) m n (subst (λ (w : Side). IsInTable volume_of w.vertex w.side m) e h) number

  apart : (h : Shell) → IsOneOf more h → IsOneOf lists h ⊎ (h ≡ shell)
  apart h (k, a) = by (is-at_pushed lists k h.sides own a)
    where
      by : Either lists k h.sides own → IsOneOf lists h ⊎ (h ≡ shell)
      by (earlier b) = inl (k, b)
      by (last e f) = inr (ap (λ (ss : List Side). record { sides = ss }) f)

  above : (h : Shell) (q : ℕ) → IsAt row q h → StandsBefore more h shell
  above h q b =
      let (k, a) = (H.each n q row h at b).1 in
      (k, length lists, is-at_within lists k h.sides a, is-at_left lists (own ∷ []) k h.sides a, is-at_last lists own)

  pub shells-more : AreShellsOf volume_of more (set rows n (row ++ shell ∷ []))
  shells-more =
      held-more (IsOfVolume volume_of) (IsOneOf lists) (StandsBefore more) rows
      (held-as (IsOfVolume volume_of) (IsOneOf lists) (IsOneOf lists) (StandsBefore lists) (StandsBefore more) rows (λ h m v i. i) (λ h m v i. i) still-before H)
      (IsOneOf more) kept n row at shell (s, first, number) one-volume (length lists, is-at_last lists own) above apart
