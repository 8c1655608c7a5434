-- What short ways along a circle carry on, holds all along it.
use Rattle.law_geometry.proofs.complex.links.Prelude.{◌≡◌, ℕ, ◌<◌, pos, arith, ◌∙◌, ⊎_elim, ◌∷◌, [], ints, ring, at, num, ◌⊕◌, ◌⊖◌, ◌⊗◌, Vector, IsDirection, cross, dot, SameDirection, IsOpposite, blend, IsOnCircle, IsOpposite-decided, Beside, same_way, other_way, beside, between-direction, zero-decided, dot-zero, nought-if, level-blend}

-- a property that goes over to the same way
abbrev pub IsOfWays : (Vector → Type 0) → Type 0
IsOfWays P = (d e : Vector) → SameDirection d e → P d → P e

module _ (n : Vector) (hn : IsDirection n) (P : Vector → Type 0) (carry : IsOfWays P)
    (short : (d e : Vector) → IsOnCircle n d → IsOnCircle n e → ((i j : ℕ) → 0 < i → 0 < j → IsOnCircle n (blend i d j e)) → P d → P e) where
  short-way : (d e : Vector) → IsOnCircle n d → IsOnCircle n e → (IsOpposite d e → ⊥) → P d → P e
  short-way d e a b off p = ⊎_elim
      (λ z. same (beside d e a.direction b.direction z))
      (λ f. short d e a b (λ i j si sj. record { direction = between-direction d e i j sj f; level = level-blend n d e i j a.level b.level }) p) (zero-decided (cross d e))
    where
      same : Beside d e → P e
      same (same_way w) = carry d e w p
      same (other_way w) = absurd (off w)

  pub circle-all : (d e : Vector) → IsOnCircle n d → IsOnCircle n e → P d → P e
  circle-all d e a b p = ⊎_elim (λ o. by_quarter o) (λ f. short-way d e a b f p) (IsOpposite-decided d e)
    where
      quarter : IsOnCircle n (cross n d)
      quarter = record {
        direction = λ z. a.direction (nought-if n d hn z a.level);
        level = ring (n.x ∷ n.y ∷ n.z ∷ d.x ∷ d.y ∷ d.z ∷ []) (at 0 ⊗ (at 1 ⊗ at 5 ⊖ at 2 ⊗ at 4) ⊕ at 1 ⊗ (at 2 ⊗ at 3 ⊖ at 0 ⊗ at 5) ⊕ at 2 ⊗ (at 0 ⊗ at 4 ⊖ at 1 ⊗ at 3)) (num (pos 0)) tt;
      }

      square : dot d (cross n d) ≡ pos 0
      square = ring (n.x ∷ n.y ∷ n.z ∷ d.x ∷ d.y ∷ d.z ∷ []) (at 3 ⊗ (at 1 ⊗ at 5 ⊖ at 2 ⊗ at 4) ⊕ at 4 ⊗ (at 2 ⊗ at 3 ⊖ at 0 ⊗ at 5) ⊕ at 5 ⊗ (at 0 ⊗ at 4 ⊖ at 1 ⊗ at 3)) (num (pos 0)) tt

      by_quarter : IsOpposite d e → P e
      by_quarter o =
          let q = quarter in
          let c = cross n d in
          let turn : dot c e ≡ dot n (cross d e) = ring (n.x ∷ n.y ∷ n.z ∷ d.x ∷ d.y ∷ d.z ∷ e.x ∷ e.y ∷ e.z ∷ [])
          ((at 1 ⊗ at 5 ⊖ at 2 ⊗ at 4) ⊗ at 6 ⊕ (at 2 ⊗ at 3 ⊖ at 0 ⊗ at 5) ⊗ at 7 ⊕ (at 0 ⊗ at 4 ⊖ at 1 ⊗ at 3) ⊗ at 8)
          (at 0 ⊗ (at 4 ⊗ at 8 ⊖ at 5 ⊗ at 7) ⊕ at 1 ⊗ (at 5 ⊗ at 6 ⊖ at 3 ⊗ at 8) ⊕ at 2 ⊗ (at 3 ⊗ at 7 ⊖ at 4 ⊗ at 6)) tt in
          let z = turn ∙ dot-zero n (cross d e) o.parallel in
          let s = square in
          short-way c e q b (λ w. let k = w.backward in omega (arith, ints)) (short-way d c a q (λ w. let k = w.backward in omega (arith, ints)) p)
