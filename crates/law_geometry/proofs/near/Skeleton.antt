-- Close to a point no point has fewer flat directions, so a segment has a first point with fewer.
use Rattle.law_geometry.proofs.near.Prelude.{◌≡◌, ℕ, suc, ◌+◌, ◌-◌, ◌<◌, ◌≤◌, arith, ◌⊎◌, inl, inr, ⊎_elim, subst, cases_lt, SpacePoint, Within, IsBetween, Set, HasFlat, FlatDim, carriers, IsFlatBelow, FirstPoint}
use Rattle.law_geometry.proofs.near.Cells.{reach-some, Cells}
use Rattle.law_geometry.proofs.near.Near.{reach_all}
use Rattle.law_geometry.proofs.near.Flats.{Flat-from_cone, FlatCone-from_flat}
use Rattle.law_geometry.proofs.near.Alike.{HasFlat-by, HasFlat-fewer, FlatDim-one, FlatDim-by_germs, germs-by_cell}
use Rattle.law_geometry.proofs.near.FlatDecided.{flat_dim-of}
use Rattle.law_geometry.proofs.near.Even.{flat-nearby}
use Rattle.law_geometry.proofs.near.FirstChange.{first-between}

pub flat_dim-nearby : (s : Set) (p q : SpacePoint) → Within (reach_all (carriers s) p) p q → (j k : ℕ) → FlatDim s p k → FlatDim s q j → k ≤ j
flat_dim-nearby s p q c j k f g = ⊎_elim
    (λ l.
    let e : k ≡ (k - suc j) + suc j = omega arith in
    let h = HasFlat-by s s p q (λ d i. Flat-from_cone s q d (flat-nearby s p q c d (FlatCone-from_flat s p d i))) k f.0 in
    absurd (g.1 (HasFlat-fewer s q (k - suc j) (suc j) (subst (HasFlat s q) e h))))
    (λ l. l) (cases_lt j k)

below-decided : (s : Set) (k : ℕ) (p : SpacePoint) → IsFlatBelow s k p ⊎ (IsFlatBelow s k p → ⊥)
below-decided s k p =
    let j = flat_dim-of s p in
    ⊎_elim (λ l. inl (j.0, l, j.1)) (λ l. inr (λ b. let e = FlatDim-one s p j.0 b.0 j.1 b.2 in let h = b.1 in omega arith)) (cases_lt j.0 k)

below-cells : (s : Set) (k : ℕ) → Cells (carriers s) (IsFlatBelow s k)
below-cells s k p q same b = (b.0, b.1, FlatDim-by_germs s s p q (germs-by_cell s p q same) b.0 b.2)

still-above : (s : Set) (k : ℕ) (p : SpacePoint) → (IsFlatBelow s k p → ⊥) → (n : ℕ) × (0 < n) × ((q : SpacePoint) → Within n p q → IsFlatBelow s k q → ⊥)
still-above s k p n = (
  reach_all (carriers s) p,
  reach-some (carriers s) p,
  λ q c b.
      let j = flat_dim-of s p in
      let h = flat_dim-nearby s p q c b.0 j.0 j.1 b.2 in
      n (j.0, (let l = b.1 in omega arith), j.1),
)

pub flat-below_first : (s : Set) (k : ℕ) (p q : SpacePoint) → (IsFlatBelow s k p → ⊥) → ((r : SpacePoint) → IsBetween p r q → IsFlatBelow s k r → ⊥) ⊎ FirstPoint (IsFlatBelow s k) p q
flat-below_first s k p q n = first-between (carriers s) (IsFlatBelow s k) (below-cells s k) (below-decided s k) (still-above s k) p q n
