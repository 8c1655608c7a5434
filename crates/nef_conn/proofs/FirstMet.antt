-- From a point with three flat directions the way to a side of the frame first meets a point with fewer.
use Rattle.nef_conn.proofs.Prelude.{ℕ, ◌+◌, ◌*◌, ◌<◌, pos, negsuc, ◌+ℤ◌, ◌*ℤ◌, nat_abs, arith, ⊎_elim, ints, half_side, Germ, Flat, FlatDim, SpacePoint, Ratio, toward, IsBetween, Set, Vector, vector, IsDirection, Out, Drop, flat-germ, FlatDim-one, between-turned, even-until, span-3, same-point_sym, toward-point, IsEvenAfter}
use Rattle.law_geometry.proofs.near.Same.{dim-same}

-- where three directions are flat, all are
pub all-flat : (s : Set) (p : SpacePoint) → FlatDim s p 3 → (d : Vector) → Flat s p d
all-flat s p f d = let h = f.0 in span-3 s p h.0 h.1 h.2 d h.3 h.4 h.5 h.6

-- ---- a point on a side of the frame
abbrev wall : SpacePoint
wall = record { x = pos half_side; y = pos 0; z = pos 0; w = 1; proper = omega arith }

-- a step from a side of the frame inward stays within that side
pub step-inside : (n : ℕ) → nat_abs (pos half_side *ℤ pos (n + 1) +ℤ pos 1 *ℤ pos 1 *ℤ negsuc 0) < half_side * (1 * (n + 1))
step-inside n = omega (arith, ints)

-- the label there is Out, but not close to it inward
wall-not_flat : (s : Set) → FlatDim s wall 3 → ⊥
wall-not_flat s f = inward (flat-germ s wall (vector (negsuc 0) (pos 0) (pos 0)) Out (all-flat s wall f (vector (negsuc 0) (pos 0) (pos 0))) (λ i. let h = i.along_x in omega arith))
  where
    inward : Germ s wall (vector (negsuc 0) (pos 0) (pos 0)) Out → ⊥
    inward (n, some, g) =
        let t : Ratio = record { a = pos 1; b = n + 1; proper = omega arith } in
        g t (omega (arith, ints), omega (arith, ints)) (record { along_x = step-inside n; along_y = level n; along_z = level n })
      where
        level : (n : ℕ) → nat_abs (pos 0 *ℤ pos (n + 1) +ℤ pos 1 *ℤ pos 1 *ℤ pos 0) < half_side * (1 * (n + 1))
        level n = omega (arith, ints)

-- ---- what is met first
-- a point with fewer flat directions, from which on up to p three directions are flat
pub record FirstMet (s : Set) (p : SpacePoint) : Type 0 where
  pub place : SpacePoint
  pub not_flat : FlatDim s place 3 → ⊥
  pub even : IsEvenAfter s 3 place p
  pub apart : IsDirection (toward place p)

module _ (s : Set) (p : SpacePoint) (f : FlatDim s p 3) where
  met-at : (y : SpacePoint) → (FlatDim s y 3 → ⊥) → ((r : SpacePoint) → IsBetween p r y → FlatDim s r 3) → FirstMet s p
  met-at y not all = record {
    place = y;
    not_flat = not;
    even = λ r o. ⊎_elim (λ b. all r (between-turned y p r b)) (λ e. dim-same s p r 3 (same-point_sym r p e) f) o;
    apart = λ z. not (dim-same s p y 3 (same-point_sym y p (toward-point y p z)) f);
  }

  pub first-met : FirstMet s p
  first-met = ⊎_elim (λ all. met-at wall (wall-not_flat s) all) dropped (even-until s 3 p wall f (all-flat s p f (toward p wall)))
    where
      dropped : Drop s 3 p wall → FirstMet s p
      dropped c = met-at c.at_place (λ g. let d = c.drops in let l = d.1 in let e = FlatDim-one s c.at_place d.0 3 d.2 g in omega arith) c.even_before
