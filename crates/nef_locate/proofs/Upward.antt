-- The upward direction lies above every plane within the limit, so no plane is along an upright one.
use Rattle.nef_locate.proofs.Prelude.{◌≡◌, pos, neg_ℤ, ◌<ℤ◌, [], ◌∷◌, inl, inr, arith, subst, ints, ring, at, neg, ◌⊕◌, ◌⊗◌, slope, normal_of, Vector, dot, IsDirection, up, opposite, IsVertical, form_of, Plane}
use Rattle.nef_smap.proofs.Upward.{normal-ahead}

-- ---- upright directions
pub upright-some : (d : Vector) → IsVertical d → IsDirection d
upright-some d (inl e) z = let f = subst (λ (v : Vector). v.z ≡ pos 0) e z.2 in omega (arith, ints)
upright-some d (inr e) z = let f = subst (λ (v : Vector). v.z ≡ pos 0) e z.2 in omega (arith, ints)

-- no plane of the program is along one
pub plane-upright : (g : Plane) (d : Vector) → IsVertical d → slope (form_of g) d ≡ pos 0 → ⊥
plane-upright g d u z = not-along (normal-ahead (normal_of (form_of g)) g.normal (record { of_x = g.a_small; of_y = g.b_small; of_z = g.c_small })) u
  where
    not-along : pos 0 <ℤ slope (form_of g) up → IsVertical d → ⊥
    not-along u (inl e) = let f = subst (λ (v : Vector). slope (form_of g) v ≡ pos 0) e z in omega (arith, ints)
    not-along u (inr e) =
        let f = subst (λ (v : Vector). slope (form_of g) v ≡ pos 0) e z in
        let n = normal_of (form_of g) in
        let r : dot n (opposite up) ≡ neg_ℤ (dot n up) = ring (n.x ∷ n.y ∷ n.z ∷ up.x ∷ up.y ∷ up.z ∷ []) (at 0 ⊗ neg (at 3) ⊕ at 1 ⊗ neg (at 4) ⊕ at 2 ⊗ neg (at 5)) (neg (at 0 ⊗ at 3 ⊕ at 1 ⊗ at 4 ⊕ at 2 ⊗ at 5)) tt in
        omega (arith, ints)
