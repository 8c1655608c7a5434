-- Identities of vectors perpendicular to one normal n.
use Rattle.law_geometry.proofs.sphere.cyclic.Prelude.{◌≡◌, ◌+◌, pos, neg_ℤ, ◌+ℤ◌, ◌-ℤ◌, ◌*ℤ◌, ◌<ℤ◌, ◌≤ℤ◌, [], ◌∷◌, ◌∙◌, ◌⊎◌, num, neg, ◌⊕◌, ◌⊖◌, ◌⊗◌, Vector, dot, triple, IsParallel, cross, dot_poly, triple_poly, numbers, dot-zero, nought-if, parallel-in_plane, pos-self}
use Rattle.nef_space.proofs.Combination.{follows, given, none}

-- ---- what holds of vectors perpendicular to n
-- s.s n.(d x t) = s.d n.(s x t) - n.(s x d) s.t
pub turn_law : (n s t d : Vector) → dot n s ≡ pos 0 → dot s s *ℤ triple n d t ≡ dot s d *ℤ triple n s t +ℤ neg_ℤ (triple n s d *ℤ dot s t)
turn_law n s t d e =
    follows (numbers n s t d) (dot_poly 3 3 ⊗ triple_poly 0 9 6) (dot_poly 3 9 ⊗ triple_poly 0 3 6 ⊕ neg (triple_poly 0 3 9 ⊗ dot_poly 3 6))
    (given (triple_poly 3 9 6) (dot_poly 0 3) (num (pos 0)) e none) tt

-- n.n s.s d.t = n.n s.d s.t + n.(s x d) n.(s x t), a determinant of dot products
pub along_law : (n s t d : Vector) → dot n s ≡ pos 0 → dot n t ≡ pos 0 → dot n d ≡ pos 0
    → dot n n *ℤ (dot s s *ℤ dot d t) ≡ dot n n *ℤ (dot s d *ℤ dot s t) +ℤ triple n s d *ℤ triple n s t
along_law n s t d to_s to_t to_d =
    follows (numbers n s t d) (dot_poly 0 0 ⊗ (dot_poly 3 3 ⊗ dot_poly 9 6)) (dot_poly 0 0 ⊗ (dot_poly 3 9 ⊗ dot_poly 3 6) ⊕ triple_poly 0 3 9 ⊗ triple_poly 0 3 6)
    (given (dot_poly 0 3 ⊗ dot_poly 9 6 ⊖ dot_poly 3 6 ⊗ dot_poly 0 9) (dot_poly 0 3) (num (pos 0)) to_s
    (given (neg (dot_poly 0 3 ⊗ dot_poly 3 9 ⊖ dot_poly 3 3 ⊗ dot_poly 0 9)) (dot_poly 0 6) (num (pos 0)) to_t none)) tt

-- ---- parallel and turning, for a and b perpendicular to n
pub parallel_from_turn : (n a b : Vector) → pos 0 <ℤ dot n n → dot n a ≡ pos 0 → dot n b ≡ pos 0 → triple n a b ≡ pos 0 → IsParallel a b
parallel_from_turn n a b h = parallel-in_plane n a b (pos-self n h)

pub turn_from_parallel : (n a b : Vector) → IsParallel a b → triple n a b ≡ pos 0
turn_from_parallel n a b h = dot-zero n (cross a b) h

-- the turn and the dot product aren't both zero
pub turn_or_dot : (n a b : Vector) → pos 0 <ℤ dot n n → pos 0 <ℤ dot a a → pos 0 <ℤ dot b b → dot n a ≡ pos 0 → dot n b ≡ pos 0 → triple n a b ≡ pos 0 → dot a b ≡ pos 0 → ⊥
turn_or_dot n a b hn ha hb to_a to_b flat across = pos-self b hb (nought-if a b (pos-self a ha) (parallel_from_turn n a b hn to_a to_b flat) across)
