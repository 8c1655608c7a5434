-- The part of a blend across an axis.
use Rattle.law_geometry.proofs.sphere.border.Prelude.{◌≡◌, ℕ, pos, ap, ◌∙◌, ◌∷◌, ring, at, num, Vector, cross, blend, across, vector-same, cross-blend, numbers, cross_of, blend_of, vec}

turned-blend : (e c d : Vector) (i : ℕ) → cross (blend i e 1 c) d ≡ blend i (cross e d) 1 (cross c d)
turned-blend e c d i =
    let xs = pos i ∷ numbers e c d d in let p = cross_of (blend_of (at 0) (vec 1) (num (pos 1)) (vec 4)) (vec 7) in let q = blend_of (at 0) (cross_of (vec 1) (vec 7)) (num (pos 1)) (cross_of (vec 4) (vec 7)) in
    vector-same _ _ (ring xs p.0 q.0 tt) (ring xs p.1 q.1 tt) (ring xs p.2 q.2 tt)

pub across-blend : (d e c : Vector) (i : ℕ) → across d (blend i e 1 c) ≡ blend i (across d e) 1 (across d c)
across-blend d e c i = ap (λ (v : Vector). cross v d) (cross-blend d e c i 1) ∙ turned-blend (cross d e) (cross d c) d i
