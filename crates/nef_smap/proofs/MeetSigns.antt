-- The signs of forms where a way meets a plane, from their values at its ends.
use Rattle.nef_smap.proofs.Prelude.{◌≡◌, ℕ, ℤ, pos, neg_ℤ, ◌+ℤ◌, ◌-ℤ◌, ◌*ℤ◌, ◌<ℤ◌, refl, ap, sym, ◌∙◌, [], ◌∷◌, ◌↔◌, arith, ints, ring, at, num, neg, ◌⊕◌, ◌⊖◌, ◌⊗◌, Vector, triple, cross, dot, sign_of, sign_number, Minus, Zero, Plus, dot-comb, Values, SpherePath, linear_at, turn_value, wide_vector, start_at, end_at, AreValues, way_meet}
use Rattle.nef_geo.specs.declared.sign.Sign.{Sign}
use Rattle.nef_smap.proofs.FirstMet.{meet-is}

-- values are products
pub start-value : (w : SpherePath) (g : Vector) (v : Values) (j : ℕ) → AreValues w g v → linear_at v.start j ≡ dot g (start_at w j)
start-value w g v j h = ap (λ (x : ℤ). pos j *ℤ x +ℤ pos 1 *ℤ v.start.rest) h.start_factor ∙ ap (λ (x : ℤ). pos j *ℤ dot g (wide_vector w.start) +ℤ pos 1 *ℤ x) h.start_rest
    ∙ sym (dot-comb g (pos j) (wide_vector w.start) (pos 1) (wide_vector w.upward))

pub end-value : (w : SpherePath) (g : Vector) (v : Values) (k : ℕ) → AreValues w g v → linear_at v.end k ≡ dot g (end_at w k)
end-value w g v k h = ap (λ (x : ℤ). pos k *ℤ x +ℤ pos 1 *ℤ v.end.rest) h.end_factor ∙ ap (λ (x : ℤ). pos k *ℤ dot g (wide_vector w.end) +ℤ pos 1 *ℤ x) h.end_rest
    ∙ sym (dot-comb g (pos k) (wide_vector w.end) (pos 1) (wide_vector w.beside))

pub meet-value : (w : SpherePath) (m g : Vector) (n v : Values) (j k : ℕ) → AreValues w m n → AreValues w g v → linear_at n.start j *ℤ turn_value n v j k ≡ dot g (way_meet m (start_at w j) (end_at w k))
meet-value w m g n v j k h i =
    let a = start-value w m n j h in
    let b = end-value w m n k h in
    let c = start-value w g v j i in
    let d = end-value w g v k i in
    ap (λ (x : ℤ). x *ℤ (x *ℤ linear_at v.end k -ℤ linear_at n.end k *ℤ linear_at v.start j)) a
    ∙ ap (λ (x : ℤ). dot m (start_at w j) *ℤ (dot m (start_at w j) *ℤ x -ℤ linear_at n.end k *ℤ linear_at v.start j)) d
    ∙ ap (λ (x : ℤ). dot m (start_at w j) *ℤ (dot m (start_at w j) *ℤ dot g (end_at w k) -ℤ x *ℤ linear_at v.start j)) b
    ∙ ap (λ (x : ℤ). dot m (start_at w j) *ℤ (dot m (start_at w j) *ℤ dot g (end_at w k) -ℤ dot m (end_at w k) *ℤ x)) c
    ∙ sym (meet-is m g (start_at w j) (end_at w k))

-- each sign is that of its number
pub own-sign : (s : Sign) → s ≡ sign_of (sign_number s)
own-sign Minus = refl
own-sign Zero = refl
own-sign Plus = refl

-- n.(p x t) = - (n x t).p
pub turn-target : (n t p : Vector) → neg_ℤ (dot (cross n t) p) ≡ triple n p t
turn-target n t p = ring (n.x ∷ n.y ∷ n.z ∷ t.x ∷ t.y ∷ t.z ∷ p.x ∷ p.y ∷ p.z ∷ [])
    (neg ((at 1 ⊗ at 5 ⊖ at 2 ⊗ at 4) ⊗ at 6 ⊕ (at 2 ⊗ at 3 ⊖ at 0 ⊗ at 5) ⊗ at 7 ⊕ (at 0 ⊗ at 4 ⊖ at 1 ⊗ at 3) ⊗ at 8))
    (at 0 ⊗ (at 7 ⊗ at 5 ⊖ at 8 ⊗ at 4) ⊕ at 1 ⊗ (at 8 ⊗ at 3 ⊖ at 6 ⊗ at 5) ⊕ at 2 ⊗ (at 6 ⊗ at 4 ⊖ at 7 ⊗ at 3)) tt

pub turned-less : (p q : ℤ) → ((neg_ℤ p *ℤ q) <ℤ pos 0) ↔ (pos 0 <ℤ (p *ℤ q))
turned-less p q = let e = ring (p ∷ q ∷ []) (neg (at 0) ⊗ at 1) (num (pos 0) ⊖ at 0 ⊗ at 1) tt in (λ h. omega (arith, ints), λ h. omega (arith, ints))

pub parted-by : (w : SpherePath) (g : Vector) (v : Values) (j k : ℕ) → AreValues w g v → linear_at v.start j *ℤ linear_at v.end k ≡ dot g (start_at w j) *ℤ dot g (end_at w k)
parted-by w g v j k h = ap (λ (x : ℤ). x *ℤ linear_at v.end k) (start-value w g v j h) ∙ ap (λ (x : ℤ). dot g (start_at w j) *ℤ x) (end-value w g v k h)
