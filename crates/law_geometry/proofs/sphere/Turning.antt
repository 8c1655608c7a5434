-- The order of directions round an axis.
use Rattle.law_geometry.proofs.sphere.Prelude.{◌≡◌, ℕ, ◌+◌, ℤ, pos, ◌-ℤ◌, ◌*ℤ◌, ◌<ℤ◌, arith, List, ◌∷◌, [], ints, ring, at, ◌⊕◌, ◌⊖◌, ◌⊗◌, Poly, mul_pos, cancel_lt, Vector, triple}

abbrev triple-p : ℕ → ℕ → ℕ → Poly
triple-p a b c = at a ⊗ (at (b + 1) ⊗ at (c + 2) ⊖ at (b + 2) ⊗ at (c + 1)) ⊕ at (a + 1) ⊗ (at (b + 2) ⊗ at c ⊖ at b ⊗ at (c + 2)) ⊕ at (a + 2) ⊗ (at b ⊗ at (c + 1) ⊖ at (b + 1) ⊗ at c)

abbrev five : Vector → Vector → Vector → Vector → Vector → List ℤ
five d a b c e = d.x ∷ d.y ∷ d.z ∷ a.x ∷ a.y ∷ a.z ∷ b.x ∷ b.y ∷ b.z ∷ c.x ∷ c.y ∷ c.z ∷ e.x ∷ e.y ∷ e.z ∷ []

-- [dab][dce] = [dac][dbe] - [dae][dbc]
pub turns : (d a b c e : Vector) → triple d a b *ℤ triple d c e ≡ triple d a c *ℤ triple d b e -ℤ triple d a e *ℤ triple d b c
turns d a b c e = ring (five d a b c e) (triple-p 0 3 6 ⊗ triple-p 0 9 12) (triple-p 0 3 9 ⊗ triple-p 0 6 12 ⊖ triple-p 0 3 12 ⊗ triple-p 0 6 9) tt

-- the same in plain numbers, so that no tactic sees what a triple is made of
later-plain : (ab ax xb xy yb ay : ℤ) → ax *ℤ yb ≡ ay *ℤ xb -ℤ ab *ℤ xy → pos 0 <ℤ ab → pos 0 <ℤ ax → pos 0 <ℤ xb → pos 0 <ℤ xy → pos 0 <ℤ yb → pos 0 <ℤ ay
later-plain ab ax xb xy yb ay e h i j k l =
    let p = mul_pos ax yb i l in
    let q = mul_pos ab xy h k in
    let z : (pos 0 *ℤ xb) <ℤ (ay *ℤ xb) = omega (arith, ints) in
    cancel_lt (pos 0) ay xb j z

-- x lies between a and b, and y between x and b: then y lies after a
pub later : (d a b x y : Vector) → pos 0 <ℤ triple d a b → pos 0 <ℤ triple d a x → pos 0 <ℤ triple d x b → pos 0 <ℤ triple d x y → pos 0 <ℤ triple d y b → pos 0 <ℤ triple d a y
later d a b x y h i j k l =
    later-plain (triple d a b) (triple d a x) (triple d x b) (triple d x y) (triple d y b) (triple d a y) (turns d a x y b) h i j k l
