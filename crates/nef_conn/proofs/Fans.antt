-- Between two points close to a third, all points lie toward the blends of their directions: so what is as flat between them is as flat toward all blends.
use Rattle.nef_conn.proofs.Prelude.{◌≡◌, ℕ, ◌+◌, ◌*◌, ◌<◌, ℤ, pos, ◌+ℤ◌, ◌-ℤ◌, ◌*ℤ◌, arith, sym, ◌∙◌, ◌∷◌, subst, [], mul-pos, nought, Lies, ring, at, ◌⊕◌, ◌⊖◌, ◌⊗◌, FlatDim, SpacePoint, Form, Within, toward, IsBetween, Set, Vector, blend, IsDirection, sign_at, carriers, between-of, keeps-all, ahead, sign-toward, of_point, reach_all, mixed-mix, beside-ahead, beside-cell, same-between, dim-cell, ahead-close, vector-same}
use Rattle.law_geometry.specs.near.Cells.{SameSigns}

pub mixed-proper : (i j a b : ℕ) → 0 < i → 0 < a → 0 < i * a + j * b
mixed-proper i j a b si sa = let m = mul-pos si sa in omega arith

-- i p + j q
abbrev pub mixed : (i : ℕ) (p : SpacePoint) (j : ℕ) (q : SpacePoint) → 0 < i → SpacePoint
mixed i p j q si = record {
  x = pos i *ℤ p.x +ℤ pos j *ℤ q.x;
  y = pos i *ℤ p.y +ℤ pos j *ℤ q.y;
  z = pos i *ℤ p.z +ℤ pos j *ℤ q.z;
  w = i * p.w + j * q.w;
  proper = mixed-proper i j p.w q.w si p.proper;
}

pub mixed-between : (i : ℕ) (p : SpacePoint) (j : ℕ) (q : SpacePoint) (si : 0 < i) → 0 < j → IsDirection (toward p q) → IsBetween p (mixed i p j q si) q
mixed-between i p j q si sj d = between-of p (mixed i p j q si) q d (mixed-mix i (of_point p) j (of_point q) si sj)

pub mixed-toward : (y : SpacePoint) (i : ℕ) (p : SpacePoint) (j : ℕ) (q : SpacePoint) (si : 0 < i) → toward y (mixed i p j q si) ≡ blend i (toward y p) j (toward y q)
mixed-toward y i p j q si = vector-same (toward y (mixed i p j q si)) (blend i (toward y p) j (toward y q)) (one p.x q.x y.x) (one p.y q.y y.y) (one p.z q.z y.z)
  where
    one : (a b c : ℤ) → (pos i *ℤ a +ℤ pos j *ℤ b) *ℤ pos y.w -ℤ c *ℤ pos (i * p.w + j * q.w) ≡ pos i *ℤ (a *ℤ pos y.w -ℤ c *ℤ pos p.w) +ℤ pos j *ℤ (b *ℤ pos y.w -ℤ c *ℤ pos q.w)
    one a b c = ring (pos i ∷ pos j ∷ a ∷ b ∷ c ∷ pos y.w ∷ pos p.w ∷ pos q.w ∷ [])
        ((at 0 ⊗ at 2 ⊕ at 1 ⊗ at 3) ⊗ at 5 ⊖ at 4 ⊗ (at 0 ⊗ at 6 ⊕ at 1 ⊗ at 7)) (at 0 ⊗ (at 2 ⊗ at 5 ⊖ at 4 ⊗ at 6) ⊕ at 1 ⊗ (at 3 ⊗ at 5 ⊖ at 4 ⊗ at 7)) tt

-- r lies on the sides of the carriers that y doesn't lie on, on which y lies
abbrev pub IsOff : Set → SpacePoint → SpacePoint → Type 0
IsOff s y r = (h : Form) → Lies (carriers s) h → (sign_at h y ≡ nought → ⊥) → sign_at h r ≡ sign_at h y

pub off-close : (s : Set) (y r : SpacePoint) → Within (reach_all (carriers s) y) y r → IsOff s y r
off-close s y r c h l n = keeps-all (carriers s) y r c h l n

pub off-ahead : (s : Set) (y : SpacePoint) (d : Vector) → IsOff s y (ahead s y d)
off-ahead s y d = off-close s y (ahead s y d) (ahead-close s y d)

pub off-between : (s : Set) (y p r q : SpacePoint) → IsOff s y p → IsOff s y q → IsBetween p r q → IsOff s y r
off-between s y p r q a b c h l n = same-between h p q r c (b h l n ∙ sym (a h l n)) ∙ b h l n

pub off-cell : (s : Set) (y r : SpacePoint) → IsOff s y r → SameSigns (carriers s) r (ahead s y (toward y r))
off-cell s y r a = beside-cell s y (toward y r) r (ahead s y (toward y r)) (λ h l. (a h l, λ o. sign-toward h y r o)) (beside-ahead s y (toward y r))

pub off-dim : (s : Set) (y r : SpacePoint) (k : ℕ) → IsOff s y r → FlatDim s r k → FlatDim s (ahead s y (toward y r)) k
off-dim s y r k a = dim-cell s r (ahead s y (toward y r)) k (off-cell s y r a)

pub fan : (s : Set) (k : ℕ) (y p q : SpacePoint) → IsOff s y p → IsOff s y q → IsDirection (toward p q) → ((r : SpacePoint) → IsBetween p r q → FlatDim s r k)
    → (i j : ℕ) → 0 < i → 0 < j → FlatDim s (ahead s y (blend i (toward y p) j (toward y q))) k
fan s k y p q a b d all i j si sj =
    let r = mixed i p j q si in
    let c = mixed-between i p j q si sj d in
    subst (λ (v : Vector). FlatDim s (ahead s y v) k) (mixed-toward y i p j q si) (off-dim s y r k (off-between s y p r q a b c) (all r c))
