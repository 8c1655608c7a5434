-- The signs of directions close to one on the forms that say what lies over them, as the program computes them.
use Rattle.nef_smap.proofs.Prelude.{◌≡◌, ℕ, zero, suc, ℤ, pos, negsuc, ◌<ℤ◌, arith, refl, ap, sym, ◌∙◌, inl, inr, ⊎_elim, List, [], ◌∷◌, map, slice_get, Some, ◌↔◌, subst, Bool, IsTrue, ints, ring, at, num, ◌⊕◌, ◌⊖◌, ◌⊗◌, Sign, minus, nought, plus, sign, sign-plus, sign-minus, Vector, dot, cross, triple, opposite, up, sign_of, vector_of, Minus, Zero, Plus, Close, rise_form, first_sign, geo_sign, lean_direction, then_toward, beyond_sign, close_sign, ArcPasses, dir_of, SVertex, svertex_of, triple-middle as turn-form}
use Rattle.nef_geo.specs.declared.sign.Sign.{Sign as GeoSign}
use Rattle.nef_smap.specs.declared.above.Lean.{Lean}
use Rattle.nef_smap.specs.declared.above.Lean.TheVariants.{Down, Up, Along}
use Rattle.nef_smap.proofs.Rise.{rise_form-value}
use Rattle.nef_smap.proofs.Stands.{first-last, dot-opposite}

pub geo-of : (z : ℤ) → sign_of z ≡ geo_sign (sign z)
geo-of (pos zero) = refl
geo-of (pos (suc n)) = refl
geo-of (negsuc n) = refl

-- ---- a normal
pub side-down : (n a : Vector) → pos 0 <ℤ dot n up → first_sign (sign (dot n (lean_direction Down a))) (sign (dot n (then_toward Down a))) ≡ minus
side-down n a h = let e = dot-opposite n up in ap (λ s. first_sign s (sign (dot n a))) (sign-minus (dot n (opposite up)) (omega (arith, ints)))

pub side-up : (n a : Vector) → pos 0 <ℤ dot n up → first_sign (sign (dot n (lean_direction Up a))) (sign (dot n (then_toward Up a))) ≡ plus
side-up n a h = ap (λ s. first_sign s (sign (dot n a))) (sign-plus (dot n up) h)

pub side-along : (n a : Vector) → pos 0 <ℤ dot n up → first_sign (sign (dot n (lean_direction Along a))) (sign (dot n (then_toward Along a))) ≡ first_sign (sign (dot n a)) plus
side-along n a h = ap (first_sign (sign (dot n a))) (sign-plus (dot n up) h)

-- ---- a form that is nought at up
pub level-sign : (m : Vector) (w : Close) → dot m up ≡ pos 0 → close_sign m w ≡ first_sign (sign (dot m (vector_of w.at))) (sign (dot m (vector_of w.aside)))
level-sign m w z = ap (first_sign (sign (dot m (vector_of w.at)))) (by w.lean (vector_of w.aside))
  where
    by : (l : Lean) (a : Vector) → first_sign (sign (dot m (lean_direction l a))) (sign (dot m (then_toward l a))) ≡ sign (dot m a)
    by Down a = let e = dot-opposite m up in let f : dot m (opposite up) ≡ pos 0 = omega (arith, ints) in ap (λ s. first_sign s (sign (dot m a))) (ap sign f)
    by Up a = ap (λ s. first_sign s (sign (dot m a))) (ap sign z)
    by Along a = ap (first_sign (sign (dot m a))) (ap sign z) ∙ first-last (sign (dot m a))

-- and where two planes meet over d
pub meeting-form : (u d n m : Vector) → dot (cross u d) (cross n m) ≡ dot (rise_form u n m) d
meeting-form u d n m =
    let ux = at 0 in let uy = at 1 in let uz = at 2 in let dx = at 3 in let dy = at 4 in let dz = at 5 in
    let nx = at 6 in let ny = at 7 in let nz = at 8 in let mx = at 9 in let my = at 10 in let mz = at 11 in
    ring (u.x ∷ u.y ∷ u.z ∷ d.x ∷ d.y ∷ d.z ∷ n.x ∷ n.y ∷ n.z ∷ m.x ∷ m.y ∷ m.z ∷ [])
    ((uy ⊗ dz ⊖ uz ⊗ dy) ⊗ (ny ⊗ mz ⊖ nz ⊗ my) ⊕ (uz ⊗ dx ⊖ ux ⊗ dz) ⊗ (nz ⊗ mx ⊖ nx ⊗ mz) ⊕ (ux ⊗ dy ⊖ uy ⊗ dx) ⊗ (nx ⊗ my ⊖ ny ⊗ mx))
    ((nx ⊗ ux ⊕ ny ⊗ uy ⊕ nz ⊗ uz) ⊗ (mx ⊗ dx ⊕ my ⊗ dy ⊕ mz ⊗ dz) ⊕ (num (pos 0) ⊖ (mx ⊗ ux ⊕ my ⊗ uy ⊕ mz ⊗ uz)) ⊗ (nx ⊗ dx ⊕ ny ⊗ dy ⊕ nz ⊗ dz)) tt
    ∙ sym (rise_form-value u n m d)

-- ---- signs as the program has them
pub read-dot : (r : GeoSign) (z : ℤ) → r ≡ sign_of z → r ≡ geo_sign (sign z)
read-dot r z e = e ∙ geo-of z

pub read-turn : (r : GeoSign) (d a u : Vector) → r ≡ sign_of (triple d a u) → u ≡ up → r ≡ geo_sign (sign (dot (cross up d) a))
read-turn r d a u e f = e ∙ geo-of (triple d a u) ∙ ap (λ (z : ℤ). geo_sign (sign z)) (ap (triple d a) f ∙ turn-form d a up)

pub read-meeting : (r : GeoSign) (a n m u : Vector) → r ≡ sign_of (dot (cross u a) (cross n m)) → u ≡ up → r ≡ geo_sign (sign (dot (rise_form up n m) a))
read-meeting r a n m u e f = e ∙ geo-of (dot (cross u a) (cross n m)) ∙ ap (λ (z : ℤ). geo_sign (sign z)) (ap (λ (v : Vector). dot (cross v a) (cross n m)) f ∙ meeting-form up a n m)

pub beyond-down : (n a : Vector) (l : Lean) (b : GeoSign) → pos 0 <ℤ dot n up → l ≡ Down → b ≡ Minus → b ≡ geo_sign (beyond_sign n l a)
beyond-down n a l b h e f = f ∙ sym (ap geo_sign (ap (λ (k : Lean). beyond_sign n k a) e ∙ side-down n a h))

pub beyond-up : (n a : Vector) (l : Lean) (b : GeoSign) → pos 0 <ℤ dot n up → l ≡ Up → b ≡ Plus → b ≡ geo_sign (beyond_sign n l a)
beyond-up n a l b h e f = f ∙ sym (ap geo_sign (ap (λ (k : Lean). beyond_sign n k a) e ∙ side-up n a h))

pub beyond-along : (n a : Vector) (l : Lean) (b : GeoSign) → pos 0 <ℤ dot n up → l ≡ Along → b ≡ geo_sign (first_sign (sign (dot n a)) plus) → b ≡ geo_sign (beyond_sign n l a)
beyond-along n a l b h e f = f ∙ sym (ap geo_sign (ap (λ (k : Lean). beyond_sign n k a) e ∙ side-along n a h))

pub geo-one : (s t : Sign) → geo_sign s ≡ geo_sign t → s ≡ t
geo-one minus minus e = refl
geo-one minus nought e = absurd cc
geo-one minus plus e = absurd cc
geo-one nought minus e = absurd cc
geo-one nought nought e = refl
geo-one nought plus e = absurd cc
geo-one plus minus e = absurd cc
geo-one plus nought e = absurd cc
geo-one plus plus e = refl

-- two signs, of which the first decides unless it is nought
pub first-minus : (r : GeoSign) (s t : Sign) → r ≡ geo_sign s → r ≡ Minus → Minus ≡ geo_sign (first_sign s t)
first-minus r s t e f = sym (ap (λ (x : Sign). geo_sign (first_sign x t)) (geo-one s minus (sym e ∙ f)))

pub first-plus : (r : GeoSign) (s t : Sign) → r ≡ geo_sign s → r ≡ Plus → Plus ≡ geo_sign (first_sign s t)
first-plus r s t e f = sym (ap (λ (x : Sign). geo_sign (first_sign x t)) (geo-one s plus (sym e ∙ f)))

pub first-nought : (r q : GeoSign) (s t : Sign) → r ≡ geo_sign s → r ≡ Zero → q ≡ geo_sign t → q ≡ geo_sign (first_sign s t)
first-nought r q s t e f h = h ∙ sym (ap (λ (x : Sign). geo_sign (first_sign x t)) (geo-one s nought (sym e ∙ f)))

pub passes-alike : (s : Sign) (A A' B B' C C' : Type 0) → (A ↔ A') → (B ↔ B') → (C ↔ C') → ArcPasses s A B C ↔ ArcPasses s A' B' C'
passes-alike plus A A' B B' C C' a b c = (λ p. (a.0 p.0, b.0 p.1), λ p. (a.1 p.0, b.1 p.1))
passes-alike minus A A' B B' C C' a b c = (λ p. ⊎_elim (λ x. inl (a.0 x)) (λ x. inr (b.0 x)) p, λ p. ⊎_elim (λ x. inl (a.1 x)) (λ x. inr (b.1 x)) p)
passes-alike nought A A' B B' C C' a b c = (λ p. ⊎_elim (λ x. inl (c.0 x)) (λ x. inr (a.0 x)) p, λ p. ⊎_elim (λ x. inl (c.1 x)) (λ x. inr (a.1 x)) p)

-- where both tests agree and the ends are not the same, the turn isn't asked
pub passes-agreed : (s : Sign) (p q : Bool) (A B E : Type 0) → p ≡ q → (IsTrue p ↔ A) → (IsTrue q ↔ B) → (E → ⊥) → IsTrue p ↔ ArcPasses s A B E
passes-agreed s p q A B E e a b off = by s
  where
    both : IsTrue p → B
    both h = b.0 (subst (λ (r : Bool). IsTrue r) e h)

    either : B → IsTrue p
    either h = subst (λ (r : Bool). IsTrue r) (sym e) (b.1 h)

    by : (s : Sign) → IsTrue p ↔ ArcPasses s A B E
    by plus = (λ h. (a.0 h, both h), λ r. a.1 r.0)
    by minus = (λ h. inl (a.0 h), λ r. ⊎_elim a.1 either r)
    by nought = (λ h. inr (a.0 h), λ r. ⊎_elim (λ z. absurd (off z)) a.1 r)

-- a test of a sign
pub sign-test : (T : Type 0) (r : GeoSign) (s t : Sign) → (T ↔ (r ≡ geo_sign t)) → r ≡ geo_sign s → T ↔ (s ≡ t)
sign-test T r s t d e = (λ h. geo-one s t (sym e ∙ d.0 h), λ h. d.1 (e ∙ ap geo_sign h))

pub dir-from_get : (vs : List SVertex) (k : ℕ) (v : SVertex) → slice_get vs k ≡ Some v → dir_of (map svertex_of vs) k ≡ vector_of v.dir
dir-from_get [] k v e = cc
dir-from_get (w ∷ vs) zero v e = let f : w ≡ v = cc in ap (λ (r : SVertex). vector_of r.dir) f
dir-from_get (w ∷ vs) (suc k) v e = dir-from_get vs k v e
