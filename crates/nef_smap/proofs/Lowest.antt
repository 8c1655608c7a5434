-- The lowest of what lies over a direction.
use Rattle.nef_smap.proofs.Prelude.{◌≡◌, ℕ, zero, suc, ℤ, pos, ◌+ℤ◌, ◌-ℤ◌, ◌*ℤ◌, ◌≤ℤ◌, ◌<ℤ◌, arith, refl, sym, ◌∙◌, ◌⊎◌, inl, inr, ⊎_elim, List, [], ◌∷◌, subst, Option, Some, None, ints, ring, at, num, ◌⊕◌, ◌⊖◌, ◌⊗◌, follows, given, none, by_order, nought-or, fraction-le-trans, Vector, cross, dot, Decided, IsAt, Map, Item, items, item_normal, OnItem, positive-or, negative-or, OnItem-decided, rise, IsOver, IsFirst, is-at_none, is-at_first}
use Rattle.nef_smap.proofs.Rise.{rise-is, rise_form-value}

-- ---- the least of a list of fractions
module _ {A : Type 0} (num den : A → ℤ) where
  pub record LeastElement (xs : List A) (P : ℕ → A → Type 0) : Type 0 where
    pub number : ℕ
    pub element : A
    pub listed : IsAt xs number element
    pub holds : P number element
    pub least : (l : ℕ) (y : A) → IsAt xs l y → P l y → (num element *ℤ den y) ≤ℤ (num y *ℤ den element)

  abbrev pub NoneOf : List A → (ℕ → A → Type 0) → Type 0
  NoneOf xs P = (k : ℕ) (x : A) → IsAt xs k x → P k x → ⊥

  pub least_or : (xs : List A) (P : ℕ → A → Type 0) → ((k : ℕ) (x : A) → Decided (P k x)) → ((k : ℕ) (x : A) → IsAt xs k x → P k x → pos 0 <ℤ den x) → LeastElement xs P ⊎ NoneOf xs P
  least_or [] P D h = inr (λ k x a p. is-at_none a)
  least_or (x ∷ xs) P D h = by (D zero x) (least_or xs (λ k y. P (suc k) y) (λ k y. D (suc k) y) (λ k y a p. h (suc k) y a p))
    where
      self : (P zero x) → (l : ℕ) (y : A) → IsAt (x ∷ xs) l y → P l y → ((l : ℕ) (y : A) → IsAt xs l y → P (suc l) y → (num x *ℤ den y) ≤ℤ (num y *ℤ den x)) → (num x *ℤ den y) ≤ℤ (num y *ℤ den x)
      self p zero y e q f = subst (λ (z : A). (num x *ℤ den z) ≤ℤ (num z *ℤ den x)) (is-at_first e) (omega (arith, ints))
      self p (suc l) y a q f = f l y a q

      rest : (r : LeastElement xs (λ k y. P (suc k) y)) → (P zero x → (num r.element *ℤ den x) ≤ℤ (num x *ℤ den r.element)) → LeastElement (x ∷ xs) P
      rest r f = record { number = suc r.number; element = r.element; listed = r.listed; holds = r.holds; least = λ l y a q. later l y a q }
        where
          later : (l : ℕ) (y : A) → IsAt (x ∷ xs) l y → P l y → (num r.element *ℤ den y) ≤ℤ (num y *ℤ den r.element)
          later zero y e q = subst (λ (z : A). (num r.element *ℤ den z) ≤ℤ (num z *ℤ den r.element)) (is-at_first e) (f (subst (λ (z : A). P zero z) (sym (is-at_first e)) q))
          later (suc l) y a q = r.least l y a q

      by : Decided (P zero x) → LeastElement xs (λ k y. P (suc k) y) ⊎ NoneOf xs (λ k y. P (suc k) y) → LeastElement (x ∷ xs) P ⊎ NoneOf (x ∷ xs) P
      by (inr n) (inl r) = inl (rest r (λ p. absurd (n p)))
      by (inr n) (inr m) = inr (λ k. none k)
        where
          none : (k : ℕ) (y : A) → IsAt (x ∷ xs) k y → P k y → ⊥
          none zero y e p = n (subst (λ (z : A). P zero z) (sym (is-at_first e)) p)
          none (suc k) y a p = m k y a p
      by (inl p) (inr m) = inl (record { number = zero; element = x; listed = refl; holds = p; least = λ l y a q. self p l y a q (λ k z b w. absurd (m k z b w)) })
      by (inl p) (inl r) = ⊎_elim
          (λ le. inl (record {
            number = zero;
            element = x;
            listed = refl;
            holds = p;
            least = λ l y a q. self p l y a q
                (λ k z b w. fraction-le-trans (num x) (den x) (num r.element) (den r.element) (num z) (den z) (h zero x refl p) (h (suc r.number) r.element r.listed r.holds) (h (suc k) z b w) le (r.least k z b w));
          }))
          (λ ge. inl (rest r (λ q. ge)))
          (order (num x *ℤ den r.element) (num r.element *ℤ den x))
        where
          order : (a b : ℤ) → (a ≤ℤ b) ⊎ (b ≤ℤ a)
          order a b = by_order a b (λ l. inl (omega (arith, ints))) (λ e. inl (omega (arith, ints))) (λ l. inr (omega (arith, ints)))

-- ---- the first item
pub over-decided : (M : Map) (u : Vector) (x : Item) (d : Vector) → Decided (IsOver M u x d)
over-decided M u x d = by (negative-or (dot (item_normal x) d)) (OnItem-decided M x (rise u (item_normal x) d))
  where
    by : Decided (dot (item_normal x) d <ℤ pos 0) → Decided (OnItem M x (rise u (item_normal x) d)) → Decided (IsOver M u x d)
    by (inl p) (inl o) = inl (record { below = p; on = o })
    by (inl p) (inr n) = inr (λ o. n o.on)
    by (inr n) o = inr (λ o. n o.below)

module _ (M : Map) (u : Vector) (ahead : (k : ℕ) (x : Item) → IsAt (items M) k x → pos 0 <ℤ dot (item_normal x) u) where
  abbrev rise_height : Vector → Item → ℤ
  rise_height d x = pos 0 -ℤ dot (item_normal x) d

  abbrev rise_speed : Item → ℤ
  rise_speed x = dot (item_normal x) u

  pub first-exists : (d : Vector) → (r : Option ℕ) × IsFirst M u d r
  first-exists d = by (least_or (rise_height d) rise_speed (items M) (λ k x. IsOver M u x d) (λ k x. over-decided M u x d) (λ k x a p. ahead k x a))
    where
      by : LeastElement (rise_height d) rise_speed (items M) (λ k x. IsOver M u x d) ⊎ NoneOf (rise_height d) rise_speed (items M) (λ k x. IsOver M u x d) → (r : Option ℕ) × IsFirst M u d r
      by (inr n) = (None, n)
      by (inl r) = (Some r.number, record { item = r.element; listed = r.listed; over = r.holds; first = λ l y a o. first-by r.element y (r.least l y a o) })
        where
          first-by : (x y : Item) → (rise_height d x *ℤ rise_speed y) ≤ℤ (rise_height d y *ℤ rise_speed x) → pos 0 ≤ℤ dot (item_normal x) (rise u (item_normal y) d)
          first-by x y h =
              let e = rise-is u (item_normal y) (item_normal x) d ∙ rise_form-value u (item_normal y) (item_normal x) d in
              let f = ring (dot (item_normal x) d ∷ dot (item_normal x) u ∷ dot (item_normal y) d ∷ dot (item_normal y) u ∷ [])
              ((num (pos 0) ⊖ at 2) ⊗ at 1 ⊖ (num (pos 0) ⊖ at 0) ⊗ at 3) (at 3 ⊗ at 0 ⊕ (num (pos 0) ⊖ at 1) ⊗ at 2) tt in
              omega (arith, ints)

-- ---- the svertices over a direction
-- v lies on the way from d to u: some multiple of it is i d + j u, for the positive numbers i and j
abbrev pub share_d : Vector → Vector → Vector → ℤ
share_d u d v = dot (cross u v) (cross u d)

abbrev pub share_u : Vector → Vector → Vector → ℤ
share_u u d v = dot (cross v d) (cross u d)

pub record LiesOver (u d v : Vector) : Type 0 where
  pub level : dot (cross u d) v ≡ pos 0
  pub of_d : pos 0 <ℤ share_d u d v
  pub of_u : pos 0 <ℤ share_u u d v

-- the forms at v
pub over-value : (u d v g : Vector) → dot (cross u d) v ≡ pos 0 → dot (cross u d) (cross u d) *ℤ dot g v ≡ share_d u d v *ℤ dot g d +ℤ share_u u d v *ℤ dot g u
over-value u d v g z =
    let ux = at 0 in let uy = at 1 in let uz = at 2 in
    let dx = at 3 in let dy = at 4 in let dz = at 5 in
    let vx = at 6 in let vy = at 7 in let vz = at 8 in
    let gx = at 9 in let gy = at 10 in let gz = at 11 in
    let lx = uy ⊗ dz ⊖ uz ⊗ dy in
    let ly = uz ⊗ dx ⊖ ux ⊗ dz in
    let lz = ux ⊗ dy ⊖ uy ⊗ dx in
    -- (l.l) v = (l.v) l + ..
    follows (u.x ∷ u.y ∷ u.z ∷ d.x ∷ d.y ∷ d.z ∷ v.x ∷ v.y ∷ v.z ∷ g.x ∷ g.y ∷ g.z ∷ [])
    ((lx ⊗ lx ⊕ ly ⊗ ly ⊕ lz ⊗ lz) ⊗ (gx ⊗ vx ⊕ gy ⊗ vy ⊕ gz ⊗ vz))
    (((uy ⊗ vz ⊖ uz ⊗ vy) ⊗ lx ⊕ (uz ⊗ vx ⊖ ux ⊗ vz) ⊗ ly ⊕ (ux ⊗ vy ⊖ uy ⊗ vx) ⊗ lz) ⊗ (gx ⊗ dx ⊕ gy ⊗ dy ⊕ gz ⊗ dz)
    ⊕ ((vy ⊗ dz ⊖ vz ⊗ dy) ⊗ lx ⊕ (vz ⊗ dx ⊖ vx ⊗ dz) ⊗ ly ⊕ (vx ⊗ dy ⊖ vy ⊗ dx) ⊗ lz) ⊗ (gx ⊗ ux ⊕ gy ⊗ uy ⊕ gz ⊗ uz))
    (given (gx ⊗ lx ⊕ gy ⊗ ly ⊕ gz ⊗ lz) (lx ⊗ vx ⊕ ly ⊗ vy ⊕ lz ⊗ vz) (num (pos 0)) z none) tt

pub lies_over-decided : (u d v : Vector) → Decided (LiesOver u d v)
lies_over-decided u d v = by (nought-or (dot (cross u d) v)) (positive-or (share_d u d v)) (positive-or (share_u u d v))
  where
    by : Decided (dot (cross u d) v ≡ pos 0) → Decided (pos 0 <ℤ share_d u d v) → Decided (pos 0 <ℤ share_u u d v) → Decided (LiesOver u d v)
    by (inl a) (inl b) (inl c) = inl (record { level = a; of_d = b; of_u = c })
    by (inr n) b c = inr (λ o. n o.level)
    by (inl a) (inr n) c = inr (λ o. n o.of_d)
    by (inl a) (inl b) (inr n) = inr (λ o. n o.of_u)
