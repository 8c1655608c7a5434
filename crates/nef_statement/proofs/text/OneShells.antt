-- The numbers of sfaces and the shells are the only ones.
use Rattle.nef_statement.proofs.text.Prelude.{◌≡◌, ℕ, ◌<◌, pos, inl, inr, ⊎_elim, List, arith, refl, sym, ◌∙◌, ap, subst, ints, IsAt, Map, same-lists, is-at_one, SeeOneWay, AreSfaces, is-at_within, is-at_some, Complex, VertexSide, IsSideNumber, IsSideNamed, IsNameBelow, IsSideListed, IsShell, IsShellBelow, Shells}
use Rattle.nef_complex.specs.declared.parts.Side.{Side}
use Rattle.nef_statement.proofs.text.Numbering.{IsEarlier, numbers-one}
use Rattle.nef_statement.proofs.text.Rows.{list-one}

-- ---- sfaces
-- a number's place in a table of one row
abbrev SidePlace : ℕ → ℕ → ℕ → Type 0
SidePlace s i k = (i ≡ 0) × (s ≡ k)

side-before : (s t : ℕ) (i k : ℕ) → t < s → SidePlace s i k → (j : ℕ) × (l : ℕ) × SidePlace t j l × IsEarlier j l i k
side-before s t i k l (e, f) = (0, t, (refl, refl), inr (ap pos (sym e), inl (omega (arith, ints, l, f))))

pub sfaces-one : (M : Map) (ms ns : List ℕ) → AreSfaces M ms → AreSfaces M ns → ms ≡ ns
sfaces-one M ms ns F G = list-one ms ns (F.as_many ∙ sym G.as_many)
    (λ k m n a b. numbers-one (SeeOneWay M) (λ s t. s < t) 0 (λ s n. IsAt ms s n) (λ s n. IsAt ns s n) SidePlace side-before F.numbered G.numbered
    (λ s n h. is-at_some ns s (let w = is-at_within ms s n h in let e = F.as_many in let f = G.as_many in omega (arith, w, e, f)))
    (λ s n h. is-at_some ms s (let w = is-at_within ns s n h in let e = F.as_many in let f = G.as_many in omega (arith, w, e, f)))
    (λ s m n f g h. ⊎_elim (λ r. absurd (omega (arith, r))) (λ r. absurd (omega (arith, r))) h) 0 k k m n (refl, refl) a b)

-- ---- shells
below-apart : (s t : Side) → IsNameBelow s t → IsNameBelow t s → ⊥
below-apart s t (inl h) (inl g) = omega (arith, ints, h, g)
below-apart s t (inl h) (inr g) = let q = g.0 in omega (arith, ints, h, q)
below-apart s t (inr h) (inl g) = let q = h.0 in omega (arith, ints, g, q)
below-apart s t (inr (p, inl h)) (inr (q, inl g)) = omega (arith, ints, h, g)
below-apart s t (inr (p, inl h)) (inr (q, inr g)) = absurd (g.1)
below-apart s t (inr (p, inr h)) g = absurd (h.1)

same-name : (s t : Side) → s.vertex ≡ t.vertex → s.side ≡ t.side → s ≡ t
same-name s t e f = ap (λ (i : ℕ). record { vertex = i; side = s.side }) e ∙ ap (λ (k : ℕ). record { vertex = t.vertex; side = k }) f

module _ (C : Complex) (number-one : (x : VertexSide) (i k : ℕ) → IsSideNumber C x i → IsSideNumber C x k → i ≡ k) where
  name-one : (s t : Side) (x : VertexSide) → IsSideNamed C s x → IsSideNamed C t x → s ≡ t
  name-one s t x (e, m) (f, n) = same-name s t (sym e ∙ f) (number-one x s.side t.side m n)

  -- what is listed in a shell is listed in each shell with a common side
  listed-too : (g h : List Side) → IsShell C g → IsShell C h → (s : Side) → IsSideListed g s → IsSideListed h s → (k : ℕ) (t : Side) → IsAt g k t → IsSideListed h t
  listed-too g h G H s a b k t c =
      let x = G.sides s a in
      let y = G.sides t (k, c) in
      (H.class s t (x.0) (y.0) b (x.1) (y.1)).1 ((G.class s t (x.0) (y.0) a (x.1) (y.1)).0 (k, c))

  shell-one : (g h : List Side) → IsShell C g → IsShell C h → (s : Side) → IsSideListed g s → IsSideListed h s → g ≡ h
  shell-one g h G H s a b = same-lists IsNameBelow below-apart g h G.ordered H.ordered (listed-too g h G H s a b) (listed-too h g H G s b a)

  shell-below_apart : (g h : List Side) → IsShellBelow g h → IsShellBelow h g → ⊥
  shell-below_apart g h (s, t, a, b, l) (u, v, c, d, m) =
      below-apart s t l (subst (λ (w : Side). IsNameBelow w s) (is-at_one h 0 u t c b) (subst (λ (w : Side). IsNameBelow u w) (is-at_one g 0 v s d a) m))

  found : (P : VertexSide → Type 0) (xs ys : List (List Side)) → Shells C P xs → Shells C P ys → (k : ℕ) (h : List Side) → IsAt xs k h → (i : ℕ) × IsAt ys i h
  found P xs ys X Y k h a =
      let H = X.shells k h a in
      let s = H.some in
      let l : IsSideListed h (s.0) = (0, s.1) in
      let x = H.sides (s.0) l in
      let (i, g, t, b, m, n) = Y.complete (x.0) (X.within k h (s.0) (x.0) a l (x.1)) in
      let e = name-one t (s.0) (x.0) n (x.1) in
      (i, subst (λ (r : List Side). IsAt ys i r) (shell-one g h (Y.shells i g b) H (s.0) (subst (IsSideListed g) e m) l) b)

  pub shells-one : (P : VertexSide → Type 0) (xs ys : List (List Side)) → Shells C P xs → Shells C P ys → xs ≡ ys
  shells-one P xs ys X Y = same-lists IsShellBelow shell-below_apart xs ys X.ordered Y.ordered (found P xs ys X Y) (found P ys xs Y X)
