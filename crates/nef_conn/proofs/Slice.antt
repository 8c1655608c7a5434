-- The labels and germs of a set with the points of a plane exchanged: off the plane they are those of the set, in it they are the others.
use Rattle.nef_conn.proofs.Prelude.{◌≡◌, pos, ◌+ℤ◌, ◌*ℤ◌, arith, refl, ap, sym, ◌∙◌, ⊎_elim, ◌∷◌, subst, [], ints, Sign, sign, ring, at, num, ◌⊕◌, ◌⊗◌, by_order, sign-plus, sign-minus, nought-or, HasLabel, Germ, FlatDim, SpacePoint, Form, form_at, normal_of, slope, Ratio, step, InFrame, Set, Vector, IsDirection, Label, Out, Not, In, label_not, SameGerms, flat-germ, germ_of, Germ-unique, sign-along, same-nought, form-step, by_side, IsFlatIn, IsSided, sided-dim, sided-flats, plane_set, sliced}
use Rattle.nef_space.specs.Sets.{Holds}
use Rattle.law_geometry.proofs.near.Combine.{one_of-label}
use Rattle.nef_conn.proofs.FirstMet.{all-flat}
use Rattle.nef_space.proofs.Vectors.{opposite-at}

-- ---- labels
plane-in : (h : Form) (q : SpacePoint) → InFrame q → form_at h q ≡ pos 0 → HasLabel (plane_set h) q In
unfolding Holds
plane-in h q i z = let e = opposite-at h q in (i, (omega (arith, ints), omega (arith, ints)))

plane-not : (h : Form) (q : SpacePoint) → InFrame q → (form_at h q ≡ pos 0 → ⊥) → HasLabel (plane_set h) q Not
unfolding Holds
plane-not h q i n = (i, λ x. let e = opposite-at h q in let a = x.0 in let b = x.1 in n (omega (arith, ints)))

module _ (s : Set) (h : Form) where
  pub label-on : (q : SpacePoint) (l : Label) → form_at h q ≡ pos 0 → HasLabel s q l → HasLabel (sliced s h) q (label_not l)
  label-on q Out z g = g
  label-on q Not z g = one_of-label s (plane_set h) q Not In g (plane-in h q g.0 z)
  label-on q In z g = one_of-label s (plane_set h) q In In g (plane-in h q g.0 z)

  pub label-off : (q : SpacePoint) (l : Label) → (form_at h q ≡ pos 0 → ⊥) → HasLabel s q l → HasLabel (sliced s h) q l
  label-off q Out z g = g
  label-off q Not z g = one_of-label s (plane_set h) q Not Not g (plane-not h q g.0 z)
  label-off q In z g = one_of-label s (plane_set h) q In Not g (plane-not h q g.0 z)

  -- ---- germs at points of the plane
  module _ (p : SpacePoint) (on : form_at h p ≡ pos 0) where
    pub germ-on : (d : Vector) (l : Label) → slope h d ≡ pos 0 → Germ s p d l → Germ (sliced s h) p d (label_not l)
    germ-on d l z (n, some, g) = (n, some, λ t i. label-on (step p t d) l (level t) (g t i))
      where
        level : (t : Ratio) → form_at h (step p t d) ≡ pos 0
        level t =
            form-step h p t d ∙ ap (λ x. pos t.b *ℤ x +ℤ t.a *ℤ pos p.w *ℤ slope h d) on ∙ ap (λ x. pos t.b *ℤ pos 0 +ℤ t.a *ℤ pos p.w *ℤ x) z
            ∙ ring (pos t.b ∷ t.a ∷ pos p.w ∷ []) (at 0 ⊗ num (pos 0) ⊕ at 1 ⊗ at 2 ⊗ num (pos 0)) (num (pos 0)) tt

    pub germ-off : (d : Vector) (l : Label) → (slope h d ≡ pos 0 → ⊥) → Germ s p d l → Germ (sliced s h) p d l
    germ-off d l z (n, some, g) = (
      n,
      some,
      λ t i. label-off (step p t d) l (λ e. z (same-nought (form_at h (step p t d)) (slope h d) (sym (sign-along h p t d (ap sign on) i.0)) e)) (g t i),
    )

    -- where all germs are l, the plane parts those of the sliced set
    pub sliced-sided : (l : Label) → ((e : Vector) → Germ s p e l) → IsSided (sliced s h) p (normal_of h) l (label_not l) l
    sliced-sided l all e = by_order (slope h e) (pos 0)
        (λ m. subst (λ (t : Sign). Germ (sliced s h) p e (by_side l (label_not l) l t)) (sym (sign-minus (slope h e) m)) (germ-off e l (λ z. omega (arith, ints)) (all e)))
        (λ z. subst (λ (t : Sign). Germ (sliced s h) p e (by_side l (label_not l) l t)) (sym (ap sign z)) (germ-on e l z (all e)))
        (λ m. subst (λ (t : Sign). Germ (sliced s h) p e (by_side l (label_not l) l t)) (sym (sign-plus (slope h e) m)) (germ-off e l (λ z. omega (arith, ints)) (all e)))

not-own : (l : Label) → (l ≡ Out → ⊥) → l ≡ label_not l → ⊥
not-own Out n e = n refl
not-own Not n e = cc
not-own In n e = cc

not-one : (l m : Label) → label_not l ≡ label_not m → l ≡ m
not-one Out Out e = refl
not-one Out Not e = cc
not-one Out In e = cc
not-one Not Out e = cc
not-one Not Not e = refl
not-one Not In e = cc
not-one In Out e = cc
not-one In Not e = cc
not-one In In e = refl

module _ (s : Set) (h : Form) (some : IsDirection (normal_of h)) where
  -- a point of the plane with three flat directions has the plane's for the sliced set
  pub free-slice : (p : SpacePoint) (l : Label) → form_at h p ≡ pos 0 → FlatDim s p 3 → HasLabel s p l → (l ≡ Out → ⊥) → IsFlatIn (sliced s h) h p
  free-slice p l on f g n =
      let all = sliced-sided s h p on l (λ e. flat-germ s p e l (all-flat s p f e) g) in
      let differ = λ (a : l ≡ label_not l) (b : l ≡ label_not l). not-own l n a in
      (sided-dim (sliced s h) p (normal_of h) l (label_not l) l all some differ, sided-flats (sliced s h) p (normal_of h) l (label_not l) l all some differ)

-- points of the plane with the same germs for the sliced set have the same for the set
module _ (s : Set) (h : Form) (p q : SpacePoint) (on-p : form_at h p ≡ pos 0) (on-q : form_at h q ≡ pos 0) where
  there : SameGerms (sliced s h) p q → (v : Vector) (l : Label) → Germ s p v l → Germ s q v l
  there same v l g = let m = germ_of s q v in subst (Germ s q v) (⊎_elim (λ z. level z m.0 m.1) (λ n. apart n m.0 m.1) (nought-or (slope h v))) m.1
    where
      level : slope h v ≡ pos 0 → (m : Label) → Germ s q v m → m ≡ l
      level z m k = not-one m l (Germ-unique (sliced s h) q v (label_not m) (label_not l) (germ-on s h q on-q v m z k) ((same v (label_not l)).0 (germ-on s h p on-p v l z g)))

      apart : (slope h v ≡ pos 0 → ⊥) → (m : Label) → Germ s q v m → m ≡ l
      apart n m k = Germ-unique (sliced s h) q v m l (germ-off s h q on-q v m n k) ((same v l).0 (germ-off s h p on-p v l n g))

pub unsliced : (s : Set) (h : Form) (p q : SpacePoint) → form_at h p ≡ pos 0 → form_at h q ≡ pos 0 → SameGerms (sliced s h) p q → SameGerms s p q
unsliced s h p q on-p on-q same v l = (there s h p q on-p on-q same v l, there s h q p on-q on-p (λ d m. let g = same d m in (g.1, g.0)) v l)
