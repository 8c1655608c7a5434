-- The germ of a combination is the combination of the germs, so it is flat where both operands are.
use Rattle.law_geometry.proofs.near.Prelude.{ℕ, ◌+◌, ◌≤◌, pos, ◌*ℤ◌, ◌<ℤ◌, arith, inl, inr, ⊎_elim, subst, ints, mul_le_right, LabelsCombine, slide, NearGerm, FlatCone, label_and, label_or, label_not, label_less, label_one_of, SpacePoint, Ratio, step, Vector, blend, Set, IsShort, HasLabel, Germ, Label, Out, Not, In}
use Rattle.nef_space.specs.Sets.{Holds}
use Rattle.law_geometry.proofs.near.Germs.{Germ-unique}
use Rattle.law_geometry.proofs.near.Decided.{germ_of}

pub and-label : (a b : Set) (p : SpacePoint) (m k : Label) → HasLabel a p m → HasLabel b p k → HasLabel (Set.both a b) p (label_and m k)
unfolding Holds
and-label a b p Out k h i = h
and-label a b p Not Out h i = i
and-label a b p Not Not h i = (h.0, λ x. h.1 x.0)
and-label a b p Not In h i = (h.0, λ x. h.1 x.0)
and-label a b p In Out h i = i
and-label a b p In Not h i = (h.0, λ x. i.1 x.1)
and-label a b p In In h i = (h.0, (h.1, i.1))

pub or-label : (a b : Set) (p : SpacePoint) (m k : Label) → HasLabel a p m → HasLabel b p k → HasLabel (Set.either a b) p (label_or m k)
unfolding Holds
or-label a b p Out k h i = h
or-label a b p In Out h i = i
or-label a b p In Not h i = (h.0, inl h.1)
or-label a b p In In h i = (h.0, inl h.1)
or-label a b p Not Out h i = i
or-label a b p Not Not h i = (h.0, ⊎_elim h.1 i.1)
or-label a b p Not In h i = (h.0, inr i.1)

pub not-label : (a : Set) (p : SpacePoint) (m : Label) → HasLabel a p m → HasLabel (Set.other a) p (label_not m)
unfolding Holds
not-label a p Out h = h
not-label a p Not h = h
not-label a p In h = (h.0, λ n. n h.1)

pub less-label : (a b : Set) (p : SpacePoint) (m k : Label) → HasLabel a p m → HasLabel b p k → HasLabel (Set.less a b) p (label_less m k)
unfolding Holds
less-label a b p Out k h i = h
less-label a b p Not Out h i = i
less-label a b p Not Not h i = (h.0, λ x. h.1 x.0)
less-label a b p Not In h i = (h.0, λ x. h.1 x.0)
less-label a b p In Out h i = i
less-label a b p In Not h i = (h.0, (h.1, i.1))
less-label a b p In In h i = (h.0, λ x. x.1 i.1)

pub one_of-label : (a b : Set) (p : SpacePoint) (m k : Label) → HasLabel a p m → HasLabel b p k → HasLabel (Set.one_of a b) p (label_one_of m k)
unfolding Holds
one_of-label a b p Out k h i = h
one_of-label a b p Not Out h i = i
one_of-label a b p Not Not h i = (h.0, ⊎_elim (λ x. h.1 x.0) (λ x. i.1 x.1))
one_of-label a b p Not In h i = (h.0, inr (h.1, i.1))
one_of-label a b p In Out h i = i
one_of-label a b p In Not h i = (h.0, inl (h.1, i.1))
one_of-label a b p In In h i = (h.0, ⊎_elim (λ x. x.1 i.1) (λ x. x.0 h.1))

pub shorter : (m n : ℕ) (t : Ratio) → m ≤ n → IsShort n t → IsShort m t
shorter m n t l h =
    let a : pos 0 <ℤ t.a = h.0 in
    let b : (pos n *ℤ t.a) <ℤ pos t.b = h.1 in
    let c = mul_le_right (pos m) (pos n) t.a (omega (arith, ints)) (omega (arith, ints)) in
    (a, omega (arith, ints))

-- a node whose label is a function of the labels of its operands
abbrev pub ByLabels : (Set → Set → Set) → (Label → Label → Label) → Type 0
ByLabels node op = (a b : Set) (p : SpacePoint) (m k : Label) → HasLabel a p m → HasLabel b p k → HasLabel (node a b) p (op m k)

module _ (node : Set → Set → Set) (op : Label → Label → Label) (by : ByLabels node op) where
  pub germ-by : (a b : Set) (p : SpacePoint) (d : Vector) (m k : Label) → Germ a p d m → Germ b p d k → Germ (node a b) p d (op m k)
  germ-by a b p d m k (n, some, f) (n', some', g) = (
    n + n',
    omega arith,
    λ t h.
        by a b (step p t d) m k (f t (shorter n (n + n') t (omega arith) h)) (g t (shorter n' (n + n') t (omega arith) h)),
  )

  pub flat-by : (a b : Set) (p : SpacePoint) (d : Vector) → FlatCone a p d → FlatCone b p d → FlatCone (node a b) p d
  flat-by a b p d f g e c k some m =
      let i = germ_of a p e in
      let j = germ_of b p e in
      let here = germ-by a b p e i.0 j.0 i.1 j.1 in
      let there = germ-by a b p (slide c e k d) i.0 j.0 ((f e c k some i.0).0 i.1) ((g e c k some j.0).0 j.1) in (
        λ h. subst (Germ (node a b) p (slide c e k d)) (Germ-unique (node a b) p e (op i.0 j.0) m here h) there,
        λ h. subst (Germ (node a b) p e) (Germ-unique (node a b) p (slide c e k d) (op i.0 j.0) m there h) here,
      )

-- ---- the labels, germs and near germs of a combination
pub germ-not : (a : Set) (p : SpacePoint) (d : Vector) (m : Label) → Germ a p d m → Germ (Set.other a) p d (label_not m)
germ-not a p d m (n, some, f) = (n, some, λ t h. not-label a (step p t d) m (f t h))

pub germ-combines : (a b : Set) (p : SpacePoint) (d : Vector) (l m : Label) → Germ a p d l → Germ b p d m → LabelsCombine a b l m (λ s. Germ s p d)
germ-combines a b p d l m g h = record {
  both = germ-by Set.both label_and and-label a b p d l m g h;
  either = germ-by Set.either label_or or-label a b p d l m g h;
  less = germ-by Set.less label_less less-label a b p d l m g h;
  one_of = germ-by Set.one_of label_one_of one_of-label a b p d l m g h;
  other = germ-not a p d l g;
}

pub near_germ-combines : (a b : Set) (p : SpacePoint) (d e : Vector) (l m : Label) → NearGerm a p d e l → NearGerm b p d e m → LabelsCombine a b l m (λ s. NearGerm s p d e)
near_germ-combines a b p d e l m (n, f) (n', g) = record {
  both = (n + n', λ k h. (germ-combines a b p (blend k d 1 e) l m (f k (omega arith)) (g k (omega arith))).both);
  either = (n + n', λ k h. (germ-combines a b p (blend k d 1 e) l m (f k (omega arith)) (g k (omega arith))).either);
  less = (n + n', λ k h. (germ-combines a b p (blend k d 1 e) l m (f k (omega arith)) (g k (omega arith))).less);
  one_of = (n + n', λ k h. (germ-combines a b p (blend k d 1 e) l m (f k (omega arith)) (g k (omega arith))).one_of);
  other = (n, λ k h. germ-not a p (blend k d 1 e) l (f k h));
}
