-- A direction that is flat for the operands is flat for what is made of them.
use Rattle.law_geometry.proofs.near.Prelude.{◌≡◌, ℕ, ◌*◌, ◌<◌, ◌≤◌, ℤ, pos, ◌+ℤ◌, ◌*ℤ◌, arith, inl, inr, ⊎_elim, ◌↔◌, ◌∷◌, subst, [], le-mul_of_pos_right, ring, at, num, ◌⊕◌, ◌⊗◌, SpacePoint, Vector, blend, Set, Germ, Flat, Label, Out, Not, In, slide, combination, NearGerm, FlatCone, label_not, vector-same}
use Rattle.law_geometry.proofs.near.Germs.{Germ-unique}
use Rattle.law_geometry.proofs.near.Flats.{Flat-from_cone, FlatCone-from_flat, FlatCone-add, FlatCone-scale, scaled}
use Rattle.law_geometry.proofs.near.Decided.{germ_of}
use Rattle.law_geometry.proofs.near.Combine.{not-label, ByLabels, flat-by}
use Rattle.law_geometry.proofs.near.Decisions.{near-germ_of, near-germ_one}
use Rattle.law_geometry.proofs.near.Topology.{SomewhereNear, inside-toward, closed-toward, border-toward, regular-toward}

-- ---- the germs near a direction don't change along a flat one
near-onward : (a : Set) (p : SpacePoint) (d : Vector) → FlatCone a p d → (v e : Vector) (b : ℕ) (s : ℤ) → 0 < b → (l : Label) → NearGerm a p v e l → NearGerm a p (slide b v s d) e l
near-onward a p d f v e b s some l (n, g) = (
  n,
  λ k h.
      let large : n ≤ k * b = (let m = le-mul_of_pos_right k some in omega arith) in
      let i = (f (blend (k * b) v 1 e) 1 (pos k *ℤ s) (omega arith) l).0 (g (k * b) large) in
      subst (λ (u : Vector). Germ a p u l) (same k) i,
)
  where
    one : (k : ℕ) (x y z : ℤ) → pos 1 *ℤ (pos (k * b) *ℤ x +ℤ pos 1 *ℤ y) +ℤ pos k *ℤ s *ℤ z ≡ pos k *ℤ (pos b *ℤ x +ℤ s *ℤ z) +ℤ pos 1 *ℤ y
    one k x y z = ring (pos k ∷ pos b ∷ s ∷ x ∷ y ∷ z ∷ []) (num (pos 1) ⊗ (at 0 ⊗ at 1 ⊗ at 3 ⊕ num (pos 1) ⊗ at 4) ⊕ at 0 ⊗ at 2 ⊗ at 5) (at 0 ⊗ (at 1 ⊗ at 3 ⊕ at 2 ⊗ at 5) ⊕ num (pos 1) ⊗ at 4) tt

    same : (k : ℕ) → slide 1 (blend (k * b) v 1 e) (pos k *ℤ s) d ≡ blend k (slide b v s d) 1 e
    same k = vector-same (slide 1 (blend (k * b) v 1 e) (pos k *ℤ s) d) (blend k (slide b v s d) 1 e) (one k v.x e.x d.x) (one k v.y e.y d.y) (one k v.z e.z d.z)

pub near-flat : (a : Set) (p : SpacePoint) (d : Vector) → FlatCone a p d → (v e : Vector) (b : ℕ) (s : ℤ) → 0 < b → (l : Label) → NearGerm a p v e l ↔ NearGerm a p (slide b v s d) e l
near-flat a p d f v e b s some l = (near-onward a p d f v e b s some l, back)
  where
    back : NearGerm a p (slide b v s d) e l → NearGerm a p v e l
    back g = let m = near-germ_of a p v e in
        subst (NearGerm a p v e) (near-germ_one a p (slide b v s d) e m.0 l (near-onward a p d f v e b s some m.0 m.1) g) m.1

somewhere-flat : (a : Set) (p : SpacePoint) (d : Vector) → FlatCone a p d → (v : Vector) (b : ℕ) (s : ℤ) → 0 < b → (l : Label) → SomewhereNear a p v l ↔ SomewhereNear a p (slide b v s d) l
somewhere-flat a p d f v b s some l = (
  ⊎_elim (λ g. inl ((f v b s some l).0 g)) (λ g. inr (g.0, (near-flat a p d f v g.0 b s some l).0 g.1)),
  ⊎_elim (λ g. inl ((f v b s some l).1 g)) (λ g. inr (g.0, (near-flat a p d f v g.0 b s some l).1 g.1)),
)

not-out_flat : (a : Set) (p : SpacePoint) (d : Vector) → FlatCone a p d → (v : Vector) (b : ℕ) (s : ℤ) → 0 < b → (Germ a p v Out → ⊥) ↔ (Germ a p (slide b v s d) Out → ⊥)
not-out_flat a p d f v b s some = (λ n g. n ((f v b s some Out).1 g), λ n g. n ((f v b s some Out).0 g))

-- ---- a set whose germs are Out where those of a are is flat where its germs In don't change
flat-by_in : (a t : Set) (p : SpacePoint) (d : Vector) → FlatCone a p d → ((v : Vector) → Germ t p v Out ↔ Germ a p v Out)
    → ((v : Vector) (b : ℕ) (s : ℤ) → 0 < b → Germ t p v In ↔ Germ t p (slide b v s d) In) → FlatCone t p d
flat-by_in a t p d f out in_same v b s some = by
  where
    out_same : Germ t p v Out ↔ Germ t p (slide b v s d) Out
    out_same = (λ g. (out (slide b v s d)).1 ((f v b s some Out).0 ((out v).0 g)), λ g. (out v).1 ((f v b s some Out).1 ((out (slide b v s d)).0 g)))

    -- Not is what is left
    rest : (u x : Vector) → (Germ t p x Out → Germ t p u Out) → (Germ t p x In → Germ t p u In) → Germ t p u Not → (l : Label) → Germ t p x l → Germ t p x Not
    rest u x o i g Out h = let e = Germ-unique t p u Not Out g (o h) in cc
    rest u x o i g Not h = h
    rest u x o i g In h = let e = Germ-unique t p u Not In g (i h) in cc

    by : (l : Label) → Germ t p v l ↔ Germ t p (slide b v s d) l
    by Out = out_same
    by Not = (
      λ g. let m = germ_of t p (slide b v s d) in rest v (slide b v s d) out_same.1 (in_same v b s some).1 g m.0 m.1,
      λ g. let m = germ_of t p v in rest (slide b v s d) v out_same.0 (in_same v b s some).0 g m.0 m.1,
    )
    by In = in_same v b s some

pub flat-inside : (a : Set) (p : SpacePoint) (d : Vector) → FlatCone a p d → FlatCone (Set.inside a) p d
flat-inside a p d f = flat-by_in a (Set.inside a) p d f (λ v. (λ g. g, λ g. g)) (λ v b s some. (
  λ g. let h = (inside-toward a p v).0 g in (inside-toward a p (slide b v s d)).1 ((f v b s some In).0 h.0, λ e. (near-flat a p d f v e b s some In).0 (h.1 e)),
  λ g. let h = (inside-toward a p (slide b v s d)).0 g in (inside-toward a p v).1 ((f v b s some In).1 h.0, λ e. (near-flat a p d f v e b s some In).1 (h.1 e)),
))

pub flat-closed : (a : Set) (p : SpacePoint) (d : Vector) → FlatCone a p d → FlatCone (Set.closed a) p d
flat-closed a p d f = flat-by_in a (Set.closed a) p d f (λ v. (λ g. g, λ g. g)) (λ v b s some. (
  λ g. let h = (closed-toward a p v).0 g in (closed-toward a p (slide b v s d)).1 ((not-out_flat a p d f v b s some).0 h.0, (somewhere-flat a p d f v b s some In).0 h.1),
  λ g. let h = (closed-toward a p (slide b v s d)).0 g in (closed-toward a p v).1 ((not-out_flat a p d f v b s some).1 h.0, (somewhere-flat a p d f v b s some In).1 h.1),
))

pub flat-border : (a : Set) (p : SpacePoint) (d : Vector) → FlatCone a p d → FlatCone (Set.border a) p d
flat-border a p d f = flat-by_in a (Set.border a) p d f (λ v. (λ g. g, λ g. g)) (λ v b s some. (
  λ g. let h = (border-toward a p v).0 g in (border-toward a p (slide b v s d)).1 ((somewhere-flat a p d f v b s some In).0 h.0, (somewhere-flat a p d f v b s some Not).0 h.1, (not-out_flat a p d f v b s some).0 h.2),
  λ g. let h = (border-toward a p (slide b v s d)).0 g in (border-toward a p v).1 ((somewhere-flat a p d f v b s some In).1 h.0, (somewhere-flat a p d f v b s some Not).1 h.1, (not-out_flat a p d f v b s some).1 h.2),
))

pub flat-regular : (a : Set) (p : SpacePoint) (d : Vector) → FlatCone a p d → FlatCone (Set.regular a) p d
flat-regular a p d f = let k = flat-inside a p d f in flat-by_in a (Set.regular a) p d f (λ v. (λ g. g, λ g. g)) (λ v b s some. (
  λ g. let h = (regular-toward a p v).0 g in (regular-toward a p (slide b v s d)).1 ((not-out_flat a p d f v b s some).0 h.0, (h.1.0, (near-flat (Set.inside a) p d k v h.1.0 b s some In).0 h.1.1)),
  λ g. let h = (regular-toward a p (slide b v s d)).0 g in (regular-toward a p v).1 ((not-out_flat a p d f v b s some).1 h.0, (h.1.0, (near-flat (Set.inside a) p d k v h.1.0 b s some In).1 h.1.1)),
))

-- ---- in terms of Flat
pub flat-of : (a t : Set) (p : SpacePoint) (d : Vector) → (FlatCone a p d → FlatCone t p d) → Flat a p d → Flat t p d
flat-of a t p d g f = Flat-from_cone t p d (g (FlatCone-from_flat a p d f))

pub flat-of_two : (node : Set → Set → Set) (op : Label → Label → Label) → ByLabels node op → (a b : Set) (p : SpacePoint) (d : Vector) → Flat a p d → Flat b p d → Flat (node a b) p d
flat-of_two node op by a b p d f g = Flat-from_cone (node a b) p d (flat-by node op by a b p d (FlatCone-from_flat a p d f) (FlatCone-from_flat b p d g))

pub flat-not : (a : Set) (p : SpacePoint) (d : Vector) → Flat a p d → Flat (Set.other a) p d
flat-not a p d f = flat-of_two (λ b c. Set.other b) (λ m k. label_not m) (λ b c q m k h i. not-label b q m h) a a p d f f

pub flat-combination : (s : Set) (p : SpacePoint) (d e : Vector) (j k : ℤ) → Flat s p d → Flat s p e → Flat s p (combination j d k e)
flat-combination s p d e j k f g =
    let h = FlatCone-add s p (scaled j d) (scaled k e) (FlatCone-scale s p j d (FlatCone-from_flat s p d f)) (FlatCone-scale s p k e (FlatCone-from_flat s p e g)) in
    Flat-from_cone s p (combination j d k e) (subst (FlatCone s p) (vector-same (slide 1 (scaled j d) (pos 1) (scaled k e)) (combination j d k e) (one d.x e.x) (one d.y e.y) (one d.z e.z)) h)
  where
    one : (x y : ℤ) → pos 1 *ℤ (j *ℤ x) +ℤ pos 1 *ℤ (k *ℤ y) ≡ j *ℤ x +ℤ k *ℤ y
    one x y = ring (j ∷ k ∷ x ∷ y ∷ []) (num (pos 1) ⊗ (at 0 ⊗ at 2) ⊕ num (pos 1) ⊗ (at 1 ⊗ at 3)) (at 0 ⊗ at 2 ⊕ at 1 ⊗ at 3) tt
