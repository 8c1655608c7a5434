-- Labels that nothing changes along a way are the same at both ends.
use Rattle.law_geometry.proofs.sphere.Prelude.{◌≡◌, ℕ, zero, suc, ◌+◌, ◌*◌, ◌<◌, pos, nat_abs, arith, ap, sym, ◌∙◌, ◌⊎◌, inl, inr, ⊎_elim, List, subst, Bool, true, false, mul-pos, sign, Lies, Vector, IsDirection, cross, dot, IsOpposite, blend, Label, SameSigns, Labelling, Plain, zero-decided, cross-turned, cross-none, dir-signs, blend-turned, left-of, right-of}
use Rattle.law_geometry.proofs.near.Counting.{count, find-passing, count-less}
use Rattle.law_geometry.proofs.near.Crossings.{opposite_signs, sign-inside, opposite-left, opposite-right, to-nought, balance}
use Rattle.law_geometry.proofs.sphere.Vectors.{dot-comb}
use Rattle.law_geometry.proofs.sphere.Direct.{cross-between}
use Rattle.law_geometry.proofs.sphere.Around.{Beside, same_way, other_way, beside}

pub cross-direction_right : (d e : Vector) → IsDirection (cross d e) → IsDirection e
cross-direction_right d e f z = f (cross-none d e z)

pub cross-direction_left : (d e : Vector) → IsDirection (cross d e) → IsDirection d
cross-direction_left d e f = cross-direction_right e d (λ z. f (cross-turned e d z))

pub cross-direction_turned : (d e : Vector) → IsDirection (cross d e) → IsDirection (cross e d)
cross-direction_turned d e f z = f (cross-turned e d z)

-- directions between
pub between-direction : (d e : Vector) (i j : ℕ) → 0 < j → IsDirection (cross d e) → IsDirection (blend i d j e)
between-direction d e i j sj f = cross-direction_right d (blend i d j e) (cross-between d e i j sj f)

-- ---- forms that change sign
abbrev pub crosses : Vector → Vector → Vector → Bool
crosses g d e = opposite_signs (sign (dot g d)) (sign (dot g e))

abbrev pub crossings : List Vector → Vector → Vector → ℕ
crossings gs d e = count (λ g. crosses g d e) gs

pub find-crossing : (gs : List Vector) (d e : Vector) → ((g : Vector) → Lies gs g → crosses g d e ≡ false) ⊎ ((g : Vector) × Lies gs g × (crosses g d e ≡ true))
find-crossing gs d e = find-passing (λ g. crosses g d e) gs

-- where no form changes sign, all directions between have the same signs
pub uncrossed-same : (gs : List Vector) (d e : Vector) → ((g : Vector) → Lies gs g → crosses g d e ≡ false) → (k l : ℕ) → 0 < k → 0 < l → SameSigns gs (blend k d 1 e) (blend 1 d l e)
uncrossed-same gs d e none k l sk sl g m =
    ap sign (dot-comb g (pos 1) d (pos l) e) ∙ sign-inside (dot g d) (dot g e) 1 l (omega arith) sl (none g m)
    ∙ sym (sign-inside (dot g d) (dot g e) k 1 sk (omega arith) (none g m)) ∙ sym (ap sign (dot-comb g (pos k) d (pos 1) e))

-- a form that changes sign cuts the way in two, on each of which fewer do
pub record Cut (gs : List Vector) (d e : Vector) : Type 0 where
  pub i : ℕ
  pub j : ℕ
  pub some_i : 0 < i
  pub some_j : 0 < j
  pub fewer_left : crossings gs d (blend i d j e) < crossings gs d e
  pub fewer_right : crossings gs (blend i d j e) e < crossings gs d e

pub cut : (gs : List Vector) (d e g : Vector) → Lies gs g → crosses g d e ≡ true → Cut gs d e
cut gs d e g l c =
    let s = balance (dot g d) (dot g e) c in
    let i = nat_abs (dot g e) in
    let j = nat_abs (dot g d) in
    let z = blend i d j e in
    let o : dot g z ≡ pos 0 = dot-comb g (pos i) d (pos j) e ∙ s.2 in
    let inside = λ (k : Vector) (q : crosses k d e ≡ false). ap sign (dot-comb k (pos i) d (pos j) e) ∙ sign-inside (dot k d) (dot k e) i j s.1 s.0 q in
    record {
      i = i;
      j = j;
      some_i = s.1;
      some_j = s.0;
      fewer_left = count-less (λ k. crosses k d e) (λ k. crosses k d z) gs (λ k m q. ap (opposite_signs (sign (dot k d))) (inside k q) ∙ opposite-left (sign (dot k d)) (sign (dot k e))) g l c
          (ap (λ r. opposite_signs (sign (dot g d)) (sign r)) o ∙ to-nought (sign (dot g d)));
      fewer_right = count-less (λ k. crosses k d e) (λ k. crosses k z e) gs (λ k m q. ap (λ r. opposite_signs r (sign (dot k e))) (inside k q) ∙ opposite-right (sign (dot k d)) (sign (dot k e)) q) g l c
          (ap (λ r. opposite_signs (sign r) (sign (dot g e))) o);
    }

pub cross-onward : (d e : Vector) (i j : ℕ) → 0 < i → IsDirection (cross d e) → IsDirection (cross (blend i d j e) e)
cross-onward d e i j si f = cross-direction_turned e (blend i d j e) (subst (λ (r : Vector). IsDirection (cross e r)) (blend-turned j i e d) (cross-between e d j i si (cross-direction_turned d e f)))

-- ---- walking
module _ (gs : List Vector) (F : Vector → Label → Type 0) (L : Labelling gs F) where
  abbrev PlainWay : Vector → Vector → Type 0
  PlainWay d e = (i j : ℕ) → 0 < i → 0 < j → Plain F (blend i d j e)

  -- no form changes sign
  straight-on : (d e : Vector) → IsDirection (cross d e) → ((g : Vector) → Lies gs g → crosses g d e ≡ false) → Plain F d → Plain F e → (m : Label) → F d m → F e m
  straight-on d e f none P Q m a =
      let b = L.exists e (cross-direction_right d e f) in
      let p = P m a e f in
      let q = Q b.0 b.1 d (cross-direction_turned d e f) in
      let k = p.0 + 1 in
      let l = q.0 + 1 in
      let x = p.1 k (omega arith) in
      let y = subst (λ (r : Vector). F r b.0) (blend-turned l 1 e d) (q.1 l (omega arith)) in
      let h = between-direction d e 1 l (omega arith) f in
      let z = L.cells (blend k d 1 e) (blend 1 d l e) m (between-direction d e k 1 (omega arith) f) h (uncrossed-same gs d e none k l (omega arith) (omega arith)) x in
      subst (λ (r : Label). F e r) (sym (L.one (blend 1 d l e) m b.0 h z y)) b.1

  -- the labels stay from d to e, where nothing changes them at either end and between
  pub walk : (n : ℕ) (d e : Vector) → crossings gs d e < n → IsDirection (cross d e) → Plain F d → Plain F e → PlainWay d e → (m : Label) → F d m → F e m
  walk zero d e h f P Q W m a = absurd (omega arith)
  walk (suc n) d e h f P Q W m a = by (λ d' e' h' f' P' Q' W' m' a'. walk n d' e' h' f' P' Q' W' m' a') (find-crossing gs d e)
    where
      by : ((d e : Vector) → crossings gs d e < n → IsDirection (cross d e) → Plain F d → Plain F e → PlainWay d e → (m : Label) → F d m → F e m)
          → ((g : Vector) → Lies gs g → crosses g d e ≡ false) ⊎ ((g : Vector) × Lies gs g × (crosses g d e ≡ true)) → F e m
      by go (inl none) = straight-on d e f none P Q m a
      by go (inr (g, l, p)) =
          let s = cut gs d e g l p in
          let x = s.i in
          let y = s.j in
          let z = blend x d y e in
          let R = W x y s.some_i s.some_j in
          let left = go d z (let q = s.fewer_left in omega arith) (cross-between d e x y s.some_j f) P R
          (λ i j si sj. let u = mul-pos sj s.some_i in subst (Plain F) (left-of i j x y d e) (W (i + j * x) (j * y) (omega arith) (mul-pos sj s.some_j))) m a in
          go z e (let q = s.fewer_right in omega arith) (cross-onward d e x y s.some_i f) R Q
          (λ i j si sj. subst (Plain F) (right-of i j x y d e) (W (i * x) (i * y + j) (mul-pos si s.some_i) (omega arith))) m left

  -- the same from and to any two directions that aren't opposite
  pub carried : (d e : Vector) → IsDirection d → IsDirection e → (IsOpposite d e → ⊥) → Plain F d → Plain F e → PlainWay d e → (m : Label) → F d m → F e m
  carried d e hd he off P Q W m a = ⊎_elim
      (λ z. along (beside d e hd he z))
      (λ f. walk (crossings gs d e + 1) d e (omega arith) f P Q W m a)
      (zero-decided (cross d e))
    where
      along : Beside d e → F e m
      along (same_way w) = L.cells d e m hd he (λ g l. dir-signs d e g hd w) a
      along (other_way o) = absurd (off o)
