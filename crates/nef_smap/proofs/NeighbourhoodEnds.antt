-- The ends of arcs at a svertex, collected arc by arc.
use Rattle.nef_smap.proofs.Prelude.{◌≡◌, ℕ, zero, suc, ◌+◌, ◌<◌, ◌≤◌, List, [], ◌∷◌, ◌++◌, length, Bool, true, false, cond, Some, ◌⊎◌, inl, inr, ⊎_elim, arith, refl, sym, ap, subst, slice_get, eq-or-lt_of_le, IsAt, Label, Dir, ArcEnd, Ray, SArc, IsArcEnd, AreArcEnds, is-at_within as get-within}

-- the list has the end
abbrev pub Has : List ArcEnd → ArcEnd → Type 0
Has es e = (i : ℕ) × IsAt es i e

has-left : (es fs : List ArcEnd) (e : ArcEnd) → Has es e → Has (es ++ fs) e
has-left [] fs e (i, h) = cc
has-left (x ∷ es) fs e (zero, h) = (zero, h)
has-left (x ∷ es) fs e (suc i, h) = let r = has-left es fs e (i, h) in (suc r.0, r.1)

has-right : (es fs : List ArcEnd) (e : ArcEnd) → Has fs e → Has (es ++ fs) e
has-right [] fs e h = h
has-right (x ∷ es) fs e h = let r = has-right es fs e h in (suc r.0, r.1)

has-either : (es fs : List ArcEnd) (e : ArcEnd) → Has (es ++ fs) e → Has es e ⊎ Has fs e
has-either [] fs e h = inr h
has-either (x ∷ es) fs e (zero, h) = inl (zero, h)
has-either (x ∷ es) fs e (suc i, h) = ⊎_elim (λ r. inl (suc r.0, r.1)) (λ r. inr r) (has-either es fs e (i, h))

-- ---- one arc more
-- all ends of the first n arcs
pub record HasArcEnds (as' : List SArc) (n k : ℕ) (es : List ArcEnd) : Type 0 where
  pub each : (e : ArcEnd) → Has es e → (j : ℕ) × (a : SArc) × (j < n) × IsAt as' j a × IsArcEnd a k e
  pub all : (j : ℕ) (a : SArc) (e : ArcEnd) → j < n → IsAt as' j a → IsArcEnd a k e → Has es e

abbrev pub ahead : SArc → ArcEnd
ahead a = (record { normal = a.normal; ahead = true; mark = a.mark }, a.pos)

abbrev pub back : SArc → ArcEnd
back a = (record { normal = a.normal; ahead = false; mark = a.mark }, a.neg)

if-has : (b : Bool) (x e : ArcEnd) → Has (cond b (x ∷ []) []) e → (b ≡ true) × (e ≡ x)
if-has true x e (zero, h) = (refl, let f : x ≡ e = cc in sym f)
if-has true x e (suc i, h) = cc
if-has false x e (i, h) = cc

has-if : (b : Bool) (x e : ArcEnd) → b ≡ true → e ≡ x → Has (cond b (x ∷ []) []) e
has-if true x e p q = (zero, ap Some (sym q))
has-if false x e p q = cc

pub ray-is : (q : Ray) (n : Dir) (b : Bool) (m : Label) → q.normal ≡ n → q.ahead ≡ b → q.mark ≡ m → q ≡ record { normal = n; ahead = b; mark = m }
ray-is q n b m f g h = rw (← f, ← g, ← h) refl

pub ends-none : (as' : List SArc) (k : ℕ) (es : List ArcEnd) → es ≡ [] → HasArcEnds as' 0 k es
ends-none as' k es e = record {
  each = λ x h. absurd (empty (subst (λ (l : List ArcEnd). Has l x) e h));
  all = λ j a x l h i. absurd (omega arith);
}
  where
    empty : {x : ArcEnd} → Has [] x → ⊥
    empty (i, h) = cc

module _ (as' : List SArc) (n k : ℕ) (es : List ArcEnd) (a : SArc) (b c : Bool) (here : IsAt as' n a) (before : HasArcEnds as' n k es)
    (begins : (b ≡ true → a.source ≡ k) × (a.source ≡ k → b ≡ true)) (ends : (c ≡ true → a.target ≡ k) × (a.target ≡ k → c ≡ true)) where
  abbrev first : List ArcEnd
  first = cond b (ahead a ∷ []) []

  abbrev second : List ArcEnd
  second = cond c (back a ∷ []) []

  abbrev One : ArcEnd → Type 0
  One e = (j : ℕ) × (x : SArc) × (j < n + 1) × IsAt as' j x × IsArcEnd x k e

  pub ends-more : HasArcEnds as' (n + 1) k ((es ++ first) ++ second)
  ends-more = record {
    each = λ e h. ⊎_elim
        (λ l. ⊎_elim (λ i. old e (before.each e i)) (λ i. let r = if-has b (ahead a) e i in new e (inl (begins.0 r.0, r.1))) (has-either es first e l))
        (λ l. let r = if-has c (back a) e l in new e (inr (ends.0 r.0, r.1))) (has-either (es ++ first) second e h);
    all = λ j x e l h i. elim (eq-or-lt_of_le {n = j} {m = n} (omega arith)) [
      | inl q ↦ last e (subst (λ (y : SArc). IsArcEnd y k e) (same j x q h) i)
      | inr q ↦ has-left (es ++ first) second e (has-left es first e (before.all j x e q h i))
    ];
  }
    where
      old : (e : ArcEnd) → (j : ℕ) × (x : SArc) × (j < n) × IsAt as' j x × IsArcEnd x k e → One e
      old e (j, x, l, h, i) = (j, x, let q : j < n + 1 = omega arith in q, h, i)

      new : (e : ArcEnd) → IsArcEnd a k e → One e
      new e i = (n, a, let q : n < n + 1 = omega arith in q, here, i)

      same : (j : ℕ) (x : SArc) → j ≡ n → IsAt as' j x → x ≡ a
      same j x q h = let f : slice_get as' n ≡ Some x = subst (λ (i : ℕ). IsAt as' i x) q h in cc

      last : (e : ArcEnd) → IsArcEnd a k e → Has ((es ++ first) ++ second) e
      last e (inl (f, g)) = has-left (es ++ first) second e (has-right es first e (has-if b (ahead a) e (begins.1 f) g))
      last e (inr (f, g)) = has-right (es ++ first) second e (has-if c (back a) e (ends.1 f) g)

pub ends-all : (as' : List SArc) (n k : ℕ) (es : List ArcEnd) → length as' ≤ n → HasArcEnds as' n k es → AreArcEnds as' k es
ends-all as' n k es l h = record {
  each = λ i e q. let r = h.each e (i, q) in (r.0, r.1, r.3, r.4);
  all = λ j a e q i. h.all j a e (let w = get-within as' j a q in omega arith) q i;
}
