-- Axes added to a list of axes.
use Rattle.nef_sover.proofs.Prelude.{◌≡◌, ℕ, ◌+◌, ◌<◌, ◌≤◌, List, [], ◌∷◌, ◌++◌, length, get_or, arith, subst, inl, inr, ◌⊎◌, Contains, eq-or-lt_of_le, svertex_limit, Vector, IsAtMost, SameDirection, vector_of, IsAt, is-at_one, is-at_within, Axis, CrossedItems, AddsAxes, HasDirection}
use Rattle.std.proofs.lemmas.List.Elements.{Contains-append_left, Contains-push, Contains-push_cases}
use Rattle.nef_space.proofs.Lists.{is-at_read}

pub has-more : (xs ys : List Axis) → ((e : Axis) → Contains xs e → Contains ys e) → (d : Vector) → HasDirection xs d → HasDirection ys d
has-more xs ys f d (e, h, s) = (e, f e h, s)

-- what is known of an axis that has P
abbrev pub IsNewAxis : (CrossedItems → Vector → Type 0) → Axis → Type 0
IsNewAxis P e = P e.crossed (vector_of e.dir) × IsAtMost svertex_limit (vector_of e.dir)

-- nothing has P
pub adds-none : (P : CrossedItems → Vector → Type 0) (xs : List Axis) → ((c : CrossedItems) (d : Vector) → P c d → ⊥) → AddsAxes P xs xs
adds-none P xs n = record { kept = λ e h. h; added = λ e h. inl h; all = λ c d p. absurd (n c d p) }

-- one direction has P
pub adds-one : (P : CrossedItems → Vector → Type 0) (xs : List Axis) (d : Axis) → IsNewAxis P d → ((c : CrossedItems) (e : Vector) → P c e → SameDirection (vector_of d.dir) e) → AddsAxes P xs (xs ++ d ∷ [])
adds-one P xs d p one = record {
  kept = λ e h. Contains-append_left xs (d ∷ []) e h;
  added = λ e h. by e (Contains-push_cases xs d e h);
  all = λ c e q. (d, Contains-push xs d, one c e q);
}
  where
    by : (e : Axis) → Contains xs e ⊎ (d ≡ e) → Contains xs e ⊎ IsNewAxis P e
    by e (inl h) = inl h
    by e (inr q) = inr (subst (IsNewAxis P) q p)

-- what has P is added and then what has Q
module _ (P Q R : CrossedItems → Vector → Type 0) (xs ys zs : List Axis) (p : AddsAxes P xs ys) (q : AddsAxes Q ys zs) where
  pub adds-both : ((c : CrossedItems) (d : Vector) → P c d ⊎ Q c d → R c d) → ((c : CrossedItems) (d : Vector) → R c d → P c d ⊎ Q c d) → AddsAxes R xs zs
  adds-both f g = record {
    kept = λ e h. q.kept e (p.kept e h);
    added = λ e h. by e (q.added e h);
    all = λ c d r. found c d (g c d r);
  }
    where
      first : (e : Axis) → Contains xs e ⊎ IsNewAxis P e → Contains xs e ⊎ IsNewAxis R e
      first e (inl h) = inl h
      first e (inr (a, s)) = inr (f e.crossed (vector_of e.dir) (inl a), s)

      by : (e : Axis) → Contains ys e ⊎ IsNewAxis Q e → Contains xs e ⊎ IsNewAxis R e
      by e (inl h) = first e (p.added e h)
      by e (inr (b, s)) = inr (f e.crossed (vector_of e.dir) (inr b), s)

      found : (c : CrossedItems) (d : Vector) → P c d ⊎ Q c d → HasDirection zs d
      found c d (inl a) = has-more ys zs q.kept d (p.all c d a)
      found c d (inr b) = q.all c d b

pub adds-as : (P Q : CrossedItems → Vector → Type 0) (xs ys : List Axis) → ((c : CrossedItems) (d : Vector) → P c d → Q c d) → ((c : CrossedItems) (d : Vector) → Q c d → P c d) → AddsAxes P xs ys → AddsAxes Q xs ys
adds-as P Q xs ys f g p = record { kept = p.kept; added = λ e h. by e (p.added e h); all = λ c d q. p.all c d (g c d q) }
  where
    by : (e : Axis) → Contains xs e ⊎ IsNewAxis P e → Contains xs e ⊎ IsNewAxis Q e
    by e (inl h) = inl h
    by e (inr (a, s)) = inr (f e.crossed (vector_of e.dir) a, s)

-- ---- one element after another
-- one of the first i elements has P with c and d
abbrev pub AnyFirst : {X : Type 0} → (X → CrossedItems → Vector → Type 0) → List X → ℕ → CrossedItems → Vector → Type 0
AnyFirst {X} P xs i c d = (k : ℕ) × (x : X) × (k < i) × IsAt xs k x × P x c d

abbrev pub AnyAt : {X : Type 0} → (X → CrossedItems → Vector → Type 0) → List X → CrossedItems → Vector → Type 0
AnyAt {X} P xs c d = (k : ℕ) × (x : X) × IsAt xs k x × P x c d

module _ {X : Type 0} (P : X → CrossedItems → Vector → Type 0) (xs : List X) where
  pub any-none : (ds : List Axis) → AddsAxes (AnyFirst P xs 0) ds ds
  any-none ds = adds-none (AnyFirst P xs 0) ds (λ c d a. let l = a.2 in omega (arith, l))

  pub any-more : (i : ℕ) (x : X) (ds es fs : List Axis) → i < length xs → x ≡ get_or xs i x → AddsAxes (AnyFirst P xs i) ds es → AddsAxes (P x) es fs → AddsAxes (AnyFirst P xs (i + 1)) ds fs
  any-more i x ds es fs l e p q = adds-both (AnyFirst P xs i) (P x) (AnyFirst P xs (i + 1)) ds es fs p q forth back
    where
      here : IsAt xs i x
      here = is-at_read xs i x l e

      forth : (c : CrossedItems) (d : Vector) → AnyFirst P xs i c d ⊎ P x c d → AnyFirst P xs (i + 1) c d
      forth c d (inl (k, y, h, a, r)) = (k, y, omega (arith, h), a, r)
      forth c d (inr r) = (i, x, omega arith, here, r)

      split : (c : CrossedItems) (d : Vector) (k : ℕ) (y : X) → (k ≡ i) ⊎ (k < i) → IsAt xs k y → P y c d → AnyFirst P xs i c d ⊎ P x c d
      split c d k y (inl z) a r = inr (subst (λ w. P w c d) (is-at_one xs i y x (subst (λ (j : ℕ). IsAt xs j y) z a) here) r)
      split c d k y (inr h) a r = inl (k, y, h, a, r)

      back : (c : CrossedItems) (d : Vector) → AnyFirst P xs (i + 1) c d → AnyFirst P xs i c d ⊎ P x c d
      back c d (k, y, h, a, r) = split c d k y (eq-or-lt_of_le {n = k} {m = i} (omega (arith, h))) a r

  pub any-all : (i : ℕ) (ds es : List Axis) → length xs ≤ i → AddsAxes (AnyFirst P xs i) ds es → AddsAxes (AnyAt P xs) ds es
  any-all i ds es l p = adds-as (AnyFirst P xs i) (AnyAt P xs) ds es
      (λ c d a. (a.0, a.1, a.3, a.4)) (λ c d a. let h = is-at_within xs a.0 a.1 a.2 in (a.0, a.1, omega (arith, h), a.2, a.3)) p
