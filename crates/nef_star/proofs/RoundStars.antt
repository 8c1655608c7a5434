-- Stars put together from their rays: the ways that are cut in, the marks that they get, and the rays with the sectors after them.
use Rattle.nef_star.proofs.Prelude.{◌≡◌, ℕ, zero, suc, ◌+◌, ◌<◌, ◌≤◌, List, [], ◌∷◌, length, get_or, set, slice_get, Some, Bool, true, false, cond, ℤ, pos, neg_ℤ, arith, refl, sym, ap, subst, ◌∙◌, inl, inr, ⊎_elim, ◌⊎◌, eq-or-lt_of_le, slice_get_within, slice_get-get_or, ints, get_or-set_same, get_or-set_other, IsAt, Vector, opposite, zero_vector, IsNormal, SameDirection, Label, Out, vector_of, Dir, Or, Ray, Star, ArcEnd, EndsAreApart, IsRound, IsEndAt, HasWays, IsEnded, left_of, left_at, mark_of, mark_at, sector_at, IsRay, BeginsAnywhere, KeepsLabels, IsWithRay, IsCountedFrom, HasLeft, vector-same, dir-self}
use Rattle.nef_star.proofs.Rotated.{moved-from, moved-value, moved}
use Rattle.nef_star.proofs.LastAt.{as-same}
use Rattle.nef_star.proofs.Counted.{lefts, marks, sectors, counted-length, count-some}
use Rattle.nef_star.proofs.Joined.{changed-turned, changed-count, same-lefts, set-here, set-other}
use Rattle.nef_star.proofs.Labelled.{sectors-fill}
use Rattle.nef_star.proofs.Pushed.{at-item}
use Rattle.nef_space.proofs.Elementary.{less-unless}
use Rattle.std.proofs.lemmas.Bool.{cases_eq}

-- ---- the ways
-- the star goes just the ways of the first k ends
pub record CutTo (ends : List ArcEnd) (k : ℕ) (t s : Star) : Type 0 where
  pub turned : BeginsAnywhere s
  pub axis : s.axis ≡ t.axis
  pub mark : s.mark ≡ t.mark
  pub all : (i : ℕ) (e : ArcEnd) → i < k → IsAt ends i e → HasLeft s (left_of e.0)
  pub only : (v : Vector) → HasLeft s v → (i : ℕ) × (e : ArcEnd) × (i < k) × IsAt ends i e × (left_of e.0 ≡ v)

pub cut-start : (ends : List ArcEnd) (t : Star) → BeginsAnywhere t → length t.rays.items ≡ 0 → CutTo ends 0 t t
cut-start ends t T none = record {
  turned = T;
  axis = refl;
  mark = refl;
  all = λ i e h a. absurd (omega (arith, h));
  only = λ v h. absurd (let l = h.1 in omega (arith, l, none));
}

pub cut-next : (ends : List ArcEnd) (k : ℕ) (t s u : Star) (e : ArcEnd) → IsAt ends k e → CutTo ends k t s → IsWithRay (left_of e.0) s u → CutTo ends (k + 1) t u
cut-next ends k t s u e a old new = record {
  turned = new.turned;
  axis = new.kept.axis ∙ old.axis;
  mark = new.kept.mark ∙ old.mark;
  all = all;
  only = λ v h. ⊎_elim
      (λ x. let y = old.only v x in (y.0, y.1, (let l = y.2 in omega (arith, l)), y.3, y.4))
      (λ z. (k, e, (omega arith), a, sym z))
      (new.only v h);
}
  where
    all : (i : ℕ) (f : ArcEnd) → i < k + 1 → IsAt ends i f → HasLeft u (left_of f.0)
    all i f l b = elim (eq-or-lt_of_le {n = i} {m = k} (omega (arith, l))) [
      | inl z ↦ (let same : Some e ≡ Some f = sym a ∙ ap (slice_get ends) (sym z) ∙ b in (let g : e ≡ f = cc in subst (λ (x : ArcEnd). HasLeft u (left_of x.0)) g new.has))
      | inr p ↦ new.still (left_of f.0) (old.all i f p b)
    ]

pub cut-all : (ends : List ArcEnd) (k : ℕ) (t s : Star) → length ends ≤ k → CutTo ends k t s → HasWays ends (length ends) s
cut-all ends k t s h c = record {
  turned = c.turned;
  all = λ i e l a. c.all i e (omega (arith, h, l)) a;
  only = λ v x. let y = c.only v x in (y.0, y.1, y.3, y.4);
}

-- ---- the marks
pub ended-start : (ends : List ArcEnd) (t : Star) → BeginsAnywhere t → IsEnded ends 0 t t
ended-start ends t T = record { turned = T; axis = refl; mark = refl; count = refl; lefts = λ i. refl; ends_at = λ k h. absurd (omega (arith, h)) }

-- ray k of s is q, and that of u is r
module _ (ends : List ArcEnd) (k : ℕ) (t s u : Star) (old : IsEnded ends k t s) (h : k < length s.rays.items) (q r : Ray) (at_k : q ≡ get_or s.rays.items k q) (normal : r.normal ≡ q.normal) (ahead : r.ahead ≡ q.ahead)
    (e : u.axis ≡ s.axis) (f : u.mark ≡ s.mark) (i : ℕ) (end : ArcEnd) (listed : IsAt ends i end) (left : left_of end.0 ≡ left_of q) (mark : r.mark ≡ end.0.mark)
    (rays : u.rays.items ≡ set s.rays.items k r) (ends_too : u.sectors.items ≡ set s.sectors.items k end.1) where
  abbrev T : BeginsAnywhere s
  T = old.turned

  lefts_same : (j : ℕ) → left_at u.rays.items j ≡ left_at s.rays.items j
  lefts_same = same-lefts Or s s u T k q r h at_k normal ahead e f end.1 end.1 rays ends_too

  here : IsEndAt ends u k
  here = record {
    number = i;
    end = end;
    listed = listed;
    left = lefts_same k ∙ at-item left_of zero_vector s.rays.items k q h ∙ ap left_of (sym at_k) ∙ sym left;
    mark = ap (λ (l : List Ray). mark_at l k) rays ∙ set-here mark_of Out s.rays.items k r h ∙ mark;
    sector = ap (λ (l : List Label). sector_at l k) ends_too ∙ get_or-set_same s.sectors.items k end.1 Out (sectors-fill s.rays.items (length s.sectors.items) k T.sectors h);
  }

  elsewhere : (j : ℕ) → (j ≡ k → ⊥) → IsEndAt ends s j → IsEndAt ends u j
  elsewhere j n x = record {
    number = x.number;
    end = x.end;
    listed = x.listed;
    left = lefts_same j ∙ x.left;
    mark = ap (λ (l : List Ray). mark_at l j) rays ∙ set-other mark_of Out s.rays.items k r j n ∙ x.mark;
    sector = ap (λ (l : List Label). sector_at l j) ends_too ∙ get_or-set_other s.sectors.items k j end.1 Out n ∙ x.sector;
  }

  pub ended-next : IsEnded ends (k + 1) t u
  ended-next = record {
    turned = changed-turned Or s s u T k q r h at_k normal ahead e f end.1 end.1 rays ends_too;
    axis = e ∙ old.axis;
    mark = f ∙ old.mark;
    count = changed-count Or s s u T k q r h at_k normal ahead e f end.1 end.1 rays ends_too ∙ old.count;
    lefts = λ j. lefts_same j ∙ old.lefts j;
    ends_at = λ j l. ⊎_elim
        (λ z. subst (IsEndAt ends u) (sym z) here)
        (λ n. elsewhere j n (old.ends_at j (less-unless j k (omega (arith, l)) n)))
        (cases_eq j k);
  }

-- the way of ray k is that of an end
pub way-of_end : (ends : List ArcEnd) (k : ℕ) (t s : Star) → HasWays ends (length ends) t → IsEnded ends k t s → (q : Ray) → k < length s.rays.items → q ≡ get_or s.rays.items k q → (v : Vector) → v ≡ left_of q
    → (i : ℕ) × (e : ArcEnd) × IsAt ends i e × (left_of e.0 ≡ v)
way-of_end ends k t s W E q h a v z = W.only v (k, omega (arith, h, E.count), sym (E.lefts k) ∙ at-item left_of zero_vector s.rays.items k q h ∙ ap left_of (sym a) ∙ sym z)

-- ---- counted on
module _ (ends : List ArcEnd) (t s : Star) (T : BeginsAnywhere t) (e : s.axis ≡ t.axis) (f : s.mark ≡ t.mark) (m : ℕ) (h : m < length t.rays.items) (c : IsCountedFrom m t s) where
  pub counted-end : ((k : ℕ) → k < length t.rays.items → IsEndAt ends t k) → (j : ℕ) → j < length s.rays.items → IsEndAt ends s j
  counted-end all j l =
      let n = length t.rays.items in
      let q : j < n = omega (arith, l, counted-length t s T e f m h c) in
      let i = moved-from n m j h q in
      let x = all i.0 i.1 in
      record {
        number = x.number;
        end = x.end;
        listed = x.listed;
        left = moved-value n m (left_at t.rays.items) (left_at s.rays.items) (lefts t s T e f m h c) h i.0 j i.1 q i.2 ∙ x.left;
        mark = moved-value n m (mark_at t.rays.items) (mark_at s.rays.items) (marks t s T e f m h c) h i.0 j i.1 q i.2 ∙ x.mark;
        sector = moved-value n m (sector_at t.sectors.items) (sector_at s.sectors.items) (sectors t s T e f m h c) h i.0 j i.1 q i.2 ∙ x.sector;
      }

  pub counted-left : (v : Vector) → HasLeft t v → HasLeft s v
  counted-left v (i, p, z) =
      let n = length t.rays.items in
      let j = moved n m i h p in
      (j.0, (let b = j.1 in omega (arith, b, counted-length t s T e f m h c)), moved-value n m (left_at t.rays.items) (left_at s.rays.items) (lefts t s T e f m h c) h i j.0 p j.1 j.2 ∙ z)

-- ---- rays with the sectors after them
opposite-same : (u v : Vector) → opposite u ≡ opposite v → u ≡ v
opposite-same u v e = vector-same u v (one u.x v.x (ap (λ (w : Vector). w.x) e)) (one u.y v.y (ap (λ (w : Vector). w.y) e)) (one u.z v.z (ap (λ (w : Vector). w.z) e))
  where
    one : (x y : ℤ) → neg_ℤ x ≡ neg_ℤ y → x ≡ y
    one x y e = omega (arith, ints, e)

not-opposite : (u v : Vector) → IsNormal u → IsNormal v → u ≡ opposite v → ⊥
not-opposite u v N M e =
    let x : u.x ≡ neg_ℤ v.x = ap (λ (w : Vector). w.x) e in
    let y : u.y ≡ neg_ℤ v.y = ap (λ (w : Vector). w.y) e in
    let z : u.z ≡ neg_ℤ v.z = ap (λ (w : Vector). w.z) e in
    let a = N.first in
    let b = M.first in
    let ux : u.x ≡ pos 0 = omega (arith, ints, x, a, b) in
    let vx : v.x ≡ pos 0 = omega (arith, ints, x, a, b) in
    let c = N.second ux in
    let d = M.second vx in
    let uy : u.y ≡ pos 0 = omega (arith, ints, y, c, d) in
    let vy : v.y ≡ pos 0 = omega (arith, ints, y, c, d) in
    let f = N.third ux uy in
    let g = M.third vx vy in
    omega (arith, ints, z, f, g)

pub same-dirs : (d e : Dir) → vector_of d ≡ vector_of e → d ≡ e
same-dirs d e h = as-same (vector_of d) d e refl (subst (λ (w : Vector). SameDirection (vector_of d) w) h (dir-self (vector_of d) d.some))

-- a ray is told by the direction to its left
pub ray-parts : (m n : Dir) (a b : Bool) → IsNormal (vector_of m) → IsNormal (vector_of n) → cond a (vector_of m) (opposite (vector_of m)) ≡ cond b (vector_of n) (opposite (vector_of n)) → (m ≡ n) × (a ≡ b)
ray-parts m n true true N M e = (same-dirs m n e, refl)
ray-parts m n false false N M e = (same-dirs m n (opposite-same (vector_of m) (vector_of n) e), refl)
ray-parts m n true false N M e = absurd (not-opposite (vector_of m) (vector_of n) N M e)
ray-parts m n false true N M e = absurd (not-opposite (vector_of n) (vector_of m) M N (sym e))

abbrev ray_with : Dir → Bool → Label → Ray
ray_with m a k = record { normal = m; ahead = a; mark = k }

ray-same : (m n : Dir) (a b : Bool) (k l : Label) → m ≡ n → a ≡ b → k ≡ l → ray_with m a k ≡ ray_with n b l
ray-same m n a b k l e f g = rw (e, f, g) refl

pub ray-by_left : (q r : Ray) → IsNormal (vector_of q.normal) → IsNormal (vector_of r.normal) → left_of q ≡ left_of r → q.mark ≡ r.mark → q ≡ r
ray-by_left q r N M e f = let p = ray-parts q.normal r.normal q.ahead r.ahead N M e in ray-same q.normal r.normal q.ahead r.ahead q.mark r.mark p.0 p.1 f

get-one : {X : Type 0} (xs : List X) (k : ℕ) (x d : X) → slice_get xs k ≡ Some x → get_or xs k d ≡ x
get-one xs k x d a = let h = slice_get_within xs k x a in let e : Some (get_or xs k d) ≡ Some x = sym (slice_get-get_or xs k d h) ∙ a in cc

get-there : {X : Type 0} (xs : List X) (k : ℕ) → k < length xs → (x : X) × (slice_get xs k ≡ Some x)
get-there [] k h = absurd (omega (arith, h))
get-there (x ∷ xs) zero h = (x, refl)
get-there (x ∷ xs) (suc k) h = get-there xs k (omega (arith, h))

-- the rays and sectors of a star all of whose rays are ends
module _ (ends : List ArcEnd) (t : Star) (T : BeginsAnywhere t) (some : 0 < length t.rays.items) (rays : (k : ℕ) (e : ArcEnd) → IsAt ends k e → IsRay (vector_of t.axis) e.0)
    (all : (k : ℕ) → k < length t.rays.items → IsEndAt ends t k) (apart : EndsAreApart ends) (has : (i : ℕ) (e : ArcEnd) → IsAt ends i e → HasLeft t (left_of e.0)) where
  -- ray k with the sector after it
  at_end : (k : ℕ) (r : Ray) (l : Label) → IsAt t.rays.items k r → IsAt t.sectors.items k l → (x : IsEndAt ends t k) → (r ≡ x.end.0) × (l ≡ x.end.1)
  at_end k r l a b x =
      let h = slice_get_within t.rays.items k r a in
      let ray : left_at t.rays.items k ≡ left_of r = at-item left_of zero_vector t.rays.items k r h ∙ ap left_of (get-one t.rays.items k r r a) in
      let mark : mark_at t.rays.items k ≡ r.mark = at-item mark_of Out t.rays.items k r h ∙ ap mark_of (get-one t.rays.items k r r a) in
      let R = subst (IsRay (vector_of t.axis)) (get-one t.rays.items k r r a) (T.rays k r h) in (
        ray-by_left r x.end.0 R.normal (rays x.number x.end x.listed).normal (sym ray ∙ x.left) (sym mark ∙ x.mark),
        sym (get-one t.sectors.items k l Out b) ∙ x.sector,
      )

  as_many : length t.sectors.items ≡ length t.rays.items
  as_many = T.sectors ∙ count-some t.rays.items some

  pub is-round : IsRound ends t
  is-round = record { each = each; all = every }
    where
      each : (k : ℕ) (r : Ray) (l : Label) → IsAt t.rays.items k r → IsAt t.sectors.items k l → (i : ℕ) × IsAt ends i (r, l)
      each k r l a b =
          let x = all k (slice_get_within t.rays.items k r a) in
          let p = at_end k r l a b x in
          (x.number, subst (λ (e : ArcEnd). IsAt ends x.number e) (pair x.end r l p.0 p.1) x.listed)
        where
          pair : (e : ArcEnd) (r : Ray) (l : Label) → r ≡ e.0 → l ≡ e.1 → e ≡ (r, l)
          pair e r l p q = rw (p, q) refl

      every : (i : ℕ) (r : Ray) (l : Label) → IsAt ends i (r, l) → (k : ℕ) × IsAt t.rays.items k r × IsAt t.sectors.items k l
      every i r l a =
          let w = has i (r, l) a in
          let q = get-there t.rays.items w.0 w.1 in
          let m = get-there t.sectors.items w.0 (omega (arith, w.1, as_many)) in
          let x = all w.0 w.1 in
          let p = at_end w.0 q.0 m.0 q.1 m.1 x in
          let same : x.end ≡ (r, l) = apart x.number i x.end (r, l) x.listed a (sym x.left ∙ w.2) in
          (w.0, subst (IsAt t.rays.items w.0) (p.0 ∙ ap (λ (e : ArcEnd). e.0) same) q.1, subst (IsAt t.sectors.items w.0) (p.1 ∙ ap (λ (e : ArcEnd). e.1) same) m.1)

-- ---- searching the end of a way
abbrev pub NoneBefore : List ArcEnd → ℕ → Vector → Type 0
NoneBefore ends k v = (i : ℕ) (e : ArcEnd) → 0 < i → i < k → IsAt ends i e → left_of e.0 ≡ v → ⊥

pub none-next : (ends : List ArcEnd) (k : ℕ) (v : Vector) (e : ArcEnd) → IsAt ends k e → (left_of e.0 ≡ v → ⊥) → NoneBefore ends k v → NoneBefore ends (k + 1) v
none-next ends k v e a n none i f s h b z = elim (eq-or-lt_of_le {n = i} {m = k} (omega (arith, h))) [
  | inl q ↦ (let same : Some e ≡ Some f = sym a ∙ ap (slice_get ends) (sym q) ∙ b in (let g : e ≡ f = cc in n (ap (λ (x : ArcEnd). left_of x.0) g ∙ z)))
  | inr p ↦ none i f s p b z
]

-- where none of the later ones goes it, the first does
pub first-goes : (ends : List ArcEnd) (k : ℕ) (v : Vector) (x : ArcEnd) → length ends ≤ k → NoneBefore ends k v → IsAt ends 0 x → (i : ℕ) × (e : ArcEnd) × IsAt ends i e × (left_of e.0 ≡ v) → left_of x.0 ≡ v
first-goes ends k v x h none b (i, e, a, z) = first i a
  where
    first : (i : ℕ) → IsAt ends i e → left_of x.0 ≡ v
    first zero a = let same : Some x ≡ Some e = sym b ∙ a in (let g : x ≡ e = cc in ap (λ (y : ArcEnd). left_of y.0) g ∙ z)
    first (suc i) a = absurd (none (suc i) e (omega arith) (let l = slice_get_within ends (suc i) e a in omega (arith, h, l)) a z)

-- ---- all together
pub finished : (ends : List ArcEnd) (t s u : Star) → HasWays ends (length ends) t → IsEnded ends (length t.rays.items) t s → BeginsAnywhere u → KeepsLabels s u
    → (u ≡ s) ⊎ ((m : ℕ) × (m < length s.rays.items) × IsCountedFrom m s u) → 0 < length ends → ((k : ℕ) (e : ArcEnd) → IsAt ends k e → IsRay (vector_of t.axis) e.0) → EndsAreApart ends → IsRound ends u
finished ends t s u W E U K c some rays apart = is-round ends u U count rays_u all apart (λ i e a. has i e a c)
  where
    axis : u.axis ≡ t.axis
    axis = K.axis ∙ E.axis

    rays_u : (k : ℕ) (e : ArcEnd) → IsAt ends k e → IsRay (vector_of u.axis) e.0
    rays_u k e a = subst (λ (d : Dir). IsRay (vector_of d) e.0) (sym axis) (rays k e a)

    ended : (k : ℕ) → k < length s.rays.items → IsEndAt ends s k
    ended k h = E.ends_at k (omega (arith, h, E.count))

    all : (k : ℕ) → k < length u.rays.items → IsEndAt ends u k
    all k h = by c
      where
        by : (u ≡ s) ⊎ ((m : ℕ) × (m < length s.rays.items) × IsCountedFrom m s u) → IsEndAt ends u k
        by (inl e) = subst (λ (x : Star). IsEndAt ends x k) (sym e) (ended k (subst (λ (x : Star). k < length x.rays.items) e h))
        by (inr (m, l, x)) = counted-end ends s u E.turned K.axis K.mark m l x ended k h

    has : (i : ℕ) (e : ArcEnd) → IsAt ends i e → (u ≡ s) ⊎ ((m : ℕ) × (m < length s.rays.items) × IsCountedFrom m s u) → HasLeft u (left_of e.0)
    has i e a x =
        let h = W.all i e (slice_get_within ends i e a) a in
        let g : HasLeft s (left_of e.0) = (h.0, (let l = h.1 in omega (arith, l, E.count)), E.lefts h.0 ∙ h.2) in
        ⊎_elim (λ z. subst (λ (y : Star). HasLeft y (left_of e.0)) (sym z) g) (λ y. counted-left ends s u E.turned K.axis K.mark y.0 y.1 y.2 (left_of e.0) g) x

    count : 0 < length u.rays.items
    count = let e = get-there ends 0 some in let h = has 0 e.0 e.1 c in let l = h.1 in omega (arith, l)
