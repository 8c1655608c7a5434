-- Rays with what their marks become, one after another.
use Rattle.nef_stopo.proofs.Prelude.{◌≡◌, ℕ, ◌+◌, ◌-◌, ◌<◌, List, [], ◌∷◌, ◌++◌, length, get_or, arith, refl, sym, ap, subst, ◌∙◌, inl, inr, length_push, Label, Out, IsAt, is-at_one, Topology, Ray, Star, sector_count, IsStar, IsNext, sectors-fill, count-some, is-at_get, is-at_more, IsRayMarked, AreRaysMarked, is-at_none}

-- l is the label of the sector before ray n
abbrev pub IsSectorBefore : Star → ℕ → Label → Type 0
IsSectorBefore t n l = (i : ℕ) (x : Label) → IsNext (length t.rays.items) i n → IsAt t.sectors.items i x → x ≡ l

-- as far as the first n rays
pub record IsMarkedUpTo (k : Topology) (t : Star) (n : ℕ) (us : List Ray) (l : Label) : Type 0 where
  pub marked : AreRaysMarked k t n us
  pub before : IsSectorBefore t n l

module _ (k : Topology) (t : Star) (T : IsStar t) where
  pub some-sector : 0 < length t.sectors.items
  some-sector = by t.rays.items (length t.sectors.items) T.turned.sectors
    where
      by : (rs : List Ray) (n : ℕ) → n ≡ sector_count rs → 0 < n
      by [] n e = omega arith
      by (r ∷ rs) n e = omega arith

  before-first : (l : Label) → IsAt t.sectors.items (length t.sectors.items - 1) l → IsSectorBefore t 0 l
  before-first l a i x (inl e) h = absurd (omega (arith, e.0))
  before-first l a i x (inr e) h = is-at_one t.sectors.items i x l h (subst (λ (j : ℕ). IsAt t.sectors.items j l) last a)
    where
      last : length t.sectors.items - 1 ≡ i
      last = omega (arith, T.turned.sectors, count-some t.rays.items (omega (arith, e.0)), e.0)

  before-next : (n : ℕ) (l : Label) → IsAt t.sectors.items n l → IsSectorBefore t (n + 1) l
  before-next n l a i x (inl e) h = let s : i ≡ n = omega (arith, e.0) in is-at_one t.sectors.items n x l (subst (λ (j : ℕ). IsAt t.sectors.items j x) s h) a
  before-next n l a i x (inr e) h = absurd (omega (arith, e.1))

  marked-none : AreRaysMarked k t 0 []
  marked-none = record { as_many = refl; rays = λ i j r u l m a b. absurd (is-at_none b) }

  pub marked-first : (l : Label) → IsAt t.sectors.items (length t.sectors.items - 1) l → IsMarkedUpTo k t 0 [] l
  marked-first l a = record { marked = marked-none; before = before-first l a }

  pub marked-more : (n : ℕ) (us : List Ray) (r u : Ray) (l m : Label) → IsMarkedUpTo k t n us l → IsAt t.rays.items n r → IsAt t.sectors.items n m → IsRayMarked k l m r u → IsMarkedUpTo k t (n + 1) (us ++ u ∷ []) m
  marked-more n us r u l m M a b new = record {
    marked = record {
      as_many = length_push us u ∙ ap (λ (i : ℕ). i + 1) M.marked.as_many;
      rays = λ i j q v x y g h s c d.
          elim (is-at_more us u j v h) [
            | inl o ↦ M.marked.rays i j q v x y g o s c d
            | inr o ↦ here i q v x y (o.0 ∙ M.marked.as_many) o.1 g s c d
          ];
    };
    before = before-next n m b;
  }
    where
      here : (i : ℕ) {j : ℕ} (q v : Ray) (x y : Label) → j ≡ n → u ≡ v → IsAt t.rays.items j q → IsNext (length t.rays.items) i j → IsAt t.sectors.items i x → IsAt t.sectors.items j y → IsRayMarked k x y q v
      here i {j} q v x y e f g s c d =
          let g' = subst (λ (p : ℕ). IsAt t.rays.items p q) e g in
          let s' = subst (λ (p : ℕ). IsNext (length t.rays.items) i p) e s in
          let d' = subst (λ (p : ℕ). IsAt t.sectors.items p y) e d in
          subst (λ (p : Label). IsRayMarked k p y q v) (sym (M.before i x s' c))
          (subst (λ (p : Label). IsRayMarked k l p q v) (is-at_one t.sectors.items n m y b d')
          (subst (λ (p : Ray). IsRayMarked k l m p v) (is-at_one t.rays.items n r q a g')
          (subst (λ (p : Ray). IsRayMarked k l m r p) f new)))

  -- ---- with the lists as the program reads them
  pub first-read : (us : List Ray) (ss : List Label) → us ≡ [] → ss ≡ t.sectors.items → IsMarkedUpTo k t 0 us (get_or ss (length ss - 1) Out)
  first-read us ss e f =
      let first = length t.sectors.items - 1 in
      let some = some-sector in
      subst (λ (ls : List Label). IsMarkedUpTo k t 0 us (get_or ls (length ls - 1) Out)) (sym f)
      (subst (λ (vs : List Ray). IsMarkedUpTo k t 0 vs (get_or t.sectors.items first Out)) (sym e)
      (marked-first (get_or t.sectors.items first Out) (is-at_get t.sectors.items first Out (omega arith))))

  pub more-read : (n : ℕ) (us vs rs : List Ray) (ss : List Label) (r u : Ray) (l : Label) → rs ≡ t.rays.items → ss ≡ t.sectors.items → vs ≡ us ++ u ∷ [] → IsMarkedUpTo k t n us l
      → n < length rs → r ≡ get_or rs n r → IsRayMarked k l (get_or ss n Out) r u → IsMarkedUpTo k t (n + 1) vs (get_or ss n Out)
  more-read n us vs rs ss r u l e f g M within is new =
      let m = get_or ss n Out in
      let in_rays : n < length t.rays.items = subst (λ (qs : List Ray). n < length qs) e within in
      let ray : IsAt t.rays.items n r = subst (IsAt t.rays.items n) (sym (is ∙ ap (λ (qs : List Ray). get_or qs n r) e)) (is-at_get t.rays.items n r in_rays) in
      let sector : IsAt t.sectors.items n m = subst (λ (ls : List Label). IsAt t.sectors.items n (get_or ls n Out)) (sym f) (is-at_get t.sectors.items n Out (sectors-fill t.rays.items (length t.sectors.items) n T.turned.sectors in_rays)) in
      subst (λ (ws : List Ray). IsMarkedUpTo k t (n + 1) ws m) (sym g) (marked-more n us r u l m M ray sector new)
