-- EdgeEnds that arrive, collected svertex by svertex.
use Rattle.nef_edges.proofs.Prelude.{◌≡◌, ℕ, zero, suc, ◌+◌, ◌<◌, ◌≤◌, List, [], ◌∷◌, ◌++◌, length, Bool, false, arith, refl, sym, ap, subst, ◌∙◌, inl, inr, ◌⊎◌, ⊎_elim, IsTrue, false≢true, opposite, IsNormal, vector_of, IsAt, is-at_one, SVertex, Vertex, EdgeEnd, IsEarlierSvertex, IsArriving, AreArriving}
use Rattle.nef_space.proofs.Lists.{is-at_last, is-at_left, is-at_more, is-at_within}
use Rattle.nef_space.proofs.Elementary.{less-or-last}

pub IsTrue-false : (b : Bool) → IsTrue b → b ≡ false → ⊥
IsTrue-false b h e = false≢true (sym e ∙ h)

-- ---- which svertices have been counted
pub before-more : (i k j m : ℕ) → IsEarlierSvertex i (k + 1) j m → IsEarlierSvertex i k j m ⊎ ((j ≡ i) × (m ≡ k))
before-more i k j m (inl h) = inl (inl h)
before-more i k j m (inr (e, h)) = elim (less-or-last m k h) [ inl l ↦ inl (inr (e, l)) | inr l ↦ inr (e, l) ]

pub earlier-next : (i k j m : ℕ) → IsEarlierSvertex i k j m → IsEarlierSvertex i (k + 1) j m
earlier-next i k j m (inl h) = inl h
earlier-next i k j m (inr h) = inr (h.0, (let l = h.1 in omega arith))

pub earlier-row : (i k j m : ℕ) → IsEarlierSvertex i k j m → IsEarlierSvertex (i + 1) 0 j m
earlier-row i k j m (inl h) = inl (omega arith)
earlier-row i k j m (inr h) = inl (let e = h.0 in omega arith)

-- all svertices of vertex i
pub before-row : (vs : List Vertex) (i k : ℕ) (v : Vertex) → IsAt vs i v → length v.map.svertices ≤ k → (j m : ℕ) (w : Vertex) (s : SVertex) → IsAt vs j w → IsAt w.map.svertices m s → IsEarlierSvertex (i + 1) 0 j m → IsEarlierSvertex i k j m
before-row vs i k v a l j m w s b t (inr h) = absurd (let z = h.1 in omega arith)
before-row vs i k v a l j m w s b t (inl h) = elim (before-more i 0 j 0 (before-first i j h)) [ inl g ↦ first g | inr g ↦ same g.0 ]
  where
    before-first : (i j : ℕ) → j < i + 1 → IsEarlierSvertex i 1 j 0
    before-first zero zero h = inr (refl, omega arith)
    before-first zero (suc j) h = absurd (omega arith)
    before-first (suc i) zero h = inl (omega arith)
    before-first (suc i) (suc j) h = elim (before-first i j (omega arith)) [ inl g ↦ inl (omega arith) | inr g ↦ inr (ap suc g.0, omega arith) ]

    first : IsEarlierSvertex i 0 j 0 → IsEarlierSvertex i k j m
    first (inl g) = inl g
    first (inr g) = absurd (let z = g.1 in omega arith)

    same : j ≡ i → IsEarlierSvertex i k j m
    same e =
        let f = is-at_one vs i w v (subst (λ n. IsAt vs n w) e b) a in
        let n = is-at_within w.map.svertices m s t in
        let n' : m < length v.map.svertices = subst (λ (x : Vertex). m < length x.map.svertices) f n in
        inr (e, omega arith)

module _ (vs : List Vertex) where
  pub arriving-weaken : (P Q : ℕ → ℕ → Type 0) (hs : List EdgeEnd) → AreArriving vs P hs → ((j m : ℕ) (v : Vertex) (s : SVertex) → IsAt vs j v → IsAt v.map.svertices m s → Q j m → P j m) → AreArriving vs Q hs
  arriving-weaken P Q hs a f = record { each = a.each; all = λ j m v s b c n q. a.all j m v s b c n (f j m v s b c q) }

  -- a svertex that an edge doesn't arrive along
  pub arriving-pass : (i k : ℕ) (hs : List EdgeEnd) (v : Vertex) (s : SVertex) → AreArriving vs (IsEarlierSvertex i k) hs → IsAt vs i v → IsAt v.map.svertices k s → (IsNormal (opposite (vector_of s.dir)) → ⊥) → AreArriving vs (IsEarlierSvertex i (k + 1)) hs
  arriving-pass i k hs v s a b c n = record { each = a.each; all = all }
    where
      all : (j m : ℕ) (w : Vertex) (t : SVertex) → IsAt vs j w → IsAt w.map.svertices m t → IsNormal (opposite (vector_of t.dir)) → IsEarlierSvertex i (k + 1) j m → (l : ℕ) × (h : EdgeEnd) × IsAt hs l h × (h.vertex ≡ j) × (h.svertex ≡ m)
      all j m w t d e up q = ⊎_elim (λ g. a.all j m w t d e up g) (λ g. absurd (this g.0 g.1)) (before-more i k j m q)
        where
          this : j ≡ i → m ≡ k → ⊥
          this g h =
              let f = is-at_one vs i w v (subst (λ n. IsAt vs n w) g d) b in
              let u = is-at_one v.map.svertices k t s (subst (λ (x : Vertex). IsAt x.map.svertices k t) f (subst (λ n. IsAt w.map.svertices n t) h e)) c in
              n (subst (λ (x : SVertex). IsNormal (opposite (vector_of x.dir))) u up)

  -- svertex k of vertex i as an end that arrives
  pub arriving-end : (i k : ℕ) (v : Vertex) (s : SVertex) (h : EdgeEnd) → IsAt vs i v → IsAt v.map.svertices k s → h.point ≡ v.point → vector_of h.dir ≡ opposite (vector_of s.dir) → h.vertex ≡ i → h.svertex ≡ k → IsArriving vs h
  arriving-end i k v s h a b p d e f = record { vertex = v; svertex = s; has_vertex = subst (λ m. IsAt vs m v) (sym e) a; has_svertex = subst (λ m. IsAt v.map.svertices m s) (sym f) b; point = p; back = d }

  -- one that it arrives along
  pub arriving-add : (i k : ℕ) (hs : List EdgeEnd) (h : EdgeEnd) → AreArriving vs (IsEarlierSvertex i k) hs → IsArriving vs h → h.vertex ≡ i → h.svertex ≡ k → AreArriving vs (IsEarlierSvertex i (k + 1)) (hs ++ h ∷ [])
  arriving-add i k hs h a is e f = record { each = each; all = all }
    where
      each : (l : ℕ) (g : EdgeEnd) → IsAt (hs ++ h ∷ []) l g → IsArriving vs g
      each l g b = ⊎_elim (λ c. a.each l g c) (λ c. subst (IsArriving vs) c.1 is) (is-at_more hs h l g b)

      all : (j m : ℕ) (w : Vertex) (t : SVertex) → IsAt vs j w → IsAt w.map.svertices m t → IsNormal (opposite (vector_of t.dir)) → IsEarlierSvertex i (k + 1) j m → (l : ℕ) × (g : EdgeEnd) × IsAt (hs ++ h ∷ []) l g × (g.vertex ≡ j) × (g.svertex ≡ m)
      all j m w t d b up q = ⊎_elim
          (λ g. let r = a.all j m w t d b up g in (r.0, r.1, is-at_left hs (h ∷ []) r.0 r.1 r.2, r.3, r.4))
          (λ g. (length hs, h, is-at_last hs h, e ∙ sym g.0, f ∙ sym g.1)) (before-more i k j m q)
