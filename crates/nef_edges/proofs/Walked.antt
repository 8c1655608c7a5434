-- Edges laid out svertex by svertex, and those that are joined later.
use Rattle.nef_edges.proofs.Prelude.{◌≡◌, ℕ, zero, suc, ◌+◌, ◌<◌, ◌≤◌, pos, set, List, [], ◌∷◌, ◌++◌, length, map, arith, refl, sym, ap, subst, ◌∙◌, inl, inr, ◌⊎◌, ⊎_elim, Bool, true, cases_order, ints, IsNormal, vector_of, IsAt, MapVertex, InOrder, is-at_one, IsEdgeBelow, Edges, SVertex, svertex_of, Vertex, Edge, vertex_of, edge_of, IsEarlierSvertex, AreJoined, IsMatched, AreMatched, ArriveApart, AreMarkedArrivals, slot_of, AreLaid, IsPart, IsJoinedAt, is-at_none, is-at_first}
use Rattle.law_geometry.specs.complex.Complexes.{Vertex as PlainVertex, Edge as PlainEdge}
use Rattle.nef_edges.proofs.Arrivals.{before-more, before-row, earlier-row, earlier-next}
use Rattle.nef_edges.proofs.Matched.{matched-are_edges}
use Rattle.nef_space.proofs.Lists.{is-at_last, is-at_left, is-at_map, is-at_more, is-at_within, map-is_at}
use Rattle.law_geometry.proofs.sphere.Lists.{order-more}

-- ---- one element is another
module _ {A : Type 0} where
  pub set-at : (xs : List A) (n k : ℕ) (y x : A) → IsAt (set xs n y) k x → ((k ≡ n) × (y ≡ x)) ⊎ ((k ≡ n → ⊥) × IsAt xs k x)
  set-at [] n k y x a = absurd (is-at_none a)
  set-at (z ∷ zs) zero zero y x a = inl (refl, is-at_first a)
  set-at (z ∷ zs) zero (suc k) y x a = inr ((λ e. omega (arith, e)), a)
  set-at (z ∷ zs) (suc n) zero y x a = inr ((λ e. omega (arith, e)), a)
  set-at (z ∷ zs) (suc n) (suc k) y x a = ⊎_elim (λ h. inl (ap suc h.0, h.1)) (λ h. inr ((λ e. h.0 (omega (arith, e))), h.1)) (set-at zs n k y x a)

  pub set-from : (xs : List A) (n k : ℕ) (y x : A) → IsAt xs k x → ((k ≡ n) × IsAt (set xs n y) n y) ⊎ IsAt (set xs n y) k x
  set-from [] n k y x a = absurd (is-at_none a)
  set-from (z ∷ zs) zero zero y x a = inl (refl, refl)
  set-from (z ∷ zs) zero (suc k) y x a = inr a
  set-from (z ∷ zs) (suc n) zero y x a = inr a
  set-from (z ∷ zs) (suc n) (suc k) y x a = ⊎_elim (λ h. inl (ap suc h.0, h.1)) (λ h. inr h) (set-from zs n k y x a)

-- ---- lists of numbers
pub part-same : (ns ms : List ℕ) → ms ≡ ns → IsPart ns ms
part-same ns ms e j k a = (j, subst (λ (xs : List ℕ). IsAt xs j k) (sym e) a)

pub part-more : (ns ms : List ℕ) (n : ℕ) → ms ≡ ns ++ n ∷ [] → IsPart ns ms
part-more ns ms n e j k a = (j, subst (λ (xs : List ℕ). IsAt xs j k) (sym e) (is-at_left ns (n ∷ []) j k a))

pub part-trans : (ns ms ls : List ℕ) → IsPart ns ms → IsPart ms ls → IsPart ns ls
part-trans ns ms ls f g j k a = let l = f j k a in g l.0 k l.1

module _ (vs : List Vertex) where
  -- more of them are told as loose
  pub laid-part : (C : ℕ → ℕ → Type 0) (es : List Edge) (ns ms : List ℕ) → IsPart ns ms → AreLaid vs C es ns 0 → AreLaid vs C es ms 0
  laid-part C es ns ms f A = record {
    each = A.each;
    matched = λ k e a. ⊎_elim (λ m. inl m) (λ l. let r = f l.0 k l.2 in inr (r.0, omega arith, r.1)) (A.matched k e a);
    all = A.all;
    ordered = A.ordered;
  }

  -- all svertices of vertex i have been counted
  pub laid-row : (i k : ℕ) (es : List Edge) (ns : List ℕ) (v : Vertex) → IsAt vs i v → length v.map.svertices ≤ k → AreLaid vs (IsEarlierSvertex i k) es ns 0 → AreLaid vs (IsEarlierSvertex (i + 1) 0) es ns 0
  laid-row i k es ns v a l A = record {
    each = λ n e b. earlier-row i k e.low e.low_svertex (A.each n e b);
    matched = A.matched;
    all = λ j m w s b c n q. A.all j m w s b c n (before-row vs i k v a l j m w s b c q);
    ordered = A.ordered;
  }

  -- a svertex that no edge leads on from
  pub laid-pass : (i k : ℕ) (es : List Edge) (ns : List ℕ) (v : Vertex) (s : SVertex) → IsAt vs i v → IsAt v.map.svertices k s → (IsNormal (vector_of s.dir) → ⊥) → AreLaid vs (IsEarlierSvertex i k) es ns 0 → AreLaid vs (IsEarlierSvertex i (k + 1)) es ns 0
  laid-pass i k es ns v s a b n A = record {
    each = λ l e c. earlier-next i k e.low e.low_svertex (A.each l e c);
    matched = A.matched;
    all = λ j m w t c d up q. ⊎_elim (λ h. A.all j m w t c d up h) (λ h. absurd (this j m w t c d up h.0 h.1)) (before-more i k j m q);
    ordered = A.ordered;
  }
    where
      this : (j m : ℕ) (w : Vertex) (t : SVertex) → IsAt vs j w → IsAt w.map.svertices m t → IsNormal (vector_of t.dir) → j ≡ i → m ≡ k → ⊥
      this j m w t c d up g h =
          let f = is-at_one vs i w v (subst (λ l. IsAt vs l w) g c) a in
          let u = is-at_one v.map.svertices k t s (subst (λ (x : Vertex). IsAt x.map.svertices k t) f (subst (λ l. IsAt w.map.svertices l t) h d)) b in
          n (subst (λ (x : SVertex). IsNormal (vector_of x.dir)) u up)

  -- one that the edge f leads on from, which is matched or loose
  module _ (i k : ℕ) (es : List Edge) (ns ms : List ℕ) (f : Edge) (A : AreLaid vs (IsEarlierSvertex i k) es ns 0) (P : IsPart ns ms) (fi : f.low ≡ i) (fk : f.low_svertex ≡ k)
      (M : IsMatched (map vertex_of vs) (edge_of f) ⊎ ((j : ℕ) × IsAt ms j (length es))) where
    below : (n : ℕ) (e : Edge) → IsAt es n e → IsEdgeBelow (edge_of e) (edge_of f)
    below n e c = by (A.each n e c)
      where
        by : IsEarlierSvertex i k e.low e.low_svertex → IsEdgeBelow (edge_of e) (edge_of f)
        by (inl h) = inl (omega (arith, ints, fi))
        by (inr h) = inr (ap pos (h.0 ∙ sym fi), inl (let l = h.1 in omega (arith, ints, fk)))

    pub laid-add : AreLaid vs (IsEarlierSvertex i (k + 1)) (es ++ f ∷ []) ms 0
    laid-add = record { each = each; matched = matched; all = all; ordered = order-more (λ e g. IsEdgeBelow (edge_of e) (edge_of g)) es f A.ordered below }
      where
        each : (n : ℕ) (e : Edge) → IsAt (es ++ f ∷ []) n e → IsEarlierSvertex i (k + 1) e.low e.low_svertex
        each n e c = ⊎_elim
            (λ d. earlier-next i k e.low e.low_svertex (A.each n e d))
            (λ d. subst (λ (g : Edge). IsEarlierSvertex i (k + 1) g.low g.low_svertex) d.1 (inr (fi, omega (arith, fk))))
            (is-at_more es f n e c)

        now : IsMatched (map vertex_of vs) (edge_of f) ⊎ ((j : ℕ) × (0 ≤ j) × IsAt ms j (length es))
        now = ⊎_elim (λ m. inl m) (λ l. inr (l.0, omega arith, l.1)) M

        matched : (n : ℕ) (e : Edge) → IsAt (es ++ f ∷ []) n e → IsMatched (map vertex_of vs) (edge_of e) ⊎ ((j : ℕ) × (0 ≤ j) × IsAt ms j n)
        matched n e c = ⊎_elim
            (λ d. (laid-part (IsEarlierSvertex i k) es ns ms P A).matched n e d)
            (λ d. subst (λ (g : Edge). IsMatched (map vertex_of vs) (edge_of g) ⊎ ((j : ℕ) × (0 ≤ j) × IsAt ms j n)) d.1 (subst (λ (m : ℕ). IsMatched (map vertex_of vs) (edge_of f) ⊎ ((j : ℕ) × (0 ≤ j) × IsAt ms j m)) (sym d.0) now))
            (is-at_more es f n e c)

        all : (j m : ℕ) (w : Vertex) (t : SVertex) → IsAt vs j w → IsAt w.map.svertices m t → IsNormal (vector_of t.dir) → IsEarlierSvertex i (k + 1) j m → (n : ℕ) × (e : Edge) × IsAt (es ++ f ∷ []) n e × (e.low ≡ j) × (e.low_svertex ≡ m)
        all j m w t a b up q = ⊎_elim
            (λ h. let r = A.all j m w t a b up h in (r.0, r.1, is-at_left es (f ∷ []) r.0 r.1 r.2, r.3, r.4))
            (λ h. (length es, f, is-at_last es f, fi ∙ sym h.0, fk ∙ sym h.1))
            (before-more i k j m q)

  -- ---- a loose edge is joined
  module _ (C : ℕ → ℕ → Type 0) (es fs : List Edge) (ns : List ℕ) (j n : ℕ) (A : AreLaid vs C es ns j) (here : IsAt ns j n) (J : IsJoinedAt vs n es fs) where
    -- what stood in the place of an edge
    before : (k : ℕ) (e : Edge) → IsAt fs k e → (d : Edge) × IsAt es k d × (e.low ≡ d.low) × (e.low_svertex ≡ d.low_svertex)
    before k e a = ⊎_elim
        (λ h. (J.old, subst (λ (m : ℕ). IsAt es m J.old) (sym h.0) J.is_old, ap (λ (x : Edge). x.low) (sym h.1) ∙ J.low, ap (λ (x : Edge). x.low_svertex) (sym h.1) ∙ J.low_svertex))
        (λ h. (e, h.1, refl, refl))
        (set-at es n k J.new e (subst (λ (xs : List Edge). IsAt xs k e) J.changed a))

    same-below : (d e f g : Edge) → e.low ≡ d.low → e.low_svertex ≡ d.low_svertex → f.low ≡ g.low → f.low_svertex ≡ g.low_svertex → IsEdgeBelow (edge_of d) (edge_of g) → IsEdgeBelow (edge_of e) (edge_of f)
    same-below d e f g p q r s (inl h) = inl (omega (arith, ints, p, r))
    same-below d e f g p q r s (inr (h, inl i)) = inr (ap pos p ∙ h ∙ ap pos (sym r), inl (omega (arith, ints, q, s)))
    same-below d e f g p q r s (inr (h, inr i)) = absurd i.1

    pub laid-joined : AreLaid vs C fs ns (j + 1)
    laid-joined = record { each = each; matched = matched; all = all; ordered = ordered }
      where
        each : (k : ℕ) (e : Edge) → IsAt fs k e → C e.low e.low_svertex
        each k e a = let d = before k e a in subst (C e.low) (sym d.3) (subst (λ (m : ℕ). C m d.0.low_svertex) (sym d.2) (A.each k d.0 d.1))

        others : (k : ℕ) (e : Edge) → IsAt es k e → (k ≡ n → ⊥) → IsMatched (map vertex_of vs) (edge_of e) ⊎ ((l : ℕ) × (j + 1 ≤ l) × IsAt ns l k)
        others k e a o = ⊎_elim (λ m. inl m)
            (λ l. ⊎_elim (λ h. absurd (o (is-at_one ns j k n (subst (λ (m : ℕ). IsAt ns m k) h l.2) here))) (λ h. inr (l.0, ⊎_elim (λ b. absurd (let c = l.1 in omega arith)) (λ b. omega arith) h, l.2)) (cases_order l.0 j))
            (A.matched k e a)

        matched : (k : ℕ) (e : Edge) → IsAt fs k e → IsMatched (map vertex_of vs) (edge_of e) ⊎ ((l : ℕ) × (j + 1 ≤ l) × IsAt ns l k)
        matched k e a = ⊎_elim
            (λ h. inl (subst (λ (x : Edge). IsMatched (map vertex_of vs) (edge_of x)) h.1 J.matched))
            (λ h. others k e h.1 h.0)
            (set-at es n k J.new e (subst (λ (xs : List Edge). IsAt xs k e) J.changed a))

        all : (i a : ℕ) (v : Vertex) (s : SVertex) → IsAt vs i v → IsAt v.map.svertices a s → IsNormal (vector_of s.dir) → C i a → (k : ℕ) × (e : Edge) × IsAt fs k e × (e.low ≡ i) × (e.low_svertex ≡ a)
        all i a v s b c up q =
            let r = A.all i a v s b c up q in
            let t = set-from es n r.0 J.new r.1 r.2 in
            ⊎_elim
            (λ h.
            let o = is-at_one es n r.1 J.old (subst (λ (m : ℕ). IsAt es m r.1) h.0 r.2) J.is_old in
            (n, J.new, subst (λ (xs : List Edge). IsAt xs n J.new) (sym J.changed) h.1, J.low ∙ ap (λ (x : Edge). x.low) (sym o) ∙ r.3, J.low_svertex ∙ ap (λ (x : Edge). x.low_svertex) (sym o) ∙ r.4))
            (λ h. (r.0, r.1, subst (λ (xs : List Edge). IsAt xs r.0 r.1) (sym J.changed) h, r.3, r.4))
            t

        ordered : InOrder (λ e f. IsEdgeBelow (edge_of e) (edge_of f)) fs
        ordered i k x y l a b =
            let c = before i x a in let d = before k y b in
            same-below c.0 x y d.0 c.2 c.3 d.2 d.3 (A.ordered i k c.0 d.0 l c.1 d.1)

  -- none of them is loose
  pub laid-whole : (C : ℕ → ℕ → Type 0) (es : List Edge) (ns : List ℕ) (j : ℕ) → length ns ≤ j → AreLaid vs C es ns j → AreLaid vs C es [] 0
  laid-whole C es ns j l A = record {
    each = A.each;
    matched = λ k e a. ⊎_elim (λ m. inl m) (λ r. absurd (let w = is-at_within ns r.0 k r.2 in let b = r.1 in omega arith)) (A.matched k e a);
    all = A.all;
    ordered = A.ordered;
  }

  -- when all have been counted and joined, these are matched
  pub laid-matched : (es : List Edge) → AreLaid vs (IsEarlierSvertex (length vs) 0) es [] 0 → ArriveApart es (length es) → AreMatched (map vertex_of vs) (map edge_of es)
  laid-matched es A P = record {
    each = λ k e a. let f = is-at_map edge_of es k e a in subst (IsMatched (map vertex_of vs)) f.2 (is-matched k f.0 f.1);
    all = all;
    once = λ k l e f a b p q.
        let g = is-at_map edge_of es k e a in let h = is-at_map edge_of es l f b in
        P k l g.0 h.0 g.1 h.1 (is-at_within es k g.0 g.1) (is-at_within es l h.0 h.1) (ap (λ (x : PlainEdge). x.high) g.2 ∙ p ∙ ap (λ (x : PlainEdge). x.high) (sym h.2))
        (ap (λ (x : PlainEdge). x.high_svertex) g.2 ∙ q ∙ ap (λ (x : PlainEdge). x.high_svertex) (sym h.2));
    ordered = λ i k x y l a b.
        let f = is-at_map edge_of es i x a in let g = is-at_map edge_of es k y b in
        subst (IsEdgeBelow x) g.2 (subst (λ (e : PlainEdge). IsEdgeBelow e (edge_of g.0)) f.2 (A.ordered i k f.0 g.0 l f.1 g.1));
  }
    where
      is-matched : (k : ℕ) (e : Edge) → IsAt es k e → IsMatched (map vertex_of vs) (edge_of e)
      is-matched k e a = ⊎_elim (λ m. m) (λ l. absurd (is-at_none l.2)) (A.matched k e a)

      all : (i a : ℕ) (v : PlainVertex) (u : MapVertex) → IsAt (map vertex_of vs) i v → IsAt v.map.svertices a u → IsNormal u.dir → (k : ℕ) × (e : PlainEdge) × IsAt (map edge_of es) k e × (e.low ≡ i) × (e.low_svertex ≡ a)
      all i a v u b c n =
          let w = is-at_map vertex_of vs i v b in
          let t = is-at_map svertex_of w.0.map.svertices a u (subst (λ (x : PlainVertex). IsAt x.map.svertices a u) (sym w.2) c) in
          let r = A.all i a w.0 t.0 w.1 t.1 (subst (λ (x : MapVertex). IsNormal x.dir) (sym t.2) n) (inl (is-at_within vs i w.0 w.1)) in
          (r.0, edge_of r.1, map-is_at edge_of es r.0 r.1 r.2, r.3, r.4)

  pub laid-are_edges : (es : List Edge) → AreJoined (map vertex_of vs) → AreLaid vs (IsEarlierSvertex (length vs) 0) es [] 0 → ArriveApart es (length es) → Edges (map vertex_of vs) (map edge_of es)
  laid-are_edges es J A P = matched-are_edges (map vertex_of vs) (map edge_of es) J (laid-matched es A P)

-- ---- the marks of what is taken
module _ (starts : List ℕ) (es : List Edge) (n : ℕ) (f : Edge) (here : IsAt es n f) where
  one-more : (k : ℕ) (e : Edge) → IsAt es k e → k < n + 1 → (k < n) ⊎ ((k ≡ n) × (f ≡ e))
  one-more k e a l = ⊎_elim (λ h. inr (h, is-at_one es n f e here (subst (λ (m : ℕ). IsAt es m e) h a))) (λ h. inl (⊎_elim (λ b. b) (λ b. absurd (omega arith)) h)) (cases_order k n)

  pub taken-more : (marks new : List Bool) → AreMarkedArrivals starts marks es n → ((k : ℕ) → IsAt marks k true → IsAt new k true) → IsAt new (slot_of starts f.high f.high_svertex) true → AreMarkedArrivals starts new es (n + 1)
  taken-more marks new T kept set k e a l = ⊎_elim
      (λ h. kept (slot_of starts e.high e.high_svertex) (T k e a h))
      (λ h. subst (λ (g : Edge). IsAt new (slot_of starts g.high g.high_svertex) true) h.1 set)
      (one-more k e a l)

  module _ (marks : List Bool) (T : AreMarkedArrivals starts marks es n) (free : IsAt marks (slot_of starts f.high f.high_svertex) true → ⊥) where
    not-here : (k : ℕ) (e : Edge) → IsAt es k e → k < n → e.high ≡ f.high → e.high_svertex ≡ f.high_svertex → ⊥
    not-here k e a l h i = free (subst (λ (m : ℕ). IsAt marks (slot_of starts f.high m) true) i (subst (λ (m : ℕ). IsAt marks (slot_of starts m e.high_svertex) true) h (T k e a l)))

    pub apart-more : ArriveApart es n → ArriveApart es (n + 1)
    apart-more P k l d e a b p q g h = ⊎_elim
        (λ c. ⊎_elim (λ r. P k l d e a b c r g h) (λ r. absurd (not-here k d a c (g ∙ ap (λ (x : Edge). x.high) (sym r.1)) (h ∙ ap (λ (x : Edge). x.high_svertex) (sym r.1)))) (one-more l e b q))
        (λ c. ⊎_elim (λ r. absurd (not-here l e b r (sym g ∙ ap (λ (x : Edge). x.high) (sym c.1)) (sym h ∙ ap (λ (x : Edge). x.high_svertex) (sym c.1)))) (λ r. c.0 ∙ sym r.0) (one-more l e b q))
        (one-more k d a p)

pub apart-none : (es : List Edge) → ArriveApart es 0
apart-none es k l e f a b p q g h = absurd (omega arith)

pub taken-none : (starts : List ℕ) (marks : List Bool) (es : List Edge) → AreMarkedArrivals starts marks es 0
taken-none starts marks es k e a l = absurd (omega arith)

pub set-one : (bs : List Bool) (k : ℕ) → k < length bs → IsAt (set bs k true) k true
set-one [] k h = absurd (omega arith)
set-one (b ∷ bs) zero h = refl
set-one (b ∷ bs) (suc k) h = set-one bs k (omega arith)

pub set-kept : (bs : List Bool) (k j : ℕ) → IsAt bs j true → IsAt (set bs k true) j true
set-kept [] k j a = absurd (is-at_none a)
set-kept (b ∷ bs) zero zero a = refl
set-kept (b ∷ bs) zero (suc j) a = a
set-kept (b ∷ bs) (suc k) zero a = a
set-kept (b ∷ bs) (suc k) (suc j) a = set-kept bs k j a
