-- Sorting and grouping keep all numbers: each carrier stands in a group of a cluster, and the spans of both hold the points on it.
use Rattle.nef_index.proofs.Prelude.{ℕ, suc, ◌+◌, ◌<◌, ◌⊎◌, inl, inr, ⊎_elim, List, [], ◌∷◌, ◌++◌, length, arith, sym, subst, IsPermutation, Contains-permutation, IsPermutation-sym, IsAt, point_of, Plane, is-at_one, is-at_some, is-at_within, is-at_get, is-at_is, is-at_left, is-at_last, Either, earlier, last, is-at_pushed, Point, Span, Cluster, Group, AreCarrierSpans, StandsIn, IsInGroup, IsInCluster, AreSpanned, AreClusters, AreKeyed, IsWide, IsNarrower}
use Rattle.nef_index.proofs.Spanning.{span-wider, narrower-still}
use Rattle.nef_space.proofs.Elementary.{less-or-last}
use Rattle.nef_space.proofs.Lists.{is-at_either}

-- ---- numbers with keys
pub keyed-none : AreKeyed 0 []
keyed-none = record { within = λ i e a. cc; all = λ k l. absurd (omega arith) }

pub keyed-more : (n key : ℕ) (pairs : List (ℕ × ℕ)) → AreKeyed n pairs → AreKeyed (n + 1) (pairs ++ (key, n) ∷ [])
keyed-more n key pairs K = record {
  within = λ i e a. within i e (is-at_pushed pairs i e (key, n) a);
  all = λ k l. ⊎_elim
      (λ b. let o = K.all k b in (o.0, o.1, is-at_left pairs ((key, n) ∷ []) o.0 o.1 o.2, o.3))
      (λ e. (length pairs, (key, n), is-at_last pairs (key, n), sym e))
      (less-or-last k n l);
}
  where
    within : (i : ℕ) (e : ℕ × ℕ) → Either pairs i e (key, n) → e.1 < n + 1
    within i e (earlier b) = let l = K.within i e b in omega arith
    within i e (last f g) = subst (λ (x : ℕ × ℕ). x.1 < n + 1) (sym g) (omega arith)

at-permutation : (ps qs : List (ℕ × ℕ)) (i : ℕ) (e : ℕ × ℕ) → IsPermutation ps qs → IsAt ps i e → (j : ℕ) × IsAt qs j e
at-permutation ps qs i e m a =
    let c = Contains-permutation ps qs e m (i, is-at_within ps i e a, is-at_is ps i e e a) in
    (c.0, subst (IsAt qs c.0) c.2 (is-at_get qs c.0 e c.1))

pub keyed-moved : (n : ℕ) (ps qs : List (ℕ × ℕ)) → IsPermutation ps qs → AreKeyed n ps → AreKeyed n qs
keyed-moved n ps qs m K = record {
  within = λ i e a. let o = at-permutation qs ps i e (IsPermutation-sym ps qs m) a in K.within o.0 e o.1;
  all = λ k l. let o = K.all k l in let r = at-permutation ps qs o.0 o.1 m o.2 in (r.0, o.1, r.1, o.3);
}

-- ---- one group
-- the group has the numbers of the first n pairs
pub record IsGroupTo (spans : List Span) (pairs : List (ℕ × ℕ)) (n : ℕ) (g : Group) : Type 0 where
  pub wide : IsWide spans (IsInGroup g) g.span
  pub all : (i : ℕ) (e : ℕ × ℕ) → i < n → IsAt pairs i e → IsInGroup g e.1

pub group-none : (spans : List Span) (pairs : List (ℕ × ℕ)) (s : Span) → IsGroupTo spans pairs 0 (record { span = s; carriers = [] })
group-none spans pairs s = record {
  wide = record { within = λ k o. none k (k < length spans) o.0 o.1; wide = λ k t o b. none k (IsNarrower t s) o.0 o.1 };
  all = λ i e l a. absurd (omega arith);
}
  where
    none : (k : ℕ) (P : Type 0) (j : ℕ) → IsAt {X = ℕ} [] j k → P
    none k P j a = cc

pub group-more : (spans : List Span) (pairs : List (ℕ × ℕ)) (n : ℕ) (s t u : Span) (ks : List ℕ) (e : ℕ × ℕ) → IsAt pairs n e → IsAt spans e.1 u → IsNarrower s t → IsNarrower u t → IsGroupTo spans pairs n (record { span = s; carriers = ks }) → IsGroupTo spans pairs (n + 1) (record { span = t; carriers = ks ++ e.1 ∷ [] })
group-more spans pairs n s t u ks e here at w o G = record {
  wide = record {
    within = λ k a. within a.0 k (is-at_pushed ks a.0 k e.1 a.1);
    wide = λ k v a b. wide a.0 k v b (is-at_pushed ks a.0 k e.1 a.1);
  };
  all = λ i f l a. ⊎_elim
      (λ b. let r = G.all i f b a in (r.0, is-at_left ks (e.1 ∷ []) r.0 f.1 r.1))
      (λ z. (length ks, subst (λ (x : ℕ × ℕ). IsAt (ks ++ e.1 ∷ []) (length ks) x.1) (is-at_one pairs n e f here (subst (λ (x : ℕ). IsAt pairs x f) z a)) (is-at_last ks e.1)))
      (less-or-last i n l);
}
  where
    within : (i k : ℕ) → Either ks i k e.1 → k < length spans
    within i k (earlier b) = G.wide.within k (i, b)
    within i k (last f g) = subst (λ (x : ℕ). x < length spans) (sym g) (is-at_within spans e.1 u at)

    wide : (j k : ℕ) (v : Span) → IsAt spans k v → Either ks j k e.1 → IsNarrower v t
    wide j k v b (earlier a) = narrower-still v s t (G.wide.wide k v (j, a) b) w
    wide j k v b (last f g) = subst (λ (x : Span). IsNarrower x t) (is-at_one spans e.1 u v at (subst (λ (x : ℕ). IsAt spans x v) g b)) o

-- ---- groups or clusters, one after the other
behind : {X : Type 0} (xs ys : List X) (i : ℕ) (x : X) → IsAt ys i x → (j : ℕ) × IsAt (xs ++ ys) j x
behind [] ys i x a = (i, a)
behind (y ∷ xs) ys i x a = let o = behind xs ys i x a in (suc o.0, o.1)

-- each element has P, and the number of each pair stands in some element, but for the pairs that are left
pub record AreAllButRest {X : Type 0} (has : X → ℕ → Type 0) (P : X → Type 0) (pairs rest : List (ℕ × ℕ)) (xs : List X) : Type 0 where
  pub left : (i : ℕ) (e : ℕ × ℕ) → IsAt rest i e → (j : ℕ) × IsAt pairs j e
  pub each : (i : ℕ) (x : X) → IsAt xs i x → P x
  pub all : (i : ℕ) (e : ℕ × ℕ) → IsAt pairs i e → StandsIn has xs e.1 ⊎ ((j : ℕ) × IsAt rest j e)

module _ {X : Type 0} (has : X → ℕ → Type 0) where
  pub taken-none : (P : X → Type 0) (pairs : List (ℕ × ℕ)) → AreAllButRest has P pairs pairs []
  taken-none P pairs = record { left = λ i e a. (i, a); each = λ i x a. none x i a; all = λ i e a. inr (i, a) }
    where
      none : (x : X) (i : ℕ) → IsAt {X = X} [] i x → P x
      none x i a = cc

  pub taken-more : (P Q : X → Type 0) (pairs next rest : List (ℕ × ℕ)) (xs : List X) (x : X) → ((y : X) → P y → Q y) → Q x → ((i : ℕ) (e : ℕ × ℕ) → IsAt next i e → has x e.1) → AreAllButRest has P pairs (next ++ rest) xs → AreAllButRest has Q pairs rest (xs ++ x ∷ [])
  taken-more P Q pairs next rest xs x still here taken T = record {
    left = λ i e a. let o = behind next rest i e a in T.left o.0 e o.1;
    each = λ i y a. each i y (is-at_pushed xs i y x a);
    all = λ i e a. ⊎_elim
        (λ s. inl (s.0, s.1, is-at_left xs (x ∷ []) s.0 s.1 s.2, s.3))
        (λ o. ⊎_elim
        (λ b. inl (length xs, x, is-at_last xs x, taken o.0 e b))
        inr
        (is-at_either next rest o.0 e o.1))
        (T.all i e a);
  }
    where
      each : (i : ℕ) (y : X) → Either xs i y x → Q y
      each i y (earlier a) = still y (T.each i y a)
      each i y (last e z) = subst Q (sym z) here

  pub taken-all : (P : X → Type 0) (pairs : List (ℕ × ℕ)) (xs : List X) → AreAllButRest has P pairs [] xs → (i : ℕ) (e : ℕ × ℕ) → IsAt pairs i e → StandsIn has xs e.1
  taken-all P pairs xs T i e a = ⊎_elim (λ s. s) (λ o. none o.0 o.1) (T.all i e a)
    where
      none : (j : ℕ) → IsAt {X = ℕ × ℕ} [] j e → StandsIn has xs e.1
      none j b = cc

-- ---- one cluster
-- the span is as wide as the group's, which is wide enough
abbrev pub IsGroupWithin : List Span → Span → Group → Type 0
IsGroupWithin spans s g = IsWide spans (IsInGroup g) g.span × IsNarrower g.span s

pub group-within : (spans : List Span) (s t : Span) → IsNarrower s t → (g : Group) → IsGroupWithin spans s g → IsGroupWithin spans t g
group-within spans s t w g G = (G.0, narrower-still g.span s t G.1 w)

pub cluster-wide : (spans : List Span) (q : Cluster) → ((i : ℕ) (g : Group) → IsAt q.groups i g → IsGroupWithin spans q.span g) → IsWide spans (IsInCluster q) q.span
cluster-wide spans q each = record {
  within = λ k o. let G = (each o.0 o.1 o.2).0 in G.within k o.3;
  wide = λ k t o a. let r = each o.0 o.1 o.2 in let G = r.0 in narrower-still t o.1.span q.span (G.wide k t o.3 a) r.1;
}

-- the cluster and its groups are as wide as needed
abbrev pub AreWide : List Span → Cluster → Type 0
AreWide spans q = IsWide spans (IsInCluster q) q.span × ((i : ℕ) (g : Group) → IsAt q.groups i g → IsWide spans (IsInGroup g) g.span)

-- ---- the clusters of the carriers
spanned : (hs : List Plane) (ps : List Point) (spans : List Span) (has : ℕ → Type 0) (span : Span) → AreCarrierSpans hs ps spans → IsWide spans has span → AreSpanned hs ps has span
spanned hs ps spans has span S W = record {
  within = λ k o. let l = W.within k o in let e = S.as_many in omega arith;
  each = λ k h o d m v c z.
      let s = is-at_some spans k (W.within k o) in
      span-wider s.0 span (point_of v) (W.wide k s.0 o s.1) (S.each k h s.0 d s.1 m v c z);
}

pub carrier-clusters : (hs : List Plane) (ps : List Point) (spans : List Span) (clusters : List Cluster) → AreCarrierSpans hs ps spans → ((i : ℕ) (q : Cluster) → IsAt clusters i q → IsWide spans (IsInCluster q) q.span)
    → ((i j : ℕ) (q : Cluster) (g : Group) → IsAt clusters i q → IsAt q.groups j g → IsWide spans (IsInGroup g) g.span) → ((k : ℕ) → k < length spans → StandsIn IsInCluster clusters k) → AreClusters hs ps clusters
carrier-clusters hs ps spans clusters S wide groups all = record {
  each = λ i q a. spanned hs ps spans (IsInCluster q) q.span S (wide i q a);
  groups = λ i j q g a b. spanned hs ps spans (IsInGroup g) g.span S (groups i j q g a b);
  all = λ k l. all k (let e = S.as_many in omega arith);
}
