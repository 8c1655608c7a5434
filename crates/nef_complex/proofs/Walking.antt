-- The carriers of a complex among others, and the row of a vertex that is renumbered.
use Rattle.nef_complex.proofs.Prelude.{◌≡◌, ℕ, ◌+◌, ◌<◌, ◌≤◌, ◌⊎◌, inl, inr, ⊎_elim, List, [], ◌∷◌, ◌++◌, length, length-append, arith, refl, sym, subst, ◌∙◌, IsAt, IsBelow, form_numbers, form_of, Plane, is-at_one, is-at_within, is-at_some, is-at_left, is-at_last, Either, earlier, last, is-at_pushed, AreInOrder, AreRead, HasEntry, DoRise, StandsAmong, AreTaken, AreAdded}
use Rattle.nef_space.proofs.Elementary.{less-or-last}

-- ---- entries
pub entry-left : (ns : List ℕ) (n k : ℕ) → HasEntry ns k → HasEntry (ns ++ n ∷ []) k
entry-left ns n k (i, a) = (i, is-at_left ns (n ∷ []) i k a)

pub entry-last : (ns : List ℕ) (n : ℕ) → HasEntry (ns ++ n ∷ []) n
entry-last ns n = (length ns, is-at_last ns n)

-- ---- the walk
-- gs are taken from the first n of hs, but there may be more planes of gs
pub record AreWalked (gs hs : List Plane) (n : ℕ) (ns : List ℕ) (others : List Plane) (ks : List ℕ) : Type 0 where
  pub each : (i k : ℕ) → IsAt ns i k → StandsAmong gs hs i k
  pub below : (i k : ℕ) → IsAt ns i k → k < n
  pub rise : DoRise ns
  pub others_enough : length ks ≡ length others
  pub others_each : (i k : ℕ) → IsAt ks i k → (k < n) × StandsAmong others hs i k
  pub all : (k : ℕ) → k < n → HasEntry ns k ⊎ HasEntry ks k
  pub ordered : AreInOrder others

pub walked-same : (gs hs : List Plane) (n : ℕ) (ns ms : List ℕ) (others planes : List Plane) (ks js : List ℕ) → ms ≡ ns → planes ≡ others → js ≡ ks → AreWalked gs hs n ns others ks → AreWalked gs hs n ms planes js
walked-same gs hs n ns ms others planes ks js a b d W =
    subst (λ (x : List ℕ). AreWalked gs hs n x planes js) (sym a)
    (subst (λ (x : List Plane). AreWalked gs hs n ns x js) (sym b)
    (subst (λ (x : List ℕ). AreWalked gs hs n ns others x) (sym d) W))

pub walked-none : (gs hs : List Plane) → AreWalked gs hs 0 [] [] []
walked-none gs hs = record {
  each = λ i k a. cc;
  below = λ i k a. cc;
  rise = λ i j k l h a b. cc;
  others_enough = refl;
  others_each = λ i k a. cc;
  all = λ k l. absurd (omega arith);
  ordered = λ i j g h l a b. cc;
}

module _ (gs hs : List Plane) (n : ℕ) (ns : List ℕ) (others : List Plane) (ks : List ℕ) (W : AreWalked gs hs n ns others ks) (h : Plane) (here : IsAt hs n h) where
  -- the next of all is the next of gs
  pub walked-taken : IsAt gs (length ns) h → AreWalked gs hs (n + 1) (ns ++ n ∷ []) others ks
  walked-taken there = record {
    each = λ i k a. each i k (is-at_pushed ns i k n a);
    below = λ i k a. below i k (is-at_pushed ns i k n a);
    rise = λ i j k l h a b. rise i j k l h (is-at_pushed ns i k n a) (is-at_pushed ns j l n b);
    others_enough = W.others_enough;
    others_each = λ i k a. let o = W.others_each i k a in (omega arith, o.1);
    all = λ k l. ⊎_elim (λ m. ⊎_elim (λ e. inl (entry-left ns n k e)) (λ e. inr e) (W.all k m))
        (λ e. inl (subst (HasEntry (ns ++ n ∷ [])) (sym e) (entry-last ns n))) (less-or-last k n l);
    ordered = W.ordered;
  }
    where
      each : (i k : ℕ) → Either ns i k n → StandsAmong gs hs i k
      each i k (earlier a) = W.each i k a
      each i k (last e f) = (h, subst (λ (j : ℕ). IsAt gs j h) (sym e) there, subst (λ (j : ℕ). IsAt hs j h) (sym f) here)

      below : (i k : ℕ) → Either ns i k n → k < n + 1
      below i k (earlier a) = let l = W.below i k a in omega arith
      below i k (last e f) = omega arith

      rise : (i j k l : ℕ) → i < j → Either ns i k n → Either ns j l n → k < l
      rise i j k l h (earlier a) (earlier b) = W.rise i j k l h a b
      rise i j k l h (earlier a) (last e f) = let m = W.below i k a in omega arith
      rise i j k l h (last e f) (earlier b) = let m = is-at_within ns j l b in absurd (omega arith)
      rise i j k l h (last e f) (last g m) = absurd (omega arith)

  -- it is one of the others
  pub walked-other : AreInOrder hs → AreWalked gs hs (n + 1) ns (others ++ h ∷ []) (ks ++ n ∷ [])
  walked-other order = record {
    each = W.each;
    below = λ i k a. let l = W.below i k a in omega arith;
    rise = W.rise;
    others_enough = let e = W.others_enough in let a = length-append ks (n ∷ []) in let b = length-append others (h ∷ []) in omega arith;
    others_each = λ i k a. each i k (is-at_pushed ks i k n a);
    all = λ k l. ⊎_elim (λ m. ⊎_elim (λ e. inl e) (λ e. inr (entry-left ks n k e)) (W.all k m))
        (λ e. inr (subst (HasEntry (ks ++ n ∷ [])) (sym e) (entry-last ks n))) (less-or-last k n l);
    ordered = λ i j a b l p q. ordered i j a b l (is-at_pushed others i a h p) (is-at_pushed others j b h q);
  }
    where
      each : (i k : ℕ) → Either ks i k n → (k < n + 1) × StandsAmong (others ++ h ∷ []) hs i k
      each i k (earlier a) = let o = W.others_each i k a in (omega arith, (o.1.0, is-at_left others (h ∷ []) i o.1.0 o.1.1, o.1.2))
      each i k (last e f) =
          (omega arith, (h, subst (λ (j : ℕ). IsAt (others ++ h ∷ []) j h) (sym (e ∙ W.others_enough)) (is-at_last others h), subst (λ (j : ℕ). IsAt hs j h) (sym f) here))

      -- each of the others stands before number n
      before : (i : ℕ) (g : Plane) → IsAt others i g → (k : ℕ) × (k < n) × IsAt hs k g
      before i g a =
          let within = is-at_within others i g a in
          let k = is-at_some ks i (let e = W.others_enough in omega arith) in
          let o = W.others_each i k.0 k.1 in
          (k.0, o.0, subst (IsAt hs k.0) (is-at_one others i o.1.0 g o.1.1 a) o.1.2)

      ordered : (i j : ℕ) (a b : Plane) → i < j → Either others i a h → Either others j b h → IsBelow (form_numbers (form_of a)) (form_numbers (form_of b))
      ordered i j a b l (earlier p) (earlier q) = W.ordered i j a b l p q
      ordered i j a b l (earlier p) (last e f) = let o = before i a p in subst (λ (r : Plane). IsBelow (form_numbers (form_of a)) (form_numbers (form_of r))) (sym f) (order o.0 n a h o.1 o.2 here)
      ordered i j a b l (last e f) (earlier q) = let o = is-at_within others j b q in absurd (omega arith)
      ordered i j a b l (last e f) (last g m) = absurd (omega arith)

-- none of gs was missed
pub taken-all : (gs hs : List Plane) (n : ℕ) (ns : List ℕ) (others : List Plane) (ks : List ℕ) → AreWalked gs hs n ns others ks → length hs ≤ n → length gs ≤ length ns → AreTaken gs hs ns others ks
taken-all gs hs n ns others ks W le enough = record {
  enough = enough;
  each = W.each;
  rise = W.rise;
  others_enough = let e = W.others_enough in omega arith;
  others_each = λ i k a. (W.others_each i k a).1;
  all = λ k l. W.all k (omega arith);
}

-- ---- numbers that are added
pub added-none : (table places old : List ℕ) → AreAdded table places 0 old old
added-none table places old = record { kept = λ k e. e; added = λ i j k l a b. absurd (omega arith); only = λ k e. inl e }

pub added-more : (table places : List ℕ) (n j m : ℕ) (old new : List ℕ) → IsAt places n j → IsAt table j m → AreAdded table places n old new → AreAdded table places (n + 1) old (new ++ m ∷ [])
added-more table places n j m old new here there A = record {
  kept = λ k e. entry-left new m k (A.kept k e);
  added = λ i q k l a b. ⊎_elim (λ o. entry-left new m k (A.added i q k o a b))
      (λ e.
      let same : q ≡ j = is-at_one places n q j (subst (λ (r : ℕ). IsAt places r q) e a) here in
      let one : k ≡ m = is-at_one table j k m (subst (λ (r : ℕ). IsAt table r k) same b) there in
      subst (HasEntry (new ++ m ∷ [])) (sym one) (entry-last new m))
      (less-or-last i n l);
  only = λ k (i, a). only k i (is-at_pushed new i k m a);
}
  where
    only : (k i : ℕ) → Either new i k m → HasEntry old k ⊎ ((i : ℕ) × (j : ℕ) × (i < n + 1) × IsAt places i j × IsAt table j k)
    only k i (earlier a) = ⊎_elim (λ e. inl e) (λ (r, q, l, x, y). inr (r, q, omega arith, x, y)) (A.only k (i, a))
    only k i (last e f) = inr (n, j, omega arith, here, subst (IsAt table j) (sym f) there)

-- ---- numbers that are read
-- of places that increase, in a table of numbers that do, the numbers increase
pub read-rise : (table places row : List ℕ) (n : ℕ) → AreRead table places n row → DoRise table → DoRise places → DoRise row
read-rise table places row n R rise rises i j k l h a b =
    let p = R.1 i k a in
    let q = R.1 j l b in rise p.0 q.0 k l (rises i j p.0 q.0 h p.1 q.1) p.2 q.2

-- numbers that are read are added to none
pub read-added : (table places row : List ℕ) → AreRead table places (length places) row → AreAdded table places (length places) [] row
read-added table places row R = record {
  kept = λ k e. absurd (let l = is-at_within [] e.0 k e.1 in omega arith);
  added = λ i j k l a b.
      let m = is-at_some row i (let e = R.0 in omega arith) in
      let o = R.1 i m.0 m.1 in
      let here : IsAt table j m.0 = subst (λ (q : ℕ). IsAt table q m.0) (is-at_one places i o.0 j o.1 a) o.2 in
      (i, subst (IsAt row i) (is-at_one table j m.0 k here b) m.1);
  only = λ k (i, a). let o = R.1 i k a in inr (i, o.0, is-at_within places i o.0 o.1, o.1, o.2);
}
