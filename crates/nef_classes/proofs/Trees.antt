-- Trees with shorter ways and the same roots, two trees made one, and classes from trees.
use Rattle.nef_classes.proofs.Prelude.{◌≡◌, ◌≢◌, ℕ, ◌+◌, ◌<◌, ◌≤◌, ◌⊎◌, inl, inr, ⊎_elim, ◌↔◌, arith, refl, ap, sym, ◌∙◌, subst, List, [], ◌∷◌, ◌++◌, length, take, set, get_or, length-take, length-set, IsAt, Chained, Link, AreLinked, AreClasses, AreOrdered, IsLifted, HasSameTrees, IsParentOrLink, AreTogether, AreRoots}
use Rattle.std.proofs.lemmas.Bool.Decides.{eqb_tells}
use Rattle.nef_space.proofs.Chains.{chain-here, chain-link, chain-trans, chain-turned, chain-keeps, chain-map}
use Rattle.nef_classes.proofs.ClassLists.{Either, earlier, last, is-at_pushed}
use Rattle.nef_space.proofs.Lists.{is-at_one, is-at_within, is-at_left, is-at_last, is-at_is}
use Rattle.nef_classes.proofs.ClassLists.{is-at_take}
use Rattle.nef_classes.proofs.Cutting.{take-at}
use Rattle.nef_classes.proofs.Writes.{set-same, set-other, set-at}
use Rattle.nef_space.proofs.Elementary.{less-or-last}

-- ---- the same trees
pub same-trans : (ps qs rs : List ℕ) → HasSameTrees ps qs → HasSameTrees qs rs → HasSameTrees ps rs
same-trans ps qs rs A B = record {
  as_many = B.as_many ∙ A.as_many;
  ordered = B.ordered;
  chained = λ s t. let a = A.chained s t in let b = B.chained s t in (λ c. a.0 (b.0 c), λ c. b.1 (a.1 c));
  roots = λ k a. B.roots k (A.roots k a);
}

module _ (ps qs : List ℕ) (number above : ℕ) (ordered : AreOrdered ps) (L : IsLifted number above ps qs) where
  within : number < length ps
  within = is-at_within ps number L.parent L.has_parent

  lifted-here : IsAt qs number above
  lifted-here = subst (λ (xs : List ℕ). IsAt xs number above) (sym L.changed) (set-same ps number above within)

  other : (j x : ℕ) → j ≢ number → IsAt ps j x → IsAt qs j x
  other j x n a = subst (λ (xs : List ℕ). IsAt xs j x) (sym L.changed) (set-other ps number j above x n a)

  lifted-at : (j x : ℕ) → IsAt qs j x → ((j ≡ number) × (x ≡ above)) ⊎ IsAt ps j x
  lifted-at j x a = set-at ps number j above x (subst (λ (xs : List ℕ). IsAt xs j x) L.changed a)

  lifted-low : above ≤ L.parent
  lifted-low = ordered L.parent above L.has_above

  -- where the number was a root, it stays one
  stays : L.parent ≡ number → above ≡ L.parent
  stays e = is-at_one ps number above L.parent (subst (λ (k : ℕ). IsAt ps k above) e L.has_above) L.has_parent

  old-link : (s t : ℕ) → IsAt qs s t → Chained (IsAt ps) s t
  old-link s t a = by (lifted-at s t a)
    where
      by : ((s ≡ number) × (t ≡ above)) ⊎ IsAt ps s t → Chained (IsAt ps) s t
      by (inr b) = chain-link (IsAt ps) s t b
      by (inl (e, f)) =
          subst (λ (k : ℕ). Chained (IsAt ps) k t) (sym e) (subst (λ (k : ℕ). Chained (IsAt ps) number k) (sym f)
          (chain-trans (IsAt ps) number L.parent above (chain-link (IsAt ps) number L.parent L.has_parent) (chain-link (IsAt ps) L.parent above L.has_above)))

  to-parent : Chained (IsAt qs) number L.parent
  to-parent = ⊎_elim
      (λ h. subst (λ (k : ℕ). Chained (IsAt qs) number k) (stays h.1) (chain-link (IsAt qs) number above lifted-here))
      (λ h. chain-trans (IsAt qs) number above L.parent (chain-link (IsAt qs) number above lifted-here)
      (chain-turned (IsAt qs) L.parent above (chain-link (IsAt qs) L.parent above (other L.parent above h.1 L.has_above))))
      (eqb_tells L.parent number)

  new-link : (s t : ℕ) → IsAt ps s t → Chained (IsAt qs) s t
  new-link s t a = ⊎_elim
      (λ h.
      let e : L.parent ≡ t = is-at_one ps number L.parent t L.has_parent (subst (λ (k : ℕ). IsAt ps k t) h.1 a) in
      subst (λ (k : ℕ). Chained (IsAt qs) k t) (sym h.1) (subst (λ (k : ℕ). Chained (IsAt qs) number k) e to-parent))
      (λ h. chain-link (IsAt qs) s t (other s t h.1 a))
      (eqb_tells s number)

  still-root : (k : ℕ) → IsAt ps k k → IsAt qs k k
  still-root k a = ⊎_elim
      (λ h.
      let e : L.parent ≡ k = is-at_one ps number L.parent k L.has_parent (subst (λ (i : ℕ). IsAt ps i k) h.1 a) in
      let f : above ≡ k = stays (e ∙ h.1) ∙ e in
      subst (λ (i : ℕ). IsAt qs i k) (sym h.1) (subst (λ (i : ℕ). IsAt qs number i) f lifted-here))
      (λ h. other k k h.1 a)
      (eqb_tells k number)

  pub lifted-same : HasSameTrees ps qs
  lifted-same = record {
    as_many = ap length L.changed ∙ length-set ps number above;
    ordered = λ k p a. down k p (lifted-at k p a);
    chained = λ s t. (λ c. chain-map (IsAt qs) (IsAt ps) (λ (x : ℕ). x) old-link s t c, λ c. chain-map (IsAt ps) (IsAt qs) (λ (x : ℕ). x) new-link s t c);
    roots = still-root;
  }
    where
      down : (k p : ℕ) → ((k ≡ number) × (p ≡ above)) ⊎ IsAt ps k p → p ≤ k
      down k p (inr b) = ordered k p b
      down k p (inl (e, f)) = let a = lifted-low in let b = ordered number L.parent L.has_parent in omega arith

  -- a chain that led to the number leads to what is above it
  pub lifted-chain : (start : ℕ) → Chained (IsAt ps) start number → Chained (IsAt qs) start above
  lifted-chain start c =
      let e = lifted-same.chained start number in
      chain-trans (IsAt qs) start number above (e.1 c) (chain-link (IsAt qs) number above lifted-here)

  pub lifted-less : get_or ps number 0 ≢ number → above < number
  lifted-less n =
      let e = is-at_is ps number L.parent 0 L.has_parent in
      let a = lifted-low in
      let b = ordered number L.parent L.has_parent in
      let d : L.parent ≢ number = λ f. n (e ∙ f) in
      omega arith

  -- one more number's parent is a root
  pub lifted-root : ((k r : ℕ) → k < number → IsAt ps k r → IsAt ps r r) → (k r : ℕ) → k < number + 1 → IsAt qs k r → IsAt qs r r
  lifted-root so_far k r h a = ⊎_elim
      (λ i. by i (lifted-at k r a))
      (λ i. new (is-at_one qs number above r lifted-here (subst (λ (j : ℕ). IsAt qs j r) i a)))
      (less-or-last k number h)
    where
      above-root : IsAt ps above above
      above-root = ⊎_elim
          (λ i. so_far L.parent above i L.has_above)
          (λ i. let e = stays i in subst (λ (k : ℕ). IsAt ps k above) (sym (e ∙ i)) (subst (IsAt ps number) (sym e) L.has_parent))
          (less-or-last L.parent number (let b = ordered number L.parent L.has_parent in omega arith))

      new : above ≡ r → IsAt qs r r
      new e = subst (λ (i : ℕ). IsAt qs i i) e (still-root above above-root)

      by : k < number → ((k ≡ number) × (r ≡ above)) ⊎ IsAt ps k r → IsAt qs r r
      by i (inl (e, f)) = new (sym f)
      by i (inr b) = still-root r (so_far k r i b)

-- ---- two trees made one
-- one root's parent becomes the other root, which is no greater
pub record AreRootsOf (link : Link) (os : List ℕ) (r w low high : ℕ) : Type 0 where
  pub first : Chained (IsAt os) link.first r
  pub second : Chained (IsAt os) link.second w
  pub r_root : IsAt os r r
  pub w_root : IsAt os w w
  pub ends : ((low ≡ r) × (high ≡ w)) ⊎ ((low ≡ w) × (high ≡ r))
  pub low_first : low ≤ high

module _ (link : Link) (ps os : List ℕ) (same : HasSameTrees ps os) (r w low high : ℕ) (R : AreRootsOf link os r w low high) where
  abbrev qs : List ℕ
  qs = set os high low

  abbrev Both : ℕ → ℕ → Type 0
  Both = IsParentOrLink link ps

  root : IsAt os high high
  root = ⊎_elim (λ h. subst (λ (k : ℕ). IsAt os k k) (sym h.1) R.w_root) (λ h. subst (λ (k : ℕ). IsAt os k k) (sym h.1) R.r_root) R.ends

  hung : IsAt qs high low
  hung = set-same os high low (is-at_within os high high root)

  linked : Chained (IsAt qs) high low
  linked = chain-link (IsAt qs) high low hung

  kept-link : (s t : ℕ) → IsAt os s t → Chained (IsAt qs) s t
  kept-link s t a = ⊎_elim
      (λ h.
      let e : high ≡ t = is-at_one os high high t root (subst (λ (k : ℕ). IsAt os k t) h.1 a) in
      subst (λ (k : ℕ). Chained (IsAt qs) s k) (h.1 ∙ e) (chain-here (IsAt qs) s))
      (λ h. chain-link (IsAt qs) s t (set-other os high s low t h.1 a))
      (eqb_tells s high)

  kept-chain : (s t : ℕ) → Chained (IsAt os) s t → Chained (IsAt qs) s t
  kept-chain s t c = chain-map (IsAt os) (IsAt qs) (λ (x : ℕ). x) kept-link s t c

  between : Chained (IsAt qs) r w
  between = ⊎_elim
      (λ h. subst (λ (k : ℕ). Chained (IsAt qs) k w) h.0 (subst (λ (k : ℕ). Chained (IsAt qs) low k) h.1 (chain-turned (IsAt qs) high low linked)))
      (λ h. subst (λ (k : ℕ). Chained (IsAt qs) k w) h.1 (subst (λ (k : ℕ). Chained (IsAt qs) high k) h.0 linked))
      R.ends

  forth : (s t : ℕ) → Both s t → Chained (IsAt qs) s t
  forth s t b = ⊎_elim
      (λ a. kept-chain s t (let c = same.chained s t in c.1 (chain-link (IsAt ps) s t a)))
      (λ h. subst (λ (k : ℕ). Chained (IsAt qs) k t) h.0 (subst (λ (k : ℕ). Chained (IsAt qs) link.first k) h.1
      (chain-trans (IsAt qs) link.first r link.second (kept-chain link.first r R.first)
      (chain-trans (IsAt qs) r w link.second between (chain-turned (IsAt qs) link.second w (kept-chain link.second w R.second))))))
      b

  both-chain : (s t : ℕ) → Chained (IsAt os) s t → Chained Both s t
  both-chain s t c = let e = same.chained s t in chain-map (IsAt ps) Both (λ (x : ℕ). x) (λ x y a. chain-link Both x y (inl a)) s t (e.0 c)

  roots-both : Chained Both r w
  roots-both =
      chain-trans Both r link.first w (chain-turned Both link.first r (both-chain link.first r R.first))
      (chain-trans Both link.first link.second w (chain-link Both link.first link.second (inr (refl, refl))) (both-chain link.second w R.second))

  back : (s t : ℕ) → IsAt qs s t → Chained Both s t
  back s t a = by (set-at os high s low t a)
    where
      by : ((s ≡ high) × (t ≡ low)) ⊎ IsAt os s t → Chained Both s t
      by (inr b) = both-chain s t (chain-link (IsAt os) s t b)
      by (inl (e, f)) = ⊎_elim
          (λ h. subst (λ (k : ℕ). Chained Both k t) (sym (e ∙ h.1)) (subst (λ (k : ℕ). Chained Both w k) (sym (f ∙ h.0)) (chain-turned Both r w roots-both)))
          (λ h. subst (λ (k : ℕ). Chained Both k t) (sym (e ∙ h.1)) (subst (λ (k : ℕ). Chained Both r k) (sym (f ∙ h.0)) roots-both))
          R.ends

  pub made-one : AreTogether link ps qs
  made-one = record {
    as_many = length-set os high low ∙ same.as_many;
    ordered = λ k p a. down k p (set-at os high k low p a);
    chained = λ s t. (λ c. chain-map (IsAt qs) Both (λ (x : ℕ). x) back s t c, λ c. chain-map Both (IsAt qs) (λ (x : ℕ). x) forth s t c);
  }
    where
      down : (k p : ℕ) → ((k ≡ high) × (p ≡ low)) ⊎ IsAt os k p → p ≤ k
      down k p (inr b) = same.ordered k p b
      down k p (inl (e, f)) = let h = R.low_first in omega arith

-- ---- trees and links
-- the numbers below count stand in trees; those of one tree are those that a chain of links joins
pub record AreTrees (count : ℕ) (ls : List Link) (ps : List ℕ) : Type 0 where
  pub as_many : length ps ≡ count
  pub ordered : AreOrdered ps
  pub chained : (s t : ℕ) → Chained (IsAt ps) s t ↔ Chained (AreLinked ls) s t

pub trees-alone : (count : ℕ) (ps : List ℕ) → length ps ≡ count → ((k p : ℕ) → IsAt ps k p → p ≡ k) → AreTrees count [] ps
trees-alone count ps e alone = record {
  as_many = e;
  ordered = λ k p a. let f = alone k p a in omega arith;
  chained = λ s t. (
    λ c. subst (λ (k : ℕ). Chained (AreLinked []) s k) (chain-keeps (IsAt ps) (λ (x : ℕ). x) (λ x y a. sym (alone x y a)) s t c) (chain-here (AreLinked []) s),
    λ c. subst (λ (k : ℕ). Chained (IsAt ps) s k) (chain-keeps (AreLinked []) (λ (x : ℕ). x) (λ x y l. none x y l) s t c) (chain-here (IsAt ps) s),
  );
}
  where
    none : (x y : ℕ) → AreLinked [] x y → x ≡ y
    none x y (k, l, a, f, g) = cc

module _ (count : ℕ) (ls : List Link) (link : Link) (ps qs : List ℕ) (T : AreTrees count ls ps) (J : AreTogether link ps qs) where
  abbrev More : ℕ → ℕ → Type 0
  More = AreLinked (ls ++ link ∷ [])

  more-link : (s t : ℕ) → AreLinked ls s t → Chained More s t
  more-link s t (k, l, a, e, f) = chain-link More s t (k, l, is-at_left ls (link ∷ []) k l a, e, f)

  to-links : (s t : ℕ) → IsParentOrLink link ps s t → Chained More s t
  to-links s t b = ⊎_elim
      (λ a. let c = T.chained s t in chain-map (AreLinked ls) More (λ (x : ℕ). x) more-link s t (c.0 (chain-link (IsAt ps) s t a)))
      (λ h. chain-link More s t (length ls, link, is-at_last ls link, h.0, h.1))
      b

  from-link : (s t : ℕ) → More s t → Chained (IsParentOrLink link ps) s t
  from-link s t (k, l, a, e, f) = by (is-at_pushed ls k l link a)
    where
      by : Either ls k l link → Chained (IsParentOrLink link ps) s t
      by (earlier b) = let c = T.chained s t in
          chain-map (IsAt ps) (IsParentOrLink link ps) (λ (x : ℕ). x) (λ x y p. chain-link (IsParentOrLink link ps) x y (inl p)) s t
          (c.1 (chain-link (AreLinked ls) s t (k, l, b, e, f)))
      by (last h i) = chain-link (IsParentOrLink link ps) s t (inr (ap (λ (r : Link). r.first) (sym i) ∙ e, ap (λ (r : Link). r.second) (sym i) ∙ f))

  pub trees-more : AreTrees count (ls ++ link ∷ []) qs
  trees-more = record {
    as_many = J.as_many ∙ T.as_many;
    ordered = J.ordered;
    chained = λ s t. let j = J.chained s t in (
      λ c. chain-map (IsParentOrLink link ps) More (λ (x : ℕ). x) to-links s t (j.0 c),
      λ c. j.1 (chain-map More (IsParentOrLink link ps) (λ (x : ℕ). x) from-link s t c),
    );
  }

-- roots stand for classes
pub trees-classes : (count : ℕ) (ls : List Link) (ps qs : List ℕ) → AreTrees count ls ps → HasSameTrees ps qs → AreRoots qs → AreClasses count ls qs
trees-classes count ls ps qs T S R = record {
  as_many = S.as_many ∙ T.as_many;
  same = λ s t c d p q. let a = S.chained s t in let b = T.chained s t in (
    λ e.
        let up = chain-link (IsAt qs) t c (subst (IsAt qs t) (sym e) q) in
        b.0 (a.0 (chain-trans (IsAt qs) s c t (chain-link (IsAt qs) s c p) (chain-turned (IsAt qs) t c up))),
    λ h. sym (is-at_is qs s c 0 p) ∙ chain-keeps (IsAt qs) (λ (x : ℕ). get_or qs x 0) keeps s t (a.1 (b.1 h)) ∙ is-at_is qs t d 0 q,
  );
}
  where
    keeps : (x y : ℕ) → IsAt qs x y → get_or qs x 0 ≡ get_or qs y 0
    keeps x y a = let r = R x y a in is-at_is qs x y 0 a ∙ sym (is-at_is qs y y 0 r.1)

-- ---- first elements of classes
-- the root of an element is among those before it, or is the element
pub root-earlier : (rs : List ℕ) (i x : ℕ) → AreRoots rs → IsAt rs i x → x < i → IsAt (take i rs) x x
root-earlier rs i x R a h = let r = R i x a in take-at i rs x x h r.1

-- no element before the first of a class is of the class
pub none-earlier : (rs : List ℕ) (i x : ℕ) → AreRoots rs → i ≤ x → (k c : ℕ) → IsAt (take i rs) k c → c ≢ x
none-earlier rs i x R h k c a e =
    let w = is-at_within (take i rs) k c a in
    let l = length-take i rs in
    let r = R k c (is-at_take i rs k c a) in
    let d = r.0 in
    absurd (omega (arith, l))

-- the first of roots are roots
pub roots-take : (n : ℕ) (rs : List ℕ) → AreRoots rs → AreRoots (take n rs)
roots-take n rs R k p a =
    let r = R k p (is-at_take n rs k p a) in
    let w = is-at_within (take n rs) k p a in
    let l = length-take n rs in
    (r.0, take-at n rs p p (let h = r.0 in omega (arith, l)) r.1)
