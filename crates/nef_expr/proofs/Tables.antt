-- Nodes with their bases and turns: what one node more keeps, and how a copy is made.
use Rattle.nef_expr.proofs.Prelude.{◌≡◌, ℕ, zero, suc, ◌+◌, ◌*◌, ◌<◌, ◌≤◌, ◌⊎◌, ◌||◌, Bool, true, false, List, [], ◌∷◌, ◌++◌, length, map, get_or, Some, Ordering, Less, Equal, Greater, arith, refl, ap, sym, subst, ◌∙◌, inl, inr, append-nil, append_assoc, length-append, slice_get, slice_index, nat_eq, nat_cmp, MatchOrdering, is_eq, BTreeMap, get, Updates, get_or-append, get_or-append_seam, cases_eq, ne_eqb, get_or-map, get_or_default, length-map, slice_get_within, slice_get-get_or, get_or_from_slice_get, IsComposition, Node, Origin, Shape, shape_of, UsesBelow, Uses, NamesBelow, IsOrdered, IsNode, TurnOf, most_bases, origin, key_of, HasOrigin, IsOfOrigin, AreOrigins, NodeTable, IsCopyOf, AreOriginsNumbered, IsTable, Extends, Stays, turned_shape, IsTurnedNode, OperandsTurned, IsMarked, AreWithOperands, AreCopies}
use Rattle.std.specs.List.{IsDistinct, list_any}
use Rattle.std.proofs.lemmas.Bool.Decides.{eqb_tells}
use Rattle.std.proofs.lemmas.Cmp.{ranked}
use Rattle.std.proofs.lemmas.Map.Keys.{IsDistinct-from_apart}
use Rattle.std.proofs.lemmas.Map.Steps.{length-le_from_distinct_below}
use Rattle.nef_expr.proofs.Operands.{operand-below}
use Rattle.nef_expr.proofs.Places.{slice_get-left, slice_get-seam, slice_get-below, place-push}
use Rattle.nef_expr.proofs.Chains.{turn_of-more, Image, image-turn, turn-within, turn-twice, turn-between, own-image}

-- ---- the copy of one node
module _ (ns : List Node) (t : ℕ) (copies : List ℕ) where
  there : (i l : ℕ) → TurnOf ns t i l → l < length ns
  there i l turn = (turn-within ns t i l turn).1

  uses-turned : (s : Shape) → ((i : ℕ) → Uses i s → TurnOf ns t i (slice_index copies i)) → UsesBelow (length ns) (turned_shape t (slice_index copies) s)
  uses-turned (Shape.leaf s) turned = tt
  uses-turned (Shape.unary make i) turned = there i _ (turned i refl)
  uses-turned (Shape.binary make i j) turned = (there i _ (turned i (inl refl)), there j _ (turned j (inr refl)))

  pub new-names : (n m : Node) → OperandsTurned ns t copies n → IsTurnedNode t copies n m → NamesBelow (length ns) m
  new-names n m turned e = subst (UsesBelow (length ns)) (sym e) (uses-turned (shape_of n) turned)

  module _ (m : Node) where
    more : (i : ℕ) → TurnOf ns t i (slice_index copies i) → TurnOf (ns ++ m ∷ []) t i (slice_index copies i)
    more i turn = turn_of-more ns (m ∷ []) t i (slice_index copies i) turn

    image-from : (s : Shape) → ((i : ℕ) → Uses i s → TurnOf ns t i (slice_index copies i)) → shape_of m ≡ turned_shape t (slice_index copies) s → Image (ns ++ m ∷ []) t s (shape_of m)
    image-from (Shape.leaf s) turned made = made
    image-from (Shape.unary make i) turned made = (slice_index copies i, made, more i (turned i refl))
    image-from (Shape.binary make i j) turned made = (slice_index copies i, slice_index copies j, made, more i (turned i (inl refl)), more j (turned j (inr refl)))

    -- the node that is added is the image
    pub new-image : (k : ℕ) (n : Node) → IsNode ns k n → OperandsTurned ns t copies n → IsTurnedNode t copies n m → TurnOf (ns ++ m ∷ []) t k (length ns)
    new-image k n is turned made = image-turn (ns ++ m ∷ []) t k (length ns) (shape_of n) (shape_of m) (n, slice_get-left ns (m ∷ []) k n is, refl) (m, slice_get-seam ns m [], refl) (image-from (shape_of n) turned made)

-- ---- one node more
pub ordered-push : (ns : List Node) (n : Node) → IsOrdered ns → NamesBelow (length ns) n → IsOrdered (ns ++ n ∷ [])
ordered-push ns n ordered below k m is = elim (place-push ns n k m is) [
  | inl before ↦ ordered k m before.1
  | inr here ↦ rw (here.0, here.1) below
]

apart : (p q : ℕ) → (p ≡ q → ⊥) → is_eq (nat_cmp p q) ≡ false
apart p q other = pick (nat_cmp p q) (ranked p q (nat_cmp p q) refl)
  where
    pick : (o : Ordering) → MatchOrdering o (p < q) (p ≡ q) (q < p) → is_eq o ≡ false
    pick Less h = refl
    pick Equal h = absurd (other h)
    pick Greater h = refl

key-base : (o p : Origin) → o.turn < 48 → p.turn < 48 → key_of o ≡ key_of p → o.base ≡ p.base
key-base o p l m e = omega (arith, l, m, e)

key-turn : (o p : Origin) → o.turn < 48 → p.turn < 48 → key_of o ≡ key_of p → o.turn ≡ p.turn
key-turn o p l m e = omega (arith, l, m, e)

one-key : (o p : Origin) → o.turn < 48 → p.turn < 48 → key_of o ≡ key_of p → o ≡ p
one-key o p l m e = let b = key-base o p l m e in let t = key-turn o p l m e in ap (λ (x : ℕ). origin x o.turn) b ∙ ap (origin p.base) t

module _ (ns : List Node) (os : List Origin) (bases wider : ℕ) (n : Node) (o : Origin) (O : AreOrigins ns os bases) (l : bases ≤ wider) (image : IsOfOrigin (ns ++ n ∷ []) (os ++ o ∷ []) wider (length ns) o) (new : (k : ℕ) → HasOrigin os k o → ⊥) where
  abbrev nodes : List Node
  nodes = ns ++ n ∷ []

  abbrev origins : List Origin
  origins = os ++ o ∷ []

  kept-origin : (k : ℕ) (p : Origin) → IsOfOrigin ns os bases k p → IsOfOrigin nodes origins wider k p
  kept-origin k p h =
      let b = h.base_below in
      record { base_below = omega (arith, b, l); turn_below = h.turn_below; own = h.own; is_own = slice_get-left os (o ∷ []) h.own _ h.is_own; image = turn_of-more ns (n ∷ []) p.turn h.own k h.image }

  last-is : (k : ℕ) (p : Origin) → k ≡ length os → p ≡ o → IsOfOrigin nodes origins wider k p
  last-is k p e f = subst (λ (q : Origin). IsOfOrigin nodes origins wider k q) (sym f) (subst (λ (j : ℕ). IsOfOrigin nodes origins wider j o) (sym (e ∙ O.count)) image)

  pub origins-push : AreOrigins nodes origins wider
  origins-push = record {
    count = length-append os (o ∷ []) ∙ ap (λ k. k + 1) O.count ∙ sym (length-append ns (n ∷ []));
    each = λ k p is. elim (place-push os o k p is) [
      | inl before ↦ kept-origin k p (O.each k p before.1)
      | inr here ↦ last-is k p here.0 here.1
    ];
    once = λ i j p a b. elim (place-push os o i p a) [
      | inl x ↦ elim (place-push os o j p b) [
        | inl y ↦ O.once i j p x.1 y.1
        | inr y ↦ absurd (new i (subst (HasOrigin os i) y.1 x.1))
      ]
      | inr x ↦ elim (place-push os o j p b) [
        | inl y ↦ absurd (new j (subst (HasOrigin os j) x.1 y.1))
        | inr y ↦ x.0 ∙ sym y.0
      ]
    ];
  }

  pub places-push : (old now : BTreeMap ℕ ℕ) → AreOriginsNumbered os old → Updates nat_cmp old now (key_of o) (Some (length ns)) → AreOriginsNumbered origins now
  places-push old now H u = record { kept = kept; only = only }
    where
      other : (p : Origin) → p.turn < 48 → (p ≡ o → ⊥) → get nat_cmp now (key_of p) ≡ get nat_cmp old (key_of p)
      other p m differs = u.2 (key_of p) (apart (key_of o) (key_of p) (λ e. differs (sym (one-key o p image.turn_below m e))))

      same : (p : Origin) → p ≡ o → get nat_cmp now (key_of p) ≡ Some (length ns)
      same p e = ap (λ (q : Origin). get nat_cmp now (key_of q)) e ∙ u.1

      turn-of : (k : ℕ) (p : Origin) → HasOrigin os k p → p.turn < 48
      turn-of k p is = let h = O.each k p is in h.turn_below

      kept : (k : ℕ) (p : Origin) → HasOrigin origins k p → get nat_cmp now (key_of p) ≡ Some k
      kept k p is = elim (place-push os o k p is) [
        | inl before ↦ other p (turn-of k p before.1) (λ e. new k (subst (HasOrigin os k) e before.1)) ∙ H.kept k p before.1
        | inr here ↦ same p here.1 ∙ ap Some (sym (here.0 ∙ O.count))
      ]

      -- whether the key is the new one
      by-key : (k : ℕ) (p : Origin) → p.turn < 48 → get nat_cmp now (key_of p) ≡ Some k → ((key_of p ≡ key_of o) ⊎ (key_of p ≡ key_of o → ⊥)) → HasOrigin origins k p
      by-key k p m is (inl e) =
          let f : p ≡ o = one-key p o m image.turn_below e in
          let g : Some (length ns) ≡ Some k = sym (same p f) ∙ is in
          let here : length ns ≡ k = cc in
          subst (λ (j : ℕ). HasOrigin origins j p) here (subst (λ (q : Origin). HasOrigin origins (length ns) q) (sym f) (subst (λ (j : ℕ). HasOrigin origins j o) O.count (slice_get-seam os o [])))
      by-key k p m is (inr differs) = slice_get-left os (o ∷ []) k p (H.only k p m (sym (other p m (λ e. differs (ap key_of e))) ∙ is))

      only : (k : ℕ) (p : Origin) → p.turn < 48 → get nat_cmp now (key_of p) ≡ Some k → HasOrigin origins k p
      only k p m is = by-key k p m is (cases_eq (key_of p) (key_of o))

pub table-push : (ns : List Node) (os : List Origin) (bases wider : ℕ) (old now : BTreeMap ℕ ℕ) (n : Node) (o : Origin) → IsTable ns os bases old → NamesBelow (length ns) n → bases ≤ wider → wider ≤ most_bases → IsOfOrigin (ns ++ n ∷ []) (os ++ o ∷ []) wider (length ns) o → ((k : ℕ) → HasOrigin os k o → ⊥) → Updates nat_cmp old now (key_of o) (Some (length ns)) → IsTable (ns ++ n ∷ []) (os ++ o ∷ []) wider now
table-push ns os bases wider old now n o T below l most image new u = record {
  few_bases = most;
  ordered = ordered-push ns n T.ordered below;
  are_origins = origins-push ns os bases wider n o T.are_origins l image new;
  have_places = places-push ns os bases wider n o T.are_origins l image new old now T.have_places u;
}

-- ---- a new base
module _ (ns : List Node) (os : List Origin) (bases : ℕ) (O : AreOrigins ns os bases) where
  pub base-new : (k : ℕ) → HasOrigin os k (origin bases 0) → ⊥
  base-new k is = let h = O.each k (origin bases 0) is in let b = h.base_below in omega (arith, b)

  pub base-image : (n : Node) → IsOrdered ns → NamesBelow (length ns) n → IsOfOrigin (ns ++ n ∷ []) (os ++ origin bases 0 ∷ []) (bases + 1) (length ns) (origin bases 0)
  base-image n ordered below = record {
    base_below = omega arith;
    turn_below = omega arith;
    own = length ns;
    is_own = subst (λ (k : ℕ). HasOrigin (os ++ origin bases 0 ∷ []) k (origin bases 0)) O.count (slice_get-seam os (origin bases 0) []);
    image = own-image (ns ++ n ∷ []) (ordered-push ns n ordered below) (length ns) n (slice_get-seam ns n []);
  }

  -- ---- the copy of node k
  module _ (k t i : ℕ) (of : Origin) (is : HasOrigin os k of) (composed : IsComposition i t of.turn) where
    -- it is there
    pub copy-there : (l : ℕ) → HasOrigin os l (origin of.base i) → TurnOf ns t k l
    copy-there l at =
        let h = O.each k of is in
        let g = O.each l (origin of.base i) at in
        let same : g.own ≡ h.own = O.once g.own h.own (origin of.base 0) g.is_own h.is_own in
        turn-between ns i of.turn t composed h.own k l h.image (subst (λ (b : ℕ). TurnOf ns i b l) same g.image)

    pub copy-is : (qs : List Origin) (l : ℕ) → HasOrigin qs k of → HasOrigin qs l (origin of.base i) → IsCopyOf qs t k l
    copy-is qs l a b = record { of = of; copy = origin of.base i; of_is = a; copy_is = b; same_base = refl; composed = composed }

    -- it is added
    pub copy-image : (n : Node) → i < 48 → TurnOf (ns ++ n ∷ []) t k (length ns) → IsOfOrigin (ns ++ n ∷ []) (os ++ origin of.base i ∷ []) bases (length ns) (origin of.base i)
    copy-image n l turn =
        let h = O.each k of is in
        record {
          base_below = h.base_below;
          turn_below = l;
          own = h.own;
          is_own = slice_get-left os (origin of.base i ∷ []) h.own _ h.is_own;
          image = turn-twice (ns ++ n ∷ []) i of.turn t composed h.own k (length ns) (turn_of-more ns (n ∷ []) of.turn h.own k h.image) turn;
        }

-- ---- all copies
pub stays-same : (T : NodeTable) → Stays T T
stays-same T = record { nodes = ([], sym (append-nil T.nodes)); origins = ([], sym (append-nil T.origins)); bases = refl }

pub extends-twice : {A : Type 0} (xs ys zs : List A) → Extends xs ys → Extends ys zs → Extends xs zs
extends-twice xs ys zs (p, e) (q, f) = (p ++ q, f ∙ ap (λ l. l ++ q) e ∙ append_assoc xs p q)

pub stays-twice : (T U V : NodeTable) → Stays T U → Stays U V → Stays T V
stays-twice T U V a b = record { nodes = extends-twice T.nodes U.nodes V.nodes a.nodes b.nodes; origins = extends-twice T.origins U.origins V.origins a.origins b.origins; bases = b.bases ∙ a.bases }

pub extends-turn : (ns ms : List Node) (t k l : ℕ) → Extends ns ms → TurnOf ns t k l → TurnOf ms t k l
extends-turn ns ms t k l (more, e) turn = subst (λ (xs : List Node). TurnOf xs t k l) (sym e) (turn_of-more ns more t k l turn)

pub extends-length : {A : Type 0} (xs ys : List A) → Extends xs ys → length xs ≤ length ys
extends-length xs ys (more, e) = let f = ap length e ∙ length-append xs more in omega (arith, f)

-- the copies of the first i nodes that are needed are made
pub record IsCopying (old : NodeTable) (t i : ℕ) (needed : List Bool) (now : NodeTable) (copies : List ℕ) : Type 0 where
  pub count : length copies ≡ i
  pub stays : Stays old now
  pub copied : AreCopies now.nodes t i needed copies

pub copying-start : (T : NodeTable) (t : ℕ) (needed : List Bool) (copies : List ℕ) → copies ≡ [] → IsCopying T t 0 needed T copies
copying-start T t needed copies e = record { count = ap length e; stays = stays-same T; copied = λ m l marked. absurd (omega (arith, l)) }

module _ (old : NodeTable) (t i : ℕ) (needed : List Bool) (now : NodeTable) (copies : List ℕ) (C : IsCopying old t i needed now copies) where
  pub copying-length : length old.nodes ≤ length now.nodes
  copying-length = let s = C.stays in extends-length old.nodes now.nodes s.nodes

  pub copying-operands : (k : ℕ) → IsOrdered old.nodes → AreWithOperands old.nodes k needed → i ≤ k → k < length old.nodes → IsMarked needed i → (n : Node) → slice_get now.nodes i ≡ Some n → OperandsTurned now.nodes t copies n
  copying-operands k ordered N l h marked n at m operand =
      let s = C.stays in
      let more = s.nodes in
      let there : slice_get old.nodes i ≡ Some n = sym (slice_get-below old.nodes more.0 i (omega (arith, l, h))) ∙ ap (λ (xs : List Node). slice_get xs i) (sym more.1) ∙ at in
      C.copied m (operand-below i m n (ordered i n there) operand) (N.closed i n (omega arith) l marked there m operand)

  pub copying-more : (new : NodeTable) (x : ℕ) → Stays now new → (IsMarked needed i → TurnOf new.nodes t i x) → IsCopying old t (i + 1) needed new (copies ++ x ∷ [])
  copying-more new x stays turned = record {
    count = length-append copies (x ∷ []) ∙ ap (λ k. k + 1) C.count;
    stays = stays-twice old now new C.stays stays;
    copied = copied;
  }
    where
      read : (m : ℕ) → m < i → slice_index (copies ++ x ∷ []) m ≡ slice_index copies m
      read m l = let e = C.count in get_or-append copies (x ∷ []) 0 m (omega (arith, l, e))

      last : (m : ℕ) → m ≡ i → slice_index (copies ++ x ∷ []) m ≡ x
      last m e = ap (slice_index (copies ++ x ∷ [])) (e ∙ sym C.count) ∙ get_or-append_seam copies x [] 0

      copied : AreCopies new.nodes t (i + 1) needed (copies ++ x ∷ [])
      copied m l marked = elim (cases_eq m i) [
        | inl e ↦ subst (λ (y : ℕ). TurnOf new.nodes t m y) (sym (last m e)) (subst (λ (j : ℕ). TurnOf new.nodes t j x) (sym e) (turned (subst (IsMarked needed) e marked)))
        | inr differs ↦ (
            let below : m < i = omega (arith, l, differs) in
            subst (λ (y : ℕ). TurnOf new.nodes t m y) (sym (read m below)) (extends-turn now.nodes new.nodes t m (slice_index copies m) stays.nodes (C.copied m below marked)))
      ]

-- ---- at most 48 nodes for each base
any-at : (xs : List ℕ) (q : ℕ) → list_any (nat_eq q) xs ≡ true → (i : ℕ) × (slice_get xs i ≡ Some q)
any-at [] q e = cc
any-at (x ∷ xs) q e = elim (eqb_tells q x) [
  | inl same ↦ (zero, ap Some (sym same.1))
  | inr other ↦ (let r = any-at xs q (sym (ap (λ b. b || list_any (nat_eq q) xs) other.0) ∙ e) in (suc r.0, r.1))
]

module _ (ns : List Node) (os : List Origin) (bases : ℕ) (O : AreOrigins ns os bases) where
  abbrev keys : List ℕ
  keys = map key_of os

  key-at : (i : ℕ) → i < length os → (o : Origin) × HasOrigin os i o × (get_or keys i 0 ≡ key_of o)
  key-at i l = (get_or os i (origin 0 0), slice_get-get_or os i (origin 0 0) l, get_or-map key_of os i (origin 0 0) 0 l)

  pub few-nodes : length ns ≤ 48 * bases
  few-nodes =
      let count = length-map os key_of in
      let e = O.count in
      let f = length-le_from_distinct_below keys (48 * bases) distinct below in
      omega (arith, count, e, f)
    where
      distinct : IsDistinct nat_eq keys
      distinct = IsDistinct-from_apart nat_eq keys (λ i j d l h. other i j d l h)
        where
          other : (i j d : ℕ) → i < j → j < length keys → nat_eq (get_or keys i d) (get_or keys j d) ≡ false
          other i j d l h =
              let count = length-map os key_of in
              let a = key-at i (omega (arith, count, l, h)) in
              let b = key-at j (omega (arith, h, count)) in
              let x = get_or_default keys i d 0 (omega (arith, l, h)) ∙ a.2 in
              let y = get_or_default keys j d 0 h ∙ b.2 in
              ne_eqb (get_or keys i d) (get_or keys j d) (λ e. (
              let p = O.each i a.0 a.1 in
              let q = O.each j b.0 b.1 in
              let same : a.0 ≡ b.0 = one-key a.0 b.0 p.turn_below q.turn_below (sym x ∙ e ∙ y) in
              let here : i ≡ j = O.once i j b.0 (subst (HasOrigin os i) same a.1) b.1 in
              omega (arith, l, here)))

      below : (q : ℕ) → list_any (nat_eq q) keys ≡ true → q < 48 * bases
      below q found =
          let p = any-at keys q found in
          let count = length-map os key_of in
          let i = slice_get_within keys p.0 q p.1 in
          let a = key-at p.0 (omega (arith, i, count)) in
          let h = O.each p.0 a.0 a.1 in
          let b = h.base_below in let t = h.turn_below in
          let e : q ≡ key_of a.0 = sym (get_or_from_slice_get keys p.0 q 0 p.1) ∙ a.2 in
          omega (arith, b, t, e)
