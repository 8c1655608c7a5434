-- The sets of rows: with a part more, with two parts joined, and at their ends.
use Rattle.nef_plan.proofs.Prelude.{◌≡◌, ◌∙◌, ℕ, zero, suc, None, inl, inr, ◌-◌, ◌<◌, ◌≤◌, refl, ap, sym, subst, arith, List, [], ◌∷◌, ◌++◌, length, Some, slice_get, slice_get-left, slice_get-seam, place-push, Set, Node, node_set, set_of, sets_after, NamesBelow, Command, Drafts, RowKind, Row, AreAlike, AreOfOneKind, PartsAreReady, IsNodeReady, IsRowOf, RowMakesSet, BeginsWith, HasGrown, row_parts, combined, joined, joined_after, row_ended, spare, IsMadeAs}
use Rattle.nef_expr.specs.declared.nodes.Node.TheVariants as node
use Rattle.nef_plan.specs.declared.row.RowKind.TheVariants.{Union, Exclusive, Difference}
use Rattle.nef_plan.proofs.Alike.{alike-refl, alike-sym, alike-trans, either-alike, one_of-alike, less-alike, either-assoc, one_of-assoc, less-less, either-empty, one_of-empty, either-same, less-one}
use Rattle.nef_plan.proofs.Growth.{alike-along, ready-grown}

-- ---- operations
joined-alike : (kind : RowKind) (a a' b b' : Set) → AreAlike a a' → AreAlike b b' → AreAlike (joined kind a b) (joined kind a' b')
joined-alike Union a a' b b' f g = either-alike a a' b b' f g
joined-alike Exclusive a a' b b' f g = one_of-alike a a' b b' f g
joined-alike (Difference from) a a' b b' f g = either-alike a a' b b' f g

combined-alike : (kind : RowKind) (a a' b b' : Set) → AreAlike a a' → AreAlike b b' → AreAlike (combined kind a b) (combined kind a' b')
combined-alike Union a a' b b' f g = either-alike a a' b b' f g
combined-alike Exclusive a a' b b' f g = one_of-alike a a' b b' f g
combined-alike (Difference from) a a' b b' f g = less-alike a a' b b' f g

joined-assoc : (kind : RowKind) (a b c : Set) → AreAlike (joined kind (joined kind a b) c) (joined kind a (joined kind b c))
joined-assoc Union a b c = either-assoc a b c
joined-assoc Exclusive a b c = one_of-assoc a b c
joined-assoc (Difference from) a b c = either-assoc a b c

joined-empty : (kind : RowKind) (a : Set) → AreAlike (joined kind Set.empty a) a
joined-empty Union a = either-empty a
joined-empty Exclusive a = one_of-empty a
joined-empty (Difference from) a = either-empty a

ended-alike : (nodes : List Node) (kind : RowKind) (a a' : Set) → AreAlike a a' → AreAlike (row_ended nodes kind a) (row_ended nodes kind a')
ended-alike nodes Union a a' h = h
ended-alike nodes Exclusive a a' h = h
ended-alike nodes (Difference from) a a' h = less-alike (node_set nodes from) (node_set nodes from) a a' (alike-refl (node_set nodes from)) h

ended-free : (nodes : List Node) (kind : RowKind) (s : Set) → spare kind ≡ 1 → row_ended nodes kind s ≡ s
ended-free nodes Union s free = refl
ended-free nodes Exclusive s free = refl
ended-free nodes (Difference from) s free = absurd (omega (arith, free))

-- a part more is an operation more
ended-joined : (nodes : List Node) (kind : RowKind) (u b : Set) → AreAlike (row_ended nodes kind (joined kind u b)) (combined kind (row_ended nodes kind u) b)
ended-joined nodes Union u b = alike-refl (Set.either u b)
ended-joined nodes Exclusive u b = alike-refl (Set.one_of u b)
ended-joined nodes (Difference from) u b = alike-sym _ _ (less-less (node_set nodes from) u b)

pub combined-same : (kind other : RowKind) (a b : Set) → AreOfOneKind kind other → combined kind a b ≡ combined other a b
combined-same Union Union a b h = refl
combined-same Exclusive Exclusive a b h = refl
combined-same (Difference i) (Difference j) a b h = refl
combined-same Union Exclusive a b h = absurd h
combined-same Union (Difference j) a b h = absurd h
combined-same Exclusive Union a b h = absurd h
combined-same Exclusive (Difference j) a b h = absurd h
combined-same (Difference i) Union a b h = absurd h
combined-same (Difference i) Exclusive a b h = absurd h

-- ---- lists of parts
joined-push : (nodes : List Node) (kind : RowKind) (s : Set) (ps : List ℕ) (q : ℕ) → joined_after nodes kind s (ps ++ q ∷ []) ≡ joined kind (joined_after nodes kind s ps) (node_set nodes q)
joined-push nodes kind s [] q = refl
joined-push nodes kind s (p ∷ ps) q = joined-push nodes kind (joined kind s (node_set nodes p)) ps q

abbrev pub Each : Drafts → List ℕ → Type 0
Each plan ps = (i : ℕ) (p : ℕ) → slice_get ps i ≡ Some p → IsNodeReady plan p

each-push : (plan : Drafts) (ps : List ℕ) (q : ℕ) → Each plan ps → IsNodeReady plan q → Each plan (ps ++ q ∷ [])
each-push plan ps q each ready i p at = elim (place-push ps q i p at) [
  | inl o ↦ each i p o.1
  | inr l ↦ subst (λ (z : ℕ). IsNodeReady plan z) (sym l.1) ready
]

pub each-front : (plan : Drafts) (ps : List ℕ) (q : ℕ) → Each plan (ps ++ q ∷ []) → Each plan ps
each-front plan ps q each i p at = each i p (slice_get-left ps (q ∷ []) i p at)

pub each-last : (plan : Drafts) (ps : List ℕ) (q : ℕ) → Each plan (ps ++ q ∷ []) → IsNodeReady plan q
each-last plan ps q each = each (length ps) q (slice_get-seam ps q [])

each-one : (plan : Drafts) (q : ℕ) → IsNodeReady plan q → Each plan (q ∷ [])
each-one plan q ready zero p at = let e : q ≡ p = cc in subst (λ (z : ℕ). IsNodeReady plan z) e ready
each-one plan q ready (suc i) p at = let f : None ≡ Some p = at in cc

-- ---- nodes and steps are added
joined-grown : (old new : Drafts) (l : List Command) (kind : RowKind) (s : Set) (ps : List ℕ) → HasGrown old new l → Each old ps → joined_after new.nodes kind s ps ≡ joined_after old.nodes kind s ps
joined-grown old new l kind s [] h each = refl
joined-grown old new l kind s (p ∷ ps) h each =
    joined-grown old new l kind (joined kind s (node_set new.nodes p)) ps h (λ i q at. each (suc i) q at)
    ∙ ap (λ (z : Set). joined_after old.nodes kind (joined kind s z) ps) (h.nodes.sets p (each 0 p refl).within)

ended-grown : (old new : Drafts) (l : List Command) (kind : RowKind) (s : Set) → HasGrown old new l → ((k : ℕ) → kind ≡ Difference k → IsNodeReady old k) → row_ended new.nodes kind s ≡ row_ended old.nodes kind s
ended-grown old new l Union s h from = refl
ended-grown old new l Exclusive s h from = refl
ended-grown old new l (Difference k) s h from = ap (λ (z : Set). Set.less z s) (h.nodes.sets k (from k refl).within)

are-grown : (old new : Drafts) (l : List Command) (kind : RowKind) (ps : List ℕ) → HasGrown old new l → PartsAreReady old kind ps → PartsAreReady new kind ps
are-grown old new l kind ps h are = record { from = λ j e. ready-grown old new l j h (are.from j e); each = λ i p at. ready-grown old new l p h (are.each i p at) }

pub row-grown : (old new : Drafts) (l : List Command) (kind : RowKind) (ps : List ℕ) (k : ℕ) → HasGrown old new l → RowMakesSet old kind ps k → RowMakesSet new kind ps k
row-grown old new l kind ps k h is = record {
  within = let m = h.nodes.as_many in let w = is.within in omega arith;
  ready = are-grown old new l kind ps h is.ready;
  set = alike-along _ _ _ _
      (ended-grown old new l kind (joined_after new.nodes kind Set.empty ps) h is.ready.from ∙ ap (row_ended old.nodes kind) (joined-grown old new l kind Set.empty ps h is.ready.each))
      (h.nodes.sets k is.within)
      is.set;
}

-- ---- rows
-- two parts are joined
are-joined : (plan : Drafts) (kind : RowKind) (rest : List ℕ) (p q e : ℕ) → IsNodeReady plan e → PartsAreReady plan kind ((rest ++ p ∷ []) ++ q ∷ []) → PartsAreReady plan kind (rest ++ e ∷ [])
are-joined plan kind rest p q e ready are = record { from = are.from; each = each-push plan rest e (each-front plan rest p (each-front plan (rest ++ p ∷ []) q are.each)) ready }

pub are-joined-grown : (old new : Drafts) (l : List Command) (kind : RowKind) (rest : List ℕ) (p q e : ℕ) → HasGrown old new l → IsNodeReady new e → PartsAreReady old kind ((rest ++ p ∷ []) ++ q ∷ []) → PartsAreReady new kind (rest ++ e ∷ [])
are-joined-grown old new l kind rest p q e h ready are = are-joined new kind rest p q e ready (are-grown old new l kind ((rest ++ p ∷ []) ++ q ∷ []) h are)

row-joined : (plan : Drafts) (kind : RowKind) (rest : List ℕ) (p q e : ℕ) (k : ℕ) → IsNodeReady plan e → node_set plan.nodes e ≡ joined kind (node_set plan.nodes p) (node_set plan.nodes q)
    → RowMakesSet plan kind ((rest ++ p ∷ []) ++ q ∷ []) k → RowMakesSet plan kind (rest ++ e ∷ []) k
row-joined plan kind rest p q e k ready is row = record {
  within = row.within;
  ready = are-joined plan kind rest p q e ready row.ready;
  set = alike-trans _ _ _ (ended-alike plan.nodes kind _ _ (alike-along _ _ _ _ made before (alike-sym _ _ (joined-assoc kind front (node_set plan.nodes p) (node_set plan.nodes q))))) row.set;
}
  where
    front : Set
    front = joined_after plan.nodes kind Set.empty rest

    made : joined_after plan.nodes kind Set.empty (rest ++ e ∷ []) ≡ joined kind front (joined kind (node_set plan.nodes p) (node_set plan.nodes q))
    made = joined-push plan.nodes kind Set.empty rest e ∙ ap (joined kind front) is

    before : joined_after plan.nodes kind Set.empty ((rest ++ p ∷ []) ++ q ∷ []) ≡ joined kind (joined kind front (node_set plan.nodes p)) (node_set plan.nodes q)
    before = joined-push plan.nodes kind Set.empty (rest ++ p ∷ []) q ∙ ap (λ (z : Set). joined kind z (node_set plan.nodes q)) (joined-push plan.nodes kind Set.empty rest p)

pub row-joined-grown : (old new : Drafts) (l : List Command) (kind : RowKind) (rest : List ℕ) (p q e : ℕ) (k : ℕ) → HasGrown old new l → IsNodeReady new e → node_set new.nodes e ≡ joined kind (node_set old.nodes p) (node_set old.nodes q)
    → RowMakesSet old kind ((rest ++ p ∷ []) ++ q ∷ []) k → RowMakesSet new kind (rest ++ e ∷ []) k
row-joined-grown old new l kind rest p q e k h ready is row =
    let second : IsNodeReady old q = each-last old (rest ++ p ∷ []) q row.ready.each in
    let first : IsNodeReady old p = each-last old rest p (each-front old (rest ++ p ∷ []) q row.ready.each) in
    let same = ap (λ (z : Set). joined kind z (node_set old.nodes q)) (sym (h.nodes.sets p first.within)) ∙ ap (joined kind (node_set new.nodes p)) (sym (h.nodes.sets q second.within)) in
    row-joined new kind rest p q e k ready (is ∙ same) (row-grown old new l kind ((rest ++ p ∷ []) ++ q ∷ []) k h row)

-- a part is added
pub row-longer : (plan : Drafts) (kind : RowKind) (ps : List ℕ) (q : ℕ) (i k : ℕ) → IsNodeReady plan q → k < length plan.nodes → node_set plan.nodes k ≡ combined kind (node_set plan.nodes i) (node_set plan.nodes q)
    → RowMakesSet plan kind ps i → RowMakesSet plan kind (ps ++ q ∷ []) k
row-longer plan kind ps q i k ready within is row = record {
  within = within;
  ready = record { from = row.ready.from; each = each-push plan ps q row.ready.each ready };
  set = alike-along _ _ _ _ (ap (row_ended plan.nodes kind) (joined-push plan.nodes kind Set.empty ps q)) is (alike-trans _ _ _
      (ended-joined plan.nodes kind (joined_after plan.nodes kind Set.empty ps) (node_set plan.nodes q))
      (combined-alike kind _ _ _ _ row.set (alike-refl (node_set plan.nodes q))));
}

-- one operation
pub row-two : (plan : Drafts) (kind : RowKind) (p q : ℕ) (k : ℕ) → spare kind ≡ 1 → IsNodeReady plan p → IsNodeReady plan q → k < length plan.nodes → node_set plan.nodes k ≡ combined kind (node_set plan.nodes p) (node_set plan.nodes q)
    → RowMakesSet plan kind (([] ++ p ∷ []) ++ q ∷ []) k
row-two plan kind p q k free ready ready' within is = row-longer plan kind (p ∷ []) q p k ready' within is (record {
  within = ready.within;
  ready = record { from = λ j e. absurd (let f : spare kind ≡ 0 = ap spare e in omega arith); each = each-one plan p ready };
  set = alike-along _ _ _ _ (ended-free plan.nodes kind _ free) refl (joined-empty kind (node_set plan.nodes p));
})

pub row-less : (plan : Drafts) (from : ℕ) (q : ℕ) (k : ℕ) → IsNodeReady plan from → IsNodeReady plan q → k < length plan.nodes → node_set plan.nodes k ≡ Set.less (node_set plan.nodes from) (node_set plan.nodes q)
    → RowMakesSet plan (Difference from) ([] ++ q ∷ []) k
row-less plan from q k ready ready' within is = record {
  within = within;
  ready = record { from = λ j e. (let f : from ≡ j = cc in subst (IsNodeReady plan) f ready); each = each-one plan q ready' };
  set = alike-along _ _ _ _ refl is (alike-sym _ _ (less-one (node_set plan.nodes from) (node_set plan.nodes q)));
}

pub row-begun : (plan : Drafts) (kind : RowKind) (others : List ℕ) (p q : ℕ) (k : ℕ) → spare kind ≡ 1 → others ≡ [] ++ p ∷ [] → IsNodeReady plan p → IsNodeReady plan q → k < length plan.nodes
    → node_set plan.nodes k ≡ combined kind (node_set plan.nodes p) (node_set plan.nodes q) → RowMakesSet plan kind (others ++ q ∷ []) k
row-begun plan kind others p q k free e ready ready' within is = subst (λ (z : List ℕ). RowMakesSet plan kind (z ++ q ∷ []) k) (sym e) (row-two plan kind p q k free ready ready' within is)

pub row-begun-less : (plan : Drafts) (kind : RowKind) (others : List ℕ) (p q : ℕ) (k : ℕ) → spare kind ≡ 0 → BeginsWith kind p → others ≡ [] → IsNodeReady plan p → IsNodeReady plan q → k < length plan.nodes
    → node_set plan.nodes k ≡ combined kind (node_set plan.nodes p) (node_set plan.nodes q) → RowMakesSet plan kind (others ++ q ∷ []) k
row-begun-less plan Union others p q k none begins e ready ready' within is = absurd (omega (arith, none))
row-begun-less plan Exclusive others p q k none begins e ready ready' within is = absurd (omega (arith, none))
row-begun-less plan (Difference from) others p q k none begins e ready ready' within is =
    subst (λ (z : List ℕ). RowMakesSet plan (Difference from) (z ++ q ∷ []) k) (sym e)
    (row-less plan from q k (subst (IsNodeReady plan) begins ready) ready' within (is ∙ ap (λ (n : ℕ). Set.less (node_set plan.nodes n) (node_set plan.nodes q)) begins))

-- ---- the operations that end rows
pub made-less : (plan : Drafts) (from : ℕ) (others : List ℕ) (q : ℕ) (k : ℕ) → length others ≤ 0 → RowMakesSet plan (Difference from) (others ++ q ∷ []) k → IsMadeAs plan.nodes k (node.Diff from q)
made-less plan from (p ∷ ps) q k few row = absurd (omega arith)
made-less plan from [] q k few row = record {
  within = row.within;
  operands = ((row.ready.from from refl).within, (row.ready.each 0 q refl).within);
  set = alike-trans _ _ _ (less-one (node_set plan.nodes from) (node_set plan.nodes q)) row.set;
}

pub last-one : (others : List ℕ) (p : ℕ) → length others ≤ 1 → Some p ≡ slice_get others (length others - 1) → others ≡ p ∷ []
last-one [] p few at = let f : Some p ≡ None = at in cc
last-one (x ∷ []) p few at = let f : Some p ≡ Some x = at in cc
last-one (x ∷ y ∷ ps) p few at = absurd (omega (arith, few))

pub last-none : (others : List ℕ) → length others ≤ 1 → None ≡ slice_get others (length others - 1) → others ≡ []
last-none [] few at = refl
last-none (x ∷ []) few at = let f : None ≡ Some x = at in cc
last-none (x ∷ y ∷ ps) few at = absurd (omega (arith, few))

-- of two parts
pub made-joined : (plan : Drafts) (kind : RowKind) (p q : ℕ) (k : ℕ) (m : Node) → spare kind ≡ 1 → NamesBelow (length plan.nodes) m → set_of (sets_after [] plan.nodes) m ≡ joined kind (node_set plan.nodes p) (node_set plan.nodes q)
    → RowMakesSet plan kind (p ∷ q ∷ []) k → IsMadeAs plan.nodes k m
made-joined plan kind p q k m free names is row = record {
  within = row.within;
  operands = names;
  set = alike-along _ _ _ _ is refl (alike-trans _ _ _
      (joined-alike kind _ _ _ _ (alike-sym _ _ (joined-empty kind (node_set plan.nodes p))) (alike-refl (node_set plan.nodes q)))
      (alike-along _ _ _ _ (sym (ended-free plan.nodes kind _ free)) refl row.set));
}

-- and of one
pub made-one : (plan : Drafts) (kind : RowKind) (q : ℕ) (k : ℕ) → spare kind ≡ 1 → RowMakesSet plan kind (q ∷ []) k → IsMadeAs plan.nodes k (node.Or q q)
made-one plan kind q k free row = record {
  within = row.within;
  operands = ((row.ready.each 0 q refl).within, (row.ready.each 0 q refl).within);
  set = alike-trans _ _ _ (either-same (node_set plan.nodes q)) (alike-trans _ _ _
      (alike-sym _ _ (joined-empty kind (node_set plan.nodes q)))
      (alike-along _ _ _ _ (sym (ended-free plan.nodes kind _ free)) refl row.set));
}

-- ---- copies
pub row-copied : (plan : Drafts) (row r : Row) (k : ℕ) → r.kind ≡ row.kind → r.others.items ≡ row.others.items → r.last ≡ row.last → IsRowOf plan row k → IsRowOf plan r k
row-copied plan row r k e f g is =
    subst (λ (z : RowKind). RowMakesSet plan z (row_parts r) k) (sym e)
    (subst (λ (z : List ℕ). RowMakesSet plan row.kind (z ++ r.last ∷ []) k) (sym f) (subst (λ (z : ℕ). RowMakesSet plan row.kind (row.others.items ++ z ∷ []) k) (sym g) is))

-- ---- a row with a part more
pub row-added : (plan : Drafts) (row r : Row) (i k : ℕ) → r.kind ≡ row.kind → r.others.items ≡ row_parts row → IsNodeReady plan r.last → k < length plan.nodes
    → node_set plan.nodes k ≡ combined row.kind (node_set plan.nodes i) (node_set plan.nodes r.last) → IsRowOf plan row i → IsRowOf plan r k
row-added plan row r i k e f ready within is old =
    subst (λ (z : RowKind). RowMakesSet plan z (row_parts r) k) (sym e)
    (subst (λ (z : List ℕ). RowMakesSet plan row.kind (z ++ r.last ∷ []) k) (sym f) (row-longer plan row.kind (row_parts row) r.last i k ready within is old))
