-- What stays where nodes and steps are added.
use Rattle.nef_plan.proofs.Prelude.{◌≡◌, ◌∙◌, ◌⊎◌, ⊎_elim, ℕ, zero, suc, ◌<◌, refl, ap, sym, subst, arith, List, [], ◌∷◌, ◌++◌, length, Some, inl, inr, length-append, append-nil, append_assoc, Set, turned_set, Node, node_set, set_of, sets_after, NamesBelow, names-wider, slice_get-left, slice_get-seam, place-push, earlier-sets_stay, new-set, set_of-same, Command, Draft, Make, Turn, Ask, Drafts, AreAlike, IsNodeReady, HasGrown, AreDrafts, HasMore, IsMade, IsMadeAs, IsRightDraft, MayFollow, Makes, asked}
use Rattle.nef_plan.proofs.Alike.{alike-refl}
use Rattle.nef_script.proofs.Looking.{within-more}

-- ---- nodes
pub more-same : (old new : List Node) → new ≡ old → HasMore old new
more-same old new e = record { as_many = let n = ap length e in omega arith; sets = λ k below. ap (λ (ns : List Node). node_set ns k) e }

pub more-trans : (a b c : List Node) → HasMore a b → HasMore b c → HasMore a c
more-trans a b c f g = record { as_many = omega (arith, f.as_many, g.as_many); sets = λ k below. g.sets k (omega (arith, below, f.as_many)) ∙ f.sets k below }

pub more-push : (ns : List Node) (n : Node) → HasMore ns (ns ++ n ∷ [])
more-push ns n = record { as_many = omega (arith, length-append {A = Node}); sets = λ k below. earlier-sets_stay ns n k below }

-- a node makes the same set of the operands
pub set-more : (old new : List Node) (m : Node) → HasMore old new → NamesBelow (length old) m → set_of (sets_after [] new) m ≡ set_of (sets_after [] old) m
set-more old new m h below = set_of-same (length old) (sets_after [] new) (sets_after [] old) m h.sets below

pub alike-along : (s s' t t' : Set) → s' ≡ s → t' ≡ t → AreAlike s t → AreAlike s' t'
alike-along s s' t t' e f h = subst (λ (z : Set). AreAlike z t') (sym e) (subst (AreAlike s) (sym f) h)

pub right-more : (old new : List Node) (s : Draft) → HasMore old new → IsRightDraft old s → IsRightDraft new s
right-more old new (Make n m) h r = record {
  within = omega (arith, r.within, h.as_many);
  operands = names-wider (length old) (length new) m h.as_many r.operands;
  set = alike-along _ _ _ _ (set-more old new m h r.operands) (h.sets n r.within) r.set;
}
right-more old new (Turn n j t) h r = record {
  within = omega (arith, r.within, h.as_many);
  operand = omega (arith, r.operand, h.as_many);
  turn = r.turn;
  set = h.sets n r.within ∙ r.set ∙ ap (turned_set t) (sym (h.sets j r.operand));
}
right-more old new (Ask c) h r = (r.0, within-more (length old) (length new) c.now h.as_many r.1)

-- the node whose set a step makes is there, and the step asks nothing
pub makes-within : (nodes : List Node) (s : Draft) (k : ℕ) → IsRightDraft nodes s → Makes s k → k < length nodes
makes-within nodes (Make n m) k right is = subst (λ z. z < length nodes) (sym is) right.within
makes-within nodes (Turn n j t) k right is = subst (λ z. z < length nodes) (sym is) right.within
makes-within nodes (Ask c) k right is = absurd is

-- a step makes one node at most
pub makes-one : (s : Draft) (n k : ℕ) → Makes s n → Makes s k → k ≡ n
makes-one (Make m d) n k first second = second ∙ sym first
makes-one (Turn m j t) n k first second = second ∙ sym first
makes-one (Ask c) n k first second = absurd first

pub asked-none : (s : Draft) (k : ℕ) → Makes s k → asked (s ∷ []) ≡ []
asked-none (Make n m) k is = refl
asked-none (Turn n j t) k is = refl
asked-none (Ask c) k is = absurd is

pub steps-more : (old new : List Node) (steps : List Draft) → HasMore old new → AreDrafts old steps → AreDrafts new steps
steps-more old new steps h are = record { right = λ i s at. right-more old new s h (are.right i s at); follow = are.follow }

-- a node that is added is made as it says
pub made-new : (ns : List Node) (m : Node) → NamesBelow (length ns) m → IsMadeAs (ns ++ m ∷ []) (length ns) m
made-new ns m below =
    let more = more-push ns m in
    record {
      within = omega (arith, length-append {A = Node});
      operands = names-wider (length ns) (length (ns ++ m ∷ [])) m more.as_many below;
      set = alike-along _ _ _ _ (set-more ns (ns ++ m ∷ []) m more below) (new-set ns m) (alike-refl (set_of (sets_after [] ns) m));
    }

-- and so is one that was there
pub made-grown : (old new : List Node) (n : ℕ) (m : Node) → HasMore old new → n < length old → NamesBelow (length old) m → node_set old n ≡ set_of (sets_after [] old) m → IsMadeAs new n m
made-grown old new n m h within below is = record {
  within = omega (arith, within, h.as_many);
  operands = names-wider (length old) (length new) m h.as_many below;
  set = alike-along _ _ _ _ (set-more old new m h below) (h.sets n within ∙ is) (alike-refl (set_of (sets_after [] old) m));
}

-- ---- steps
pub made-push : (steps : List Draft) (s : Draft) (k : ℕ) → IsMade steps k → IsMade (steps ++ s ∷ []) k
made-push steps s k (j, d, at, makes) = (j, d, slice_get-left steps (s ∷ []) j d at, makes)

pub made-last : (steps : List Draft) (s : Draft) (k : ℕ) → Makes s k → IsMade (steps ++ s ∷ []) k
made-last steps s k makes = (length steps, s, slice_get-seam steps s [], makes)

pub made-first : (s : Draft) (rest : List Draft) (k : ℕ) → Makes s k → IsMade (s ∷ rest) k
made-first s rest k makes = (0, s, refl, makes)

pub made-later : (s : Draft) (rest : List Draft) (k : ℕ) → IsMade rest k → IsMade (s ∷ rest) k
made-later s rest k (j, d, at, makes) = (suc j, d, at, makes)

pub made-either : (s : Draft) (rest : List Draft) (k : ℕ) → IsMade (s ∷ rest) k → Makes s k ⊎ IsMade rest k
made-either s rest k (zero, d, at, makes) = let e : Some s ≡ Some d = at in let same : d ≡ s = cc in inl (subst (λ (z : Draft). Makes z k) same makes)
made-either s rest k (suc j, d, at, makes) = inr (j, d, at, makes)

-- what two lists of steps make, one of them makes
pub made-parts : (front rest : List Draft) (k : ℕ) → IsMade (front ++ rest) k → IsMade front k ⊎ IsMade rest k
made-parts [] rest k made = inr made
made-parts (s ∷ front) rest k made = ⊎_elim
    (λ now. inl (made-first s front k now))
    (λ later. ⊎_elim (λ l. inl (made-later s front k l)) (λ r. inr r) (made-parts front rest k later))
    (made-either s (front ++ rest) k made)

pub made-seam : (front : List Draft) (s : Draft) (k : ℕ) → IsMade (front ++ s ∷ []) k → IsMade front k ⊎ Makes s k
made-seam front s k (j, d, at, makes) = elim (place-push front s j d at) [
  | inl o ↦ inl (j, d, o.1, makes)
  | inr l ↦ inr (subst (λ (z : Draft). Makes z k) l.1 makes)
]

-- a node whose set is made is there
pub made-within : (nodes : List Node) (steps : List Draft) (k : ℕ) → AreDrafts nodes steps → IsMade steps k → k < length nodes
made-within nodes steps k are (j, d, at, makes) = makes-within nodes d k (are.right j d at) makes

-- an element of two lists, one behind the other, is one of either
pub parted : {X : Type 0} (xs ys front rest : List X) (x : X) → xs ++ ys ≡ front ++ x ∷ rest
    → ((last : List X) × (xs ≡ front ++ x ∷ last)) ⊎ ((first : List X) × (front ≡ xs ++ first) × (ys ≡ first ++ x ∷ rest))
parted [] ys front rest x e = inr (front, refl, e)
parted (a ∷ xs) ys [] rest x e = inl (xs, let head : a ∷ (xs ++ ys) ≡ x ∷ rest = e in cc)
parted (a ∷ xs) ys (b ∷ front) rest x e =
    let both : a ∷ (xs ++ ys) ≡ b ∷ (front ++ x ∷ rest) = e in
    let same : a ≡ b = cc in
    ⊎_elim
    (λ l. inl (l.0, subst (λ z. z ∷ xs ≡ b ∷ (front ++ x ∷ l.0)) (sym same) (ap (λ z. b ∷ z) l.1)))
    (λ r. inr (r.0, subst (λ z. b ∷ front ≡ z ∷ (xs ++ r.0)) (sym same) (ap (λ z. b ∷ z) r.1), r.2))
    (parted xs ys front rest x (cc))

parted-last : {X : Type 0} (xs first front rest : List X) (y x : X) → front ≡ xs ++ first → y ∷ [] ≡ first ++ x ∷ rest → (front ≡ xs) × (x ≡ y)
parted-last xs [] front rest y x e f = (e ∙ append-nil xs, let g : y ∷ [] ≡ x ∷ rest = f in cc)
parted-last xs (z ∷ first) front rest y x e f = absurd (let n = ap length f in let m = length-append (z ∷ first) (x ∷ rest) in omega (arith, n, m))

pub steps-push : (nodes : List Node) (steps : List Draft) (s : Draft) → AreDrafts nodes steps → IsRightDraft nodes s → MayFollow steps s → AreDrafts nodes (steps ++ s ∷ [])
steps-push nodes steps s are is may = record {
  right = λ i d at. elim (place-push steps s i d at) [
    | inl o ↦ are.right i d o.1
    | inr l ↦ subst (IsRightDraft nodes) (sym l.1) is
  ];
  follow = λ front rest d e. elim (parted steps (s ∷ []) front rest d e) [
    | inl l ↦ are.follow front l.0 d l.1
    | inr r ↦ (let last = parted-last steps r.0 front rest s d r.1 r.2 in subst (λ z. MayFollow z d) (sym last.0) (subst (MayFollow steps) (sym last.1) may))
  ];
}

pub asked-append : (front rest : List Draft) → asked (front ++ rest) ≡ asked front ++ asked rest
asked-append [] rest = refl
asked-append (Make n m ∷ front) rest = asked-append front rest
asked-append (Turn n j t ∷ front) rest = asked-append front rest
asked-append (Ask c ∷ front) rest = ap (λ (z : List Command). c.now ∷ z) (asked-append front rest)

pub asked-push : (steps : List Draft) (s : Draft) → asked (steps ++ s ∷ []) ≡ asked steps ++ asked (s ∷ [])
asked-push steps s = asked-append steps (s ∷ [])

-- ---- both
pub grown-refl : (plan : Drafts) → AreDrafts plan.nodes plan.steps.items → HasGrown plan plan []
grown-refl plan steps = record { nodes = more-same plan.nodes plan.nodes refl; steps = steps; made = λ k made. made; asked = sym (append-nil (asked plan.steps.items)) }

pub grown-trans : (a b c : Drafts) (l m : List Command) → HasGrown a b l → HasGrown b c m → HasGrown a c (l ++ m)
grown-trans a b c l m f g = record {
  nodes = more-trans a.nodes b.nodes c.nodes f.nodes g.nodes;
  steps = g.steps;
  made = λ k made. g.made k (f.made k made);
  asked = g.asked ∙ ap (λ (z : List Command). z ++ m) f.asked ∙ append_assoc (asked a.steps.items) l m;
}

pub ready-grown : (old new : Drafts) (l : List Command) (k : ℕ) → HasGrown old new l → IsNodeReady old k → IsNodeReady new k
ready-grown old new l k h is = record { within = let m = h.nodes.as_many in let w = is.within in omega arith; made = h.made k is.made }
