-- Which expressions are alike: those of alike operands, and those that group the operands of a row in another way.
use Rattle.nef_plan.proofs.Prelude.{◌≡◌, ℕ, refl, sym, ⊎_elim, List, ◌++◌, subst, append_assoc, ◌↔◌, HasLabel, SameSet, SpacePoint, Form, Set, halves, Lies, Label, Out, Not, In, lies-left, lies-right, label_and, label_or, label_less, label_one_of, turned_set, AreAlike}
use Rattle.nef_space.specs.Sets.{Holds}
use Rattle.nef_space.proofs.Lists.{lies-append}
use Rattle.law_geometry.proofs.near.Combine.{ByLabels, or-label, less-label, one_of-label}
use Rattle.law_geometry.proofs.near.Decided.{label_of}
use Rattle.law_geometry.proofs.near.Germs.{label-one}
use Rattle.law_geometry.proofs.near.SameSets.{same-border, same-both, same-closed, same-either, same-inside, same-less, same-one_of, same-other, same-regular}
use Rattle.law_geometry.proofs.turns.Carriers.{halves-from, halves-there}
use Rattle.law_geometry.proofs.turns.Meaning.{same_set-turned}

-- ---- an equivalence
pub alike-refl : (s : Set) → AreAlike s s
alike-refl s = record { same = λ p l. (λ h. h, λ h. h); planes = λ f. (λ h. h, λ h. h) }

pub alike-sym : (s t : Set) → AreAlike s t → AreAlike t s
alike-sym s t a = record {
  same = λ p l. let e = a.same p l in (e.1, e.0);
  planes = λ f. let e = a.planes f in (e.1, e.0);
}

pub alike-trans : (s t u : Set) → AreAlike s t → AreAlike t u → AreAlike s u
alike-trans s t u a b = record {
  same = λ p l. let d = a.same p l in let e = b.same p l in (λ h. e.0 (d.0 h), λ h. d.1 (e.1 h));
  planes = λ f. let d = a.planes f in let e = b.planes f in (λ h. e.0 (d.0 h), λ h. d.1 (e.1 h));
}

-- ---- sets with one label at each point are the same
one-label : (s t : Set) → ((p : SpacePoint) → (l : Label) × (m : Label) × HasLabel s p l × HasLabel t p m × (l ≡ m)) → SameSet s t
one-label s t f p k =
    let (l, m, h, i, e) = f p in (
      λ j. subst (HasLabel t p) (label-one s p m k (subst (HasLabel s p) e h) j) i,
      λ j. subst (HasLabel s p) (label-one t p l k (subst (HasLabel t p) (sym e) i) j) h,
    )

-- nothing is in the empty set, whose label tells the frame as that of any other set does
empty-label : (a : Set) (p : SpacePoint) (l : Label) → HasLabel a p l → HasLabel Set.empty p (label_and l Not)
unfolding Holds
empty-label a p Out h = h
empty-label a p Not h = (h.0, λ n. n)
empty-label a p In h = (h.0, λ n. n)

module _ (node : Set → Set → Set) (op : Label → Label → Label) (by : ByLabels node op) where
  same-grouped : ((l m k : Label) → op (op l m) k ≡ op l (op m k)) → (a b c : Set) → SameSet (node (node a b) c) (node a (node b c))
  same-grouped table a b c = one-label (node (node a b) c) (node a (node b c)) (λ p.
      let (l, h) = label_of a p in
      let (m, i) = label_of b p in
      let (k, j) = label_of c p in
      (op (op l m) k, op l (op m k), by (node a b) c p (op l m) k (by a b p l m h i) j, by a (node b c) p l (op m k) h (by b c p m k i j), table l m k))

  same-empty : ((l : Label) → op (label_and l Not) l ≡ l) → (a : Set) → SameSet (node Set.empty a) a
  same-empty table a = one-label (node Set.empty a) a (λ p.
      let (l, h) = label_of a p in
      (op (label_and l Not) l, l, by Set.empty a p (label_and l Not) l (empty-label a p l h) h, h, table l))

-- ---- the planes of two operands
planes-through : (a a' b b' : Set) → AreAlike a a' → AreAlike b b' → (f : Form) → Lies (halves a ++ halves b) f → Lies (halves a' ++ halves b') f
planes-through a a' b b' s t f l = ⊎_elim
    (λ h. lies-left (halves a') (halves b') f ((s.planes f).0 h))
    (λ h. lies-right (halves a') (halves b') f ((t.planes f).0 h)) (lies-append (halves a) (halves b) f l)

planes-both : (a a' b b' : Set) → AreAlike a a' → AreAlike b b' → (f : Form) → Lies (halves a ++ halves b) f ↔ Lies (halves a' ++ halves b') f
planes-both a a' b b' s t f = (planes-through a a' b b' s t f, planes-through a' a b' b (alike-sym a a' s) (alike-sym b b' t) f)

planes-grouped : (a b c : Set) (f : Form) → Lies ((halves a ++ halves b) ++ halves c) f ↔ Lies (halves a ++ (halves b ++ halves c)) f
planes-grouped a b c f =
    let e = append_assoc (halves a) (halves b) (halves c) in
    (λ h. subst (λ (fs : List Form). Lies fs f) e h, λ h. subst (λ (fs : List Form). Lies fs f) (sym e) h)

-- ---- alike operands make alike sets
pub both-alike : (a a' b b' : Set) → AreAlike a a' → AreAlike b b' → AreAlike (Set.both a b) (Set.both a' b')
both-alike a a' b b' s t = record { same = same-both a b a' b' s.same t.same; planes = planes-both a a' b b' s t }

pub either-alike : (a a' b b' : Set) → AreAlike a a' → AreAlike b b' → AreAlike (Set.either a b) (Set.either a' b')
either-alike a a' b b' s t = record { same = same-either a b a' b' s.same t.same; planes = planes-both a a' b b' s t }

pub one_of-alike : (a a' b b' : Set) → AreAlike a a' → AreAlike b b' → AreAlike (Set.one_of a b) (Set.one_of a' b')
one_of-alike a a' b b' s t = record { same = same-one_of a b a' b' s.same t.same; planes = planes-both a a' b b' s t }

pub less-alike : (a a' b b' : Set) → AreAlike a a' → AreAlike b b' → AreAlike (Set.less a b) (Set.less a' b')
less-alike a a' b b' s t = record { same = same-less a b a' b' s.same t.same; planes = planes-both a a' b b' s t }

module _ (a c : Set) (f : AreAlike a c) where
  pub other-alike : AreAlike (Set.other a) (Set.other c)
  other-alike = record { same = same-other a c f.same; planes = f.planes }

  pub inside-alike : AreAlike (Set.inside a) (Set.inside c)
  inside-alike = record { same = same-inside a c f.same; planes = f.planes }

  pub closed-alike : AreAlike (Set.closed a) (Set.closed c)
  closed-alike = record { same = same-closed a c f.same; planes = f.planes }

  pub border-alike : AreAlike (Set.border a) (Set.border c)
  border-alike = record { same = same-border a c f.same; planes = f.planes }

  pub regular-alike : AreAlike (Set.regular a) (Set.regular c)
  regular-alike = record { same = same-regular a c f.same; planes = f.planes }

planes-turned : (k : ℕ) (s t : Set) → AreAlike s t → (f : Form) → Lies (halves (turned_set k s)) f → Lies (halves (turned_set k t)) f
planes-turned k s t a f l =
    let (h, there, is) = halves-from k s f l in
    subst (Lies (halves (turned_set k t))) (sym is) (halves-there k t h ((a.planes h).0 there))

pub turned-alike : (k : ℕ) (s t : Set) → AreAlike s t → AreAlike (turned_set k s) (turned_set k t)
turned-alike k s t a = record {
  same = (same_set-turned k s t).1 a.same;
  planes = λ f. (planes-turned k s t a f, planes-turned k t s (alike-sym s t a) f);
}

-- ---- a row's operands grouped in another way
or-grouped : (l m k : Label) → label_or (label_or l m) k ≡ label_or l (label_or m k)
or-grouped Out m k = refl
or-grouped Not m k = refl
or-grouped In Out k = refl
or-grouped In Not k = refl
or-grouped In In Out = refl
or-grouped In In Not = refl
or-grouped In In In = refl

one_of-grouped : (l m k : Label) → label_one_of (label_one_of l m) k ≡ label_one_of l (label_one_of m k)
one_of-grouped Out m k = refl
one_of-grouped Not Out k = refl
one_of-grouped Not Not Out = refl
one_of-grouped Not Not Not = refl
one_of-grouped Not Not In = refl
one_of-grouped Not In Out = refl
one_of-grouped Not In Not = refl
one_of-grouped Not In In = refl
one_of-grouped In Out k = refl
one_of-grouped In Not Out = refl
one_of-grouped In Not Not = refl
one_of-grouped In Not In = refl
one_of-grouped In In Out = refl
one_of-grouped In In Not = refl
one_of-grouped In In In = refl

pub either-assoc : (a b c : Set) → AreAlike (Set.either (Set.either a b) c) (Set.either a (Set.either b c))
either-assoc a b c = record { same = same-grouped Set.either label_or or-label or-grouped a b c; planes = planes-grouped a b c }

pub one_of-assoc : (a b c : Set) → AreAlike (Set.one_of (Set.one_of a b) c) (Set.one_of a (Set.one_of b c))
one_of-assoc a b c = record { same = same-grouped Set.one_of label_one_of one_of-label one_of-grouped a b c; planes = planes-grouped a b c }

-- what is taken away in two steps is taken away in one
less-twice : (l m k : Label) → label_less (label_less l m) k ≡ label_less l (label_or m k)
less-twice Out m k = refl
less-twice Not Out k = refl
less-twice Not Not Out = refl
less-twice Not Not Not = refl
less-twice Not Not In = refl
less-twice Not In Out = refl
less-twice Not In Not = refl
less-twice Not In In = refl
less-twice In Out k = refl
less-twice In Not k = refl
less-twice In In Out = refl
less-twice In In Not = refl
less-twice In In In = refl

pub less-less : (a u b : Set) → AreAlike (Set.less (Set.less a u) b) (Set.less a (Set.either u b))
less-less a u b = record {
  same = one-label (Set.less (Set.less a u) b) (Set.less a (Set.either u b)) (λ p.
      let (l, h) = label_of a p in
      let (m, i) = label_of u p in
      let (k, j) = label_of b p in (
        label_less (label_less l m) k,
        label_less l (label_or m k),
        less-label (Set.less a u) b p (label_less l m) k (less-label a u p l m h i) j,
        less-label a (Set.either u b) p l (label_or m k) h (or-label u b p m k i j),
        less-twice l m k,
      ));
  planes = planes-grouped a u b;
}

-- ---- rows of one operand
or-nothing : (l : Label) → label_or (label_and l Not) l ≡ l
or-nothing Out = refl
or-nothing Not = refl
or-nothing In = refl

one_of-nothing : (l : Label) → label_one_of (label_and l Not) l ≡ l
one_of-nothing Out = refl
one_of-nothing Not = refl
one_of-nothing In = refl

or-itself : (l : Label) → label_or l l ≡ l
or-itself Out = refl
or-itself Not = refl
or-itself In = refl

pub either-empty : (a : Set) → AreAlike (Set.either Set.empty a) a
either-empty a = record { same = same-empty Set.either label_or or-label or-nothing a; planes = (alike-refl a).planes }

pub one_of-empty : (a : Set) → AreAlike (Set.one_of Set.empty a) a
one_of-empty a = record { same = same-empty Set.one_of label_one_of one_of-label one_of-nothing a; planes = (alike-refl a).planes }

pub either-same : (a : Set) → AreAlike (Set.either a a) a
either-same a = record {
  same = one-label (Set.either a a) a (λ p. let (l, h) = label_of a p in (label_or l l, l, or-label a a p l l h h, h, or-itself l));
  planes = λ f. (λ l. ⊎_elim (λ h. h) (λ h. h) (lies-append (halves a) (halves a) f l), lies-left (halves a) (halves a) f);
}

pub less-one : (a b : Set) → AreAlike (Set.less a b) (Set.less a (Set.either Set.empty b))
less-one a b = less-alike a a b (Set.either Set.empty b) (alike-refl a) (alike-sym (Set.either Set.empty b) b (either-empty b))
