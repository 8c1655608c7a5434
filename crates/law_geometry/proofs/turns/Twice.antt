-- A set that is turned twice.
use Rattle.law_geometry.proofs.turns.Prelude.{◌≡◌, ℕ, refl, ap, sym, ◌∙◌, Form, form, Set, Triple, Undoes, IsComposition, turned_plane, turned_set}
use Rattle.nef_space.proofs.Elementary.{equal-pairs}

-- what is so of forms is so of sets
module _ (i j k : ℕ) (same : (h : Form) → turned_plane i h ≡ turned_plane j (turned_plane k h)) where
  pub set-same : (s : Set) → turned_set i s ≡ turned_set j (turned_set k s)
  set-same (Set.half h c) = ap (λ (g : Form). Set.half g c) (same h)
  set-same Set.empty = refl
  set-same Set.full = refl
  set-same (Set.both a b) = equal-pairs Set.both (set-same a) (set-same b)
  set-same (Set.either a b) = equal-pairs Set.either (set-same a) (set-same b)
  set-same (Set.less a b) = equal-pairs Set.less (set-same a) (set-same b)
  set-same (Set.one_of a b) = equal-pairs Set.one_of (set-same a) (set-same b)
  set-same (Set.other a) = ap Set.other (set-same a)
  set-same (Set.inside a) = ap Set.inside (set-same a)
  set-same (Set.closed a) = ap Set.closed (set-same a)
  set-same (Set.border a) = ap Set.border (set-same a)
  set-same (Set.regular a) = ap Set.regular (set-same a)

-- the turn 0 moves nothing
whole : (s : Set) → turned_set 0 s ≡ s
whole (Set.half h c) = refl
whole Set.empty = refl
whole Set.full = refl
whole (Set.both a b) = ap (λ (x : Set). Set.both x (turned_set 0 b)) (whole a) ∙ ap (Set.both a) (whole b)
whole (Set.either a b) = ap (λ (x : Set). Set.either x (turned_set 0 b)) (whole a) ∙ ap (Set.either a) (whole b)
whole (Set.less a b) = ap (λ (x : Set). Set.less x (turned_set 0 b)) (whole a) ∙ ap (Set.less a) (whole b)
whole (Set.one_of a b) = ap (λ (x : Set). Set.one_of x (turned_set 0 b)) (whole a) ∙ ap (Set.one_of a) (whole b)
whole (Set.other a) = ap Set.other (whole a)
whole (Set.inside a) = ap Set.inside (whole a)
whole (Set.closed a) = ap Set.closed (whole a)
whole (Set.border a) = ap Set.border (whole a)
whole (Set.regular a) = ap Set.regular (whole a)

pub set-twice : (i j k : ℕ) (s : Set) → IsComposition i j k → turned_set i s ≡ turned_set j (turned_set k s)
set-twice i j k s e = set-same i j k (λ h. ap (λ (t : Triple). form t.0 t.1 t.2 h.d) (e (h.a, h.b, h.c))) s

pub set-back : (j k : ℕ) (s : Set) → Undoes j k → turned_set j (turned_set k s) ≡ s
set-back j k s e = sym (set-same 0 j k (λ h. ap (λ (t : Triple). form t.0 t.1 t.2 h.d) (sym (e (h.a, h.b, h.c)))) s) ∙ whole s
