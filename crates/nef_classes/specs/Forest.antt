-- Classes as trees: a list of parents, one for each number.
use Rattle.std.specs.Prelude.{◌≡◌, ℕ, ◌≤◌, List, length, slice_set, ◌⊎◌, ◌↔◌}
use Rattle.nef_space.specs.Lists.{IsAt, Chained}
use Rattle.nef_classes.specs.declared.forest.Link.{Link}

-- no number has a greater parent
abbrev pub AreOrdered : List ℕ → Type 0
AreOrdered ps = (k p : ℕ) → IsAt ps k p → p ≤ k

-- in qs the number's parent is `above`, which in ps is the parent of its parent; all other parents are as in ps
pub record IsLifted (number above : ℕ) (ps qs : List ℕ) : Type 0 where
  pub parent : ℕ
  pub has_parent : IsAt ps number parent
  pub has_above : IsAt ps parent above
  pub changed : qs ≡ slice_set ps number above

-- qs has the trees of ps with the same roots; numbers may stand nearer to the roots
pub record HasSameTrees (ps qs : List ℕ) : Type 0 where
  pub as_many : length qs ≡ length ps
  pub ordered : AreOrdered qs
  pub chained : (s t : ℕ) → Chained (IsAt qs) s t ↔ Chained (IsAt ps) s t
  pub roots : (k : ℕ) → IsAt ps k k → IsAt qs k k

-- t is the parent of s, or the link leads from s to t
abbrev pub IsParentOrLink : Link → List ℕ → ℕ → ℕ → Type 0
IsParentOrLink link ps s t = IsAt ps s t ⊎ ((link.first ≡ s) × (link.second ≡ t))

-- qs has the trees of ps, but for the trees of the link's numbers, which are one tree
pub record AreTogether (link : Link) (ps qs : List ℕ) : Type 0 where
  pub as_many : length qs ≡ length ps
  pub ordered : AreOrdered qs
  pub chained : (s t : ℕ) → Chained (IsAt qs) s t ↔ Chained (IsParentOrLink link ps) s t

-- each parent is a root
abbrev pub AreRoots : List ℕ → Type 0
AreRoots ps = (k p : ℕ) → IsAt ps k p → (p ≤ k) × IsAt ps p p
