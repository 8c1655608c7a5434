-- The order of ends is total, and ends tie by their lines where they lie on one line.
use Rattle.nef_edges.proofs.Prelude.{◌≡◌, ℕ, ◌<◌, ◌≤◌, ℤ, pos, ◌+ℤ◌, ◌-ℤ◌, ◌*ℤ◌, ◌<ℤ◌, nat_abs, [], ◌∷◌, false, Ordering, Less, Equal, Greater, arith, refl, ap, sym, subst, ◌∙◌, IsTotalOrder, int_ranks, MatchOrdering, int_cmp, nat_cmp, ordering_then, ordering_reverse, is_lt, false≢true, int_cmp_total, nat_cmp_total, on_total, then_total, ranked, tied_itself, ints, follows, given, none, by_order, sign-plus, sign-minus, plus-is, minus-is, nought-is, pos-abs, at, num, ◌⊕◌, ◌⊖◌, ◌⊗◌, sign, toward, Vector, cross, IsZero, direction_numbers, IsBelow, point_of, vector_of, Dir, Point, dir_total, dir-ordered, EdgeEnd, sum_of, clamped, moment_of, ratio_order, moment_order, dir_order, line_order, end_order}
use Rattle.nef_space.proofs.Fractions.{fraction-trans, fraction-alike}
use Rattle.nef_edges.proofs.Wholes.{wholes-alike}

-- ---- answers of comparisons
pub cmp-is : (x y : ℤ) (o : Ordering) → int_cmp x y ≡ o → MatchOrdering o (x <ℤ y) (x ≡ y) (y <ℤ x)
cmp-is x y o e = subst (λ (r : Ordering). MatchOrdering r (x <ℤ y) (x ≡ y) (y <ℤ x)) e (int_ranks x y)

pub cmp-less : (x y : ℤ) → x <ℤ y → int_cmp x y ≡ Less
cmp-less x y h = by (int_cmp x y) (int_ranks x y)
  where
    by : (o : Ordering) → MatchOrdering o (x <ℤ y) (x ≡ y) (y <ℤ x) → o ≡ Less
    by Less m = refl
    by Equal m = absurd (omega (arith, ints, m, h))
    by Greater m = absurd (omega (arith, ints, m, h))

cmp-equal : (x y : ℤ) → x ≡ y → int_cmp x y ≡ Equal
cmp-equal x y h = by (int_cmp x y) (int_ranks x y)
  where
    by : (o : Ordering) → MatchOrdering o (x <ℤ y) (x ≡ y) (y <ℤ x) → o ≡ Equal
    by Less m = absurd (omega (arith, ints, m, h))
    by Equal m = refl
    by Greater m = absurd (omega (arith, ints, m, h))

cmp-greater : (x y : ℤ) → y <ℤ x → int_cmp x y ≡ Greater
cmp-greater x y h = int_cmp_total.antisymm x y ∙ ap ordering_reverse (cmp-less y x h)

cmp-by_sign : (x y u v : ℤ) → sign (x -ℤ y) ≡ sign (u -ℤ v) → int_cmp x y ≡ int_cmp u v
cmp-by_sign x y u v e = by_order x y
    (λ l. let k = minus-is (u -ℤ v) (sym e ∙ sign-minus (x -ℤ y) (omega (arith, ints))) in cmp-less x y l ∙ sym (cmp-less u v (omega (arith, ints))))
    (λ l. let z : x -ℤ y ≡ pos 0 = omega (arith, ints) in let k = nought-is (u -ℤ v) (sym e ∙ ap sign z) in cmp-equal x y l ∙ sym (cmp-equal u v (omega (arith, ints))))
    (λ l. let k = plus-is (u -ℤ v) (sym e ∙ sign-plus (x -ℤ y) (omega (arith, ints))) in cmp-greater x y l ∙ sym (cmp-greater u v (omega (arith, ints))))

-- ---- the order is total
module _ (part : EdgeEnd → ℤ) where
  ratio_total : IsTotalOrder (ratio_order part)
  ratio_total = record {
    antisymm = λ a b. int_cmp_total.antisymm (part a *ℤ b.point.w) (part b *ℤ a.point.w);
    trans = λ a b c p q. cmp-less (part a *ℤ c.point.w) (part c *ℤ a.point.w)
        (fraction-trans (part a) a.point.w (part b) b.point.w (part c) c.point.w a.point.proper b.point.proper c.point.proper
        (cmp-is (part a *ℤ b.point.w) (part b *ℤ a.point.w) Less p) (cmp-is (part b *ℤ c.point.w) (part c *ℤ b.point.w) Less q));
    congr = λ a b c p. cmp-by_sign (part a *ℤ c.point.w) (part c *ℤ a.point.w) (part b *ℤ c.point.w) (part c *ℤ b.point.w)
        (fraction-alike (part a) a.point.w (part c) c.point.w (part b) b.point.w a.point.proper b.point.proper (cmp-is (part a *ℤ b.point.w) (part b *ℤ a.point.w) Equal p));
  }

moment_total : IsTotalOrder moment_order
moment_total = then_total (then_total (ratio_total (λ h. (moment_of h).x)) (ratio_total (λ h. (moment_of h).y))) (ratio_total (λ h. (moment_of h).z))

pub line_total : IsTotalOrder line_order
line_total = then_total (on_total (λ (h : EdgeEnd). h.key) int_cmp_total) (then_total (on_total (λ (h : EdgeEnd). h.dir) dir_total) moment_total)

pub end_total : IsTotalOrder end_order
end_total = then_total line_total (on_total (λ (h : EdgeEnd). h.vertex) nat_cmp_total)

-- ---- one line
pub then-equal : (o p : Ordering) → ordering_then o p ≡ Equal → (o ≡ Equal) × (p ≡ Equal)
then-equal Less p e = let i : Less ≡ Equal = e in absurd (cc)
then-equal Equal p e = (refl, e)
then-equal Greater p e = let i : Greater ≡ Equal = e in absurd (cc)

dir-tied : (d e : Dir) → dir_order d e ≡ Equal → d ≡ e
dir-tied d e h =
    subst (λ (o : Ordering). MatchOrdering o (IsBelow (direction_numbers (vector_of d)) (direction_numbers (vector_of e))) (d ≡ e) (IsBelow (direction_numbers (vector_of e)) (direction_numbers (vector_of d)))) h (dir-ordered d e (dir_order d e) refl)

-- p x d / w = q x d / v says that q - p is parallel to d
zero-from : (a b a' b' e f w v : ℤ) → (a *ℤ f -ℤ b *ℤ e) *ℤ v ≡ (a' *ℤ f -ℤ b' *ℤ e) *ℤ w → (a' *ℤ w -ℤ a *ℤ v) *ℤ f -ℤ (b' *ℤ w -ℤ b *ℤ v) *ℤ e ≡ pos 0
zero-from a b a' b' e f w v h = follows (a ∷ b ∷ a' ∷ b' ∷ e ∷ f ∷ w ∷ v ∷ []) ((at 2 ⊗ at 6 ⊖ at 0 ⊗ at 7) ⊗ at 5 ⊖ (at 3 ⊗ at 6 ⊖ at 1 ⊗ at 7) ⊗ at 4) (num (pos 0))
    (given (num (pos 0) ⊖ num (pos 1)) ((at 0 ⊗ at 5 ⊖ at 1 ⊗ at 4) ⊗ at 7) ((at 2 ⊗ at 5 ⊖ at 3 ⊗ at 4) ⊗ at 6) h none) tt

from-zero : (a b a' b' e f w v : ℤ) → (a' *ℤ w -ℤ a *ℤ v) *ℤ f -ℤ (b' *ℤ w -ℤ b *ℤ v) *ℤ e ≡ pos 0 → (a *ℤ f -ℤ b *ℤ e) *ℤ v ≡ (a' *ℤ f -ℤ b' *ℤ e) *ℤ w
from-zero a b a' b' e f w v h = follows (a ∷ b ∷ a' ∷ b' ∷ e ∷ f ∷ w ∷ v ∷ []) ((at 0 ⊗ at 5 ⊖ at 1 ⊗ at 4) ⊗ at 7) ((at 2 ⊗ at 5 ⊖ at 3 ⊗ at 4) ⊗ at 6)
    (given (num (pos 0) ⊖ num (pos 1)) ((at 2 ⊗ at 6 ⊖ at 0 ⊗ at 7) ⊗ at 5 ⊖ (at 3 ⊗ at 6 ⊖ at 1 ⊗ at 7) ⊗ at 4) (num (pos 0)) h none) tt

module _ (p q : Point) (d : Vector) where
  abbrev Level : ℤ → ℤ → Type 0
  Level w v = ((q.y *ℤ w -ℤ p.y *ℤ v) *ℤ d.z -ℤ (q.z *ℤ w -ℤ p.z *ℤ v) *ℤ d.y ≡ pos 0) × ((q.z *ℤ w -ℤ p.z *ℤ v) *ℤ d.x -ℤ (q.x *ℤ w -ℤ p.x *ℤ v) *ℤ d.z ≡ pos 0)
      × ((q.x *ℤ w -ℤ p.x *ℤ v) *ℤ d.y -ℤ (q.y *ℤ w -ℤ p.y *ℤ v) *ℤ d.x ≡ pos 0)

  pub to-level : Level p.w q.w → IsZero (cross (toward (point_of p) (point_of q)) d)
  to-level z = subst (λ w. Level w (pos (nat_abs q.w))) (sym (pos-abs p.w p.proper)) (subst (λ v. Level p.w v) (sym (pos-abs q.w q.proper)) z)

  from-level : IsZero (cross (toward (point_of p) (point_of q)) d) → Level p.w q.w
  from-level z = subst (λ v. Level p.w v) (pos-abs q.w q.proper) (subst (λ w. Level w (pos (nat_abs q.w))) (pos-abs p.w p.proper) z)

-- two ends on one line
pub record OnOneLine (a b : EdgeEnd) : Type 0 where
  pub same_dir : a.dir ≡ b.dir
  pub level : IsZero (cross (toward (point_of a.point) (point_of b.point)) (vector_of a.dir))

pub tied-line : (a b : EdgeEnd) → line_order a b ≡ Equal → OnOneLine a b
tied-line a b h =
    let s = then-equal (int_cmp a.key b.key) (ordering_then (dir_order a.dir b.dir) (moment_order a b)) h in
    let m = then-equal (dir_order a.dir b.dir) (moment_order a b) s.1 in
    let t = then-equal (ordering_then (ratio_order (λ h. (moment_of h).x) a b) (ratio_order (λ h. (moment_of h).y) a b)) (ratio_order (λ h. (moment_of h).z) a b) m.1 in
    let u = then-equal (ratio_order (λ h. (moment_of h).x) a b) (ratio_order (λ h. (moment_of h).y) a b) t.0 in
    let e = dir-tied a.dir b.dir m.0 in
    let p = a.point in let q = b.point in let d = vector_of a.dir in
    let equal = λ (part : EdgeEnd → ℤ) (i : ratio_order part a b ≡ Equal). cmp-is (part a *ℤ q.w) (part b *ℤ p.w) Equal i in
    record {
      same_dir = e;
      level = to-level p q d (
        zero-from p.y p.z q.y q.z d.y d.z p.w q.w (equal (λ h. (moment_of h).x) u.0 ∙ ap (λ (f : Dir). (q.y *ℤ f.z -ℤ q.z *ℤ f.y) *ℤ p.w) (sym e)),
        zero-from p.z p.x q.z q.x d.z d.x p.w q.w (equal (λ h. (moment_of h).y) u.1 ∙ ap (λ (f : Dir). (q.z *ℤ f.x -ℤ q.x *ℤ f.z) *ℤ p.w) (sym e)),
        zero-from p.x p.y q.x q.y d.x d.y p.w q.w (equal (λ h. (moment_of h).z) t.1 ∙ ap (λ (f : Dir). (q.x *ℤ f.y -ℤ q.y *ℤ f.x) *ℤ p.w) (sym e)),
      );
    }

-- equal moments have equal sums, and so one key
sums-alike : (x y z x' y' z' w v : ℤ) → x *ℤ v ≡ x' *ℤ w → y *ℤ v ≡ y' *ℤ w → z *ℤ v ≡ z' *ℤ w → (x +ℤ pos 61 *ℤ y +ℤ pos 3721 *ℤ z) *ℤ v ≡ (x' +ℤ pos 61 *ℤ y' +ℤ pos 3721 *ℤ z') *ℤ w
sums-alike x y z x' y' z' w v h i j = follows (x ∷ y ∷ z ∷ x' ∷ y' ∷ z' ∷ w ∷ v ∷ []) ((at 0 ⊕ num (pos 61) ⊗ at 1 ⊕ num (pos 3721) ⊗ at 2) ⊗ at 7) ((at 3 ⊕ num (pos 61) ⊗ at 4 ⊕ num (pos 3721) ⊗ at 5) ⊗ at 6)
    (given (num (pos 1)) (at 0 ⊗ at 7) (at 3 ⊗ at 6) h (given (num (pos 61)) (at 1 ⊗ at 7) (at 4 ⊗ at 6) i (given (num (pos 3721)) (at 2 ⊗ at 7) (at 5 ⊗ at 6) j none))) tt

same-key : (a b : EdgeEnd) → (moment_of a).x *ℤ b.point.w ≡ (moment_of b).x *ℤ a.point.w → (moment_of a).y *ℤ b.point.w ≡ (moment_of b).y *ℤ a.point.w → (moment_of a).z *ℤ b.point.w ≡ (moment_of b).z *ℤ a.point.w → a.key ≡ b.key
same-key a b x y z =
    let e = sums-alike (moment_of a).x (moment_of a).y (moment_of a).z (moment_of b).x (moment_of b).y (moment_of b).z a.point.w b.point.w x y z in
    a.is_key ∙ ap clamped (wholes-alike (sum_of a.point a.dir) a.point.w (sum_of b.point b.dir) b.point.w a.point.proper b.point.proper e) ∙ sym b.is_key

pub line-tied : (a b : EdgeEnd) → OnOneLine a b → line_order a b ≡ Equal
line-tied a b l =
    let p = a.point in let q = b.point in let d = vector_of a.dir in let e = l.same_dir in
    let z = from-level p q d l.level in
    let x = from-zero p.y p.z q.y q.z d.y d.z p.w q.w z.0 ∙ ap (λ (f : Dir). (q.y *ℤ f.z -ℤ q.z *ℤ f.y) *ℤ p.w) e in
    let y = from-zero p.z p.x q.z q.x d.z d.x p.w q.w z.1 ∙ ap (λ (f : Dir). (q.z *ℤ f.x -ℤ q.x *ℤ f.z) *ℤ p.w) e in
    let w = from-zero p.x p.y q.x q.y d.x d.y p.w q.w z.2 ∙ ap (λ (f : Dir). (q.x *ℤ f.y -ℤ q.y *ℤ f.x) *ℤ p.w) e in
    let s : dir_order a.dir b.dir ≡ Equal = ap (dir_order a.dir) (sym e) ∙ tied_itself dir_total a.dir in
    let k = cmp-equal a.key b.key (same-key a b x y w) in
    all (int_cmp a.key b.key) (dir_order a.dir b.dir) (ratio_order (λ h. (moment_of h).x) a b) (ratio_order (λ h. (moment_of h).y) a b) (ratio_order (λ h. (moment_of h).z) a b) k s
    (cmp-equal ((moment_of a).x *ℤ q.w) ((moment_of b).x *ℤ p.w) x) (cmp-equal ((moment_of a).y *ℤ q.w) ((moment_of b).y *ℤ p.w) y) (cmp-equal ((moment_of a).z *ℤ q.w) ((moment_of b).z *ℤ p.w) w)
  where
    all : (k o x y z : Ordering) → k ≡ Equal → o ≡ Equal → x ≡ Equal → y ≡ Equal → z ≡ Equal → ordering_then k (ordering_then o (ordering_then (ordering_then x y) z)) ≡ Equal
    all k o x y z g h i j l = rw (g, h, i, j, l) refl

-- ---- an end that stands between two of one line
pub record StandsBetween (f h g : EdgeEnd) : Type 0 where
  pub line : line_order h f ≡ Equal
  pub after : f.vertex < h.vertex
  pub before : h.vertex ≤ g.vertex

nat-is : (x y : ℕ) (o : Ordering) → nat_cmp x y ≡ o → MatchOrdering o (x < y) (x ≡ y) (y < x)
nat-is x y o e = ranked x y o (sym e)

not-less : (x y : ℕ) → is_lt (nat_cmp x y) ≡ false → y ≤ x
not-less x y e = by (nat_cmp x y) refl
  where
    by : (o : Ordering) → nat_cmp x y ≡ o → y ≤ x
    by Less h = absurd (false≢true (sym e ∙ ap is_lt h))
    by Equal h = let m : x ≡ y = nat-is x y Equal h in omega arith
    by Greater h = let m : y < x = nat-is x y Greater h in omega arith

-- f < h <= g, with f and g on one line
pub stands-between : (f h g : EdgeEnd) → end_order h f ≡ Greater → is_lt (end_order g h) ≡ false → line_order g f ≡ Equal → StandsBetween f h g
stands-between f h g after first tied = by (line_order h f) refl
  where
    turned : (o : Ordering) → line_order h f ≡ o → line_order g h ≡ ordering_reverse o
    turned o e = line_total.congr g f h tied ∙ line_total.antisymm f h ∙ ap ordering_reverse e

    rest : (o : Ordering) → line_order g h ≡ o → is_lt (ordering_then o (nat_cmp g.vertex h.vertex)) ≡ false
    rest o e = sym (ap (λ r. is_lt (ordering_then r (nat_cmp g.vertex h.vertex))) e) ∙ first

    start : (o : Ordering) → line_order h f ≡ o → ordering_then o (nat_cmp h.vertex f.vertex) ≡ Greater
    start o e = sym (ap (λ r. ordering_then r (nat_cmp h.vertex f.vertex)) e) ∙ after

    by : (o : Ordering) → line_order h f ≡ o → StandsBetween f h g
    by Less e = let i : Less ≡ Greater = start Less e in absurd (cc)
    by Equal e = record {
      line = e;
      after = nat-is h.vertex f.vertex Greater (start Equal e);
      before = not-less g.vertex h.vertex (rest Equal (turned Equal e));
    }
    by Greater e = absurd (false≢true (sym (rest Less (turned Greater e))))
