-- The map written out is the least map at the lowest corner of a set that holds all of the frame or nothing of it.
use Rattle.nef_statement.proofs.text.Prelude.{◌≡◌, ℕ, ◌+◌, ◌≤◌, ℤ, pos, neg_ℤ, ◌+ℤ◌, ◌*ℤ◌, ◌<ℤ◌, arith, refl, sym, ◌∙◌, ap, ◌⊎◌, inl, inr, ⊎_elim, cond, Some, None, subst, ints, Sign, minus, nought, plus, sign, Lies, mul_pos, minus-is, sign-minus, sign-plus, sign-neg, sign_turned, by_order, HasLabel, Germ, SpacePoint, slope, Set, Vector, dot, cross, triple, blend, IsDirection, IsZero, SameDirection, IsNormal, Label, Out, IsStrictlyOn, sign_at, carriers, frame-minus, Germ-unique, Near, by_side, NearPlain, NearStraight, Least, Cone, IsAt, MapVertex, Arc, Map, Item, arc_item, items, item_normal, item_pos, item_mark, item_neg, dir_of, OnItem, IsFree, MapLabel, NearLabel, HasArc, ArcBetween, Shaped, amount, dir-at, map-is_at, IsFrameCornerAt, axes, Axis, on_x, on_y, on_z, wall, wall-listed, IsOneLabelSet, germ-inward, germ-outward, is_high_on, inward_way, through, leads-in, axis_of, dot-zero}
use Rattle.law_geometry.proofs.near.Decisions.{near-germ_one}
use Rattle.law_geometry.specs.sphere.Labelling.{Agrees}
use Rattle.law_geometry.proofs.sphere.cones.Signs.{leading, leading-level, far-leading}
use Rattle.law_geometry.proofs.sphere.Built.{agrees-label}
use Rattle.law_geometry.proofs.sphere.Labellings.{normals_of, germ-labelling, cone-from_agrees}
use Rattle.nef_case.specs.Between.{is_positive}
use Rattle.nef_statement.proofs.text.Corners.{on_axes, each-axis, positive-is, each-listed}
use Rattle.nef_statement.proofs.text.Octants.{next, axis_after, axes_down, slot, octant, axis-at, axis-normal, lowest}
use Rattle.nef_space.proofs.Elementary.{minus-not_nought, nought-not_positive}

-- ---- the part of a direction along an axis
abbrev pub part : Axis → Vector → ℤ
part a d = dot (axis_of a) d

wall-part : (a : Axis) (d : Vector) → slope (wall a (is_high_on lowest a)) d ≡ neg_ℤ (part a d)
wall-part on_x d = omega (arith, ints)
wall-part on_y d = omega (arith, ints)
wall-part on_z d = omega (arith, ints)

no-parts : (d : Vector) → ((a : Axis) → part a d ≡ pos 0) → IsZero d
no-parts d f = let x = f on_x in let y = f on_y in let z = f on_z in (omega (arith, ints, x), omega (arith, ints, y), omega (arith, ints, z))

-- the three axes
pub around : (P : Axis → Type 0) (a : Axis) → P a → P (next a) → P (axis_after a) → (o : Axis) → P o
around P on_x f g h on_x = f
around P on_x f g h on_y = g
around P on_x f g h on_z = h
around P on_y f g h on_x = h
around P on_y f g h on_y = f
around P on_y f g h on_z = g
around P on_z f g h on_x = g
around P on_z f g h on_y = h
around P on_z f g h on_z = f

-- what has no part along two axes is along the third
along : (a : Axis) (d : Vector) → part (next a) d ≡ pos 0 → part (axis_after a) d ≡ pos 0 → pos 0 <ℤ part a d → SameDirection (axis_of a) d
along on_x d e f h = record { parallel = (omega (arith, ints), omega (arith, ints), omega (arith, ints)); forward = omega (arith, ints) }
along on_y d e f h = record { parallel = (omega (arith, ints), omega (arith, ints), omega (arith, ints)); forward = omega (arith, ints) }
along on_z d e f h = record { parallel = (omega (arith, ints), omega (arith, ints), omega (arith, ints)); forward = omega (arith, ints) }

positive-as : (i j : ℤ) → i ≡ j → pos 0 <ℤ i → pos 0 <ℤ j
positive-as i j e h = omega (arith, ints)

pub some-direction : (d : Vector) (n : ℕ) → dot d d ≡ pos (n + 1) → IsDirection d
some-direction d n e z = let q = dot-zero d d z in omega (arith, ints, e, q)

-- and what is along one has none along the others
pub level-ray : (a : Axis) (d : Vector) → SameDirection (axis_of a) d → (part (next a) d ≡ pos 0) × (part (axis_after a) d ≡ pos 0)
level-ray on_x d w = let e = w.parallel.2 in let f = w.parallel.1 in (omega (arith, ints), omega (arith, ints))
level-ray on_y d w = let e = w.parallel.0 in let f = w.parallel.2 in (omega (arith, ints), omega (arith, ints))
level-ray on_z d w = let e = w.parallel.1 in let f = w.parallel.0 in (omega (arith, ints), omega (arith, ints))

-- ---- the arcs
triple-next : (a : Axis) (d : Vector) → triple (axis_of a) (axis_of (next a)) d ≡ part (axis_after a) d
triple-next on_x d = omega (arith, ints)
triple-next on_y d = omega (arith, ints)
triple-next on_z d = omega (arith, ints)

triple-after : (a : Axis) (d : Vector) → triple (axis_of a) d (axis_of (axis_after a)) ≡ part (next a) d
triple-after on_x d = omega (arith, ints)
triple-after on_y d = omega (arith, ints)
triple-after on_z d = omega (arith, ints)

triple-one : (a : Axis) → pos 0 <ℤ triple (axis_of a) (axis_of (next a)) (axis_of (axis_after a))
triple-one a = let e = each-axis (λ o. triple (axis_of o) (axis_of (next o)) (axis_of (axis_after o))) (λ o. pos 1) refl a in omega (arith, ints, e)

-- where a direction lies strictly on the arc with the normal a
abbrev pub OnQuarter : Axis → Vector → Type 0
OnQuarter a d = (part a d ≡ pos 0) × (pos 0 <ℤ part (next a) d) × (pos 0 <ℤ part (axis_after a) d)

strict-quarter : (a : Axis) (d : Vector) → IsStrictlyOn (axis_of a) (axis_of (next a)) (axis_of (axis_after a)) d → OnQuarter a d
strict-quarter a d o = let p = o.less_than_half (triple-one a) in (o.on_circle.level, positive-as _ _ (triple-after a d) p.1, positive-as _ _ (triple-next a d) p.0)

quarter-strict : (a : Axis) (d : Vector) → OnQuarter a d → IsStrictlyOn (axis_of a) (axis_of (next a)) (axis_of (axis_after a)) d
quarter-strict a d (level, h, i) =
    let first = positive-as _ _ (sym (triple-next a d)) i in
    let last = positive-as _ _ (sym (triple-after a d)) h in
    record {
      on_circle = record { direction = λ z. nought-not_positive _ (dot-zero (axis_of (next a)) d z) h; level = level };
      not_source = λ w. nought-not_positive _ (level-ray (next a) d w).0 i;
      not_target = λ w. nought-not_positive _ (subst (λ o. part o d ≡ pos 0) (each-axis (λ o. axis_after (axis_after o)) next refl a) (level-ray (axis_after a) d w).1) h;
      less_than_half = λ g. (first, last);
      more_than_half = λ g. inl first;
      just_half = λ o. first;
    }

module _ (l : Label) where
  abbrev pub M : Map
  M = octant l lowest

  abbrev pub ray : Axis → MapVertex
  ray a = record { dir = axis_of a; mark = Out; around = None }

  abbrev pub quarter : Axis → Arc
  quarter a = record { normal = axis_of a; source = slot (next a); target = slot (axis_after a); pos = l; mark = Out; neg = Out }

  pub each-ray : (P : ℕ → MapVertex → Type 0) → ((a : Axis) → P (slot a) (ray a)) → (n : ℕ) (v : MapVertex) → IsAt M.svertices n v → P n v
  each-ray = each-listed ray slot axes_down refl

  pub each-quarter : (P : ℕ → Item → Type 0) → ((a : Axis) → P (slot a) (arc_item (quarter a))) → (n : ℕ) (x : Item) → IsAt (items M) n x → P n x
  each-quarter = each-listed (λ a. arc_item (quarter a)) slot axes_down refl

  ray-at : (a : Axis) → IsAt M.svertices (slot a) (ray a)
  ray-at a = map-is_at ray axes_down (slot a) a (axis-at a)

  pub quarter-at : (a : Axis) → IsAt (items M) (slot a) (arc_item (quarter a))
  quarter-at a = map-is_at (λ o. arc_item (quarter o)) axes_down (slot a) a (axis-at a)

  abbrev Strict : Vector → Axis → Vector → Vector → Type 0
  Strict d a s t = IsStrictlyOn (axis_of a) s t d

  ray-dir : (a : Axis) → dir_of M.svertices (slot a) ≡ axis_of a
  ray-dir a = dir-at M.svertices (slot a) (ray a) (ray-at a)

  pub on-quarter : (a : Axis) (d : Vector) → OnItem M (arc_item (quarter a)) d → OnQuarter a d
  on-quarter a d o = strict-quarter a d (subst (Strict d a (axis_of (next a))) (ray-dir (axis_after a)) (subst (λ (s : Vector). Strict d a s (dir_of M.svertices (slot (axis_after a)))) (ray-dir (next a)) o))

  pub quarter-on : (a : Axis) (d : Vector) → OnQuarter a d → OnItem M (arc_item (quarter a)) d
  quarter-on a d q = subst (λ (s : Vector). Strict d a s (dir_of M.svertices (slot (axis_after a)))) (sym (ray-dir (next a))) (subst (Strict d a (axis_of (next a))) (sym (ray-dir (axis_after a))) (quarter-strict a d q))

  -- ---- the shape
  one-axis : (a o : Axis) → SameDirection (axis_of a) (axis_of o) → a ≡ o
  one-axis a o w = subst (λ t. cond t a o ≡ o) (positive-is (dot (axis_of a) (axis_of o)) w.forward)
      (each-axis (λ b. cond (is_positive (dot (axis_of a) (axis_of b))) a b) (λ b. b) (each-axis (λ c. on_axes (λ b. cond (is_positive (dot (axis_of c) (axis_of b))) c b)) (λ c. on_axes (λ b. b)) refl a) o)

  no-ray : (a o : Axis) → OnQuarter a (axis_of o) → ⊥
  no-ray a o (z, h, i) = nought-not_positive _ (each-axis (λ b. part (next a) (axis_of b) *ℤ part (axis_after a) (axis_of b)) (λ b. pos 0)
      (each-axis (λ c. on_axes (λ b. part (next c) (axis_of b) *ℤ part (axis_after c) (axis_of b))) (λ c. on_axes (λ b. pos 0)) refl a) o) (mul_pos (part (next a) (axis_of o)) (part (axis_after a) (axis_of o)) h i)

  one-quarter : (a o : Axis) (d : Vector) → OnQuarter a d → OnQuarter o d → slot a ≡ slot o
  one-quarter a o d p = around (λ b. OnQuarter b d → slot a ≡ slot b) a (λ q. refl) (λ q. absurd (nought-not_positive _ q.0 p.1)) (λ q. absurd (nought-not_positive _ q.0 p.2)) o

  has-arc : (a : Axis) → HasArc M (slot a)
  has-arc a = (slot (next a), quarter (next a), map-is_at quarter axes_down (slot (next a)) (next a) (axis-at (next a)), inr (each-axis (λ o. slot (axis_after (next o))) slot refl a))

  between : (a : Axis) → ArcBetween M (quarter a)
  between a = record {
    source = ray (next a);
    target = ray (axis_after a);
    has_source = ray-at (next a);
    has_target = ray-at (axis_after a);
    level_source = each-axis (λ o. dot (axis_of o) (axis_of (next o))) (λ o. pos 0) refl a;
    level_target = each-axis (λ o. dot (axis_of o) (axis_of (axis_after o))) (λ o. pos 0) refl a;
  }

  pub lowest-shaped : Shaped M
  lowest-shaped = record {
    svertex_dirs = each-ray (λ n v. IsDirection v.dir) (λ a. some-direction (axis_of a) 0 (each-axis (λ o. dot (axis_of o) (axis_of o)) (λ o. pos 1) refl a));
    svertices_apart = λ i n u v g h w.
        each-ray (λ j (r : MapVertex). SameDirection r.dir v.dir → j ≡ n) (λ a. each-ray (λ j (r : MapVertex). SameDirection (axis_of a) r.dir → slot a ≡ j) (λ o w. ap slot (one-axis a o w)) n v h) i u g w;
    normals = each-quarter (λ n x. IsNormal (item_normal x)) axis-normal;
    arcs_between = each-listed quarter slot axes_down refl (λ n c. ArcBetween M c) between;
    no_svertex_on_item = λ i n v x g h o.
        each-ray (λ j (r : MapVertex). OnItem M x r.dir → ⊥) (λ b. each-quarter (λ j (y : Item). OnItem M y (axis_of b) → ⊥) (λ a o. no-ray a b (on-quarter a (axis_of b) o)) n x h) i v g o;
    no_items_meet = λ i n x y d g h o q.
        each-quarter (λ j (r : Item). OnItem M r d → j ≡ n)
        (λ a o. each-quarter (λ j (r : Item). OnItem M r d → slot a ≡ j) (λ b q. one-quarter a b d (on-quarter a d o) (on-quarter b d q)) n y h q) i x g o;
    around_lone = λ n v g f. absurd (each-ray (λ j (r : MapVertex). (HasArc M j → ⊥) → ⊥) (λ a f. f (has-arc a)) n v g f);
    around_not = λ n v g h. each-ray (λ j (r : MapVertex). r.around ≡ None) (λ a. refl) n v g;
    ground_alone = λ e f. absurd cc;
    ground_not = λ m (e : None ≡ Some m). cc;
  }

-- ---- near directions
axis-lies : (a : Axis) → Lies axes (axis_of a)
axis-lies on_x = inl refl
axis-lies on_y = inr (inl refl)
axis-lies on_z = inr (inr (inl refl))

-- the sign along an axis just beside d toward e
abbrev lead : Axis → Vector → Vector → Sign
lead a d e = leading (sign (part a d)) (sign (part a e))

far : (a : Axis) (d e : Vector) (i : ℕ) → amount axes e ≤ i → sign (part a (blend i d 1 e)) ≡ lead a d e
far a d e i h = far-leading axes d e i h (axis_of a) (axis-lies a)

lead-plus : (a : Axis) (d e : Vector) → pos 0 <ℤ part a d → lead a d e ≡ plus
lead-plus a d e h = ap (λ s. leading s (sign (part a e))) (sign-plus (part a d) h)

lead-level : (a : Axis) (d e : Vector) → part a d ≡ pos 0 → lead a d e ≡ sign (part a e)
lead-level a d e z = leading-level (part a d) (sign (part a e)) z

-- what isn't the sign plus
not-plus : (s t : Sign) → s ≡ t → (t ≡ plus → ⊥) → s ≡ plus → ⊥
not-plus s t e n h = n (sym e ∙ h)

-- the part inward along two axes is the sum of theirs, for a form that is level along the third
inward-sum : (a : Axis) (n : Vector) → dot n (axis_of a) ≡ pos 0 → dot n (inward_way lowest) ≡ dot n (axis_of (next a)) +ℤ dot n (axis_of (axis_after a))
inward-sum on_x n e = omega (arith, ints)
inward-sum on_y n e = omega (arith, ints)
inward-sum on_z n e = omega (arith, ints)

sum-sign : (u v w : ℤ) → w ≡ u +ℤ v → (sign w ≡ sign u) ⊎ (sign w ≡ sign v) ⊎ (sign w ≡ nought)
sum-sign u v w s = by_order w (pos 0)
    (λ i. by_order u (pos 0) (λ j. inl (sign-minus w i ∙ sym (sign-minus u j))) (λ j. inr (inl (sign-minus w i ∙ sym (sign-minus v (omega (arith, ints, s, i, j)))))) (λ j. inr (inl (sign-minus w i ∙ sym (sign-minus v (omega (arith, ints, s, i, j)))))))
    (λ i. inr (inr (ap sign i)))
    (λ i. by_order u (pos 0) (λ j. inr (inl (sign-plus w i ∙ sym (sign-plus v (omega (arith, ints, s, i, j)))))) (λ j. inr (inl (sign-plus w i ∙ sym (sign-plus v (omega (arith, ints, s, i, j)))))) (λ j. inl (sign-plus w i ∙ sym (sign-plus u j))))

abbrev Order : ℤ → Type 0
Order u = (u <ℤ pos 0) ⊎ (u ≡ pos 0) ⊎ (pos 0 <ℤ u)

order-of : (u : ℤ) → Order u
order-of u = by_order u (pos 0) (λ h. inl h) (λ h. inr (inl h)) (λ h. inr (inr h))

-- ---- free directions lead all inward, or outward along some axis
module _ (l : Label) (d : Vector) (f : IsFree (octant l lowest) d) where
  off-quarters : (a : Axis) → OnQuarter a d → ⊥
  off-quarters a q = f.off_items (slot a) (arc_item (quarter l a)) (quarter-at l a) (quarter-on l a d q)

  off-rays : (a : Axis) → part (next a) d ≡ pos 0 → part (axis_after a) d ≡ pos 0 → pos 0 <ℤ part a d → ⊥
  off-rays a y z h = f.off_svertices (slot a) (ray l a) (ray-at l a) (along a d y z h)

  pub free-cases : Order (part on_x d) → Order (part on_y d) → Order (part on_z d) → ((a : Axis) × (part a d <ℤ pos 0)) ⊎ ((a : Axis) → pos 0 <ℤ part a d)
  free-cases (inl h) y z = inl (on_x, h)
  free-cases x (inl h) z = inl (on_y, h)
  free-cases x y (inl h) = inl (on_z, h)
  free-cases (inr (inr x)) (inr (inr y)) (inr (inr z)) = inr (around (λ a. pos 0 <ℤ part a d) on_x x y z)
  free-cases (inr (inl x)) (inr (inr y)) (inr (inr z)) = absurd (off-quarters on_x (x, y, z))
  free-cases (inr (inr x)) (inr (inl y)) (inr (inr z)) = absurd (off-quarters on_y (y, z, x))
  free-cases (inr (inr x)) (inr (inr y)) (inr (inl z)) = absurd (off-quarters on_z (z, x, y))
  free-cases (inr (inr x)) (inr (inl y)) (inr (inl z)) = absurd (off-rays on_x y z x)
  free-cases (inr (inl x)) (inr (inr y)) (inr (inl z)) = absurd (off-rays on_y z x y)
  free-cases (inr (inl x)) (inr (inl y)) (inr (inr z)) = absurd (off-rays on_z x y z)
  free-cases (inr (inl x)) (inr (inl y)) (inr (inl z)) = absurd (f.direction (no-parts d (around (λ a. part a d ≡ pos 0) on_x x y z)))

-- ---- the map and the set
module _ (s : Set) (l : Label) (W : IsOneLabelSet s l) (p : SpacePoint) (c : IsFrameCornerAt lowest p) where
  abbrev F : Vector → Label → Type 0
  F = Germ s p

  germ-in : (d : Vector) → ((a : Axis) → sign (part a d) ≡ plus) → F d l
  germ-in d f = germ-inward s l W p d (leads-in lowest p c d (λ a. ap sign (wall-part a d) ∙ sign-neg (part a d) ∙ ap sign_turned (f a)))

  germ-off : (d : Vector) (a : Axis) → (sign (part a d) ≡ plus → ⊥) → F d Out
  germ-off d a n = germ-outward s p d a (is_high_on lowest a) (through lowest p c a) (λ m. n (sign-plus (part a d) (let e = wall-part a d in let h = minus-is (slope (wall a (is_high_on lowest a)) d) m in omega (arith, ints, e, h))))

  near-in : (d e : Vector) → ((a : Axis) → lead a d e ≡ plus) → Near F d e l
  near-in d e f = (amount axes e, λ i h. germ-in (blend i d 1 e) (λ a. far a d e i h ∙ f a))

  near-off : (d e : Vector) (a : Axis) → (lead a d e ≡ plus → ⊥) → Near F d e Out
  near-off d e a n = (amount axes e, λ i h. germ-off (blend i d 1 e) a (λ q. n (sym (far a d e i h) ∙ q)))

  off-axis : (a : Axis) → F (axis_of a) Out
  off-axis a = germ-off (axis_of a) (next a) (not-plus _ nought (each-axis (λ o. sign (part (next o) (axis_of o))) (λ o. nought) refl a) (λ q. cc))

  beside : (a : Axis) (d e : Vector) → OnQuarter a d → Near F d e (by_side l Out Out (sign (part a e)))
  beside a d e (level, h, i) = by (sign (part a e)) (lead-level a d e level)
    where
      by : (t : Sign) → lead a d e ≡ t → Near F d e (by_side l Out Out t)
      by minus q = near-off d e a (not-plus _ minus q (λ r. cc))
      by nought q = near-off d e a (not-plus _ nought q (λ r. cc))
      by plus q = near-in d e (around (λ o. lead o d e ≡ plus) a q (lead-plus (next a) d e h) (lead-plus (axis_after a) d e i))

  agrees : Agrees (M l) F
  agrees = record {
    svertices = each-ray l (λ n v. F v.dir v.mark) off-axis;
    marks = λ n x d h o. each-quarter l (λ j (y : Item). OnItem (M l) y d → F d (item_mark y)) (λ a o. germ-off d a (not-plus _ nought (ap sign (on-quarter l a d o).0) (λ q. cc))) n x h o;
    beside = λ n x d e h o i. each-quarter l (λ j (y : Item). OnItem (M l) y d → Near F d e (by_side (item_pos y) (item_mark y) (item_neg y) (sign (dot (item_normal y) e)))) (λ a o. beside a d e (on-quarter l a d o)) n x h o;
    lone = λ n v m e h q i. each-ray l (λ j (u : MapVertex). u.around ≡ Some m → Near F v.dir e m) (λ a (r : None ≡ Some m). absurd cc) n v h q;
    free = λ d f m g e i. ⊎_elim
        (λ (a, h). subst (Near F d e) (Germ-unique s p d Out m (germ-off d a (not-plus _ minus (sign-minus (part a d) h) (λ q. cc))) g)
        (near-off d e a (not-plus _ minus (ap (λ t. leading t (sign (part a e))) (sign-minus (part a d) h)) (λ q. cc))))
        (λ h. subst (Near F d e) (Germ-unique s p d l m (germ-in d (λ a. sign-plus (part a d) (h a))) g) (near-in d e (λ a. lead-plus a d e (h a))))
        (free-cases l d f (order-of _) (order-of _) (order-of _));
    ground = λ m d (q : None ≡ Some m) i. absurd cc;
  }

  outside : HasLabel s p Out
  outside i = minus-not_nought (sign_at (wall on_x (is_high_on lowest on_x)) p) (frame-minus p i (wall on_x (is_high_on lowest on_x)) (wall-listed on_x (is_high_on lowest on_x))) (through lowest p c on_x)

  pub lowest-cone : Cone (M l) s p
  lowest-cone = cone-from_agrees (M l) s p (lowest-shaped l) outside agrees

  -- ---- it is least
  label-germ : (d : Vector) (m : Label) → MapLabel (M l) d m → F d m
  label-germ d m = agrees-label (normals_of (carriers s)) F (germ-labelling s p) (M l) (lowest-shaped l) agrees d m

  near-germ : (d e : Vector) (m : Label) → NearLabel (M l) d e m → Near F d e m
  near-germ d e m (n, f) = (n, λ i h. label-germ (blend i d 1 e) m (f i h))

  inward-near : (a : Axis) → Near F (axis_of a) (inward_way lowest) l
  inward-near a = near-in (axis_of a) (inward_way lowest) (λ o. each-axis (λ b. lead b (axis_of a) (inward_way lowest)) (λ b. plus) (each-axis (λ c. on_axes (λ b. lead b (axis_of c) (inward_way lowest))) (λ c. on_axes (λ b. plus)) refl a) o)

  -- toward the next axis it is Out, and toward the one after
  next-near : (a : Axis) → Near F (axis_of a) (axis_of (next a)) Out
  next-near a = near-off (axis_of a) (axis_of (next a)) (axis_after a) (not-plus _ nought (each-axis (λ o. lead (axis_after o) (axis_of o) (axis_of (next o))) (λ o. nought) refl a) (λ q. cc))

  after-near : (a : Axis) → Near F (axis_of a) (axis_of (axis_after a)) Out
  after-near a = near-off (axis_of a) (axis_of (axis_after a)) (next a) (not-plus _ nought (each-axis (λ o. lead (next o) (axis_of o) (axis_of (axis_after o))) (λ o. nought) refl a) (λ q. cc))

  inward-across : (a : Axis) → IsDirection (cross (axis_of a) (inward_way lowest))
  inward-across a = some-direction _ 1 (each-axis (λ o. dot (cross (axis_of o) (inward_way lowest)) (cross (axis_of o) (inward_way lowest))) (λ o. pos 2) refl a)

  no-plain : (a : Axis) → NearPlain (M l) (axis_of a) → ⊥
  no-plain a P =
      let v = axis_of a in
      let e = Germ-unique s p v P.label Out (label-germ v P.label P.at_d) (off-axis a) in
      let f = near-germ_one s p v (inward_way lowest) P.label l (near-germ v (inward_way lowest) P.label (P.near (inward_way lowest) (inward-across a))) (inward-near a) in
      W.some (sym f ∙ e)

  toward-side : (a : Axis) (N : NearStraight (M l) (axis_of a)) (e : Vector) → IsDirection (cross (axis_of a) e) → Near F (axis_of a) e (by_side N.pos Out N.neg (sign (dot N.normal e)))
  toward-side a N e i = subst (λ m. Near F (axis_of a) e (by_side N.pos m N.neg (sign (dot N.normal e)))) (Germ-unique s p (axis_of a) N.label Out (label-germ (axis_of a) N.label N.at_d) (off-axis a))
      (near-germ (axis_of a) e (by_side N.pos N.label N.neg (sign (dot N.normal e))) (N.near e i))

  no-straight : (a : Axis) → NearStraight (M l) (axis_of a) → ⊥
  no-straight a N =
      let v = axis_of a in
      let u = axis_of (next a) in
      let w = axis_of (axis_after a) in
      let f = near-germ_one s p v (inward_way lowest) _ l (toward-side a N (inward_way lowest) (inward-across a)) (inward-near a) in
      let g = near-germ_one s p v u _ Out (toward-side a N u (some-direction _ 0 (each-axis (λ o. dot (cross (axis_of o) (axis_of (next o))) (cross (axis_of o) (axis_of (next o)))) (λ o. pos 1) refl a))) (next-near a) in
      let h = near-germ_one s p v w _ Out (toward-side a N w (some-direction _ 0 (each-axis (λ o. dot (cross (axis_of o) (axis_of (axis_after o))) (cross (axis_of o) (axis_of (axis_after o)))) (λ o. pos 1) refl a))) (after-near a) in
      W.some (sym f ∙ ⊎_elim (λ e. ap (by_side N.pos Out N.neg) e ∙ g) (λ r. ⊎_elim (λ e. ap (by_side N.pos Out N.neg) e ∙ h) (λ e. ap (by_side N.pos Out N.neg) e) r) (sum-sign (dot N.normal u) (dot N.normal w) (dot N.normal (inward_way lowest)) (inward-sum a N.normal N.level)))

  pub lowest-least : Least (M l)
  lowest-least = record {
    no_plain = each-ray l (λ n v. NearPlain (M l) v.dir → ⊥) no-plain;
    no_straight = each-ray l (λ n v. NearStraight (M l) v.dir → ⊥) no-straight;
    items_differ = each-quarter l (λ n x. item_pos x ≡ item_mark x → item_neg x ≡ item_mark x → ⊥) (λ a e f. W.some e);
  }
