-- Turning from a direction on an item to another of its plane, by less than half a turn, one stays on the item, or its end comes first.
use Rattle.nef_conn.proofs.Prelude.{◌≡◌, ℕ, zero, suc, ℤ, pos, negsuc, ◌<ℤ◌, true, cond, arith, refl, sym, ◌⊎◌, inl, inr, ⊎_elim, subst, ints, Vector, opposite, dot, triple, IsDirection, SameDirection, IsOnCircle, IsStrictlyOn, Passes, AboutFour, IsAt, MapVertex, Arc, Item, arc_item, sloop_item, items, item_normal, Map, OnItem, dir_of, Shaped, Decided, normal-is, same-plus, same-minus, positive-or, negative-or, Ends, ends-of, on-direction, on-level, arc-at, dir-at, turn-last, IsStrictlyOn-same, triple-turned, SameDirection-turned, SameDirection-trans, dir-self, opposite-same, opposite-twice}
use lib.Dec.{T}
use Rattle.law_geometry.proofs.sphere.cyclic.Signs.{sgn, is_plus, is_minus, both, one_of, rule, plus_is, is_plus_if}
use Rattle.law_geometry.proofs.sphere.cyclic.StrictlyOn.{same_test}
use Rattle.law_geometry.proofs.sphere.cyclic.Cyclic.{Says, says_both, says_one, says_passes, says_same, implied, FourTest, every_four, holds_at_four, abd, acd}
use Rattle.law_geometry.proofs.sphere.cyclic.Directions.{way_back_passes_the_same}
use Rattle.nef_space.proofs.Vectors.{level-opposite}
use Rattle.law_geometry.proofs.complex.FacetEnds.{level-normal}

-- ---- laws of four directions
says_plus : (z : ℤ) → Says (pos 0 <ℤ z) (is_plus (sgn z))
says_plus z = record { test = is_plus_if z; fact = plus_is z }

says_minus : (z : ℤ) → Says (z <ℤ pos 0) (is_minus (sgn z))
says_minus z = record { test = if-minus z; fact = is-minus z }
  where
    is-minus : (z : ℤ) → T (is_minus (sgn z)) → z <ℤ pos 0
    is-minus (pos zero) t = absurd t
    is-minus (pos (suc n)) t = absurd t
    is-minus (negsuc n) t = omega (arith, ints)

    if-minus : (z : ℤ) → z <ℤ pos 0 → T (is_minus (sgn z))
    if-minus (pos zero) h = absurd (omega (arith, ints))
    if-minus (pos (suc n)) h = absurd (omega (arith, ints))
    if-minus (negsuc n) h = tt

-- from a past b to d, and c to the left of b: c is passed too, or is d, or d comes before c
abbrev left_or_end_test : FourTest
left_or_end_test ab ab' ac ac' ad ad' bc bc' bd bd' cd cd' = cond (both (rule ad ad' ab ab' bd bd') (is_plus bc)) (one_of (rule ad ad' ac ac' cd cd') (one_of (same_test cd cd') (both (is_plus bd) (is_minus cd)))) true

all_left_or_end : T (every_four left_or_end_test)
all_left_or_end = tt

left-or_end : (n a b c d : Vector) → AboutFour n a b c d → Passes n a b d → pos 0 <ℤ triple n b c → Passes n a c d ⊎ (SameDirection c d ⊎ ((pos 0 <ℤ triple n b d) × (triple n c d <ℤ pos 0)))
left-or_end n a b c d g h k =
    implied (says_both (says_passes n a b d (abd n a b c d g)) (says_plus (triple n b c)))
    (says_one (says_passes n a c d (acd n a b c d g)) (says_one (says_same n c d g.axis g.third g.fourth) (says_both (says_plus (triple n b d)) (says_minus (triple n c d)))))
    (holds_at_four left_or_end_test all_left_or_end n a b c d g) (h, k)

-- within half a turn to the left of a, from b over c to d
abbrev within_half_test : FourTest
within_half_test ab ab' ac ac' ad ad' bc bc' bd bd' cd cd' = cond (both (is_plus ab) (both (is_plus bc) (both (is_plus cd) (both (is_plus ad) (is_plus ac))))) (is_plus bd) true

all_within_half : T (every_four within_half_test)
all_within_half = tt

within-half : (n a b c d : Vector) → AboutFour n a b c d → pos 0 <ℤ triple n a b → pos 0 <ℤ triple n b c → pos 0 <ℤ triple n c d → pos 0 <ℤ triple n a d → pos 0 <ℤ triple n a c → pos 0 <ℤ triple n b d
within-half n a b c d g h i k l m =
    implied (says_both (says_plus (triple n a b)) (says_both (says_plus (triple n b c)) (says_both (says_plus (triple n c d)) (says_both (says_plus (triple n a d)) (says_plus (triple n a c))))))
    (says_plus (triple n b d)) (holds_at_four within_half_test all_within_half n a b c d g) (h, (i, (k, (l, m))))

-- ---- seen from m, which is the normal n or its opposite
abbrev pub Seen : Vector → Vector → Type 0
Seen n m = SameDirection n m ⊎ SameDirection (opposite n) m

-- where an arc begins and where it ends, counterclockwise about m
abbrev pub start_of : (n m : Vector) → Seen n m → Arc → ℕ
start_of n m (inl w) c = c.source
start_of n m (inr w) c = c.target

abbrev pub sector_end : (n m : Vector) → Seen n m → Arc → ℕ
sector_end n m (inl w) c = c.target
sector_end n m (inr w) c = c.source

pub seen-level : (n m d : Vector) → Seen n m → dot n d ≡ pos 0 → dot m d ≡ pos 0
seen-level n m d (inl w) z = level-normal n m d w z
seen-level n m d (inr w) z = level-normal (opposite n) m d w (level-opposite n d z)

-- the other way round
abbrev pub seen-back : (n m : Vector) → Seen n m → Seen n (opposite m)
seen-back n m (inl w) = inr (opposite-same n m w)
seen-back n m (inr w) = inl (subst (λ (r : Vector). SameDirection r (opposite m)) (opposite-twice n) (opposite-same (opposite n) m w))

module _ (n m : Vector) (O : Seen n m) (m-some : IsDirection m) (M : Map) (V : Shaped M) where
  abbrev way : ℕ → Vector
  way k = dir_of M.svertices k

  module _ (k : ℕ) (c : Arc) (listed : IsAt (items M) k (arc_item c)) (same : SameDirection c.normal n) where
    abbrev E : Ends M c
    E = ends-of M V k c (arc-at M.arcs M.sloop k c listed)

    at-source : IsOnCircle c.normal (way c.source)
    at-source = record { direction = E.source_direction; level = E.source_level }

    at-target : IsOnCircle c.normal (way c.target)
    at-target = record { direction = E.target_direction; level = E.target_level }

    n-some : IsDirection c.normal
    n-some = normal-is V k (arc_item c) listed

    seen-on : (e : Vector) → OnItem M (arc_item c) e → IsStrictlyOn m (way (start_of n m O c)) (way (sector_end n m O c)) e
    seen-on e o = by O
      where
        self : SameDirection e e
        self = dir-self e (on-direction M (arc_item c) e o)

        by : (O : Seen n m) → IsStrictlyOn m (way (start_of n m O c)) (way (sector_end n m O c)) e
        by (inl w) = IsStrictlyOn-same c.normal m (way c.source) (way c.source) (way c.target) (way c.target) e e (SameDirection-trans c.normal n m same w) (dir-self (way c.source) E.source_direction) (dir-self (way c.target) E.target_direction) self o
        by (inr w) = IsStrictlyOn-same (opposite c.normal) m (way c.target) (way c.target) (way c.source) (way c.source) e e (SameDirection-trans (opposite c.normal) (opposite n) m (opposite-same c.normal n same) w)
            (dir-self (way c.target) E.target_direction) (dir-self (way c.source) E.source_direction) self ((way_back_passes_the_same c.normal (way c.source) (way c.target) e n-some at-source at-target).1 o)

    on-seen : (e : Vector) → IsStrictlyOn m (way (start_of n m O c)) (way (sector_end n m O c)) e → OnItem M (arc_item c) e
    on-seen e o = by O o
      where
        by : (O : Seen n m) → IsStrictlyOn m (way (start_of n m O c)) (way (sector_end n m O c)) e → OnItem M (arc_item c) e
        by (inl w) o = IsStrictlyOn-same m c.normal (way c.source) (way c.source) (way c.target) (way c.target) e e (SameDirection-turned c.normal m (SameDirection-trans c.normal n m same w)) (dir-self (way c.source) E.source_direction) (dir-self (way c.target) E.target_direction) (dir-self e o.on_circle.direction) o
        by (inr w) o = (way_back_passes_the_same c.normal (way c.source) (way c.target) e n-some at-source at-target).0
            (IsStrictlyOn-same m (opposite c.normal) (way c.target) (way c.target) (way c.source) (way c.source) e e (SameDirection-turned (opposite c.normal) m (SameDirection-trans (opposite c.normal) (opposite n) m (opposite-same c.normal n same) w))
            (dir-self (way c.target) E.target_direction) (dir-self (way c.source) E.source_direction) (dir-self e o.on_circle.direction) o)

    -- the end of the arc
    end-listed : (u : MapVertex) × IsAt M.svertices (sector_end n m O c) u
    end-listed = by O
      where
        by : (O : Seen n m) → (u : MapVertex) × IsAt M.svertices (sector_end n m O c) u
        by (inl w) = (E.target, E.has_target)
        by (inr w) = (E.source, E.has_source)

    end-level : dot n (way (sector_end n m O c)) ≡ pos 0
    end-level = by O
      where
        by : (O : Seen n m) → dot n (way (sector_end n m O c)) ≡ pos 0
        by (inl w) = level-normal c.normal n (way c.target) same E.target_level
        by (inr w) = level-normal c.normal n (way c.source) same E.source_level

    ends-about : IsOnCircle m (way (start_of n m O c)) × IsOnCircle m (way (sector_end n m O c))
    ends-about = by O
      where
        about : (O : Seen n m) (d : Vector) → IsOnCircle c.normal d → IsOnCircle m d
        about O d o = record { direction = o.direction; level = seen-level n m d O (level-normal c.normal n d same o.level) }

        by : (O : Seen n m) → IsOnCircle m (way (start_of n m O c)) × IsOnCircle m (way (sector_end n m O c))
        by (inl w) = (about (inl w) (way c.source) at-source, about (inl w) (way c.target) at-target)
        by (inr w) = (about (inr w) (way c.target) at-target, about (inr w) (way c.source) at-source)

-- ---- turning to the left, from f to g
-- the item goes on to g and holds all between
pub record Through (M : Map) (x : Item) (n m f g : Vector) : Type 0 where
  pub on : OnItem M x g
  pub between : (e : Vector) → IsDirection e → dot n e ≡ pos 0 → pos 0 <ℤ triple m f e → pos 0 <ℤ triple m e g → OnItem M x e

-- it is an arc that ends at g or before, and holds all before its end
pub record Stops (M : Map) (x : Item) (n m f g : Vector) (O : Seen n m) : Type 0 where
  pub arc : Arc
  pub is_arc : x ≡ arc_item arc
  pub svertex : MapVertex
  pub end : IsAt M.svertices (sector_end n m O arc) svertex
  pub level : dot n svertex.dir ≡ pos 0
  pub left : pos 0 <ℤ triple m f svertex.dir
  pub before : SameDirection svertex.dir g ⊎ (pos 0 <ℤ triple m svertex.dir g)
  pub between : (e : Vector) → IsDirection e → dot n e ≡ pos 0 → pos 0 <ℤ triple m f e → pos 0 <ℤ triple m e svertex.dir → OnItem M x e

module _ (n m : Vector) (O : Seen n m) (m-some : IsDirection m) (M : Map) (V : Shaped M) (f g : Vector) (g-some : IsDirection g) (level : dot n g ≡ pos 0) (turn : pos 0 <ℤ triple m f g) where
  module _ (k : ℕ) (c : Arc) (listed : IsAt (items M) k (arc_item c)) (same : SameDirection c.normal n) (on : OnItem M (arc_item c) f) where
    abbrev s : Vector
    s = dir_of M.svertices (start_of n m O c)

    abbrev t : Vector
    t = dir_of M.svertices (sector_end n m O c)

    at-f : IsOnCircle m f
    at-f = record { direction = on-direction M (arc_item c) f on; level = seen-level n m f O (level-normal c.normal n f same (on-level M (arc_item c) f on)) }

    about : IsOnCircle m s × IsOnCircle m t
    about = ends-about n m O m-some M V k c listed same

    on-f : IsStrictlyOn m s t f
    on-f = seen-on n m O m-some M V k c listed same f on

    four : (e : Vector) → IsDirection e → dot n e ≡ pos 0 → AboutFour m s f e t
    four e i z = record { axis = m-some; first = about.0; second = at-f; third = record { direction = i; level = seen-level n m e O z }; fourth = about.1 }

    -- a direction to the left of f is on the arc, or is its end, or comes after it
    to-left : (e : Vector) → IsDirection e → dot n e ≡ pos 0 → pos 0 <ℤ triple m f e → OnItem M (arc_item c) e ⊎ (SameDirection e t ⊎ ((pos 0 <ℤ triple m f t) × (triple m e t <ℤ pos 0)))
    to-left e i z h = ⊎_elim (λ o. inl (on-seen n m O m-some M V k c listed same e o)) (λ r. inr r) (left-or_end m s f e t (four e i z) on-f h)

    before-end : pos 0 <ℤ triple m f t → (e : Vector) → IsDirection e → dot n e ≡ pos 0 → pos 0 <ℤ triple m f e → pos 0 <ℤ triple m e t → OnItem M (arc_item c) e
    before-end h e i z a b = ⊎_elim (λ o. o) (λ r. ⊎_elim (λ w. absurd (let q = same-plus (triple m e t) (triple m e e) (turn-last m e t e (SameDirection-turned e t w)) b in let r = triple-turned m e e in omega (arith, ints))) (λ q. let x = q.1 in absurd (omega (arith, ints))) r) (to-left e i z a)

    before-g : ((pos 0 <ℤ triple m f t) → triple m g t <ℤ pos 0 → ⊥) → (e : Vector) → IsDirection e → dot n e ≡ pos 0 → pos 0 <ℤ triple m f e → pos 0 <ℤ triple m e g → OnItem M (arc_item c) e
    before-g none e i z a b = ⊎_elim (λ o. o) (λ r. ⊎_elim at-end after-end r) (to-left e i z a)
      where
        at-end : SameDirection e t → OnItem M (arc_item c) e
        at-end w = absurd (none (same-plus (triple m f e) (triple m f t) (turn-last m f e t w) a)
            (let q = triple-turned m g e in let x : triple m g e <ℤ pos 0 = omega (arith, ints) in same-minus (triple m g e) (triple m g t) (turn-last m g e t w) x))

        after-end : (pos 0 <ℤ triple m f t) × (triple m e t <ℤ pos 0) → OnItem M (arc_item c) e
        after-end (p, q) =
            let at-e : IsOnCircle m e = record { direction = i; level = seen-level n m e O z } in
            let at-g : IsOnCircle m g = record { direction = g-some; level = seen-level n m g O level } in
            let x = triple-turned m t e in
            let y = within-half m f t e g (record { axis = m-some; first = at-f; second = about.1; third = at-e; fourth = at-g }) p (omega (arith, ints)) b turn a in
            let r = triple-turned m t g in
            absurd (none p (omega (arith, ints)))

    stops : pos 0 <ℤ triple m f t → SameDirection g t ⊎ (triple m g t <ℤ pos 0) → Stops M (arc_item c) n m f g O
    stops h o = let u = end-listed n m O m-some M V k c listed same in by u.0 u.1 (dir-at M.svertices (sector_end n m O c) u.0 u.1)
      where
        by : (u : MapVertex) → IsAt M.svertices (sector_end n m O c) u → t ≡ u.dir → Stops M (arc_item c) n m f g O
        by u a e = record {
          arc = c;
          is_arc = refl;
          svertex = u;
          end = a;
          level = subst (λ (r : Vector). dot n r ≡ pos 0) e (end-level n m O m-some M V k c listed same);
          left = subst (λ (r : Vector). pos 0 <ℤ triple m f r) e h;
          before = ⊎_elim (λ w. inl (SameDirection-turned g u.dir (subst (λ (r : Vector). SameDirection g r) e w))) (λ q. inr (let x = subst (λ (r : Vector). triple m g r <ℤ pos 0) e q in let y = triple-turned m g u.dir in omega (arith, ints))) o;
          between = λ v i z p q. before-end h v i z p (subst (λ (r : Vector). pos 0 <ℤ triple m v r) (sym e) q);
        }

    arc-turned : Through M (arc_item c) n m f g ⊎ Stops M (arc_item c) n m f g O
    arc-turned = by (positive-or (triple m f t)) (negative-or (triple m g t)) (to-left g g-some level turn)
      where
        go : OnItem M (arc_item c) g → ((pos 0 <ℤ triple m f t) → triple m g t <ℤ pos 0 → ⊥) → Through M (arc_item c) n m f g ⊎ Stops M (arc_item c) n m f g O
        go o none = inl (record { on = o; between = before-g none })

        by : Decided (pos 0 <ℤ triple m f t) → Decided (triple m g t <ℤ pos 0) → OnItem M (arc_item c) g ⊎ (SameDirection g t ⊎ ((pos 0 <ℤ triple m f t) × (triple m g t <ℤ pos 0)))
            → Through M (arc_item c) n m f g ⊎ Stops M (arc_item c) n m f g O
        by (inl h) (inl l) _ = inr (stops h (inr l))
        by p q (inr (inl w)) = inr (stops (same-plus (triple m f g) (triple m f t) (turn-last m f g t w) turn) (inl w))
        by p q (inr (inr r)) = inr (stops r.0 (inr r.1))
        by (inr h) q (inl o) = go o (λ x y. h x)
        by p (inr l) (inl o) = go o (λ x y. l y)

  pub turned : (k : ℕ) (x : Item) → IsAt (items M) k x → SameDirection (item_normal x) n → OnItem M x f → Through M x n m f g ⊎ Stops M x n m f g O
  turned k (arc_item c) listed same on = arc-turned k c listed same on
  turned k (sloop_item l) listed same on =
      let level-opposite = SameDirection-turned l.normal n same in
      inl (record { on = record { direction = g-some; level = level-normal n l.normal g level-opposite level }; between = λ e i z p q. record { direction = i; level = level-normal n l.normal e level-opposite z } })
