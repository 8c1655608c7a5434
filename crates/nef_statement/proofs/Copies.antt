-- Numbers within the limits have planes, points and directions of the program, and nodes have turned copies.
use Rattle.nef_statement.proofs.Prelude.{◌≡◌, ℕ, zero, suc, ◌+◌, ◌<◌, ◌≤◌, ℤ, pos, neg_ℤ, ◌*ℤ◌, ◌<ℤ◌, nat_abs, Bool, true, false, List, [], ◌∷◌, ◌++◌, length, get_or, Some, slice_get, arith, refl, ap, ◌∙◌, inl, inr, subst, slice_index, ints, slice_get-get_or, normal_limit, offset_limit, point_limit, weight_limit, ray_direction_limit, DividesAll, Form, form, SamePoint, Set, vector, IsDirection, IsAtMost, SameDirection, IsNormal, IsPointAtMost, IsStretched, IsPositiveMultiple, given_form, point_at, point_of, vector_of, Dir, Oriented, Point, part_small, negated_if, IsComposition, Decided, turned_plane, signed, normal-choice, lowest_form-turned, IsSmallForm, point-with, Node, Stays, IsTurnedNode, OperandsTurned, IsMarked, AreWithOperands, Shape, IsOrdered, NodeTable, table, origin, HasOrigin, AreOrigins, IsCopyOf, TurnOf, operand-below, slice_get-left, slice_get-seam, new-names, new-image, ordered-push, origins-push, copy-there, copy-is, copy-image, IsCopying, copying-start, copying-length, copying-operands, copying-more, stays-same, stays-twice, eq-decided}
use Rattle.nef_geo.proofs.Directions.{IsDirection-part, SameDirection-stretched}
use Rattle.nef_geo.proofs.Divisors.{divisor_small, lowest_three}
use Rattle.nef_geo.proofs.Places.{SamePoint-reduced}
use Rattle.nef_case.proofs.TurnLemmas.{composition-turns, composed-by_numbers}
use Rattle.nef_statement.proofs.text.existence.Reduced.{Reduced, reduce-by}
use Rattle.nef_expr.specs.declared.nodes.Node.TheVariants as node
use Rattle.nef_expr.specs.declared.table.Origin.{Origin}
use Rattle.nef_expr.proofs.Halves.{half-in_range, half-some, half-read}
use Rattle.nef_space.proofs.Elementary.{whole-nought}

-- ---- points
-- the point (x/w, y/w, z/w), whose numbers are at most as large as these
pub point-at : (m n : ℕ) (x y z w : ℤ) → m ≤ point_limit → n ≤ weight_limit → IsAtMost m (vector x y z) → nat_abs w ≤ n → (p : pos 0 <ℤ w) → (q : Point) × SamePoint (point_at x y z w p) (point_of q) × IsPointAtMost m n (point_of q)
point-at m n x y z w few light S l p =
    let a = S.of_x in let b = S.of_y in let c = S.of_z in
    let (q, R) = point-with x y z w (omega (arith, a, few)) (omega (arith, b, few)) (omega (arith, c, few)) (omega (arith, l, light)) p in (
      q,
      SamePoint-reduced x y z w q.x q.y q.z q.w p q.proper R,
      record {
        numbers = record { of_x = part_small m R.factor x q.x R.positive R.x_is a; of_y = part_small m R.factor y q.y R.positive R.y_is b; of_z = part_small m R.factor z q.z R.positive R.z_is c };
        weight = part_small n R.factor w q.w R.positive R.w_is l;
      },
    )

-- ---- directions
-- what divides numbers that aren't all zero is positive
some-divides : (n : ℕ) (x y z w : ℤ) → IsAtMost n (vector x y z) → nat_abs w ≤ n → IsDirection (vector x y z) → (h : ℕ) → DividesAll h (x ∷ y ∷ z ∷ w ∷ []) → 0 < h
some-divides n x y z w S l some h d =
    let r = divisor_small n h x y z w (record { x_small = S.of_x; y_small = S.of_y; z_small = S.of_z; w_small = l }) (λ t. some (t.0, t.1, t.2)) d in
    r.positive

-- the direction of three numbers, whose own are at most as large
pub direction-of : (x y z : ℤ) → IsAtMost ray_direction_limit (vector x y z) → IsDirection (vector x y z) → (d : Dir) × SameDirection (vector x y z) (vector_of d) × IsAtMost ray_direction_limit (vector_of d)
direction-of x y z S some = by (reduce-by x y z (pos 0) (some-divides ray_direction_limit x y z (pos 0) S (omega arith) some))
  where
    by : Reduced x y z (pos 0) → (d : Dir) × SameDirection (vector x y z) (vector_of d) × IsAtMost ray_direction_limit (vector_of d)
    by r =
        let R = r.reduced in
        let T : IsStretched (vector x y z) (vector r.x' r.y' r.z') = record { factor = R.factor; positive = R.positive; x_is = R.x_is; y_is = R.y_is; z_is = R.z_is } in
        let D = IsDirection-part (vector x y z) (vector r.x' r.y' r.z') T some in
        let a = part_small ray_direction_limit R.factor x r.x' R.positive R.x_is S.of_x in
        let b = part_small ray_direction_limit R.factor y r.y' R.positive R.y_is S.of_y in
        let c = part_small ray_direction_limit R.factor z r.z' R.positive R.z_is S.of_z in (
          record {
            x = r.x';
            y = r.y';
            z = r.z';
            x_small = omega (arith, a);
            y_small = omega (arith, b);
            z_small = omega (arith, c);
            some = D;
            lowest = lowest_three x y z r.x' r.y' r.z' r.w' R;
          },
          SameDirection-stretched (vector x y z) (vector r.x' r.y' r.z') T D,
          record { of_x = a; of_y = b; of_z = c },
        )

-- ---- planes as they are given
negated-small : (b : Bool) (n : ℕ) (x : ℤ) → nat_abs x ≤ n → nat_abs (negated_if b x) ≤ n
negated-small true n x l = omega (arith, ints, l)
negated-small false n x l = l

twice-negated : (k x y : ℤ) → x ≡ k *ℤ y → x ≡ k *ℤ neg_ℤ (neg_ℤ y)
twice-negated k x y e = let f : y ≡ neg_ℤ (neg_ℤ y) = omega (arith, ints) in e ∙ ap (λ n. k *ℤ n) f

-- the plane of a form with its side
pub plane-of : (f : Form) → IsSmallForm f → (o : Oriented) × IsPositiveMultiple f (given_form o)
plane-of f S = by (reduce-by f.a f.b f.c f.d (some-divides offset_limit f.a f.b f.c f.d wide S.offset_small S.normal))
  where
    wide : IsAtMost offset_limit (vector f.a f.b f.c)
    wide = let N = S.normal_small in let a = N.of_x in let b = N.of_y in let c = N.of_z in record { of_x = omega (arith, a); of_y = omega (arith, b); of_z = omega (arith, c) }

    by : Reduced f.a f.b f.c f.d → (o : Oriented) × IsPositiveMultiple f (given_form o)
    by r = then (normal-choice (vector r.x' r.y' r.z') (λ z. (let R = r.reduced in S.normal (whole-nought R.factor f.a r.x' R.x_is z.0, whole-nought R.factor f.b r.y' R.y_is z.1, whole-nought R.factor f.c r.z' R.z_is z.2))))
      where
        multiple : (b : Bool) (o : Oriented) → o.flipped ≡ b → o.plane.a ≡ negated_if b r.x' → o.plane.b ≡ negated_if b r.y' → o.plane.c ≡ negated_if b r.z' → o.plane.d ≡ negated_if b r.w' → IsPositiveMultiple f (given_form o)
        multiple true o e p q s t =
            let R = r.reduced in
            rw (e, p, q, s, t) (record { factor = R.factor; positive = R.positive; a_is = twice-negated R.factor f.a r.x' R.x_is; b_is = twice-negated R.factor f.b r.y' R.y_is; c_is = twice-negated R.factor f.c r.z' R.z_is; d_is = twice-negated R.factor f.d r.w' R.w_is })
        multiple false o e p q s t = let R = r.reduced in rw (e, p, q, s, t) (record { factor = R.factor; positive = R.positive; a_is = R.x_is; b_is = R.y_is; c_is = R.z_is; d_is = R.w_is })

        then : ((b : Bool) × IsNormal (signed b (vector r.x' r.y' r.z'))) → (o : Oriented) × IsPositiveMultiple f (given_form o)
        then (b, n) =
            let R = r.reduced in
            let N = S.normal_small in
            let o : Oriented = record {
              plane = record {
                a = negated_if b r.x';
                b = negated_if b r.y';
                c = negated_if b r.z';
                d = negated_if b r.w';
                a_small = negated-small b normal_limit r.x' (part_small normal_limit R.factor f.a r.x' R.positive R.x_is N.of_x);
                b_small = negated-small b normal_limit r.y' (part_small normal_limit R.factor f.b r.y' R.positive R.y_is N.of_y);
                c_small = negated-small b normal_limit r.z' (part_small normal_limit R.factor f.c r.z' R.positive R.z_is N.of_z);
                d_small = negated-small b offset_limit r.w' (part_small offset_limit R.factor f.d r.w' R.positive R.w_is S.offset_small);
                lowest = lowest_form-turned 0 b (form r.x' r.y' r.z' r.w') R.lowest;
                normal = n;
              };
              flipped = b;
            } in
            (o, multiple b o refl refl refl refl refl)

-- the given plane, turned
plane-turned : (t : ℕ) (o : Oriented) → (p : Oriented) × (given_form p ≡ turned_plane t (given_form o))
plane-turned t o =
    let R = half-in_range t o in
    let (p, m) = plane-of (turned_plane t (given_form o)) (record { normal = half-some t o; normal_small = record { of_x = R.a_small; of_y = R.b_small; of_z = R.c_small }; offset_small = R.d_small }) in
    (p, half-read t o p m)

-- ---- the copy of a node
turned-node : (t : ℕ) (copies : List ℕ) (n : Node) → (m : Node) × IsTurnedNode t copies n m
turned-node t copies (node.Half o c) = let (p, e) = plane-turned t o in (node.Half p c, ap (λ (f : Form). Shape.leaf (Set.half f c)) e)
turned-node t copies node.Empty = (node.Empty, refl)
turned-node t copies node.Full = (node.Full, refl)
turned-node t copies (node.And i j) = (node.And (slice_index copies i) (slice_index copies j), refl)
turned-node t copies (node.Or i j) = (node.Or (slice_index copies i) (slice_index copies j), refl)
turned-node t copies (node.Diff i j) = (node.Diff (slice_index copies i) (slice_index copies j), refl)
turned-node t copies (node.Xor i j) = (node.Xor (slice_index copies i) (slice_index copies j), refl)
turned-node t copies (node.Not i) = (node.Not (slice_index copies i), refl)
turned-node t copies (node.Int i) = (node.Int (slice_index copies i), refl)
turned-node t copies (node.Cl i) = (node.Cl (slice_index copies i), refl)
turned-node t copies (node.Bd i) = (node.Bd (slice_index copies i), refl)
turned-node t copies (node.Reg i) = (node.Reg (slice_index copies i), refl)

-- some node has the base and the turn, or none has
origin-decided : (os : List Origin) (o : Origin) → Decided ((l : ℕ) × HasOrigin os l o)
origin-decided [] o = inr (λ (l, e). cc)
origin-decided (p ∷ os) o = by (eq-decided p.base o.base) (eq-decided p.turn o.turn) (origin-decided os o)
  where
    later : (l : ℕ) → ((p ≡ o) → ⊥) → (((l : ℕ) × HasOrigin os l o) → ⊥) → HasOrigin (p ∷ os) l o → ⊥
    later zero n m e = n (cc)
    later (suc l) n m e = m (l, e)

    by : Decided (p.base ≡ o.base) → Decided (p.turn ≡ o.turn) → Decided ((l : ℕ) × HasOrigin os l o) → Decided ((l : ℕ) × HasOrigin (p ∷ os) l o)
    by b t (inl (l, e)) = inl (suc l, e)
    by (inl b) (inl t) (inr m) = inl (0, ap (λ (q : Origin). Some q) (ap (λ (x : ℕ). origin x p.turn) b ∙ ap (origin o.base) t))
    by (inr n) t (inr m) = inr (λ (l, e). later l (λ f. n (ap (λ (q : Origin). q.base) f)) m e)
    by (inl b) (inr n) (inr m) = inr (λ (l, e). later l (λ f. n (ap (λ (q : Origin). q.turn) f)) m e)

-- each node names earlier ones and is the image of its base
pub record IsGood (T : NodeTable) : Type 0 where
  pub ordered : IsOrdered T.nodes
  pub origins : AreOrigins T.nodes T.origins T.bases

-- the nodes with a turned copy of one of them
pub record Copy (T : NodeTable) (t k : ℕ) : Type 0 where
  pub now : NodeTable
  pub good : IsGood now
  pub stays : Stays T now
  pub number : ℕ
  pub turned : TurnOf now.nodes t k number
  pub copy : IsCopyOf now.origins t k number

-- the copy of a node whose operands have their copies: the node that is there, or one more
copy-one : (T : NodeTable) → IsGood T → (t k : ℕ) (copies : List ℕ) → t < 48 → k < length T.nodes → ((n : Node) → slice_get T.nodes k ≡ Some n → OperandsTurned T.nodes t copies n) → Copy T t k
copy-one T G t k copies l below turned =
    let O = G.origins in
    let count = O.count in
    let of = get_or T.origins k (origin 0 0) in
    let of_is : HasOrigin T.origins k of = slice_get-get_or T.origins k (origin 0 0) (omega (arith, count, below)) in
    let h = O.each k of of_is in
    let (i, w, e) = composition-turns t of.turn l h.turn_below in
    let C : IsComposition i t of.turn = composed-by_numbers i t of.turn e in
    by of of_is i w C (origin-decided T.origins (origin of.base i))
  where
    by : (of : Origin) → HasOrigin T.origins k of → (i : ℕ) → i < 48 → IsComposition i t of.turn → Decided ((l : ℕ) × HasOrigin T.origins l (origin of.base i)) → Copy T t k
    by of of_is i w C (inl (number, at)) = record {
      now = T;
      good = G;
      stays = stays-same T;
      number = number;
      turned = copy-there T.nodes T.origins T.bases G.origins k t i of of_is C number at;
      copy = copy-is T.nodes T.origins T.bases G.origins k t i of of_is C T.origins number of_is at;
    }
    by of of_is i w C (inr none) =
        let O = G.origins in
        let n = get_or T.nodes k node.Empty in
        let is : slice_get T.nodes k ≡ Some n = slice_get-get_or T.nodes k node.Empty below in
        let (m, made) = turned-node t copies n in
        let o = origin of.base i in
        let turn = new-image T.nodes t copies m k n is (turned n is) made in
        let image = copy-image T.nodes T.origins T.bases O k t i of of_is C m w turn in
        record {
          now = table (T.nodes ++ m ∷ []) (T.origins ++ o ∷ []) T.bases;
          good = record {
            ordered = ordered-push T.nodes m G.ordered (new-names T.nodes t copies n m (turned n is) made);
            origins = origins-push T.nodes T.origins T.bases T.bases m o O (omega arith) image (λ j at. none (j, at));
          };
          stays = record { nodes = (m ∷ [], refl); origins = (o ∷ [], refl); bases = refl };
          number = length T.nodes;
          turned = turn;
          copy = copy-is T.nodes T.origins T.bases O k t i of of_is C (T.origins ++ o ∷ []) (length T.nodes) (slice_get-left T.origins (o ∷ []) k of of_is)
              (subst (λ (j : ℕ). HasOrigin (T.origins ++ o ∷ []) j o) O.count (slice_get-seam T.origins o []));
        }

-- ---- the copies of the nodes before it
abbrev all-true : ℕ → List Bool
all-true zero = []
all-true (suc n) = true ∷ all-true n

true-count : (n : ℕ) → length (all-true n) ≡ n
true-count zero = refl
true-count (suc n) = ap suc (true-count n)

all-marked : (n i : ℕ) → i < n → IsMarked (all-true n) i
all-marked zero i l = absurd (omega (arith, l))
all-marked (suc n) zero l = refl
all-marked (suc n) (suc i) l = all-marked n i (omega (arith, l))

module _ (T : NodeTable) (G : IsGood T) (t k : ℕ) (few : t < 48) (below : k < length T.nodes) where
  needed : AreWithOperands T.nodes k (all-true (k + 1))
  needed = record {
    count = true-count (k + 1);
    itself = all-marked (k + 1) k (omega arith);
    closed = λ m n low high marked at o is. (let b = operand-below m o n (G.ordered m n at) is in all-marked (k + 1) o (omega (arith, b, high)));
  }

  record Copied (i : ℕ) : Type 0 where
    now : NodeTable
    good : IsGood now
    copies : List ℕ
    copying : IsCopying T t i (all-true (k + 1)) now copies

  one-more : (i : ℕ) → i ≤ k → (C : Copied i) → Copy C.now t i
  one-more i l C =
      let more = copying-length T t i (all-true (k + 1)) C.now C.copies C.copying in
      copy-one C.now C.good t i C.copies few (omega (arith, more, l, below))
      (copying-operands T t i (all-true (k + 1)) C.now C.copies C.copying k G.ordered needed l below (all-marked (k + 1) i (omega (arith, l))))

  copied-to : (i : ℕ) → i ≤ k → Copied i
  copied-to zero l = record { now = T; good = G; copies = []; copying = copying-start T t (all-true (k + 1)) [] refl }
  copied-to (suc i) l = next (copied-to i (omega (arith, l)))
    where
      next : Copied i → Copied (suc i)
      next C =
          let c = one-more i (omega (arith, l)) C in
          let e : i + 1 ≡ suc i = omega arith in
          record {
            now = c.now;
            good = c.good;
            copies = C.copies ++ c.number ∷ [];
            copying = subst (λ (j : ℕ). IsCopying T t j (all-true (k + 1)) c.now (C.copies ++ c.number ∷ [])) e (copying-more T t i (all-true (k + 1)) C.now C.copies C.copying c.now c.number c.stays (λ marked. c.turned));
          }

  pub copy-of : Copy T t k
  copy-of = last (copied-to k (omega arith))
    where
      last : Copied k → Copy T t k
      last C =
          let c = one-more k (omega arith) C in
          let S = C.copying in
          record { now = c.now; good = c.good; stays = stays-twice T C.now c.now S.stays c.stays; number = c.number; turned = c.turned; copy = c.copy }
