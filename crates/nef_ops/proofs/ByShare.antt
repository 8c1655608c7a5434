-- The map of a combination where one set alone says which it is.
use Rattle.nef_ops.proofs.Prelude.{◌≡◌, ◌+◌, pos, arith, ap, ◌∙◌, subst, Bool, true, false, Result, Ok, Err, IfOk, ints, SpacePoint, Ratio, step, Set, Vector, HasLabel, Germ, Label, Out, Not, In, label_of, germ_of, label-one, Germ-unique, not-label, germ-not, Map, Cone, label-unique, SphereMap, map_of, IsLeastMap, Operand, First, Second, Op, op_label, op_set, Share, Part, One, either_of, complement_label_if, complement_if, IsCombinedMap, AgreeOnOut, InShare, HasShare, IsRightChoice}
use Rattle.nef_stopo.proofs.Cones.{label-by_op, germ-by_op}

-- ---- labels at one point
pub alike-labels : (s t : Set) (p : SpacePoint) (k l : Label) → HasLabel s p k → HasLabel t p l → AgreeOnOut k l
alike-labels s t p Out Out h i = tt
alike-labels s t p Out Not h i = h i.0
alike-labels s t p Out In h i = h i.0
alike-labels s t p Not Out h i = i h.0
alike-labels s t p Not Not h i = tt
alike-labels s t p Not In h i = tt
alike-labels s t p In Out h i = i h.0
alike-labels s t p In Not h i = tt
alike-labels s t p In In h i = tt

pub alike-germs : (s t : Set) (p : SpacePoint) (d : Vector) (k l : Label) → Germ s p d k → Germ t p d l → AgreeOnOut k l
alike-germs s t p d k l (n, some, f) (n', some', g) =
    let r : Ratio = record { a = pos 1; b = n + n' + 1; proper = omega arith } in
    alike-labels s t (step p r d) k l (f r (omega (arith, ints), omega (arith, ints))) (g r (omega (arith, ints), omega (arith, ints)))

-- ---- shares
-- of any set some part may be close to any point
pub share-part : (s : Set) (p : SpacePoint) → HasShare Part s p
share-part s p = record { mark = λ l h. tt; germs = λ d l h g. tt }

-- ---- maps
-- of sets with these shares at p, M a map of a set there whose label is the operation's at each point and direction
module _ (op : Op) (f g : Share) (M : Map) (r s t : Set) (p : SpacePoint) (F : HasShare f s p) (G : HasShare g t p) (C : Cone M r p) where
  pub shown-by : (of : Label → Label → Label)
      → ((k l : Label) → AgreeOnOut k l → InShare f k → InShare g l → op_label op k l ≡ of k l)
      → ((q : SpacePoint) (k l m : Label) → HasLabel s q k → HasLabel t q l → HasLabel r q m → of k l ≡ m)
      → ((d : Vector) (k l m : Label) → Germ s p d k → Germ t p d l → Germ r p d m → of k l ≡ m)
      → Cone M (op_set op s t) p
  shown-by of table mark germ = record {
    valid = C.valid;
    mark =
        let a = label_of s p in
        let b = label_of t p in
        subst (HasLabel (op_set op s t) p)
        (table a.0 b.0 (alike-labels s t p a.0 b.0 a.1 b.1) (F.mark a.0 a.1) (G.mark b.0 b.1) ∙ mark p a.0 b.0 M.mark a.1 b.1 C.mark)
        (label-by_op op s t p a.0 b.0 a.1 b.1);
    labels = λ d i.
        let a = germ_of s p d in
        let b = germ_of t p d in
        let c = C.labels d i in (
          c.0,
          c.1,
          subst (Germ (op_set op s t) p d)
              (table a.0 b.0 (alike-germs s t p d a.0 b.0 a.1 b.1) (F.germs d a.0 i a.1) (G.germs d b.0 i b.1) ∙ germ d a.0 b.0 c.0 a.1 b.1 c.2)
              (germ-by_op op s t p d a.0 b.0 a.1 b.1),
        );
  }

-- what both sets have with a label each, the set of one operand has with its label
either-has : (P : Set → Label → Type 0) (o : Operand) (s t : Set) (k l : Label) → P s k → P t l → P (either_of o s t) (either_of o k l)
either-has P First s t k l h i = h
either-has P Second s t k l h i = i

label-turned : (turned : Bool) (s : Set) (q : SpacePoint) (k : Label) → HasLabel s q k → HasLabel (complement_if turned s) q (complement_label_if turned k)
label-turned false s q k h = h
label-turned true s q k h = not-label s q k h

germ-turned : (turned : Bool) (s : Set) (q : SpacePoint) (d : Vector) (k : Label) → Germ s q d k → Germ (complement_if turned s) q d (complement_label_if turned k)
germ-turned false s q d k g = g
germ-turned true s q d k g = germ-not s q d k g

-- where one set or its complement is chosen
module _ (op : Op) (f g : Share) (M : Map) (s t : Set) (p : SpacePoint) (F : HasShare f s p) (G : HasShare g t p) where
  pub shown-one : (o : Operand) (turned : Bool) → Cone M (complement_if turned (either_of o s t)) p → IsRightChoice (One o turned) op f g → Cone M (op_set op s t) p
  shown-one o turned C w =
      let u = either_of o s t in
      let r = complement_if turned u in
      shown-by op f g M r s t p F G C (λ k l. complement_label_if turned (either_of o k l)) w
      (λ q k l m h i j. let n = either_of o k l in label-one r q (complement_label_if turned n) m (label-turned turned u q n (either-has (λ v. HasLabel v q) o s t k l h i)) j)
      (λ d k l m h i j. let n = either_of o k l in Germ-unique r p d (complement_label_if turned n) m (germ-turned turned u p d n (either-has (λ v. Germ v p d) o s t k l h i)) j)

-- one map for both sets
pub shown-same : (op : Op) (A : Map) (s t : Set) (p : SpacePoint) → ((l : Label) → op_label op l l ≡ l) → Cone A s p → Cone A t p → Cone A (op_set op s t) p
shown-same op A s t p keeps K L = record {
  valid = K.valid;
  mark = subst (HasLabel (op_set op s t) p) (keeps A.mark) (label-by_op op s t p A.mark A.mark K.mark L.mark);
  labels = λ d h.
      let a = K.labels d h in
      let b = L.labels d h in
      let e : op_label op a.0 b.0 ≡ a.0 = ap (op_label op a.0) (label-unique A K.valid d b.0 a.0 b.1 a.1) ∙ keeps a.0 in
      (a.0, a.1, subst (Germ (op_set op s t) p d) e (germ-by_op op s t p d a.0 b.0 a.2 b.2));
}

-- where there is a map, by what combining says of it
pub combined-if_ok : {E : Type 0} (op : Op) (first second : SphereMap) (o : Result SphereMap E) → IfOk o IsLeastMap
    → IfOk o (λ m. (s t : Set) (p : SpacePoint) → Cone (map_of first) s p → Cone (map_of second) t p → Cone (map_of m) (op_set op s t) p) → IfOk o (IsCombinedMap op first second)
combined-if_ok op first second (Ok m) N C = record { least = N; cone = C }
combined-if_ok op first second (Err e) N C = tt
