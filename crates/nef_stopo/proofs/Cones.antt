-- The operation on the labels of two maps of sets gives the germs of the combination.
use Rattle.nef_stopo.proofs.Prelude.{◌≡◌, refl, sym, ◌↔◌, subst, SpacePoint, Set, Vector, IsDirection, Label, Out, Not, In, HasLabel, Germ, label_and, label_or, label_less, label_one_of, ByOp, Cone, Map, MapLabel, Valid, Op, op_label}
use Rattle.law_geometry.proofs.near.Combine.{and-label, or-label, less-label, one_of-label, germ-combines}
use Rattle.nef_star.specs.declared.star.Op.TheVariants.{And, Or, Diff, Xor}
use Rattle.nef_stopo.specs.Sets.{op_set}

-- ---- two ways to write the tables
and-same : (k l : Label) → label_and k l ≡ op_label And k l
and-same Out Out = refl
and-same Out Not = refl
and-same Out In = refl
and-same Not Out = refl
and-same Not Not = refl
and-same Not In = refl
and-same In Out = refl
and-same In Not = refl
and-same In In = refl

or-same : (k l : Label) → label_or k l ≡ op_label Or k l
or-same Out Out = refl
or-same Out Not = refl
or-same Out In = refl
or-same Not Out = refl
or-same Not Not = refl
or-same Not In = refl
or-same In Out = refl
or-same In Not = refl
or-same In In = refl

less-same : (k l : Label) → label_less k l ≡ op_label Diff k l
less-same Out Out = refl
less-same Out Not = refl
less-same Out In = refl
less-same Not Out = refl
less-same Not Not = refl
less-same Not In = refl
less-same In Out = refl
less-same In Not = refl
less-same In In = refl

one_of-same : (k l : Label) → label_one_of k l ≡ op_label Xor k l
one_of-same Out Out = refl
one_of-same Out Not = refl
one_of-same Out In = refl
one_of-same Not Out = refl
one_of-same Not Not = refl
one_of-same Not In = refl
one_of-same In Out = refl
one_of-same In Not = refl
one_of-same In In = refl

-- ---- labels and germs
pub label-by_op : (op : Op) (s t : Set) (p : SpacePoint) (k l : Label) → HasLabel s p k → HasLabel t p l → HasLabel (op_set op s t) p (op_label op k l)
label-by_op And s t p k l h i = subst (HasLabel (Set.both s t) p) (and-same k l) (and-label s t p k l h i)
label-by_op Or s t p k l h i = subst (HasLabel (Set.either s t) p) (or-same k l) (or-label s t p k l h i)
label-by_op Diff s t p k l h i = subst (HasLabel (Set.less s t) p) (less-same k l) (less-label s t p k l h i)
label-by_op Xor s t p k l h i = subst (HasLabel (Set.one_of s t) p) (one_of-same k l) (one_of-label s t p k l h i)

pub germ-by_op : (op : Op) (s t : Set) (p : SpacePoint) (d : Vector) (k l : Label) → Germ s p d k → Germ t p d l → Germ (op_set op s t) p d (op_label op k l)
germ-by_op And s t p d k l g h = subst (Germ (Set.both s t) p d) (and-same k l) (let c = germ-combines s t p d k l g h in c.both)
germ-by_op Or s t p d k l g h = subst (Germ (Set.either s t) p d) (or-same k l) (let c = germ-combines s t p d k l g h in c.either)
germ-by_op Diff s t p d k l g h = subst (Germ (Set.less s t) p d) (less-same k l) (let c = germ-combines s t p d k l g h in c.less)
germ-by_op Xor s t p d k l g h = subst (Germ (Set.one_of s t) p d) (one_of-same k l) (let c = germ-combines s t p d k l g h in c.one_of)

-- ---- maps
pub cone-by_op : (op : Op) (A B M : Map) (s t : Set) (p : SpacePoint) → Valid M → M.mark ≡ op_label op A.mark B.mark → ((d : Vector) (l : Label) → IsDirection d → MapLabel M d l ↔ ByOp A B (op_label op) d l)
    → Cone A s p → Cone B t p → Cone M (op_set op s t) p
cone-by_op op A B M s t p V mark labels K L = record {
  valid = V;
  mark = subst (HasLabel (op_set op s t) p) (sym mark) (label-by_op op s t p A.mark B.mark K.mark L.mark);
  labels = λ d f.
      let a = K.labels d f in
      let b = L.labels d f in
      let m = op_label op a.0 b.0 in
      (m, (labels d m f).1 (a.0, b.0, a.1, b.1, refl), germ-by_op op s t p d a.0 b.0 a.2 b.2);
}
