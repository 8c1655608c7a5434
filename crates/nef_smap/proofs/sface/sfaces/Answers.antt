use Rattle.nef_smap.proofs.Prelude.{◌≡◌, ℕ, ◌+◌, List, length, take, arith, sym, subst, IfOk-weaker, up, Link, map_of, sides_of, LinksAreBelow, AreClasses, AreNumbered, AreRoots}
use Rattle.nef_geo.proofs.InPlane.{up-direction}
use Rattle.nef_classes.proofs.Trees.{roots-take}
use Rattle.nef_smap.proofs.Upward.{map-ahead, map-across}
use Rattle.nef_smap.proofs.SfaceNumbers.{links-within, sface-numbers}
use Rattle.nef_smap.proofs.sface.sfaces.Goals as goal

pub overflow_add-count : goal.overflow_add-count
overflow_add-count c = omega (arith, c.sides-count.ensures.small)

pub class_of_each-requires : goal.class_of_each-requires
class_of_each-requires c =
    let m = c.args.map.now in
    let S = c.requires.map in
    let V = S.valid in
    let w : LinksAreBelow (length (sides_of (map_of m)) + 1) c.in_ok-joins.joins.items = links-within (map_of m) V.shaped up (map-ahead m S) (map-across m S) up-direction c.in_ok-joins.joins.items (c.in_ok-joins.ensures.joins) in
    record {
      within = subst (λ (ls : List Link). LinksAreBelow (c.sides-count.result + 1) ls) (sym c.as_slice.ensures.value)
          (subst (λ (n : ℕ). LinksAreBelow (n + 1) c.in_ok-joins.joins.items) (sym c.sides-count.ensures.count) w);
    }

pub class_numbers-requires : goal.class_numbers-requires
class_numbers-requires c = record {
  roots = roots-take c.sides-count.result c.deref.result.now (subst AreRoots (sym c.deref.ensures.value) c.in_ok-classes.ensures.roots);
}

pub returns : goal.returns
returns c =
    let m = c.args.map.now in
    let M = map_of m in
    let S = c.requires.map in
    let V = S.valid in
    let links = c.in_ok-joins.joins.items in
    let classes = c.in_ok-classes.classes.items in
    let C : AreClasses (length (sides_of M) + 1) links classes = subst (λ (n : ℕ). AreClasses (n + 1) links classes) c.sides-count.ensures.count
    (subst (λ (ls : List Link). AreClasses (c.sides-count.result + 1) ls classes) c.as_slice.ensures.value c.in_ok-classes.ensures.classes) in
    let e : take c.sides-count.result c.deref.result.now ≡ take (length (sides_of M)) classes = ap2 c.sides-count.ensures.count c.deref.ensures.value in
    record {
      faces = IfOk-weaker c.class_numbers.result (λ v. AreNumbered (take c.sides-count.result c.deref.result.now) v.items) _
          (λ v N. sface-numbers M V.shaped up (map-ahead m S) (map-across m S) up-direction links c.in_ok-joins.ensures.joins classes C v.items (subst (λ (cs : List ℕ). AreNumbered cs v.items) e N))
          c.class_numbers.ensures.numbers;
    }
  where
    ap2 : {n k : ℕ} {xs ys : List ℕ} → n ≡ k → xs ≡ ys → take n xs ≡ take k ys
    ap2 p q = cc
