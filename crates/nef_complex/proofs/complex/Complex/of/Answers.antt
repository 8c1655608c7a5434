use Rattle.nef_complex.proofs.Prelude.{◌≡◌, List, refl, ap, sym, subst, ◌∙◌, Plane, Edge, Vertex, AreVertexHolders, AreItemFlags, HaveEnds, IndexedLists, indexed_lists, points_of}
use Rattle.nef_complex.proofs.IndexSteps.{item-carrier}
use Rattle.nef_complex.proofs.complex.Complex.of.Goals as goal

-- what holds of the lists as they were read holds of the lists
of-two : {A B : Type 0} (P : A → B → Type 0) (a c : A) (b d : B) → a ≡ c → b ≡ d → P a b → P c d
of-two P a c b d e f p = subst (P c) f (subst (λ x. P x b) e p)

of-three : (x : IndexedLists) (hs gs : List Plane) (vs us : List Vertex) (es ds : List Edge) → hs ≡ gs → vs ≡ us → es ≡ ds → x ≡ indexed_lists hs vs es → x ≡ indexed_lists gs us ds
of-three x hs gs vs us es ds a b d e = of-two (λ ks ws. x ≡ indexed_lists ks ws ds) hs gs vs us a b (subst (λ fs. x ≡ indexed_lists hs vs fs) d e)

pub index_of-requires : goal.index_of-requires
index_of-requires c =
    let hs = c.as_slice.result.now in let vs = c.as_slice-2.result.now in let es = c.as_slice-3.result.now in (
      refl,
      (
        of-two (λ g u. AreVertexHolders g u c.args.at_vertex) c.args.carriers hs c.args.vertices vs (sym c.as_slice.ensures.all) (sym c.as_slice-2.ensures.all) c.requires.rows,
        of-two HaveEnds c.args.vertices vs c.args.edges es (sym c.as_slice-2.ensures.all) (sym c.as_slice-3.ensures.all) c.requires.ends,
      ),
    )

pub item_flags-requires : goal.item_flags-requires
item_flags-requires c = record {
  carriers = ap (λ (x : IndexedLists). x.carriers) c.in_ok-index.ensures.index ∙ c.as_slice.ensures.all ∙ sym c.as_slice-4.ensures.all;
  points = ap (λ (x : IndexedLists). x.points) c.in_ok-index.ensures.index ∙ ap points_of (c.as_slice-2.ensures.all ∙ sym c.as_slice-5.ensures.all);
}

pub returns-clause-flagged : goal.returns-clause-flagged
returns-clause-flagged c = record {
  ordered = c.requires.ordered;
  planes = item-carrier c.args.carriers c.args.vertices c.requires.held;
  flags = of-two (λ g u. AreItemFlags g u c.in_ok-has_item.has_item) c.as_slice-4.result.now c.args.carriers c.as_slice-5.result.now c.args.vertices c.as_slice-4.ensures.all c.as_slice-5.ensures.all c.in_ok-has_item.ensures.flags;
}

pub returns-clause-indexed : goal.returns-clause-indexed
returns-clause-indexed c = record {
  is = of-three c.in_ok-index.index c.as_slice.result.now c.args.carriers c.as_slice-2.result.now c.args.vertices c.as_slice-3.result.now c.args.edges c.as_slice.ensures.all c.as_slice-2.ensures.all c.as_slice-3.ensures.all c.in_ok-index.ensures.index;
}
