use Rattle.nef_facets.proofs.Prelude.{◌≡◌, ℕ, ◌+◌, ◌<◌, ◌≤◌, List, [], ◌∷◌, ◌++◌, length, get_or, map, take, ap, sym, ◌∙◌, subst, take_all, IfOk, vertex_of, complex_of, count_items, AreTiedWithin, HasCounts}
use Rattle.std.proofs.lemmas.List.{map-append, take_more}
use Rattle.nef_complex.specs.declared.complex.Vertex.{Vertex}
use Rattle.nef_facets.proofs.Numbering.{numbers-ok}
use Rattle.nef_facets.proofs.parts.facet_numbers.Goals as goal

-- one more vertex is counted
counted-next : (ms ns : List ℕ) (vs : List Vertex) (i n : ℕ) (v : Vertex) → i < length vs → v ≡ get_or vs i v → n ≡ count_items (vertex_of v) → ms ≡ map count_items (map vertex_of (take i vs)) → ns ≡ ms ++ n ∷ []
    → ns ≡ map count_items (map vertex_of (take (i + 1) vs))
counted-next ms ns vs i n v l is own e f =
    let one : take (i + 1) vs ≡ take i vs ++ v ∷ [] = take_more vs i v l ∙ ap (λ (w : Vertex). take i vs ++ w ∷ []) (sym is) in
    f ∙ ap (λ (ks : List ℕ). ks ++ n ∷ []) e ∙ ap (λ (k : ℕ). map count_items (map vertex_of (take i vs)) ++ k ∷ []) own
    ∙ sym (ap (λ (ws : List Vertex). map count_items (map vertex_of ws)) one ∙ ap (map count_items) (map-append vertex_of (take i vs) (v ∷ [])) ∙ map-append count_items (map vertex_of (take i vs)) (vertex_of v ∷ []))

pub loop-vertex-preserved : goal.loop-vertex-preserved
loop-vertex-preserved c =
    let i = c.loop-vertex.vertex-index in let ms : List ℕ = c.loop-vertex.counts.items in let ns : List ℕ = c.push.new.self.items in
    let same = c.as_slice-vertex-items.ensures.all in
    subst (λ (ws : List Vertex). ns ≡ map count_items (map vertex_of (take (i + 1) ws))) same
    (counted-next ms ns c.as_slice-vertex-items.result.now i c.item_count.result c.vertex-item.result c.loop-vertex-test.true c.vertex-item.is c.item_count.ensures.count
    (subst (λ (ws : List Vertex). ms ≡ map count_items (map vertex_of (take i ws))) (sym same) c.loop-vertex.invariant) c.in_ok-push.ensures.items)

-- all vertices are counted
counted : (ns : List ℕ) (vs xs : List Vertex) (i : ℕ) → xs ≡ vs → length xs ≤ i → ns ≡ map count_items (map vertex_of (take i vs)) → ns ≡ map count_items (map vertex_of vs)
counted ns vs xs i same l e = e ∙ ap (λ (ws : List Vertex). map count_items (map vertex_of ws)) (take_all i vs (subst (λ (ws : List Vertex). length ws ≤ i) same l))

pub number_rows-requires : goal.number_rows-requires
number_rows-requires c =
    let C = complex_of c.args.c.now in
    let all = counted c.loop-vertex.counts.items c.args.c.now.vertices c.as_slice-vertex-items.result.now c.loop-vertex.vertex-index c.as_slice-vertex-items.ensures.all c.loop-vertex-test.false c.loop-vertex.invariant in
    let counts : c.deref.result.now ≡ map count_items C.vertices = c.deref.ensures.value ∙ all in
    record { within = subst (λ (ns : List ℕ). AreTiedWithin ns c.args.ties.now) (sym counts) c.requires.within }

pub returns : goal.returns
returns c =
    let C = complex_of c.args.c.now in
    let all = counted c.loop-vertex.counts.items c.args.c.now.vertices c.as_slice-vertex-items.result.now c.loop-vertex.vertex-index c.as_slice-vertex-items.ensures.all c.loop-vertex-test.false c.loop-vertex.invariant in
    let counts : c.deref.result.now ≡ map count_items C.vertices = c.deref.ensures.value ∙ all in
    let r = c.number_rows.result in
    record { numbers = numbers-ok C c.args.ties.now c.requires.links r (subst (λ (ns : List ℕ). IfOk r (HasCounts ns)) counts c.number_rows.ensures.counts) c.number_rows.ensures.numbers }
