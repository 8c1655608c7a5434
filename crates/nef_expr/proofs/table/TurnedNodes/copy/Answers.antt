-- The copy of a node whose operands' copies are there.
use Rattle.nef_expr.proofs.Prelude.{◌≡◌, ℕ, ◌<◌, ◌++◌, [], ◌∷◌, length, Some, refl, ap, sym, subst, ◌∙◌, arith, slice_get, slice_index_or, slice_get_read, Node, Origin, NamesBelow, TurnOf, NodeTable, IsTable, IsOfOrigin, HasOrigin, IsCopyOf, origin}
use Rattle.nef_expr.proofs.Places.{slice_get-left, slice_get-seam}
use Rattle.nef_expr.proofs.Tables.{new-names, new-image, copy-there, copy-is, copy-image}
use Rattle.nef_expr.proofs.table.TurnedNodes.copy.Goals as goal
use Rattle.nef_space.proofs.Elementary.{if-ok_both}

-- the origin, and the node, that are read
origin-at : (T : NodeTable) (k : ℕ) (o : Origin) (os : _) → os ≡ T.origins → length T.origins ≡ length T.nodes → k < length T.nodes → o ≡ slice_index_or os k o → HasOrigin T.origins k o
origin-at T k o os same count l read = slice_get_read T.origins (length T.origins) k o refl (omega (arith, count, l)) (subst (λ xs. o ≡ slice_index_or xs k o) same read)

node-at : (T : NodeTable) (k : ℕ) (n : Node) (ns : _) → ns ≡ T.nodes → k < length T.nodes → n ≡ slice_index_or ns k n → slice_get T.nodes k ≡ Some n
node-at T k n ns same l read = slice_get_read T.nodes (length T.nodes) k n refl l (subst (λ xs. n ≡ slice_index_or xs k n) same read)

pub turn_compose-requires-clause-earlier : goal.turn_compose-requires-clause-earlier
turn_compose-requires-clause-earlier c =
    let s = c.self.inside in let now = c.args.self.now in
    let T = subst (λ (t : NodeTable). IsTable t.nodes t.origins t.bases s.places) c.self.view_is c.self.invariant in
    let O = T.are_origins in
    let is = origin-at now c.args.k c.index-of.result.now s.origins.items (ap (λ (t : NodeTable). t.origins) c.self.view_is) O.count c.requires.existing c.index-of.ensures in
    let h = O.each c.args.k c.index-of.result.now is in
    h.turn_below

pub find-requires-clause-base : goal.find-requires-clause-base
find-requires-clause-base c =
    let s = c.self.inside in let now = c.args.self.now in
    let T = subst (λ (t : NodeTable). IsTable t.nodes t.origins t.bases s.places) c.self.view_is c.self.invariant in
    let O = T.are_origins in
    let is = origin-at now c.args.k c.index-of.result.now s.origins.items (ap (λ (t : NodeTable). t.origins) c.self.view_is) O.count c.requires.existing c.index-of.ensures in
    let h = O.each c.args.k c.index-of.result.now is in
    h.base_below

pub turned_node-node-requires-clause-operands : goal.turned_node-node-requires-clause-operands
turned_node-node-requires-clause-operands c =
    let s = c.self.inside in let now = c.args.self.now in
    let T = subst (λ (t : NodeTable). IsTable t.nodes t.origins t.bases s.places) c.self.view_is c.self.invariant in
    let n = c.index.result.now in
    let is = node-at now c.args.k n s.nodes.items (ap (λ (t : NodeTable). t.nodes) c.self.view_is) c.requires.existing c.index.ensures in
    subst (λ (l : ℕ). NamesBelow l n) (sym c.requires.all) (T.ordered c.args.k n is)

pub add-requires-clause-operands : goal.add-requires-clause-operands
add-requires-clause-operands c =
    let s = c.self.inside in let now = c.args.self.now in
    let n = c.index.result.now in
    let is = node-at now c.args.k n s.nodes.items (ap (λ (t : NodeTable). t.nodes) c.self.view_is) c.requires.existing c.index.ensures in
    new-names now.nodes c.args.t c.args.copies.now n c.turned_node-node.result (c.requires.operands n is) c.turned_node-node.ensures.turned

pub add-requires-clause-image : goal.add-requires-clause-image
add-requires-clause-image c =
    let s = c.self.inside in let now = c.args.self.now in let k = c.args.k in let t = c.args.t in
    let T = subst (λ (t : NodeTable). IsTable t.nodes t.origins t.bases s.places) c.self.view_is c.self.invariant in
    let O = T.are_origins in
    let of = c.index-of.result.now in
    let of_is = origin-at now k of s.origins.items (ap (λ (t : NodeTable). t.origins) c.self.view_is) O.count c.requires.existing c.index-of.ensures in
    let n = c.index.result.now in
    let is = node-at now k n s.nodes.items (ap (λ (t : NodeTable). t.nodes) c.self.view_is) c.requires.existing c.index.ensures in
    let m = c.turned_node-node.result in
    let i = c.turn_compose.result in
    let turn = new-image now.nodes t c.args.copies.now m k n is (c.requires.operands n is) c.turned_node-node.ensures.turned in
    let made = copy-image now.nodes now.origins now.bases O k t i of of_is c.turn_compose.ensures.composed m c.turn_compose.ensures.below turn in
    subst (λ (b : ℕ). IsOfOrigin (now.nodes ++ m ∷ []) (now.origins ++ origin of.base i ∷ []) b (length now.nodes) (origin of.base i)) (sym (ap (λ (t : NodeTable). t.bases) c.add.view_is)) made

pub returns-in-Some-clause-turned : goal.returns-in-Some-clause-turned
returns-in-Some-clause-turned c =
    let s = c.self.inside in let now = c.args.self.now in let k = c.args.k in
    let T = subst (λ (t : NodeTable). IsTable t.nodes t.origins t.bases s.places) c.self.view_is c.self.invariant in
    let O = T.are_origins in
    let of = c.index-of.result.now in
    let of_is = origin-at now k of s.origins.items (ap (λ (t : NodeTable). t.origins) c.self.view_is) O.count c.requires.existing c.index-of.ensures in
    copy-there now.nodes now.origins now.bases O k c.args.t c.turn_compose.result of of_is c.turn_compose.ensures.composed c.in-Some.copy c.in-Some.ensures.found

pub returns-in-Some-clause-copy : goal.returns-in-Some-clause-copy
returns-in-Some-clause-copy c =
    let s = c.self.inside in let now = c.args.self.now in let k = c.args.k in
    let T = subst (λ (t : NodeTable). IsTable t.nodes t.origins t.bases s.places) c.self.view_is c.self.invariant in
    let O = T.are_origins in
    let of = c.index-of.result.now in
    let of_is = origin-at now k of s.origins.items (ap (λ (t : NodeTable). t.origins) c.self.view_is) O.count c.requires.existing c.index-of.ensures in
    copy-is now.nodes now.origins now.bases O k c.args.t c.turn_compose.result of of_is c.turn_compose.ensures.composed now.origins c.in-Some.copy of_is c.in-Some.ensures.found

pub returns-in-None-clause-turned : goal.returns-in-None-clause-turned
returns-in-None-clause-turned c =
    let s = c.self.inside in let now = c.args.self.now in let k = c.args.k in let t = c.args.t in
    let n = c.index.result.now in
    let is = node-at now k n s.nodes.items (ap (λ (t : NodeTable). t.nodes) c.self.view_is) c.requires.existing c.index.ensures in
    let m = c.turned_node-node.result in
    let new = c.add-in-None.new.self in
    let turn = new-image now.nodes t c.args.copies.now m k n is (c.requires.operands n is) c.turned_node-node.ensures.turned in
    if-ok_both (λ (l : ℕ). l ≡ length now.nodes) (λ (l : ℕ). new.nodes ≡ now.nodes ++ m ∷ []) (λ (l : ℕ). TurnOf new.nodes t k l) c.add-in-None.result
    (λ l at added. subst (λ xs. TurnOf xs t k l) (sym added) (subst (λ (j : ℕ). TurnOf (now.nodes ++ m ∷ []) t k j) (sym at) turn))
    c.add-in-None.ensures.number c.add-in-None.ensures.added

pub returns-in-None-clause-copy : goal.returns-in-None-clause-copy
returns-in-None-clause-copy c =
    let s = c.self.inside in let now = c.args.self.now in let k = c.args.k in
    let T = subst (λ (t : NodeTable). IsTable t.nodes t.origins t.bases s.places) c.self.view_is c.self.invariant in
    let O = T.are_origins in
    let of = c.index-of.result.now in
    let of_is = origin-at now k of s.origins.items (ap (λ (t : NodeTable). t.origins) c.self.view_is) O.count c.requires.existing c.index-of.ensures in
    let i = c.turn_compose.result in
    let o = origin of.base i in
    let new = c.add-in-None.new.self in
    if-ok_both (λ (l : ℕ). l ≡ length now.nodes) (λ (l : ℕ). new.origins ≡ now.origins ++ o ∷ []) (λ (l : ℕ). IsCopyOf new.origins c.args.t k l) c.add-in-None.result
    (λ l at added. subst (λ xs. IsCopyOf xs c.args.t k l) (sym added)
    (copy-is now.nodes now.origins now.bases O k c.args.t i of of_is c.turn_compose.ensures.composed (now.origins ++ o ∷ []) l (slice_get-left now.origins (o ∷ []) k of of_is)
    (subst (λ (j : ℕ). HasOrigin (now.origins ++ o ∷ []) j o) (O.count ∙ sym at) (slice_get-seam now.origins o []))))
    c.add-in-None.ensures.number c.add-in-None.ensures.with_origin
