use Rattle.nef_complex.proofs.Prelude.{◌≡◌, ◌<◌, ℕ, List, [], ◌∷◌, ◌++◌, length, arith, refl, sym, ◌∙◌, subst, vec_len, eqb-true, slice_get_read, eqb, IsAt, point_of, Plane, is-at_one, Vertex, AreNumbersOf, AreHolders, AreRead, AreAdded, IsRowAdded}
use Rattle.std.proofs.lemmas.List.Filters.{dedup_is}
use Rattle.std.proofs.lemmas.Result.{on_ok_weaker}
use Rattle.nef_complex.proofs.TakenRows.{holders-places, row-once, row-read}
use Rattle.nef_complex.proofs.taken_rows.push_vertex_row.Goals as goal

-- the vertex that was looked up is that with the number
read-here : (vs us : List Vertex) (k : ℕ) (v : Vertex) → us ≡ vs → IsAt us k v → IsAt vs k v
read-here vs us k v e a = subst (λ (xs : List Vertex). IsAt xs k v) e a

-- a row that is added at the vertex is added at each with its number
added-at : (vs : List Vertex) (k : ℕ) (v : Vertex) (hs : List Plane) (rows more : List (List ℕ)) → IsAt vs k v → IsRowAdded hs (point_of v.point) rows more → (u : Vertex) → IsAt vs k u → IsRowAdded hs (point_of u.point) rows more
added-at vs k v hs rows more a R u b = subst (λ (r : Vertex). IsRowAdded hs (point_of r.point) rows more) (is-at_one vs k v u a b) R

pub push_read-requires : goal.push_read-requires
push_read-requires c =
    let t = c.args.source.now in
    let us : List Vertex = c.as_slice-vertices.result.now in
    let k : ℕ = c.args.number in
    let v : Vertex = c.index-vertices-number.result in
    let listed : List ℕ = c.vertex_holders-listed.result.now in
    let within : k < length us = subst (λ (xs : List Vertex). k < length xs) (sym c.as_slice-vertices.ensures.all) c.requires.within in
    let here = read-here t.complex.now.vertices us k v c.as_slice-vertices.ensures.all (slice_get_read us (length us) k v refl within c.index-vertices-number.is) in
    let H = c.vertex_holders-listed.ensures.holders v here in
    record {
      within = subst (λ (xs : List ℕ). AreNumbersOf xs listed) (sym c.as_slice-numbers.ensures.value)
          (holders-places t.complex.now.carriers (point_of v.point) t.numbers.items listed c.requires.source.1.enough H);
    }

pub add_numbers-requires : goal.add_numbers-requires
add_numbers-requires c =
    let t = c.args.source.now in
    let us : List Vertex = c.as_slice-vertices.result.now in
    let k : ℕ = c.args.number in
    let v : Vertex = c.index-vertices-number.result in
    let listed : List ℕ = c.vertex_holders-listed.result.now in
    let within : k < length us = subst (λ (xs : List Vertex). k < length xs) (sym c.as_slice-vertices.ensures.all) c.requires.within in
    let here = read-here t.complex.now.vertices us k v c.as_slice-vertices.ensures.all (slice_get_read us (length us) k v refl within c.index-vertices-number.is) in
    let H = c.vertex_holders-listed.ensures.holders v here in
    record {
      within = subst (λ (xs : List ℕ). AreNumbersOf xs listed) (sym c.as_slice-numbers.ensures.value)
          (holders-places t.complex.now.carriers (point_of v.point) t.numbers.items listed c.requires.source.1.enough H);
    }

pub add_numbers-requires-2 : goal.add_numbers-requires-2
add_numbers-requires-2 c =
    let t = c.args.source.now in
    let found : List ℕ = c.holders.new.numbers.items in
    record {
      within = subst (λ (xs : List ℕ). AreNumbersOf xs c.as_slice-2.result.now) (sym c.as_slice.ensures.value)
          (subst (λ (xs : List ℕ). AreNumbersOf t.other_numbers.items xs) (sym c.as_slice-2.ensures.value)
          (holders-places t.others (point_of c.index-vertices-number.result.point) t.other_numbers.items found c.requires.source.1.others_enough c.in_ok-holders.ensures.holders));
    }

-- the row that was read is that of the vertex
read : (c : goal.After-push_read)
    → (row : List ℕ) × AreRead c.as_slice-numbers.result.now c.vertex_holders-listed.result.now (length c.vertex_holders-listed.result.now) row × (c.push_read.new.self ≡ c.args.rows.now ++ row ∷ [])
    → (u : Vertex) → IsAt c.args.source.now.complex.now.vertices c.args.number u → IsRowAdded c.args.carriers.now (point_of u.point) c.args.rows.now c.push_read.new.self
read c added =
    let t = c.args.source.now in
    let us : List Vertex = c.as_slice-vertices.result.now in
    let k : ℕ = c.args.number in
    let v : Vertex = c.index-vertices-number.result in
    let listed : List ℕ = c.vertex_holders-listed.result.now in
    let within : k < length us = subst (λ (xs : List Vertex). k < length xs) (sym c.as_slice-vertices.ensures.all) c.requires.within in
    let here = read-here t.complex.now.vertices us k v c.as_slice-vertices.ensures.all (slice_get_read us (length us) k v refl within c.index-vertices-number.is) in
    let H = c.vertex_holders-listed.ensures.holders v here in
    let hs : List Plane = c.args.carriers.now in
    let p = point_of v.point in
    let found : List ℕ = c.holders.new.numbers.items in
    let row : List ℕ = added.0 in
    let R : AreRead t.numbers.items listed (length listed) row = subst (λ (xs : List ℕ). AreRead xs listed (length listed) row) c.as_slice-numbers.ensures.value added.1 in
    let e = eqb-true (vec_len c.holders.new.numbers) 0 (sym c.is_empty.ensures ∙ c.if-is_empty.true) in
    let none : length found ≡ 0 = omega (arith, e, c.holders.new.numbers.ok.0) in
    let A = row-read t.complex.now.carriers hs t.numbers.items t.others t.other_numbers.items p listed found row c.requires.source.1 H c.in_ok-holders.ensures.holders none R in
    added-at t.complex.now.vertices k v hs c.args.rows.now c.push_read.new.self here (row, A, added.2)

pub returns-then-is_empty : goal.returns-then-is_empty
returns-then-is_empty c = record { added = on_ok_weaker c.push_read.result (read c) c.push_read.ensures.added }

pub returns : goal.returns
returns c =
    let t = c.args.source.now in
    let us : List Vertex = c.as_slice-vertices.result.now in
    let k : ℕ = c.args.number in
    let v : Vertex = c.index-vertices-number.result in
    let listed : List ℕ = c.vertex_holders-listed.result.now in
    let within : k < length us = subst (λ (xs : List Vertex). k < length xs) (sym c.as_slice-vertices.ensures.all) c.requires.within in
    let here = read-here t.complex.now.vertices us k v c.as_slice-vertices.ensures.all (slice_get_read us (length us) k v refl within c.index-vertices-number.is) in
    let H = c.vertex_holders-listed.ensures.holders v here in
    let gs : List Plane = t.complex.now.carriers in
    let hs : List Plane = c.args.carriers.now in
    let p = point_of v.point in
    let ns : List ℕ = t.numbers.items in
    let ks : List ℕ = t.other_numbers.items in
    let found : List ℕ = c.holders.new.numbers.items in
    let mid : List ℕ = c.add_numbers.new.row.items in
    let new : List ℕ = c.add_numbers-2.new.row.items in
    let row : List ℕ = c.as_slice-3.result.now in
    let A : AreAdded ns listed (length listed) [] mid = subst (λ (xs : List ℕ). AreAdded xs listed (length listed) [] mid) c.as_slice-numbers.ensures.value
    (subst (λ (xs : List ℕ). AreAdded c.as_slice-numbers.result.now listed (length listed) xs mid) c.clear.ensures.items c.in_ok-add_numbers.ensures.added) in
    let B : AreAdded ks found (length found) mid new = subst (λ (xs : List ℕ). AreAdded xs found (length found) mid new) c.as_slice.ensures.value
    (subst (λ (xs : List ℕ). AreAdded c.as_slice.result.now xs (length xs) mid new) c.as_slice-2.ensures.value c.in_ok-add_numbers-2.ensures.added) in
    let once : AreHolders hs p p c.dedup.new.self.items = subst (AreHolders hs p p) (sym (dedup_is eqb c.sort_unstable.new.self.items c.dedup.new.self.items c.dedup.ensures.filtered))
    (row-once gs hs ns t.others ks c.requires.source.1 p listed found H c.in_ok-holders.ensures.holders mid new A B c.sort_unstable.new.self.items c.sort_unstable.ensures.permutation c.sort_unstable.ensures.sorted) in
    let Q : AreHolders hs p p row = subst (AreHolders hs p p) (sym c.as_slice-3.ensures.value) once in
    record {
      added = on_ok_weaker c.push.result (λ (e : c.push.new.self ≡ c.args.rows.now ++ row ∷ []). added-at t.complex.now.vertices k v hs c.args.rows.now c.push.new.self here (row, Q, e)) c.push.ensures.ok;
    }
