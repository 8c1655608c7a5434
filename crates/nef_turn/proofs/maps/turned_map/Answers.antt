-- The turned map, from its parts.
use Rattle.nef_turn.proofs.Prelude.{◌≡◌, ℕ, List, [], map, length, Option, Some, None, refl, sym, subst, IfSome, IsNormal, vector_of, SVertex, SArc, SLoop, SphereMap, Moved, AreImages, AreApart, AreOldNumbers, AreNewNumbers, HaveSameNumber, svertex_in, IsOfMoved, Renumbers, AreTurnedArcs}
use Rattle.nef_turn.proofs.MovedSvertices.{images-mapped, moved-within, renumbers}
use Rattle.nef_turn.proofs.MadeMaps.{IsMadeByTurning, made-lists, made-ordered}
use Rattle.nef_turn.proofs.maps.turned_map.Goals as goal

if-some : {A : Type 0} (P : A → Type 0) (o : Option A) → IfSome o P → (x : A) → o ≡ Some x → P x
if-some P None h x e = cc
if-some P (Some y) h x e = subst P (let f : y ≡ x = cc in f) h

pub moved_svertices-requires : goal.moved_svertices-requires
moved_svertices-requires c = record { shaped = c.requires.map.sphere_map.valid.shaped }

pub new_numbers-requires : goal.new_numbers-requires
new_numbers-requires c =
    let M = c.in_ok-moved.ensures.moved in
    let e = c.as_slice.ensures.value in
    record {
      within = subst AreOldNumbers (sym {A = List Moved} e) (moved-within c.args.turn.now.number c.args.map.now.svertices c.in_ok-moved.moved.items [] M);
      apart = subst (AreApart HaveSameNumber) (sym {A = List Moved} e) M.apart;
    }

pub turned_arcs-requires : goal.turned_arcs-requires
turned_arcs-requires c =
    let k = c.args.turn.now.number in let m = c.args.map.now in let us = c.in_ok-moved.moved.items in
    let ns = c.in_ok-numbers.numbers.items in let ws = c.in_ok-svertices.svertices.items in
    let N = subst (λ (l : List Moved). AreNewNumbers (length l) l ns) c.as_slice.ensures.value c.in_ok-numbers.ensures.numbers in
    let count = subst (λ (l : List Moved). length ns ≡ length l) c.as_slice.ensures.value c.in_ok-numbers.ensures.count in
    let I = images-mapped us ws (subst (λ (l : List Moved). ws ≡ map svertex_in l) c.as_slice-2.ensures.value c.in_ok-svertices.ensures.svertices) in
    record {
      shaped = c.requires.map.sphere_map.valid.shaped;
      numbers = subst (Renumbers k m.svertices) (sym {A = List ℕ} c.as_slice-3.ensures.value) (renumbers k m.svertices us ns c.in_ok-moved.ensures.moved N ws I count);
    }

pub returns : goal.returns
returns c =
    let k = c.args.turn.now.number in let m = c.args.map.now in let us = c.in_ok-moved.moved.items in
    let ns = c.in_ok-numbers.numbers.items in let ws = c.in_ok-svertices.svertices.items in
    let N = subst (λ (l : List Moved). AreNewNumbers (length l) l ns) c.as_slice.ensures.value c.in_ok-numbers.ensures.numbers in
    let I = images-mapped us ws (subst (λ (l : List Moved). ws ≡ map svertex_in l) c.as_slice-2.ensures.value c.in_ok-svertices.ensures.svertices) in
    let T = subst (λ (l : List ℕ). AreTurnedArcs k l m.arcs c.in_ok-arcs.arcs.items) c.as_slice-3.ensures.value c.in_ok-arcs.ensures.turned in
    let sloop = c.turned_sloop.result in
    let n : SphereMap = record { mark = m.mark; svertices = c.from_vec.result; arcs = c.from_vec-2.result; sloop = sloop; ground = m.ground } in
    let made : IsMadeByTurning k m n us ns = record {
      moved = c.in_ok-moved.ensures.moved;
      numbers = N;
      svertices = subst (AreImages IsOfMoved (length us) us) (sym {A = List SVertex} c.from_vec.ensures.all) I;
      arcs = subst (AreTurnedArcs k ns m.arcs) (sym {A = List SArc} c.from_vec-2.ensures.all) T;
      sloop = c.turned_sloop.ensures.turned;
      upward = if-some (λ (l : SLoop). IsNormal (vector_of l.normal)) sloop c.turned_sloop.ensures.normal;
      mark = refl;
      ground = refl;
    } in
    record { lists = made-lists k m n us ns made; ordered = made-ordered k m n us ns made }
