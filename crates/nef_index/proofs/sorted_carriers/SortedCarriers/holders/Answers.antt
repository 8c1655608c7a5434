use Rattle.nef_index.proofs.Prelude.{ℕ, ◌+◌, ◌≡◌, List, length, get_or, drop, arith, refl, sym, ap, subst, ◌∙◌, Vec, Global, point_of, Plane, is-at_within, IsHolder, AreNumbersWith, IsRun, AreRunsTo, IsHolderIn, IsOnlyHolder}
use Rattle.nef_index.proofs.Numbered.{Before, numbers-none, numbers-in, numbers-past, numbers-all}
use Rattle.nef_index.proofs.Parallel.{runs-next, runs-all}
use Rattle.nef_index.proofs.sorted_carriers.SortedCarriers.holders.Goals.{in-Some+in_ok-push, in_default}
use Rattle.nef_index.proofs.sorted_carriers.SortedCarriers.holders.Goals as goal

-- the runs are given by the ends as they were read
as-read : (hs : List Plane) (es ds : List ℕ) (i first : ℕ) → ds ≡ es → AreRunsTo hs first (drop i es) (length hs) → AreRunsTo hs first (drop i ds) (length hs)
as-read hs es ds i first e = subst (λ (xs : List ℕ). AreRunsTo hs first (drop i xs) (length hs)) (sym e)

pub loop-past-init : goal.loop-past-init
loop-past-init c =
    let p = point_of c.args.point.now in
    let P : ℕ → Type 0 = IsHolder c.self.inside.planes p p in
    record { runs = c.self.invariant.1; numbers = subst (AreNumbersWith (Before P 0)) (sym c.clear.ensures.items) (numbers-none P) }

pub holder_in-requires-clause-run : goal.holder_in-requires-clause-run
holder_in-requires-clause-run c =
    let hs : List Plane = c.self.inside.planes in
    let ends : List ℕ = c.deref-past-items.result.now in
    let first = c.loop-past.first in
    let R = as-read hs c.self.inside.ends.items ends c.loop-past.past-index first c.deref-past-items.ensures.value c.loop-past.invariant.runs in
    let past : ℕ = get_or ends c.loop-past.past-index 0 in
    subst (λ (gs : List Plane). IsRun gs first past) (sym c.as_slice.ensures.all) (runs-next hs ends c.loop-past.past-index first (length hs) c.loop-past-test.true R).0

pub loop-past-preserved : goal.loop-past-preserved
loop-past-preserved c =
    let hs : List Plane = c.self.inside.planes in
    let ends : List ℕ = c.deref-past-items.result.now in
    let p = point_of c.args.point.now in
    let P : ℕ → Type 0 = IsHolder hs p p in
    let first = c.loop-past.first in
    let past : ℕ = get_or ends c.loop-past.past-index 0 in
    let N = c.loop-past.invariant.numbers in
    let R = as-read hs c.self.inside.ends.items ends c.loop-past.past-index first c.deref-past-items.ensures.value c.loop-past.invariant.runs in
    let next = runs-next hs ends c.loop-past.past-index first (length hs) c.loop-past-test.true R in
    let rest : List ℕ = drop (c.loop-past.past-index + 1) c.self.inside.ends.items in
    let runs = as-read hs ends c.self.inside.ends.items (c.loop-past.past-index + 1) past (sym c.deref-past-items.ensures.value) next.1 in
    elim c.match-holder_in.branch [
      | in-Some+in_ok-push w ↦
          let o = subst (λ (gs : List Plane). IsOnlyHolder gs first past p w.in-Some.number) c.as_slice.ensures.all w.in-Some.ensures.holder in
          record {
            runs = subst (λ (k : ℕ). AreRunsTo hs k rest (length hs)) (sym w.first-is) runs;
            numbers = subst (λ (k : ℕ). AreNumbersWith (Before P k) c.match-holder_in.numbers.items) (sym w.first-is)
                (subst (AreNumbersWith (Before P past)) (sym (ap (λ (v : Vec ℕ Global). v.items) w.numbers-is ∙ w.in_ok-push.ensures.items))
                (numbers-in P first w.in-Some.number past c.loop-past.numbers.items N o.holder.0 o.holder.1 o.holder.2 (λ i l m q. o.only i (l, m, q))));
          }
      | in_default w ↦
          let none = subst (λ (gs : List Plane). (k : ℕ) → IsHolderIn gs first past p k → ⊥) c.as_slice.ensures.all (w.in_default.ensures.none refl) in
          record {
            runs = subst (λ (k : ℕ). AreRunsTo hs k rest (length hs)) (sym w.first-is) runs;
            numbers = subst (λ (k : ℕ). AreNumbersWith (Before P k) c.match-holder_in.numbers.items) (sym w.first-is)
                (subst (λ (v : Vec ℕ Global). AreNumbersWith (Before P past) v.items) (sym w.numbers-is)
                (numbers-past P first past c.loop-past.numbers.items N next.0.ordered (λ i l m q. none i (l, m, q))));
          }
    ]

pub returns : goal.returns
returns c =
    let hs : List Plane = c.self.inside.planes in
    let ends : List ℕ = c.deref-past-items.result.now in
    let p = point_of c.args.point.now in
    let R = as-read hs c.self.inside.ends.items ends c.loop-past.past-index c.loop-past.first c.deref-past-items.ensures.value c.loop-past.invariant.runs in
    let all = runs-all hs ends c.loop-past.past-index c.loop-past.first (length hs) (let f = c.loop-past-test.false in omega arith) R in
    record {
      holders = subst (λ (gs : List Plane). AreNumbersWith (IsHolder gs p p) c.loop-past.numbers.items) c.self.view_is
          (numbers-all (IsHolder hs p p) c.loop-past.first c.loop-past.numbers.items c.loop-past.invariant.numbers (λ k q. let l = is-at_within hs k q.0 q.1 in omega arith));
    }
