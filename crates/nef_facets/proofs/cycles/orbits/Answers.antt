use Rattle.nef_facets.proofs.Prelude.{ℕ, ◌+◌, ◌++◌, ◌∷◌, [], List, Bool, arith, refl, sym, ◌∙◌, subst, Vec, Global, IsAt, read}
use Rattle.nef_facets.proofs.Walks.{AreOrbitsTo, orbits-begun, orbits-pass, orbits-more, orbits-all}
use Rattle.nef_facets.proofs.cycles.orbits.Goals.{then-not-index+in_ok-walk+in_ok-push, else-not-index}
use Rattle.nef_facets.proofs.cycles.orbits.Goals as goal

pub loop-start-init : goal.loop-start-init
loop-start-init c =
    subst (λ (xs : List (List ℕ)). AreOrbitsTo c.args.next.now 0 xs c.in_ok-marks.marks.items) (sym c.new-orbits.ensures.empty)
    (orbits-begun c.args.next.now c.in_ok-marks.marks.items (c.in_ok-marks.ensures.items_if_clones_equal (λ y h. h)))

pub loop-start-preserved : goal.loop-start-preserved
loop-start-preserved c =
    let ns : List ℕ = c.args.next.now in
    let start = c.loop-start.start in
    let xs : List (List ℕ) = c.loop-start.orbits in
    let bs : List Bool = c.loop-start.marks.items in
    let I = c.loop-start.invariant in
    let e = I.as_many in
    let h = c.loop-start-test.true in
    let a = read bs bs start c.index.result.now refl (omega arith) c.index.ensures in
    elim c.if-not-index.branch [
      | then-not-index+in_ok-walk+in_ok-push w ↦
          let z : List ℕ = w.in_ok-walk.field-0 in
          let W = w.in_ok-walk.ensures in
          let new : List Bool = w.walk.new.marks.items in
          subst (λ (ys : List (List ℕ)). AreOrbitsTo ns (start + 1) ys c.if-not-index.marks.items) (sym (w.orbits-is ∙ w.in_ok-push.ensures.ok))
          (subst (λ (v : Vec Bool Global). AreOrbitsTo ns (start + 1) (xs ++ z ∷ []) v.items) (sym w.marks-is)
          (orbits-more ns c.requires.step start xs bs I z new h W.back W.marked W.apart w.walk.ensures.as_many))
      | else-not-index w ↦
          subst (λ (ys : List (List ℕ)). AreOrbitsTo ns (start + 1) ys c.if-not-index.marks.items) (sym w.orbits-is)
          (subst (λ (v : Vec Bool Global). AreOrbitsTo ns (start + 1) xs v.items) (sym w.marks-is)
          (orbits-pass ns c.requires.step start xs bs I (subst (λ (b : Bool). IsAt bs start b) w.if-not-index.false a)))
    ]

pub returns : goal.returns
returns c = record { orbits = orbits-all c.args.next.now c.loop-start.start c.loop-start.orbits c.loop-start.marks.items c.loop-start.invariant (let f = c.loop-start-test.false in omega arith) }
