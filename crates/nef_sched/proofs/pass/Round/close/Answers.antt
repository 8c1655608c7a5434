use Rattle.nef_sched.proofs.Prelude.{ap, sym, ◌∙◌, ◌||◌, arith, Some, All-pop, IsPassOf, RoundPass, times, IsPassInRound, taken, ended, any_ended, total_parts, times_taken, numbers_of}
use Rattle.nef_sched.proofs.Steps.{parts_snoc, times_snoc, numbers_snoc, times_joined, dealt_as, none_took, ended_snoc, none_ended, or_none}
use Rattle.nef_sched.proofs.pass.Round.close.Goals as goal
use Rattle.std.proofs.Math.Bool.{or_assoc}

pub loop-other-init : goal.loop-other-init
loop-other-init g c =
    let last = c.in-Some.ensures.items in
    let both = All-pop (λ (p : RoundPass). IsPassInRound c.args.self p) _ _ (Some c.in-Some.whole) last c.requires.of in
    let sums = ap total_parts last ∙ parts_snoc _ _ in
    let every = c.requires.every in
    record {
      of = both.1.0;
      each = λ k d h. (both.0 k d h).0;
      parts = omega arith;
      knows = sym (ap numbers_of last ∙ numbers_snoc c.pop.new.self.items c.in-Some.whole);
      room = both.1.1;
      took = λ x. let e = ap (times_taken x) last ∙ times_snoc x _ _ in omega arith;
      ended = ap any_ended last ∙ ended_snoc c.pop.new.self.items c.in-Some.whole;
    }

pub joined-whole-requires : goal.joined-whole-requires
joined-whole-requires g c =
    let both = All-pop (λ (p : RoundPass). IsPassOf c.args.self.queue p.pass) _ _ (Some c.in-Some-pop.other) c.in-Some-pop.ensures.items c.loop-other.invariant.each in
    record { of = (c.loop-other.invariant.of, both.1) }

pub loop-other-preserved : goal.loop-other-preserved
loop-other-preserved g c =
    let i = c.loop-other.invariant in
    let last = c.in-Some-pop.ensures.items in
    let both = All-pop (λ (p : RoundPass). IsPassOf c.args.self.queue p.pass) _ _ (Some c.in-Some-pop.other) last i.each in
    let j = c.joined-whole.ensures in
    let sums = ap total_parts last ∙ parts_snoc _ _ in
    let p = i.parts in
    let q = j.parts in
    record {
      of = j.of;
      each = both.0;
      parts = omega arith;
      knows = j.known ∙ i.knows;
      room = rw j.known i.room;
      took = λ x.
          let e = ap (times_taken x) last ∙ times_snoc x _ _ in
          let t = i.took x in
          let s = ap (times x) j.taken ∙ times_joined x (taken c.loop-other.whole) (taken c.in-Some-pop.other) in
          omega arith;
      ended =
          i.ended
          ∙ ap (λ b. ended c.loop-other.whole || b) (ap any_ended last ∙ ended_snoc c.pop-in-loop-other.new.self.items c.in-Some-pop.other)
          ∙ sym (or_assoc (ended c.loop-other.whole) (ended c.in-Some-pop.other) (any_ended c.pop-in-loop-other.new.self.items))
          ∙ ap (λ b. b || any_ended c.pop-in-loop-other.new.self.items) (sym j.ended);
    }

pub drained-left-requires-clause-room : goal.drained-left-requires-clause-room
drained-left-requires-clause-room g c = c.loop-other.invariant.room

pub returns-clause-each : goal.returns-clause-each
returns-clause-each g c = dealt_as _ _ _ _ _ c.loop-other.invariant.knows c.loop-other.whole.same_taken c.drained-left.ensures.each

pub returns-clause-taken : goal.returns-clause-taken
returns-clause-taken g c x =
    let t = c.loop-other.invariant.took x in
    let k = c.loop-other.passes.ok in
    let n = none_took x c.loop-other.passes.items (let z = c.in_default-pop.ensures.cases.0 in omega arith) in
    omega arith

pub returns-clause-ended : goal.returns-clause-ended
returns-clause-ended g c some_end =
    let k = c.loop-other.passes.ok in
    let n = none_ended c.loop-other.passes.items (let z = c.in_default-pop.ensures.cases.0 in omega arith) in
    c.drained-left.ensures.ended (sym (or_none (ended c.loop-other.whole)) ∙ sym (ap (λ b. ended c.loop-other.whole || b) n) ∙ sym c.loop-other.invariant.ended ∙ some_end)
