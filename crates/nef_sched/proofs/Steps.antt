-- Each kind of step keeps the queue's rule, and what a pass learns from it.
use Rattle.nef_sched.proofs.Prelude.{◌≡◌, ◌≢◌, ℕ, zero, suc, ◌+◌, ◌^◌, ◌<◌, ◌≤◌, List, [], ◌∷◌, ◌++◌, length, set, refl, ap, sym, ◌∙◌, arith, ◌⊎◌, inl, inr, ⊎_elim, subst, take, drop, slice_index_or, slice_get, Option, Some, None, IfSome, Bool, true, false, ◌||◌, MatchOption, false≢true, length-append, slice_get_within, View, weigh, one, times, Differ, IsDealt, numbers_in, ends_in, whole, first_view, put, took, at_end, cut, share, taken_together, spent, FitsRound, ShowsNumbers, Kept, SawItems, Took, TookEach, RoundPass, parts, known, taken, ended, any_ended, total_parts, times_taken, numbers_of}
use Rattle.std.specs.Option.{option_flatten}
use mathlib.Core.Option.{some, some-injective, some-ne-none}
use lib.ListN.{get_elem?}
use Rattle.crossbeam_queue.specs.Fifo.{Pushes, Pops, Forks, Merges, Learns, Held}
use Rattle.crossbeam_queue.proofs.Lists.{at_set, at_snoc}
use Rattle.nef_sched.specs.Laws.{NumbersAreKnown, PassesAgree, NoneTwice, NoneTakenIsLeft, NoneIsLost, EndedIsEmpty}
use Rattle.nef_sched.proofs.Totals.{weigh_append, weigh_one, counts, counts_itself, total_set, total_snoc, at_most, two_at_most, all_of_one}
use Rattle.nef_sched.proofs.Lines.{one_of, cons_not_nil, numbers_more, numbers_end, ends_more, ends_end, last_more, last_end, last_none, length_in}
use Rattle.std.proofs.lemmas.Bool.{false_from_ne_true}

abbrev Each : (View → Type 0) → List View → Type 0
Each F views = (place : ℕ) (v : View) → get_elem? views place ≡ some v → F v

each_set : (F : View → Type 0) (views : List View) (place : ℕ) (w : View) → F w → ((j : ℕ) (u : View) → j ≢ place → get_elem? views j ≡ some u → F u) → Each F (set views place w)
each_set F views place w mine others j u e =
    ⊎_elim (λ (x : (j ≡ place) × (w ≡ u)). subst F x.1 mine) (λ (x : (j ≢ place) × (get_elem? views j ≡ some u)). others j u x.0 x.1) (at_set views place j w u e)

each_snoc : (F : View → Type 0) (views : List View) (w : View) → F w → Each F views → Each F (views ++ w ∷ [])
each_snoc F views w mine others j u e = ⊎_elim (λ (x : get_elem? views j ≡ some u). others j u x) (λ (x : w ≡ u). subst F x mine) (at_snoc views w u j e)

first_fits : (place : ℕ) (v : View) → get_elem? (first_view ∷ []) place ≡ some v → FitsRound [] [] v
first_fits zero v e = subst (FitsRound [] []) (some-injective first_view v e) (record { knows = λ _. refl; none = λ z. absurd (omega arith); ended = λ q. refl })
first_fits (suc place) v e = absurd (some-ne-none v (sym e))

pub begins : Kept [] (first_view ∷ [])
begins = ([], record { parts = refl; differ = λ x. omega arith; each = λ h. refl; last = tt; due = refl; fits = first_fits })

-- a further number that isn't among them
pub differ_more : (numbers : List ℕ) (x : ℕ) → Differ numbers → times x numbers ≡ 0 → Differ (numbers ++ x ∷ [])
differ_more numbers x d n y =
    let a = weigh_append (one y) numbers (x ∷ []) in
    let m = d y in
    elim (counts x y) [
      | inl e ↦
          let k : times y numbers ≡ 0 = ap (λ z. times z numbers) (sym e.0) ∙ n in
          let c = e.1 in
          omega arith
      | inr c ↦ omega arith
    ]

-- a pass with all parts may take all ends that are left
pub due_all : (numbers : List ℕ) (items : List (Option ℕ)) (views : List View) (place : ℕ) (v : View) → ShowsNumbers numbers items views → get_elem? views place ≡ some v → v.parts ≡ 2 ^ 32 → ends_in items ≡ v.due
due_all numbers items views place v s at all =
    sym s.due ∙ all_of_one (λ u. u.due) (λ u. u.parts) views place v at (s.parts ∙ sym all) (λ p u e z. ((s.fits p u e).none z).2)

pub puts : (room place : ℕ) (v : View) (x : ℕ) → v.parts ≡ 2 ^ 32 → v.due ≡ 0 → v.ended ≡ false → times x v.known ≡ 0 → Pushes Kept room place v (Some x) (λ w. w ≡ put v (Some x))
puts room place v x all none going new items views _ kept at =
    let numbers : List ℕ = kept.0 in
    let s : ShowsNumbers numbers items views = kept.1 in
    let left : List ℕ = numbers_in items in
    let left' : List ℕ = numbers_in (items ++ Some x ∷ []) in
    let knows : v.known ≡ numbers = (s.fits place v at).knows (omega arith) in
    let more : left' ≡ left ++ x ∷ [] = numbers_more items x in
    let no_end : ends_in items ≡ 0 = due_all numbers items views place v s at all ∙ none in
    let w : View = put v (Some x) in
    let mine : FitsRound (numbers ++ x ∷ []) left' w = record {
      knows = λ _. ap (λ l. l ++ x ∷ []) knows;
      none = λ z. absurd (omega arith);
      ended = λ e. absurd (false≢true (sym going ∙ e));
    } in (
      w,
      (
        numbers ++ x ∷ [],
        record {
          parts = (let t = total_set (λ u. u.parts) views place v w at in let p = s.parts in omega arith);
          differ = differ_more numbers x s.differ (ap (times x) (sym knows) ∙ new);
          each = λ h.
              let t = total_set (λ u. weigh h u.taken) views place v w at in
              let p = s.each h in
              let m : weigh h left' ≡ weigh h (left ++ x ∷ []) = ap (weigh h) more in
              omega (arith, weigh_append h numbers (x ∷ []), weigh_append h left (x ∷ []));
          last = last_more items x s.last no_end;
          due = (let t = total_set (λ u. u.due) views place v w at in let p = s.due in let e = ends_more items x in omega arith);
          fits = each_set (FitsRound (numbers ++ x ∷ []) left') views place w mine
              (λ j u other e.
              let t = two_at_most (λ z. z.parts) views place j v u (λ q. other (sym q)) at e in
              let p = s.parts in
              let no_part : u.parts ≡ 0 = omega arith in
              let f = (s.fits j u e).none no_part in
              record { knows = λ some_part. absurd (omega arith); none = λ _. f; ended = λ q. absurd (false≢true (sym f.3 ∙ q)) });
        },
      ),
      refl,
    )

pub puts_end : (room place : ℕ) (v : View) → v.parts ≡ 2 ^ 32 → Pushes Kept room place v None (λ w. w ≡ put v None)
puts_end room place v all items views _ kept at =
    let numbers : List ℕ = kept.0 in
    let s : ShowsNumbers numbers items views = kept.1 in
    let left : List ℕ = numbers_in items in
    let left' : List ℕ = numbers_in (items ++ None ∷ []) in
    let same : left' ≡ left = numbers_end items in
    let own = s.fits place v at in
    let w : View = put v None in
    let mine : FitsRound numbers left' w = record { knows = own.knows; none = λ z. absurd (omega arith); ended = λ e. same ∙ own.ended e } in (
      w,
      (
        numbers,
        record {
          parts = (let t = total_set (λ u. u.parts) views place v w at in let p = s.parts in omega arith);
          differ = s.differ;
          each = λ h.
              let t = total_set (λ u. weigh h u.taken) views place v w at in
              let p = s.each h in
              let m : weigh h left' ≡ weigh h left = ap (weigh h) same in
              omega arith;
          last = last_end items s.last;
          due = (let t = total_set (λ u. u.due) views place v w at in let p = s.due in let e = ends_end items in omega arith);
          fits = each_set (FitsRound numbers left') views place w mine
              (λ j u other e. let f = s.fits j u e in record { knows = f.knows; none = f.none; ended = λ q. same ∙ f.ended q });
        },
      ),
      refl,
    )

-- with every part, and no number in the queue, a pass took all
took_each : (numbers : List ℕ) (items : List (Option ℕ)) (views : List View) (place : ℕ) (v : View) → ShowsNumbers numbers items views → get_elem? views place ≡ some v → numbers_in items ≡ [] → v.parts ≡ 2 ^ 32 → TookEach v
took_each numbers items views place v s at left all x =
    let k : times x v.known ≡ times x numbers = ap (times x) ((s.fits place v at).knows (omega arith)) in
    let e = s.each (one x) in
    let n : times x (numbers_in items) ≡ times x [] = ap (times x) left in
    let t = all_of_one (λ u. weigh (one x) u.taken) (λ u. u.parts) views place v at (s.parts ∙ sym all) (λ p u there z. ap (weigh (one x)) ((s.fits p u there).none z).1) in
    omega arith

pub takes : (place : ℕ) (v : View) → 0 < v.parts → (0 < v.due) ⊎ (v.parts ≡ 2 ^ 32) → Pops Kept place v (Took v)
takes place v some_part may (Some x) items views kept at =
    let numbers : List ℕ = kept.0 in
    let s : ShowsNumbers numbers (Some x ∷ items) views = kept.1 in
    let left : List ℕ = numbers_in items in
    let own = s.fits place v at in
    let knows : v.known ≡ numbers = own.knows some_part in
    let going : v.ended ≡ false = false_from_ne_true v.ended (λ e. cons_not_nil x left (own.ended e)) in
    let w : View = took v x in
    let here = counts_itself x in
    let e = s.each (one x) in
    let d = s.differ x in
    let m = at_most (λ u. weigh (one x) u.taken) views place v at in
    let k : times x v.known ≡ times x numbers = ap (times x) knows in
    let len = s.each (λ y. 1) in
    let longest = at_most (λ u. weigh (λ y. 1) u.taken) views place v at in
    let k' : length v.known ≡ length numbers = ap length knows in
    let mine : FitsRound numbers left w = record { knows = λ _. knows; none = λ z. absurd (omega arith); ended = λ q. absurd (false≢true (sym going ∙ q)) } in (
      w,
      (
        numbers,
        record {
          parts = (let t = total_set (λ u. u.parts) views place v w at in let p = s.parts in omega arith);
          differ = s.differ;
          each = λ h.
              let t = total_set (λ u. weigh h u.taken) views place v w at in
              let p = s.each h in
              omega (arith, weigh_append h v.taken (x ∷ []));
          last = s.last;
          due = (let t = total_set (λ u. u.due) views place v w at in let p = s.due in omega arith);
          fits = each_set (FitsRound numbers left) views place w mine
              (λ j u other q. let f = s.fits j u q in record { knows = f.knows; none = f.none; ended = λ z. absurd (cons_not_nil x left (f.ended z)) });
        },
      ),
      (refl, (omega arith, omega arith, omega (arith, weigh_one numbers, weigh_one v.taken), going)),
    )
takes place v some_part may None items views kept at =
    let numbers : List ℕ = kept.0 in
    let s : ShowsNumbers numbers (None ∷ items) views = kept.1 in
    let left : List ℕ = numbers_in items in
    let empty : left ≡ [] = s.last in
    let own = s.fits place v at in
    let owes : 0 < v.due = elim may [ inl a ↦ a | inr all ↦ let d = due_all numbers (None ∷ items) views place v s at all in omega arith ] in
    let w : View = at_end v in
    let mine : FitsRound numbers left w = record { knows = own.knows; none = λ z. absurd (omega arith); ended = λ _. empty } in (
      w,
      (
        numbers,
        record {
          parts = (let t = total_set (λ u. u.parts) views place v w at in let p = s.parts in omega arith);
          differ = s.differ;
          each = λ h. let t = total_set (λ u. weigh h u.taken) views place v w at in let p = s.each h in omega arith;
          last = last_none items empty;
          due = (let t = total_set (λ u. u.due) views place v w at in let p = s.due in omega arith);
          fits = each_set (FitsRound numbers left) views place w mine (λ j u other q. s.fits j u q);
        },
      ),
      (refl, owes, λ all. took_each numbers (None ∷ items) views place v s at empty all),
    )

pub forks : (place : ℕ) (v : View) → 1 < v.parts → 0 < v.due → Forks Kept place v (cut v) (share v)
forks place v two owes items views kept at =
    let numbers : List ℕ = kept.0 in
    let s : ShowsNumbers numbers items views = kept.1 in
    let left : List ℕ = numbers_in items in
    let own = s.fits place v at in
    let knows : v.known ≡ numbers = own.knows (omega arith) in
    let cutted : List View = set views place (cut v) in
    let mine : FitsRound numbers left (cut v) = record { knows = λ _. knows; none = λ z. absurd (omega arith); ended = own.ended } in
    let made : FitsRound numbers left (share v) = record { knows = λ _. knows; none = λ z. absurd (omega arith); ended = λ q. absurd (false≢true q) } in (
      numbers,
      record {
        parts = (let t = total_set (λ u. u.parts) views place v (cut v) at in let p = s.parts in omega (arith, total_snoc (λ u. u.parts) cutted (share v)));
        differ = s.differ;
        each = λ h.
            let t = total_set (λ u. weigh h u.taken) views place v (cut v) at in
            let p = s.each h in
            omega (arith, total_snoc (λ u. weigh h u.taken) cutted (share v));
        last = s.last;
        due = (let t = total_set (λ u. u.due) views place v (cut v) at in let p = s.due in omega (arith, total_snoc (λ u. u.due) cutted (share v)));
        fits = each_snoc (FitsRound numbers left) cutted (share v) made (each_set (FitsRound numbers left) views place (cut v) mine (λ j u other e. s.fits j u e));
      },
    )

pub merges : (place : ℕ) (v : View) (other : ℕ) (w : View) → 0 < v.parts → 0 < w.parts → Merges Kept place v other w (taken_together v w) spent
merges place v other w mine theirs items views kept at apart at' =
    let numbers : List ℕ = kept.0 in
    let s : ShowsNumbers numbers items views = kept.1 in
    let left : List ℕ = numbers_in items in
    let own = s.fits place v at in
    let knows : v.known ≡ numbers = own.knows mine in
    let joint : List View = set views place (taken_together v w) in
    let was : get_elem? views other ≡ some w = ⊎_elim (λ (x : (other ≡ place) × (taken_together v w ≡ w)). absurd (apart x.0)) (λ (x : (other ≢ place) × (get_elem? views other ≡ some w)). x.1) (at_set views place other (taken_together v w) w at') in
    let theirs' = s.fits other w was in
    let one_fits : FitsRound numbers left (taken_together v w) = record {
      knows = λ _. knows;
      none = λ z. absurd (omega arith);
      ended = λ q. elim (one_of v.ended w.ended q) [ inl a ↦ own.ended a | inr b ↦ theirs'.ended b ];
    } in
    let nothing : FitsRound numbers left spent = record { knows = λ z. absurd (omega arith); none = λ _. (refl, refl, refl, refl); ended = λ q. absurd (false≢true q) } in (
      numbers,
      record {
        parts = (let t = total_set (λ u. u.parts) views place v (taken_together v w) at in let t' = total_set (λ u. u.parts) joint other w spent at' in let p = s.parts in omega arith);
        differ = s.differ;
        each = λ h.
            let t = total_set (λ u. weigh h u.taken) views place v (taken_together v w) at in
            let t' = total_set (λ u. weigh h u.taken) joint other w spent at' in
            let p = s.each h in
            omega (arith, weigh_append h v.taken w.taken);
        last = s.last;
        due = (let t = total_set (λ u. u.due) views place v (taken_together v w) at in let t' = total_set (λ u. u.due) joint other w spent at' in let p = s.due in omega arith);
        fits = each_set (FitsRound numbers left) joint other spent nothing
            (λ j u _ e. each_set (FitsRound numbers left) views place (taken_together v w) one_fits (λ i y _ q. s.fits i y q) j u e);
      },
    )

pub sees : (place : ℕ) (v : View) → Learns Kept place v (SawItems v)
sees place v items views kept at = (views, place, at, kept)

-- what a pass with a part sees: what it took and the numbers in the queue are no more than the numbers
pub seen_few : (v : View) (items : List (Option ℕ)) → 0 < v.parts → SawItems v items → length v.taken + length (numbers_in items) ≤ length v.known
seen_few v items some_part seen =
    let s = seen.3.1 in
    let k : length v.known ≡ length seen.3.0 = ap length ((s.fits seen.1 v seen.2).knows some_part) in
    let e = s.each (λ y. 1) in
    let m = at_most (λ u. weigh (λ y. 1) u.taken) seen.0 seen.1 v seen.2 in
    omega (arith, weigh_one seen.3.0, weigh_one v.taken, weigh_one (numbers_in items))

-- with every part it sees where each of the numbers is, and how many ends are left
pub seen_all : (v : View) (items : List (Option ℕ)) → v.parts ≡ 2 ^ 32 → SawItems v items → IsDealt v.known v.taken (numbers_in items)
seen_all v items all seen =
    let s = seen.3.1 in
    let knows : v.known ≡ seen.3.0 = (s.fits seen.1 v seen.2).knows (omega arith) in (
      (λ x. let d = s.differ x in let k : times x v.known ≡ times x seen.3.0 = ap (times x) knows in omega arith),
      λ x.
          let k : times x v.known ≡ times x seen.3.0 = ap (times x) knows in
          let e = s.each (one x) in
          let t = all_of_one (λ u. weigh (one x) u.taken) (λ u. u.parts) seen.0 seen.1 v seen.2 (s.parts ∙ sym all)
          (λ p u there none. ap (weigh (one x)) ((s.fits p u there).none none).1) in
          omega arith,
    )

pub seen_due : (v : View) (items : List (Option ℕ)) → v.parts ≡ 2 ^ 32 → SawItems v items → ends_in items ≡ v.due
seen_due v items all seen = due_all seen.3.0 items seen.0 seen.1 v seen.3.1 seen.2 all

-- a pass that may still take an end never sees the queue empty
pub never_empty : (v : View) → 0 < v.due → Held 0 (SawItems v) → ⊥
never_empty v owes held =
    let items = held.0 in
    let seen = held.2 in
    let s = seen.3.1 in
    let d = s.due in
    let m = at_most (λ u. u.due) seen.0 seen.1 v seen.2 in
    let l = held.1 in
    let k = length_in items in
    absurd (omega arith)

-- so what it takes is a number or an end
pub took_some : (v w : View) (o : Option (Option ℕ)) → 0 < v.due → MatchOption o ((w ≡ v) × Held 0 (SawItems v)) (λ x. Took v x w) → Took v (option_flatten o) w
took_some v w None owes h = absurd (never_empty v owes h.1)
took_some v w (Some x) owes h = h

-- a pass that has ended, and has every part, took all
pub ended_took : (v : View) (items : List (Option ℕ)) → v.ended ≡ true → SawItems v items → v.parts ≡ 2 ^ 32 → TookEach v
ended_took v items end seen all = took_each seen.3.0 items seen.0 seen.1 v seen.3.1 seen.2 ((seen.3.1.fits seen.1 v seen.2).ended end) all

-- a pass that took another one in may still take an end where neither has ended
pub joined_owes : (a b : Bool) (u w v : View) → (a ≡ false → 0 < u.due) → v ≡ taken_together u w → (a || b) ≡ false → 0 < v.due
joined_owes true b u w v p e q = absurd (false≢true (sym q))
joined_owes false b u w v p e q =
    let d : v.due ≡ u.due + w.due = ap (λ (z : View). z.due) e in
    let x = p refl in
    omega arith

pub joined_ended : (u w v : View) (a b : Bool) → v ≡ taken_together u w → u.ended ≡ a → w.ended ≡ b → v.ended ≡ (a || b)
joined_ended u w v a b e p q = ap (λ (z : View). z.ended) e ∙ rw (p, q) refl

pub agree : PassesAgree
agree items views i j v w kept at at' a b =
    let s = kept.1 in
    let k = (s.fits i v at).knows a in
    (k ∙ sym ((s.fits j w at').knows b), λ x. let d = s.differ x in let e : times x v.known ≡ times x kept.0 = ap (times x) k in omega arith)

pub none_twice : NoneTwice
none_twice items views i j v w kept at at' x =
    let s = kept.1 in
    let e = s.each (one x) in
    let d = s.differ x in
    let m = at_most (λ u. weigh (one x) u.taken) views i v at in
    (omega arith, λ n. let t = two_at_most (λ u. weigh (one x) u.taken) views i j v w n at at' in omega arith)

pub none_taken_is_left : NoneTakenIsLeft
none_taken_is_left items views i v kept at x =
    let s = kept.1 in
    let e = s.each (one x) in
    let d = s.differ x in
    let m = at_most (λ u. weigh (one x) u.taken) views i v at in
    omega arith

pub none_lost : NoneIsLost
none_lost items views i v kept at a x =
    let s = kept.1 in
    sym (s.each (one x)) ∙ sym (ap (times x) ((s.fits i v at).knows a))

pub ended_is_empty : EndedIsEmpty
ended_is_empty items views i v kept at e = (kept.1.fits i v at).ended e

-- an empty queue, seen with every part: the pass took all
nothing_left : (v : View) (items : List (Option ℕ)) → length items ≡ 0 → v.parts ≡ 2 ^ 32 → SawItems v items → IsDealt v.known v.taken []
nothing_left v [] none all seen = seen_all v [] all seen
nothing_left v (x ∷ xs) none all seen = absurd (omega arith)

pub ends : (v : View) (known taken left : List ℕ) → v.parts ≡ 2 ^ 32 → v.known ≡ known → v.taken ≡ taken ++ left → Held 0 (SawItems v) → IsDealt known taken left
ends v known taken left all k t held =
    let e = nothing_left v held.0 held.1 all held.2 in
    let same : (x : ℕ) → times x v.known ≡ times x known = λ x. ap (times x) k in
    let parted : (x : ℕ) → times x v.taken ≡ times x (taken ++ left) = λ x. ap (times x) t in (
      (λ x. let a = e.0 x in let b = same x in omega arith),
      λ x. let a = e.1 x in let b = same x in let d = parted x in omega (arith, weigh_append (one x) taken left),
    )

-- two passes together took no more than the numbers
pub fits_in : (v u w : View) (taken more : List ℕ) (room : ℕ) → v ≡ taken_together u w → 0 < u.parts → u.taken ≡ taken → w.taken ≡ more → length u.known ≤ room → ((items : List (Option ℕ)) × SawItems v items) → length taken + length more ≤ room
fits_in v u w taken more room e some_part t m k seen =
    let s = subst (λ z. SawItems z seen.0) e seen.1 in
    let few = seen_few (taken_together u w) seen.0 (omega arith) s in
    let a : length u.taken ≡ length taken = ap length t in
    let b : length w.taken ≡ length more = ap length m in
    omega (arith, length-append u.taken w.taken)

parted : (xs : List ℕ) (j d : ℕ) → j < length xs → take j xs ++ slice_index_or xs j d ∷ drop (suc j) xs ≡ xs
parted [] j d h = absurd (omega arith)
parted (z ∷ zs) zero d h = refl
parted (z ∷ zs) (suc j) d h = ap (λ l. z ∷ l) (parted zs j d (omega arith))

-- a number of the list isn't among those before it
pub not_before : (numbers : List ℕ) (i d : ℕ) → Differ numbers → i < length numbers → times (slice_index_or numbers i d) (take i numbers) ≡ 0
not_before numbers i d differ low =
    let x : ℕ = slice_index_or numbers i d in
    let a = weigh_append (one x) (take i numbers) (x ∷ drop (suc i) numbers) in
    let b : times x (take i numbers ++ x ∷ drop (suc i) numbers) ≡ times x numbers = ap (times x) (parted numbers i d low) in
    let c = counts_itself x in
    let m = differ x in
    omega arith

-- a queue with room for all numbers and ends isn't full before the last
pub never_full : (known : List ℕ) (due room : ℕ) (v : View) → v ≡ whole known due → length known + due < room → Held room (SawItems v) → ⊥
never_full known due room v e wide held =
    let seen = subst (λ z. SawItems z held.0) e held.2 in
    let few = seen_few (whole known due) held.0 (omega arith) seen in
    let ends = seen_due (whole known due) held.0 refl seen in
    let all = held.1 in
    let both = length_in held.0 in
    omega arith

-- a pass that took nothing puts an end, or a number before it puts an end
pub puts_item : (room place : ℕ) (known : List ℕ) (due : ℕ) (v : View) (item : Option ℕ) → v ≡ whole known due → IfSome item (λ x. (due ≡ 0) × (times x known ≡ 0)) → Pushes Kept room place v item (λ w. w ≡ put v item)
puts_item room place known due v None e h = puts_end room place v (ap (λ (u : View). u.parts) e)
puts_item room place known due v (Some x) e h = puts room place v x (ap (λ (u : View). u.parts) e) (ap (λ (u : View). u.due) e ∙ h.0) (ap (λ (u : View). u.ended) e) (ap (λ (u : View). times x u.known) e ∙ h.1)

pub parts_snoc : (ps : List RoundPass) (p : RoundPass) → total_parts (ps ++ p ∷ []) ≡ total_parts ps + parts p
parts_snoc [] p = omega arith
parts_snoc (q ∷ qs) p = let e = parts_snoc qs p in omega arith

pub times_snoc : (x : ℕ) (ps : List RoundPass) (p : RoundPass) → times_taken x (ps ++ p ∷ []) ≡ times_taken x ps + times x (taken p)
times_snoc x [] p = omega arith
times_snoc x (q ∷ qs) p = let e = times_snoc x qs p in omega arith

pub numbers_snoc : (ps : List RoundPass) (p : RoundPass) → numbers_of (ps ++ p ∷ []) ≡ known p
numbers_snoc [] p = refl
numbers_snoc (q ∷ []) p = refl
numbers_snoc (q ∷ r ∷ qs) p = numbers_snoc (r ∷ qs) p

pub times_joined : (x : ℕ) (xs ys : List ℕ) → times x (xs ++ ys) ≡ times x xs + times x ys
times_joined x xs ys = weigh_append (one x) xs ys

pub none_took : (x : ℕ) (ps : List RoundPass) → length ps ≡ 0 → times_taken x ps ≡ 0
none_took x [] e = refl
none_took x (p ∷ ps) e = absurd (omega arith)

pub dealt_as : (numbers taken numbers' taken' left : List ℕ) → numbers ≡ numbers' → taken ≡ taken' → IsDealt numbers taken left → IsDealt numbers' taken' left
dealt_as numbers taken numbers' taken' left e f h = subst (λ (z : List ℕ × List ℕ). IsDealt z.0 z.1 left) (λ i. (e i, f i)) h

or_swap : (a b c : Bool) → (a || (b || c)) ≡ (b || (a || c))
or_swap true true c = refl
or_swap true false c = refl
or_swap false true c = refl
or_swap false false c = refl

pub or_none : (b : Bool) → (b || false) ≡ b
or_none true = refl
or_none false = refl

pub ended_snoc : (ps : List RoundPass) (p : RoundPass) → any_ended (ps ++ p ∷ []) ≡ (ended p || any_ended ps)
ended_snoc [] p = refl
ended_snoc (q ∷ qs) p = ap (λ b. ended q || b) (ended_snoc qs p) ∙ or_swap (ended q) (ended p) (any_ended qs)

pub none_ended : (ps : List RoundPass) → length ps ≡ 0 → any_ended ps ≡ false
none_ended [] e = refl
none_ended (p ∷ ps) e = absurd (omega arith)

last_known : (ps : List RoundPass) → 0 < length ps → (j : ℕ) × (q : RoundPass) × (slice_get ps j ≡ Some q) × (numbers_of ps ≡ known q)
last_known [] low = absurd (omega arith)
last_known (p ∷ []) low = (0, p, refl, refl)
last_known (p ∷ q ∷ ps) low = let l = last_known (q ∷ ps) (omega arith) in (suc l.0, l.1, l.2, l.3)

pub numbers_are_known : NumbersAreKnown
numbers_are_known ps i p agreed at =
    let within = slice_get_within ps i p at in
    let l = last_known ps (omega arith) in
    agreed i l.0 p l.1 at l.2 ∙ sym l.3
