-- Lists of results that are there.
use Rattle.nef_sched.proofs.Prelude.{◌≡◌, ℕ, zero, suc, ◌+◌, ◌<◌, List, [], ◌∷◌, ◌++◌, length, refl, ap, sym, ◌∙◌, arith, ◌⊎◌, inl, inr, Option, Some, None, slice_get, slice_set, slice_index_or, All, IfSome, IsSomeAnd, true, false, subst, option_map, is_some, is_err, OnOk, Result, Ok, Err, length-append, length-set, RoundPass, times, flat, kept, IsKept, IsReady, AreSound, AreReady, HasWorked, parts, total_parts, total_worked}
use Rattle.std.specs.Prelude.{◌≤◌}
use Rattle.nef_sched.proofs.Totals.{counts, counts_itself}
use Rattle.nef_core.proofs.Places.{same_or_not}
use Rattle.std.proofs.lemmas.Option.{same_Some}

none_differs : {X : Type 0} (x : X) → None ≡ Some x → ⊥
none_differs x e = cc

module _ {X : Type 0} where
  -- where nothing is there no result is kept
  pub none_kept : (list : List (Option X)) → ((k : ℕ) (x : X) → slice_get list k ≡ Some (Some x) → ⊥) → (k : ℕ) → kept list k ≡ None
  none_kept list none k = of (slice_get list k) (none k)
    where
      of : (o : Option (Option X)) → ((x : X) → o ≡ Some (Some x) → ⊥) → flat o ≡ None
      of None h = refl
      of (Some None) h = refl
      of (Some (Some x)) h = absurd (h x refl)

  pub sound_none : (size : ℕ) (fits : ℕ → X → Type 0) (list : List (Option X)) → length list ≡ size → ((k : ℕ) → kept list k ≡ None) → AreSound size fits list
  sound_none size fits list len none = (len, λ i out e. absurd (none_differs out (sym (none i) ∙ e)))

  -- the place j gets a result
  kept_set : (list : List (Option X)) (j : ℕ) (new : X) (i : ℕ) (out : X) → kept (slice_set list j (Some new)) i ≡ Some out → ((i ≡ j) × (new ≡ out)) ⊎ (kept list i ≡ Some out)
  kept_set [] j new i out e = inr e
  kept_set (x ∷ xs) zero new zero out e = inl (refl, same_Some new out e)
  kept_set (x ∷ xs) zero new (suc i) out e = inr e
  kept_set (x ∷ xs) (suc j) new zero out e = inr e
  kept_set (x ∷ xs) (suc j) new (suc i) out e = elim (kept_set xs j new i out e) [ inl q ↦ inl (ap suc q.0, q.1) | inr q ↦ inr q ]

  pub sound_set : (size : ℕ) (fits : ℕ → X → Type 0) (list : List (Option X)) (j : ℕ) (new : X) → fits j new → AreSound size fits list → AreSound size fits (slice_set list j (Some new))
  sound_set size fits list j new f s =
      (length-set list j (Some new) ∙ s.0, λ i out e. elim (kept_set list j new i out e) [ inl q ↦ subst (λ (z : ℕ × X). fits z.0 z.1) (λ t. (sym q.0 t, q.1 t)) f | inr q ↦ s.1 i out q ])

  pub still_set : (list : List (Option X)) (j : ℕ) (new : X) (k : ℕ) → IsKept list k → IsKept (slice_set list j (Some new)) k
  still_set [] j new k h = h
  still_set (x ∷ xs) zero new zero h = (new, refl)
  still_set (x ∷ xs) zero new (suc k) h = h
  still_set (x ∷ xs) (suc j) new zero h = h
  still_set (x ∷ xs) (suc j) new (suc k) h = still_set xs j new k h

  -- it is there then
  pub kept_here : (list : List (Option X)) (j : ℕ) (new : X) → j < length list → IsKept (slice_set list j (Some new)) j
  kept_here [] j new h = absurd (omega arith)
  kept_here (x ∷ xs) zero new h = (new, refl)
  kept_here (x ∷ xs) (suc j) new h = kept_here xs j new (omega arith)

  -- a result that is found is kept
  pub kept_found : {Y : Type 0} (f : Y → X) (o : Option Y) (list : List (Option X)) (k : ℕ) → option_map f o ≡ kept list k → is_some o ≡ true → IsKept list k
  kept_found f None list k e is = absurd (let g : false ≡ true = is in cc)
  kept_found f (Some y) list k e is = (f y, sym e)

  and_fits : (size : ℕ) (fits : ℕ → X → Type 0) (list : List (Option X)) → AreSound size fits list → (k : ℕ) → IsKept list k → IsSomeAnd (kept list k) (fits k)
  and_fits size fits list s k h = rw h.1 (s.1 k h.0 h.1)

  was_kept : (P : X → Type 0) (o : Option X) → IsSomeAnd o P → (out : X) × (o ≡ Some out)
  was_kept P None h = absurd h
  was_kept P (Some out) h = (out, refl)

  -- what is needed is there, and fits
  pub ready_of : (size : ℕ) (fits : ℕ → X → Type 0) (first second : Option ℕ) (list : List (Option X)) → AreSound size fits list → IfSome first (IsKept list) → IfSome second (IsKept list) → IsReady fits first second list
  ready_of size fits first second list s a b = (each first a, each second b)
    where
      each : (need : Option ℕ) → IfSome need (IsKept list) → IfSome need (λ k. IsSomeAnd (kept list k) (fits k))
      each None h = h
      each (Some k) h = and_fits size fits list s k h

  ready_still : (size : ℕ) (fits : ℕ → X → Type 0) (first second : Option ℕ) (old new : List (Option X)) → AreSound size fits new → ((k : ℕ) → IsKept old k → IsKept new k) → IsReady fits first second old → IsReady fits first second new
  ready_still size fits first second old new s still r = ready_of size fits first second new s (each first r.0) (each second r.1)
    where
      each : (need : Option ℕ) → IfSome need (λ k. IsSomeAnd (kept old k) (fits k)) → IfSome need (IsKept new)
      each None h = h
      each (Some k) h = still k (was_kept (fits k) (kept old k) h)

  -- what work leaves: after none, after one work and another, and where one number's result is kept
  pub worked_none : (size : ℕ) (fits : ℕ → X → Type 0) (list : List (Option X)) → AreSound size fits list → HasWorked size fits list list
  worked_none size fits list s = record { sound = s; still = λ k h. h }

  pub worked_both : (size : ℕ) (fits : ℕ → X → Type 0) (a b c : List (Option X)) → HasWorked size fits a b → HasWorked size fits b c → HasWorked size fits a c
  worked_both size fits a b c m n = record { sound = n.sound; still = λ k h. n.still k (m.still k h) }

  pub worked_set : (size : ℕ) (fits : ℕ → X → Type 0) (list : List (Option X)) (j : ℕ) (new : X) → fits j new → AreSound size fits list → HasWorked size fits list (slice_set list j (Some new))
  worked_set size fits list j new f s = record { sound = sound_set size fits list j new f s; still = still_set list j new }

  -- numbers that have what they need have it after work
  pub ready_after : (size : ℕ) (fits : ℕ → X → Type 0) (first second : ℕ → Option ℕ) (numbers : List ℕ) (old new : List (Option X)) → AreReady size fits first second numbers old → HasWorked size fits old new → AreReady size fits first second numbers new
  ready_after size fits first second numbers old new r w = record { sound = w.sound; each = λ k d low. let e = r.each k d low in (e.0, ready_still size fits (first _) (second _) old new w.sound w.still e.1) }

  mid : (ys rest : List (Option X)) (o : Option X) → kept (ys ++ o ∷ rest) (length ys) ≡ o
  mid [] rest o = refl
  mid (y ∷ ys) rest o = mid ys rest o

  -- where every number has its result, a list of results is nowhere empty
  pub slot_holds : (list ys rest : List (Option X)) (o : Option X) → list ≡ ys ++ o ∷ rest → ((k : ℕ) → k < length list → IsKept list k) → o ≡ None → ⊥
  slot_holds list ys rest o e all n =
      let m : length list ≡ length (ys ++ o ∷ rest) = ap length e in
      let h = all (length ys) (omega (arith, length-append ys (o ∷ rest))) in
      none_differs h.0 (sym n ∙ sym (mid ys rest o) ∙ ap (λ (z : List (Option X)). kept z (length ys)) (sym e) ∙ h.1)

  -- what stands at a place is kept for its number
  pub slot_kept : (list ys rest : List (Option X)) (o : Option X) → list ≡ ys ++ o ∷ rest → kept list (length ys) ≡ o
  slot_kept list ys rest o e = ap (λ (z : List (Option X)). kept z (length ys)) e ∙ mid ys rest o

  pub pushed_fits : (P : ℕ → X → Type 0) (outs : List X) (new : X) → ((i : ℕ) (out : X) → slice_get outs i ≡ Some out → P i out) → P (length outs) new → (i : ℕ) (out : X) → slice_get (outs ++ new ∷ []) i ≡ Some out → P i out
  pushed_fits P [] new h f zero out e = subst (P 0) (same_Some new out e) f
  pushed_fits P [] new h f (suc i) out e = absurd (none_differs out e)
  pushed_fits P (x ∷ xs) new h f zero out e = h 0 out e
  pushed_fits P (x ∷ xs) new h f (suc i) out e = pushed_fits (λ k. P (suc k)) xs new (λ k o q. h (suc k) o q) f i out e

-- passes come back with the parts that they had
pub parts_same : {Y : Type 0} (ps : List RoundPass) (ws : List (RoundPass × Y)) → length ws ≡ length ps
    → ((i : ℕ) (d : RoundPass × Y) (e : RoundPass) → i < length ps → parts (slice_index_or ws i d).0 ≡ parts (slice_index_or ps i e)) → total_worked ws ≡ total_parts ps
parts_same [] [] l h = refl
parts_same [] (w ∷ ws) l h = absurd (omega arith)
parts_same (p ∷ ps) [] l h = absurd (omega arith)
parts_same (p ∷ ps) (w ∷ ws) l h =
    let a : parts w.0 ≡ parts p = h 0 w p (omega arith) in
    let b = parts_same ps ws (omega arith) (λ i d e low. h (suc i) d e (omega arith)) in
    omega arith

pub worked_snoc : {Y : Type 0} (ws : List (RoundPass × Y)) (w : RoundPass × Y) → total_worked (ws ++ w ∷ []) ≡ total_worked ws + parts w.0
worked_snoc [] w = omega arith
worked_snoc (v ∷ vs) w = let e = worked_snoc vs w in omega arith

-- after a call that made room there is room for one more
pub room_of : {A B : Type 0} (r : Result A B) (used room : ℕ) → is_err r ≡ false → OnOk r (used + 1 ≤ room) → used < room
room_of (Ok a) used room is h = omega arith
room_of (Err e) used room is h = absurd (let g : true ≡ false = is in cc)

-- what holds of all holds of a number that is among them
pub all_in : (P : ℕ → Type 0) (xs : List ℕ) (x : ℕ) → times x xs ≡ 1 → All P xs → P x
all_in P [] x e h = absurd (omega arith)
all_in P (y ∷ ys) x e h = elim (counts y x) [
  | inl q ↦ subst P q.0 (h 0 y (omega arith))
  | inr q ↦ all_in P ys x (omega arith) (λ k d low. h (suc k) d (omega arith))
]

-- what holds below n and at n holds below its successor
pub all_next : (P : ℕ → Type 0) (n : ℕ) → ((k : ℕ) → k < n → P k) → P n → (k : ℕ) → k < n + 1 → P k
all_next P n below at k low = elim (same_or_not k n) [ inl e ↦ subst P (sym e) at | inr d ↦ below k (omega arith) ]

-- within the list it doesn't matter what is read behind it
pub any_default : (xs : List ℕ) (k d : ℕ) → k < length xs → slice_index_or xs k d ≡ slice_index_or xs k 0
any_default [] k d low = absurd (omega arith)
any_default (x ∷ xs) zero d low = refl
any_default (x ∷ xs) (suc k) d low = any_default xs k d (omega arith)

-- what stands in the list
pub times_at : (xs : List ℕ) (i d : ℕ) → i < length xs → 0 < times (slice_index_or xs i d) xs
times_at [] i d low = absurd (omega arith)
times_at (x ∷ xs) zero d low = let e = counts_itself x in omega arith
times_at (x ∷ xs) (suc i) d low = let h = times_at xs i d (omega arith) in omega arith
