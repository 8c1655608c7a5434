-- The rows of clap's matches, as the list of what was given.
use Rattle.nef_words.proofs.Prelude.{◌≡◌, ◌∙◌, ◌||◌, Bool, true, false, List, [], ◌∷◌, ◌++◌, Option, Some, None, refl, sym, ap, codes, fold, find, bytes_eq, slice_get, option_and_then, option_map, if◌then◌else◌, list_any, Row, Rule, Text, at_row, more_values, without, has_row, first_of, used, reading_by, with_default, default_fault, CommandLine, option_value, GivenOptions}
use Rattle.clap.specs.Faults.{defaults_fault}
use Rattle.nef_words.proofs.Walked.{rules, valued_rule, ahead_rule, last_rule}

module _ {X : Type 0} (p : X → Bool) where
  pub any_last : (xs : List X) (y : X) → list_any p (xs ++ y ∷ []) ≡ list_any p xs || p y
  any_last [] y = go (p y) refl
    where
      go : (b : Bool) → p y ≡ b → (p y || false) ≡ p y
      go true e = rw e refl
      go false e = rw e refl
  any_last (x ∷ xs) y = go (any_last xs y) (p x) refl
    where
      go : (list_any p (xs ++ y ∷ []) ≡ list_any p xs || p y) → (b : Bool) → p x ≡ b → (p x || list_any p (xs ++ y ∷ [])) ≡ ((p x || list_any p xs) || p y)
      go ih true e = rw e refl
      go ih false e = rw e ih

  pub find_append : (xs ys : List X) → find p (xs ++ ys) ≡ if list_any p xs then find p xs else find p ys
  find_append [] ys = refl
  find_append (x ∷ xs) ys = go (find_append xs ys) (p x) refl
    where
      go : (find p (xs ++ ys) ≡ if list_any p xs then find p xs else find p ys) → (b : Bool) → p x ≡ b → find p (x ∷ xs ++ ys) ≡ if list_any p (x ∷ xs) then find p (x ∷ xs) else find p ys
      go ih true e = rw e refl
      go ih false e = rw e ih

  pub find_none : (xs : List X) → list_any p xs ≡ false → find p xs ≡ None
  find_none [] e = refl
  find_none (x ∷ xs) e = go (find_none xs) (p x) refl
    where
      go : (list_any p xs ≡ false → find p xs ≡ None) → (b : Bool) → p x ≡ b → find p (x ∷ xs) ≡ None
      go ih true t =
          let bad : true ≡ false = rw t at e in
          cc
      go ih false t = rw t (ih (rw t at e))

pub append_nil : {X : Type 0} (xs : List X) → xs ++ [] ≡ xs
append_nil [] = refl
append_nil (x ∷ xs) = ap (λ ys. x ∷ ys) (append_nil xs)

pub absent_row : (id : Text) (change : Row → List Row) (missing rows : List Row) → has_row id rows ≡ false → at_row id change missing rows ≡ rows ++ missing
absent_row id change missing [] e = refl
absent_row id change missing (r ∷ rs) e = go (absent_row id change missing rs) (bytes_eq r.id id) refl
  where
    go : (has_row id rs ≡ false → at_row id change missing rs ≡ rs ++ missing) → (b : Bool) → bytes_eq r.id id ≡ b → at_row id change missing (r ∷ rs) ≡ r ∷ rs ++ missing
    go ih true t =
        let bad : true ≡ false = rw t at e in
        cc
    go ih false t = rw t (ap (λ ys. r ∷ ys) (ih (rw t at e)))

-- a row with one value
abbrev pub row_of : Rule → Text → Text → Row
row_of a id value = record { id = id; values = value ∷ []; count = None; source = Some CommandLine; reading = reading_by a }

pub used_first : (id v : Text) (rows : List Row) → has_row id rows ≡ false → used (valued_rule id) (v ∷ []) rows ≡ rows ++ row_of (valued_rule id) id v ∷ []
used_first id v rows e =
    let gone : without id rows ≡ rows = absent_row id (λ _. []) [] rows e ∙ append_nil rows in
    rw gone (absent_row id (more_values CommandLine (v ∷ [])) (row_of (valued_rule id) id v ∷ []) rows e)

pub ahead_first : (rows : List Row) → has_row (codes "ahead") rows ≡ false → used ahead_rule [] rows ≡ rows ++ row_of ahead_rule (codes "ahead") (codes "true") ∷ []
ahead_first rows e =
    let gone : without (codes "ahead") rows ≡ rows = absent_row (codes "ahead") (λ _. []) [] rows e ∙ append_nil rows in
    rw gone (absent_row (codes "ahead") (more_values CommandLine (codes "true" ∷ [])) (row_of ahead_rule (codes "ahead") (codes "true") ∷ []) rows e)

-- the rows hold what was given
pub record HoldsGiven (rows : List Row) (given : GivenOptions) : Type 0 where
  pub has : (n : Text) → has_row n rows ≡ list_any (λ g. bytes_eq g.0 n) given
  pub first : (n : Text) → first_of n rows ≡ option_value n given

pub holds_nothing : HoldsGiven [] []
holds_nothing = record { has = λ n. refl; first = λ n. refl }

join : (b c : Bool) (x : Option Row) (y : Option (Text × Text)) (r : Row) (g : Text × Text) → option_and_then (λ (z : Row). slice_get z.values 0) x ≡ option_map (λ (z : Text × Text). z.1) y → slice_get r.values 0 ≡ Some g.1
    → option_and_then (λ (z : Row). slice_get z.values 0) (if b then x else (if c then Some r else None)) ≡ option_map (λ (z : Text × Text). z.1) (if b then y else (if c then Some g else None))
join true c x y r g e f = e
join false true x y r g e f = f
join false false x y r g e f = refl

pub holds_more : (rows : List Row) (given : GivenOptions) (a : Rule) (id v : Text) → HoldsGiven rows given → HoldsGiven (rows ++ row_of a id v ∷ []) (given ++ (id, v) ∷ [])
holds_more rows given a id v h = record {
  has = λ n. any_last (λ (r : Row). bytes_eq r.id n) rows (row_of a id v) ∙ ap (λ b. b || bytes_eq id n) (h.has n) ∙ sym (any_last (λ (g : Text × Text). bytes_eq g.0 n) given (id, v));
  first = λ n. rw (find_append (λ (r : Row). bytes_eq r.id n) rows (row_of a id v ∷ []), find_append (λ (g : Text × Text). bytes_eq g.0 n) given ((id, v) ∷ []), h.has n)
      (join (list_any (λ (g : Text × Text). bytes_eq g.0 n) given) (bytes_eq id n) (find (λ (r : Row). bytes_eq r.id n) rows) (find (λ (g : Text × Text). bytes_eq g.0 n) given) (row_of a id v) (id, v) (h.first n) refl);
}

-- ---- defaults
default_valued : (id : Text) (rows : List Row) → (default_fault rows (valued_rule id) ≡ []) × (with_default rows (valued_rule id) ≡ rows)
default_valued id rows = go (has_row id rows) refl
  where
    go : (b : Bool) → has_row id rows ≡ b → (default_fault rows (valued_rule id) ≡ []) × (with_default rows (valued_rule id) ≡ rows)
    go true e = rw e (refl, refl)
    go false e = rw e (refl, refl)

default_last : (rows : List Row) → (default_fault rows last_rule ≡ []) × (with_default rows last_rule ≡ rows)
default_last rows = go (has_row (codes "help") rows) refl
  where
    go : (b : Bool) → has_row (codes "help") rows ≡ b → (default_fault rows last_rule ≡ []) × (with_default rows last_rule ≡ rows)
    go true e = rw e (refl, refl)
    go false e = rw e (refl, refl)

default_ahead : (rows : List Row) → default_fault rows ahead_rule ≡ []
default_ahead rows = go (has_row (codes "ahead") rows) refl
  where
    go : (b : Bool) → has_row (codes "ahead") rows ≡ b → default_fault rows ahead_rule ≡ []
    go true e = rw e refl
    go false e = rw e refl

pub all_defaults : (rows : List Row) → fold with_default rows rules ≡ with_default rows ahead_rule
unfolding rules
all_defaults rows =
    rw ((default_valued (codes "workers") rows).1, (default_valued (codes "board") rows).1, (default_valued (codes "stairs") rows).1, (default_valued (codes "text") rows).1) ((default_last (with_default rows ahead_rule)).1)

pub no_default_fault : (rows : List Row) → defaults_fault rows rules ≡ []
unfolding rules defaults_fault
no_default_fault rows =
    rw (
      (default_valued (codes "workers") rows).0,
      (default_valued (codes "workers") rows).1,
      (default_valued (codes "board") rows).0,
      (default_valued (codes "board") rows).1,
      (default_valued (codes "stairs") rows).0,
      (default_valued (codes "stairs") rows).1,
      (default_valued (codes "text") rows).0,
      (default_valued (codes "text") rows).1,
      default_ahead rows,
      (default_last (with_default rows ahead_rule)).0,
    ) refl
