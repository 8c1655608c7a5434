-- The rule of the eight classes of five signs is that the direction is strictly on the arc.
use Rattle.law_geometry.proofs.sphere.cyclic.Prelude.{ℤ, Bool, sym, subst, ◌↔◌, between_signs, Vector, dot, triple, IsDirection, SameDirection, IsOnCircle, IsStrictlyOn, self-pos, SameDirection-turned}
use lib.Dec.{T}
use Rattle.law_geometry.proofs.sphere.cyclic.Signs.{sgn, is_zero, is_plus, is_not, both, rule, cases_from_test, test_from_cases, plus_is, is_plus_if, zero_is, is_zero_if, both_left, both_right, both_of, not_of, not_is, Related, between_is_rule}
use Rattle.law_geometry.proofs.sphere.cyclic.Planar.{turn_law, along_law, parallel_from_turn, turn_from_parallel, turn_or_dot}

-- a normal and three directions on its circle
pub record Setting (n s t d : Vector) : Type 0 where
  pub normal : IsDirection n
  pub source : IsOnCircle n s
  pub target : IsOnCircle n t
  pub passed : IsOnCircle n d

pub related : (n s t d : Vector) → Setting n s t d → Related (triple n s t) (dot s t) (triple n s d) (dot s d) (triple n d t) (dot d t) (dot s s) (dot n n)
related n s t d g =
    let hn = self-pos n g.normal in let hs = self-pos s g.source.direction in
    let ht = self-pos t g.target.direction in let hd = self-pos d g.passed.direction in
    record {
      s_positive = hs;
      n_positive = hn;
      turn = turn_law n s t d g.source.level;
      along = along_law n s t d g.source.level g.target.level g.passed.level;
      target_not_both = turn_or_dot n s t hn hs ht g.source.level g.target.level;
      passed_not_both = turn_or_dot n s d hn hs hd g.source.level g.passed.level;
    }

-- the rule of the six signs of three directions a, b and c: b is passed from a to c
abbrev pub passes_test : Vector → Vector → Vector → Vector → Bool
passes_test n a b c = rule (sgn (triple n a c)) (sgn (dot a c)) (sgn (triple n a b)) (sgn (dot a b)) (sgn (triple n b c)) (sgn (dot b c))

-- that two directions are the same
abbrev pub same_test : ℤ → ℤ → Bool
same_test turn along = both (is_zero turn) (is_plus along)

abbrev pub is_same : Vector → Vector → Vector → Bool
is_same n a b = same_test (sgn (triple n a b)) (sgn (dot a b))

pub same_is : (n a b : Vector) → IsDirection n → IsOnCircle n a → IsOnCircle n b → T (is_same n a b) → SameDirection a b
same_is n a b h p q t = record {
  parallel = parallel_from_turn n a b (self-pos n h) p.level q.level (zero_is _ (both_left (is_zero (sgn (triple n a b))) (is_plus (sgn (dot a b))) t));
  forward = plus_is _ (both_right (is_zero (sgn (triple n a b))) (is_plus (sgn (dot a b))) t);
}

pub is_same_if : (n a b : Vector) → SameDirection a b → T (is_same n a b)
is_same_if n a b h = both_of _ _ (is_zero_if _ (turn_from_parallel n a b h.parallel)) (is_plus_if _ h.forward)

pub strict_from_rule : (n s t d : Vector) → Setting n s t d → T (passes_test n s d t) → IsStrictlyOn n s t d
strict_from_rule n s t d g h =
    let first = both_left (is_not (is_same n s d)) _ h in
    let rest = both_right (is_not (is_same n s d)) _ h in
    let second = both_left (is_not (is_same n d t)) _ rest in
    let cases = cases_from_test (triple n s t) (dot s t) (triple n s d) (triple n d t) (both_right (is_not (is_same n d t)) _ rest) in
    record {
      on_circle = g.passed;
      not_source = λ k. not_is _ first (is_same_if n s d k);
      not_target = λ k. not_is _ second (is_same_if n d t (SameDirection-turned t d k));
      less_than_half = cases.less;
      more_than_half = cases.more;
      just_half = λ k. cases.half (turn_from_parallel n s t k.parallel) k.backward;
    }

pub rule_from_strict : (n s t d : Vector) → Setting n s t d → IsStrictlyOn n s t d → T (passes_test n s d t)
rule_from_strict n s t d g h =
    both_of (is_not (is_same n s d)) _ (not_of _ (λ k. h.not_source (same_is n s d g.normal g.source g.passed k)))
    (both_of (is_not (is_same n d t)) _ (not_of _ (λ k. h.not_target (SameDirection-turned d t (same_is n d t g.normal g.passed g.target k))))
    (test_from_cases (triple n s t) (dot s t) (triple n s d) (triple n d t) ((related n s t d g).target_not_both)
    (record {
      less = h.less_than_half;
      more = h.more_than_half;
      half = λ e k. h.just_half (record { parallel = parallel_from_turn n s t (self-pos n g.normal) g.source.level g.target.level e; backward = k });
    })))

pub strictly_on_is : (n s t d : Vector) → Setting n s t d →
    T (between_signs (sgn (triple n s t)) (sgn (dot s t)) (sgn (triple n s d)) (sgn (dot s d)) (sgn (triple n d t))) ↔ IsStrictlyOn n s t d
strictly_on_is n s t d g =
    let e = between_is_rule _ _ _ _ _ _ _ _ (related n s t d g) in
    (λ h. strict_from_rule n s t d g (subst T e h), λ h. subst T (sym e) (rule_from_strict n s t d g h))
