-- A value of `--stairs` that words choose is within its limit.
use Rattle.nef_words.proofs.Prelude.{◌≡◌, ℕ, ◌≤◌, refl, sym, ap, ◌∙◌, List, [], Option, Some, None, Bool, true, false, ◌&&◌, nat_le, option_map, option_and_then, most_stairs, BoardKind, TextVersion, is_digits, decimal_value, number_to, stairs_of, option_value, read, all_formed, choice, GivenOptions, Options}
use Rattle.std.proofs.Common.{if◌then◌else◌}
use Rattle.std.specs.Prelude.{codes}
use Rattle.std.proofs.lemmas.Bool.{and_parts, leb-true}
use Rattle.nef_words.specs.Grammar.{options_in}

formed-stairs : (a : Option ℕ) (b : Option BoardKind) (s : Option (Option ℕ)) (t : Option TextVersion) (h : Bool) (o : Options) → all_formed a b s t h ≡ Some o → s ≡ Some o.stairs
formed-stairs (Some a) (Some b) (Some s) (Some t) h o e =
    let made : Options = record { how = record { workers = a; board = b }; stairs = s; text = t; ahead = h } in
    let f : made ≡ o = cc in
    ap (λ (q : Options). Some q.stairs) f
formed-stairs None b s t h o e = cc
formed-stairs (Some a) None s t h o e = cc
formed-stairs (Some a) (Some b) None t h o e = cc
formed-stairs (Some a) (Some b) (Some s) None h o e = cc

number-within : (most v n : ℕ) (digits : Bool) → (if digits && nat_le 1 v && nat_le v most then Some v else None) ≡ Some n → (1 ≤ n) × (n ≤ most)
number-within most v n digits e = by (digits && nat_le 1 v && nat_le v most) refl
  where
    by : (c : Bool) → (digits && nat_le 1 v && nat_le v most) ≡ c → (1 ≤ n) × (n ≤ most)
    by true f =
        let is : Some v ≡ Some n = sym (ap (λ z. if z then Some v else None) f) ∙ e in
        let same : v ≡ n = cc in
        let (front, high) = and_parts (digits && nat_le 1 v) (nat_le v most) f in
        let low = (and_parts digits (nat_le 1 v) front).1 in
        rw (← same) (leb-true 1 v low, leb-true v most high)
    by false f = let odd : None ≡ Some n = sym (ap (λ z. if z then Some v else None) f) ∙ e in cc

value-within : (v : Option (List ℕ)) (n : ℕ) → stairs_of v ≡ Some (Some n) → (1 ≤ n) × (n ≤ most_stairs)
value-within None n e = cc
value-within (Some text) n e = by (number_to most_stairs text) refl
  where
    by : (c : Option ℕ) → number_to most_stairs text ≡ c → (1 ≤ n) × (n ≤ most_stairs)
    by None f = let odd : None ≡ Some (Some n) = sym (ap (option_map (λ (m : ℕ). Some m)) f) ∙ e in cc
    by (Some m) f =
        let is : Some (Some m) ≡ Some (Some n) = sym (ap (option_map (λ (m : ℕ). Some m)) f) ∙ e in
        let same : Some m ≡ Some n = cc in
        number-within most_stairs (decimal_value text) n (is_digits text) (f ∙ same)

pub stairs-within : (words : List (List ℕ)) (o : Options) (n : ℕ) → options_in words ≡ Some o → o.stairs ≡ Some n → (1 ≤ n) × (n ≤ most_stairs)
unfolding options_in
stairs-within words o n is stairs = by (read None [] words) refl
  where
    by : (g : Option GivenOptions) → read None [] words ≡ g → (1 ≤ n) × (n ≤ most_stairs)
    by None f = let odd : None ≡ Some o = sym (ap (option_and_then choice) f) ∙ is in cc
    by (Some given) f =
        let chosen : choice given ≡ Some o = sym (ap (option_and_then choice) f) ∙ is in
        value-within (option_value (codes "stairs") given) n (formed-stairs _ _ _ _ _ o chosen ∙ ap (λ (s : Option ℕ). Some s) stairs)
