-- The words of a text: plain, and each told by what it spells.
use Rattle.nef_statement.proofs.text.Prelude.{◌≡◌, ℕ, ℤ, pos, negsuc, zero, suc, ◌+◌, ◌<◌, ◌/◌, ◌%◌, nat_lt, nat_eq, arith, refl, ap, sym, ◌∙◌, Bool, true, false, cond, List, [], ◌∷◌, get_or, Option, Some, None, subst, digits_onto, digit_glyph, decimal, signed_decimal, Label, Out, Not, In, Word, label_word, option_word, numbers}
use Rattle.std.specs.Fmt.{digits}
use Rattle.nef_statement.proofs.text.Lines.{IsPlainWord, ArePlain}

-- ---- numbers, of any size
glyph-plain : (d : ℕ) → 32 < digit_glyph false d
glyph-plain d = by (nat_lt d 10)
  where
    by : (t : Bool) → 32 < cond t (48 + d) (87 + d)
    by true = omega arith
    by false = omega arith

either-plain : (t : Bool) (u v : Word) → IsPlainWord u → IsPlainWord v → IsPlainWord (cond t u v)
either-plain true u v h k = h
either-plain false u v h k = k

digits-plain : (k n : ℕ) (acc : Word) → IsPlainWord acc → IsPlainWord (digits_onto k 10 false n acc)
digits-plain zero n acc h = h
digits-plain (suc k) n acc h =
    let more = digit_glyph false (n % 10) ∷ acc in
    let p : IsPlainWord more = (glyph-plain (n % 10), h) in
    either-plain (nat_eq (n / 10) 0) more (digits_onto k 10 false (n / 10) more) p (digits-plain k (n / 10) more p)

pub spelled : (n : ℕ) → digits_onto 64 10 false n [] ≡ digits 10 false n
unfolding digits
spelled n = refl

pub decimal-plain : (n : ℕ) → IsPlainWord (decimal n)
decimal-plain n = subst IsPlainWord (spelled n) (digits-plain 64 n [] tt)

pub signed-plain : (z : ℤ) → IsPlainWord (signed_decimal z)
signed-plain (pos n) = decimal-plain n
signed-plain (negsuc n) = (omega arith, decimal-plain (suc n))

pub numbers-plain : (ns : List ℕ) → ArePlain (numbers ns)
numbers-plain [] = tt
numbers-plain (n ∷ ns) = (decimal-plain n, numbers-plain ns)

-- ---- labels
pub label-plain : (l : Label) → IsPlainWord (label_word l)
label-plain In = (omega arith, tt)
label-plain Not = (omega arith, tt)
label-plain Out = (omega arith, tt)

pub option-plain : (o : Option Label) → IsPlainWord (option_word o)
option-plain None = (omega arith, tt)
option-plain (Some l) = label-plain l

-- the label that a word spells
abbrev read_label : Word → Label
read_label w = cond (nat_eq (get_or w 0 0) 105) In (cond (nat_eq (get_or w 0 0) 110) Not Out)

abbrev read_option : Word → Option Label
read_option w = cond (nat_eq (get_or w 0 0) 45) None (Some (read_label w))

label-read : (l : Label) → read_label (label_word l) ≡ l
label-read In = refl
label-read Not = refl
label-read Out = refl

option-read : (o : Option Label) → read_option (option_word o) ≡ o
option-read None = refl
option-read (Some In) = refl
option-read (Some Not) = refl
option-read (Some Out) = refl

pub label-one : (l k : Label) → label_word l ≡ label_word k → l ≡ k
label-one l k e = sym (label-read l) ∙ ap read_label e ∙ label-read k

pub option-one : (o p : Option Label) → option_word o ≡ option_word p → o ≡ p
option-one o p e = sym (option-read o) ∙ ap read_option e ∙ option-read p
