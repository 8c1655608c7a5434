-- The first refusals of short scripts, by computation.
use Rattle.nef_script.proofs.Prelude.{ℕ, List, codes, refl, arith, lit≤, None, RefusalAt, NoneRefused, FirstRefusal, UnknownCommandExample, WordCountExample, BadNameExample, NameTakenExample, UnknownNameExample, OwnNameExample, NotANumberExample, ZeroNormalExample, BadModeExample, OutOfRangeExample, BadWeightExample, ZeroDirectionExample, LongDirectionExample, FarPointExample, FirstLineExample, AcceptedExample}
use Rattle.nef_script.proofs.LineByLine.{passes_more}
use Rattle.nef_script.specs.declared.script.ScriptKind.TheVariants as kind

none_before : (lines : List (List ℕ)) → NoneRefused lines 0
none_before lines m below = absurd (omega arith)

after_first : (lines : List (List ℕ)) → RefusalAt lines 0 None → NoneRefused lines 1
after_first lines first = passes_more lines 0 (none_before lines) first

pub unknown_command : UnknownCommandExample
unknown_command = FirstRefusal.at_line 0 kind.UnknownCommand (lit≤ tt) (codes "ball A", refl, refl) (none_before _)

pub word_count : WordCountExample
word_count = FirstRefusal.at_line 0 kind.WordCount (lit≤ tt) (codes "half A 1 0 0 closed", refl, refl) (none_before _)

pub bad_name : BadNameExample
bad_name = FirstRefusal.at_line 0 kind.BadName (lit≤ tt) (codes "empty 1A", refl, refl) (none_before _)

pub name_taken : NameTakenExample
name_taken = FirstRefusal.at_line 1 kind.NameTaken (lit≤ tt) (codes "full A", refl, refl) (after_first _ (codes "empty A", refl, refl))

pub unknown_name : UnknownNameExample
unknown_name = FirstRefusal.at_line 0 kind.UnknownName (lit≤ tt) (codes "and C A B", refl, refl) (none_before _)

pub own_name : OwnNameExample
own_name = FirstRefusal.at_line 0 kind.UnknownName (lit≤ tt) (codes "not A A", refl, refl) (none_before _)

pub not_a_number : NotANumberExample
not_a_number = FirstRefusal.at_line 0 kind.NotANumber (lit≤ tt) (codes "half A 1 0 0 1.5 closed", refl, refl) (none_before _)

pub zero_normal : ZeroNormalExample
zero_normal = FirstRefusal.at_line 0 kind.ZeroNormal (lit≤ tt) (codes "half A 0 0 0 5 closed", refl, refl) (none_before _)

pub bad_mode : BadModeExample
bad_mode = FirstRefusal.at_line 0 kind.BadMode (lit≤ tt) (codes "half A 1 0 0 0 shut", refl, refl) (none_before _)

pub out_of_range : OutOfRangeExample
out_of_range = FirstRefusal.at_line 0 kind.OutOfRange (lit≤ tt) (codes "half A 2049 0 0 0 shut", refl, refl) (none_before _)

pub bad_weight : BadWeightExample
bad_weight = FirstRefusal.at_line 1 kind.BadWeight (lit≤ tt) (codes "has A 0 0 0 0", refl, refl) (after_first _ (codes "empty A", refl, refl))

pub zero_direction : ZeroDirectionExample
zero_direction = FirstRefusal.at_line 1 kind.ZeroDirection (lit≤ tt) (codes "ray A 0 0 0 1 0 -0 00", refl, refl) (after_first _ (codes "empty A", refl, refl))

pub long_direction : LongDirectionExample
long_direction = FirstRefusal.at_line 1 kind.OutOfRange (lit≤ tt) (codes "ray A 2097152 0 0 1024 0 0 1025", refl, refl) (after_first _ (codes "empty A", refl, refl))

pub outlying_point : FarPointExample
outlying_point = FirstRefusal.at_line 1 kind.OutOfRange (lit≤ tt) (codes "has A 8796093022209 0 0 1", refl, refl) (after_first _ (codes "empty A", refl, refl))

pub first_line : FirstLineExample
first_line = FirstRefusal.at_line 0 kind.BadMode (lit≤ tt) (codes "half A 1 0 0 0 shut", refl, refl) (none_before _)

pub accepted : AcceptedExample
accepted = record {
  short = lit≤ tt;
  passes = passes_more _ 3 (passes_more _ 2 (passes_more _ 1 (after_first _ (codes "full has # a set", refl, refl)) (codes "", refl, refl)) (codes "  not   N has", refl, refl)) (codes "has N -0 007 0 1", refl, refl);
}
