-- Labels as numbers: -1 for Out, 0 for Not, 1 for In.
use Rattle.std.specs.Prelude.{ℤ, pos, negsuc}
use Rattle.nef_space.specs.declared.label.Label.{Label}
use Rattle.nef_space.specs.declared.label.Label.TheVariants.{Out, Not, In}

abbrev pub label_number : Label → ℤ
label_number Out = negsuc 0
label_number Not = pos 0
label_number In = pos 1
