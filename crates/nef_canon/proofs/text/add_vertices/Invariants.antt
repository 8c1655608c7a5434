use Rattle.nef_canon.proofs.Prelude.{◌≡◌, ◌++◌, take, flat_map, vertex_text, sface_line, with_rows}
use Rattle.nef_canon.proofs.Lines.{versioned}
use Rattle.nef_canon.proofs.text.add_vertices.Given as goal

abbrev pub invariant-loop-number : goal.invariant-loop-number
invariant-loop-number l = l.text.items ≡ l.fn.text.items ++ flat_map (versioned vertex_text sface_line l.version) (take l.number (with_rows l.c.vertices l.parts.sface_of))
