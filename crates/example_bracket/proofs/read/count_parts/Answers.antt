use Rattle.example_bracket.proofs.Prelude.{sym, subst, HasComponents}
use Rattle.example_bracket.proofs.read.count_parts.Goals as goal

pub returns : goal.returns
returns c = record {
  components = λ s S.
      let k = c.requires.counted s S in
      record {
        vertices = subst (HasComponents s 0) (sym c.len.ensures.len) k.0;
        edges = subst (HasComponents s 1) (sym c.len-2.ensures.len) k.1;
        facets = subst (HasComponents s 2) (sym c.len-3.ensures.len) k.2;
        volumes = subst (HasComponents s 3) (sym c.len-4.ensures.len) k.3;
      };
}
