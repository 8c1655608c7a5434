use Rattle.nef_edges.proofs.Prelude.{List, map, Result, Ok, Err, IfOk, sym, subst, Edges, vertex_of, edge_of, Edge}
use Rattle.nef_edges.proofs.Joined.{carriers-ordered, all-held, have-ends, shows-set}
use Rattle.nef_edges.proofs.pairing.pair_held.Goals as goal

pub of-requires-clause-ordered : goal.of-requires-clause-ordered
of-requires-clause-ordered c = let V = c.requires.vertices in carriers-ordered V.0 c.args.carriers c.args.vertices V.1

pub of-requires-clause-held : goal.of-requires-clause-held
of-requires-clause-held c =
    let V = c.requires.vertices in
    all-held V.0 c.args.carriers c.args.vertices V.1 c.from_vec.result
    (subst (λ (es : List Edge). Edges (map vertex_of c.args.vertices) (map edge_of es)) (sym c.from_vec.ensures.all) c.requires.edges)

pub of-requires-clause-ends : goal.of-requires-clause-ends
of-requires-clause-ends c =
    let V = c.requires.vertices in
    have-ends V.0 c.args.carriers c.args.vertices V.1 c.from_vec.result
    (subst (λ (es : List Edge). Edges (map vertex_of c.args.vertices) (map edge_of es)) (sym c.from_vec.ensures.all) c.requires.edges)

if-all : {A D : Type 0} (P Q R T : A → Type 0) → ((x : A) → P x → Q x → R x → T x) → (r : Result A D) → IfOk r P → IfOk r Q → IfOk r R → IfOk r T
if-all P Q R T f (Ok x) p q r = f x p q r
if-all P Q R T f (Err e) p q r = tt

pub returns-clause-shows : goal.returns-clause-shows
returns-clause-shows c =
    let E = subst (λ (es : List Edge). Edges (map vertex_of c.args.vertices) (map edge_of es)) (sym c.from_vec.ensures.all) c.requires.edges in
    if-all _ _ _ _ (λ d k f i s V. shows-set s c.args.carriers c.args.vertices V c.from_vec.result E d k.0 k.1 k.2 f i) c.of.result c.of.ensures.kept c.of.ensures.flagged c.of.ensures.indexed
