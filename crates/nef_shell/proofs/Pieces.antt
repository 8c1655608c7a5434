-- A command has one piece, and the text in it tells its set.
use Rattle.nef_shell.proofs.Prelude.{◌≡◌, ℕ, refl, ap, sym, ◌∙◌, subst, List, [], ◌∷◌, ◌++◌, length, codes, append_assoc, append_cancel_left, append_cancel_right, SameSet, Set, label-one, point_of, vector_of, TextVersion, text, Node, node_set, Command, Bind, Has, Joined, Ray, Same, Count, Print, framed, line_end, answer_of, IsWrittenOf, same-texts, counted-one, text-spells, text-holds, IsPiece, IsOutput, printed}
use Rattle.nef_script.specs.declared.script.Command.TheVariants.{Turn}
use Rattle.nef_statement.proofs.Answered.{answered-one, joined-one, ended-one}
use Rattle.nef_shell.specs.Prints.{IsPrinted, AreTextsCompared, AreTextsMeant}
use Rattle.nef_shell.specs.Written.{TextTells}
use Rattle.law_geometry.proofs.near.SameSets.{same-self}

-- the text of a set spells the complex that shows it, and tells which points belong to it
pub text-tells : (version : TextVersion) (s : Set) (x : List ℕ) → IsWrittenOf s (text version) x → TextTells version s x
text-tells version s x is = record { spelled = text-spells version s x is; holds = λ d y spells inside. text-holds version s x d y is spells inside }

pub printed-one : (version : TextVersion) (s t : Set) (name x y : List ℕ) → SameSet s t → IsWrittenOf s (printed version name) x → IsWrittenOf t (printed version name) y → x ≡ y
printed-one version s t name x y same (c, p, S, P, e) (d, q, T, Q, f) =
    e ∙ ap (framed name) ((same-texts version s t (text version c p) (text version d q) (c, p, S, P, refl) (d, q, T, Q, refl)).1 same) ∙ sym f

piece-one : (version : TextVersion) (nodes : List Node) (c : Command) (x y : List ℕ) → IsPiece version nodes c x → IsPiece version nodes c y → x ≡ y
piece-one version nodes (Bind _ k) x y a b = a ∙ sym b
piece-one version nodes (Turn _ k i t) x y a b = a ∙ sym b
piece-one version nodes (Has _ k p) x y (l, has, e) (m, also, f) = e ∙ ap answer_of (label-one (node_set nodes k) (point_of p) l m has also) ∙ sym f
piece-one version nodes (Joined _ k p q) x y a b = joined-one (node_set nodes k) (point_of p) (point_of q) x y a b
piece-one version nodes (Ray _ k p d) x y a b = ended-one (node_set nodes k) (point_of p) (vector_of d) x y a b
piece-one version nodes (Same _ i j) x y a b = answered-one (node_set nodes i) (node_set nodes j) x y a b
piece-one version nodes (Count _ k) x y a b = counted-one (node_set nodes k) (node_set nodes k) x y (same-self (node_set nodes k)) a b
piece-one version nodes (Print _ k name) x y a b = printed-one version (node_set nodes k) (node_set nodes k) name x y (same-self (node_set nodes k)) a b

output-one : (version : TextVersion) (nodes : List Node) (cs : List Command) (x y : List ℕ) → IsOutput version nodes cs x → IsOutput version nodes cs y → x ≡ y
output-one version nodes [] x y a b = a ∙ sym b
output-one version nodes (c ∷ cs) x y (u, v, first, rest, whole) (u', v', first', rest', whole') =
    whole ∙ ap (λ z. z ++ v) (piece-one version nodes c u u' first first') ∙ ap (λ z. u' ++ z) (output-one version nodes cs v v' rest rest') ∙ sym whole'

-- the piece of a command among others
record HasPiece (version : TextVersion) (nodes : List Node) (front : List Command) (c : Command) (back : List Command) (output : List ℕ) : Type 0 where
  before : List ℕ
  piece : List ℕ
  after : List ℕ
  first : IsOutput version nodes front before
  is : IsPiece version nodes c piece
  last : IsOutput version nodes back after
  whole : output ≡ before ++ piece ++ after

output-split : (version : TextVersion) (nodes : List Node) (front : List Command) (c : Command) (back : List Command) (output : List ℕ) → IsOutput version nodes (front ++ c ∷ back) output → HasPiece version nodes front c back output
output-split version nodes [] c back output (u, v, first, rest, whole) =
    record { before = []; piece = u; after = v; first = refl; is = first; last = rest; whole = whole }
output-split version nodes (d ∷ front) c back output (u, v, first, rest, whole) =
    let h = output-split version nodes front c back v rest in
    record {
      before = u ++ h.before;
      piece = h.piece;
      after = h.after;
      first = (u, h.before, first, h.first, refl);
      is = h.is;
      last = h.last;
      whole = whole ∙ ap (λ z. u ++ z) h.whole ∙ sym (append_assoc u (h.before ++ h.piece) h.after) ∙ ap (λ z. z ++ h.after) (sym (append_assoc u h.before h.piece));
    }

-- what stands between the lines
between-lines : (name x y : List ℕ) → framed name x ≡ framed name y → x ≡ y
between-lines name x y e =
    let head = codes "polyhedron " ++ name ++ line_end in
    let before_end = append_cancel_right (head ++ x ++ codes "end") (head ++ y ++ codes "end") line_end e in
    append_cancel_left head x y (append_cancel_right (head ++ x) (head ++ y) (codes "end") before_end)

-- the text in the place of a command that prints is the text of its set
printed-written : (version : TextVersion) (nodes : List Node) (commands : List Command) (output : List ℕ) (i k : ℕ) (x : List ℕ) → IsOutput version nodes commands output → IsPrinted version nodes commands output i k x → IsWrittenOf (node_set nodes k) (text version) x
printed-written version nodes commands output i k x is p =
    let h = output-split version nodes p.front (Print p.line k p.name) p.back output (subst (λ z. IsOutput version nodes z output) p.command is) in
    let (c, q, S, Q, e) = h.is in
    let before = output-one version nodes p.front p.before h.before p.first h.first in
    let after = output-one version nodes p.back p.after h.after p.last h.last in
    let whole : p.before ++ framed p.name x ++ p.after ≡ p.before ++ h.piece ++ p.after =
    sym p.whole ∙ h.whole ∙ ap (λ z. z ++ h.piece ++ h.after) (sym before) ∙ ap (λ z. p.before ++ h.piece ++ z) (sym after) in
    let piece = append_cancel_left p.before (framed p.name x) h.piece (append_cancel_right (p.before ++ framed p.name x) (p.before ++ h.piece) p.after whole) in
    (c, q, S, Q, between-lines p.name x (text version c q) (piece ∙ e))

-- a command that prints has its text
has-printed : (version : TextVersion) (nodes : List Node) (commands : List Command) (output : List ℕ) → IsOutput version nodes commands output → (front back : List Command) (number k : ℕ) (name : List ℕ) → commands ≡ front ++ Print number k name ∷ back
    → (x : List ℕ) × IsPrinted version nodes commands output (length front) k x
has-printed version nodes commands output is front back number k name at =
    let h = output-split version nodes front (Print number k name) back output (subst (λ z. IsOutput version nodes z output) at is) in
    let (c, q, S, Q, e) = h.is in (
      text version c q,
      record {
        front = front;
        back = back;
        line = number;
        name = name;
        before = h.before;
        after = h.after;
        place = refl;
        command = at;
        first = h.first;
        last = h.last;
        whole = h.whole ∙ ap (λ z. h.before ++ z ++ h.after) e;
      },
    )

pub texts-compared : (version : TextVersion) (nodes : List Node) (commands : List Command) (output : List ℕ) → IsOutput version nodes commands output → AreTextsCompared version nodes commands output
texts-compared version nodes commands output is =
    record {
      printed = has-printed version nodes commands output is;
      compared = λ i j k l x y p q.
          same-texts version (node_set nodes k) (node_set nodes l) x y (printed-written version nodes commands output i k x is p) (printed-written version nodes commands output j l y is q);
    }

pub texts-meant : (version : TextVersion) (nodes : List Node) (commands : List Command) (output : List ℕ) → IsOutput version nodes commands output → AreTextsMeant version nodes commands output
texts-meant version nodes commands output is i k x p = text-tells version (node_set nodes k) x (printed-written version nodes commands output i k x is p)
