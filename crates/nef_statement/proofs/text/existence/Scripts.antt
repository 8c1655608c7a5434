-- Sets whose halves are turns of few forms within the limits have complexes of the program.
use Rattle.nef_statement.proofs.text.existence.Prelude.{◌≡◌, ℕ, ◌*◌, ◌^◌, ◌<◌, ◌≤◌, arith, refl, sym, ap, ◌∙◌, inl, inr, ⊎_elim, List, ◌∷◌, ◌++◌, length, length-append, Bool, false, subst, of_z, [], normal_limit, Form, form, normal_of, Set, halves, Lies, lies-left, lies-right, lies-append, frame, form_of, Plane, SamePlane, Triple, turned_plane, turned_set, at_most-turned, is-at_some, AreCarried, IsSmallForm, AreSmallForms, IsTurnOf, AreTurnsOf, EveryTurnedSetIsShown, at-lies}
use Rattle.nef_case.proofs.TurnLemmas.{composition-turns, composed-by_numbers}
use Rattle.law_geometry.proofs.turns.Carriers.{halves-from}
use Rattle.law_geometry.proofs.turns.Vectors.{direction-turned}
use Rattle.nef_statement.proofs.text.existence.Read.{read}
use Rattle.nef_statement.proofs.text.existence.Rows.{Made, make-list}
use Rattle.nef_statement.proofs.text.existence.Shown.{carried-shown}

-- ---- turns of forms
turned-small : (k : ℕ) (f : Form) → IsSmallForm f → IsSmallForm (turned_plane k f)
turned-small k f S = record {
  normal = (direction-turned k (normal_of f)).1 S.normal;
  normal_small = at_most-turned k false normal_limit (normal_of f) S.normal_small;
  offset_small = S.offset_small;
}

-- ---- sets
pub turns-half : (bs : List Form) (f : Form) (c : Bool) → Lies bs f → AreTurnsOf bs (Set.half f c)
turns-half bs f c l g (inl e) = (f, 0, l, omega arith, sym e)
turns-half bs f c l g (inr m) = absurd m

turns-two : (bs fs gs : List Form) → ((f : Form) → Lies fs f → IsTurnOf bs f) → ((f : Form) → Lies gs f → IsTurnOf bs f) → (f : Form) → Lies (fs ++ gs) f → IsTurnOf bs f
turns-two bs fs gs F G f l = ⊎_elim (λ m. F f m) (λ m. G f m) (lies-append fs gs f l)

pub turns-both : (bs : List Form) (s t : Set) → AreTurnsOf bs s → AreTurnsOf bs t → (f : Form) → Lies (halves s ++ halves t) f → IsTurnOf bs f
turns-both bs s t S T = turns-two bs (halves s) (halves t) S T

-- a turn of a turn is a turn
pub turns-turned : (bs : List Form) (k : ℕ) (s : Set) → k < 48 → AreTurnsOf bs s → AreTurnsOf bs (turned_set k s)
turns-turned bs k s l S g m =
    let (h, a, e) = halves-from k s g m in
    let (b, j, c, d, q) = S h a in
    let (i, w, q2) = composition-turns k j l d in
    let C = composed-by_numbers i k j q2 in
    (b, i, c, w, e ∙ ap (turned_plane k) q ∙ sym (ap (λ (t : Triple). form t.0 t.1 t.2 b.d) (C (b.a, b.b, b.c))))

-- more forms
pub turns-more : (bs cs : List Form) (s : Set) → ((f : Form) → Lies bs f → Lies cs f) → AreTurnsOf bs s → AreTurnsOf cs s
turns-more bs cs s M S f l = let (b, k, a, d, e) = S f l in (b, k, M b a, d, e)

-- ---- planes
record Planes (bs : List Form) : Type 0 where
  list : List Plane
  as_many : length list ≡ 48 * length bs
  all : (b : Form) (k : ℕ) → Lies bs b → k < 48 → (h : Plane) × Lies list h × SamePlane (form_of h) (turned_plane k b)

planes-of : (bs : List Form) → AreSmallForms bs → Planes bs
planes-of [] S = record { list = []; as_many = refl; all = λ b k l. absurd l }
planes-of (b ∷ bs) S = by (make-list 48 (λ (k : ℕ) (h : Plane). SamePlane (form_of h) (turned_plane k b)) (λ k l. read (turned_plane k b) (turned-small k b (S b (inl refl))))) (planes-of bs (λ c l. S c (inr l)))
  where
    by : Made 48 (λ (k : ℕ) (h : Plane). SamePlane (form_of h) (turned_plane k b)) → Planes bs → Planes (b ∷ bs)
    by M P = record {
      list = M.list ++ P.list;
      as_many = (let e = length-append M.list P.list in let f = M.as_many in let g = P.as_many in omega (arith, e, f, g));
      all = all;
    }
      where
        all : (c : Form) (k : ℕ) → Lies (b ∷ bs) c → k < 48 → (h : Plane) × Lies (M.list ++ P.list) h × SamePlane (form_of h) (turned_plane k c)
        all c k (inl e) l =
            let (h, a) = is-at_some M.list k (let f = M.as_many in omega (arith, f, l)) in
            (h, lies-left M.list P.list h (at-lies M.list k h a), subst (λ (d : Form). SamePlane (form_of h) (turned_plane k d)) e (M.each k h a))
        all c k (inr m) l = let (h, a, e) = P.all c k m l in (h, lies-right M.list P.list h a, e)

-- the sides of the frame
frame-small : AreSmallForms frame
frame-small f (inl e) = subst IsSmallForm e (record { normal = λ z. cc; normal_small = record { of_x = omega arith; of_y = omega arith; of_z = omega arith }; offset_small = omega arith })
frame-small f (inr (inl e)) = subst IsSmallForm e (record { normal = λ z. cc; normal_small = record { of_x = omega arith; of_y = omega arith; of_z = omega arith }; offset_small = omega arith })
frame-small f (inr (inr (inl e))) = subst IsSmallForm e (record { normal = λ z. cc; normal_small = record { of_x = omega arith; of_y = omega arith; of_z = omega arith }; offset_small = omega arith })
frame-small f (inr (inr (inr (inl e)))) = subst IsSmallForm e (record { normal = λ z. cc; normal_small = record { of_x = omega arith; of_y = omega arith; of_z = omega arith }; offset_small = omega arith })
frame-small f (inr (inr (inr (inr (inl e))))) = subst IsSmallForm e (record { normal = λ z. cc; normal_small = record { of_x = omega arith; of_y = omega arith; of_z = omega arith }; offset_small = omega arith })
frame-small f (inr (inr (inr (inr (inr (inl e)))))) = subst IsSmallForm e (record { normal = λ z. cc; normal_small = record { of_x = omega arith; of_y = omega arith; of_z = omega arith }; offset_small = omega arith })
frame-small f (inr (inr (inr (inr (inr (inr m)))))) = absurd m

-- the planes of the frame and of all turns
pub carried-by : (bs : List Form) → AreSmallForms bs → length bs ≤ 2 ^ 20 → (hs : List Plane) × (length hs ≤ 2 ^ 32) × ((s : Set) → AreTurnsOf bs s → AreCarried s hs)
carried-by bs S few = by (planes-of frame frame-small) (planes-of bs S)
  where
    by : Planes frame → Planes bs → (hs : List Plane) × (length hs ≤ 2 ^ 32) × ((s : Set) → AreTurnsOf bs s → AreCarried s hs)
    by F P = (
      F.list ++ P.list,
      let e = length-append F.list P.list in let f = F.as_many in let g = P.as_many in omega (arith, e, f, g, few),
      λ s A f l. ⊎_elim
          (λ m. let (h, a, e) = F.all f 0 m (omega arith) in (h, lies-left F.list P.list h a, e))
          (λ m. let (b, k, a, d, e) = A f m in let (h, c, q) = P.all b k a d in (h, lies-right F.list P.list h c, subst (λ (g : Form). SamePlane (form_of h) g) (sym e) q))
          (lies-append frame (halves s) f l),
    )

-- SUCH SETS HAVE COMPLEXES
pub scripted-shown : EveryTurnedSetIsShown
scripted-shown bs S few s A = let (hs, l, C) = carried-by bs S few in carried-shown s hs l (C s A)
