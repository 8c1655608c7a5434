-- What clap says of the one command, and what the words then choose.
use Rattle.nef_words.proofs.Prelude.{◌≡◌, ℕ, Bool, List, [], ◌∷◌, Option, Result, Ok, Err, IfOk, IfErr, None, refl, true, subst, sym, ap, ◌∙◌, inl, inr, codes, App, IsAmong, is_simple, is_simple_and_free, fault_of, found_of, matches_of, rows_of, first_value, kind_of, HasKind, FailsBy, HasMatchesOf, BoardKind, TextVersion, Options, usage, given, stairs_of, options_from, workers_of, board_of, text_of, is_given, options_of_values}
use Rattle.clap.specs.Words.{Text, Kinds, first_of}
use Rattle.clap.specs.declared.ArgMatches.{ArgMatches}
use Rattle.clap.specs.declared.Error.{Error}
use Rattle.clap.specs.declared.error.ErrorKind.{ErrorKind}
use Rattle.clap.specs.declared.error.ErrorKind.TheVariants.{OutOfMemory}
use Rattle.clap.proofs.OnLiterals.{clap_on_literals}
use Rattle.clap.proofs.WalkLemmas.{first_value-rows}
use Rattle.nef_words.specs.Chosen.{options_of}

pub usage_simple : is_simple usage ≡ true
unfolding clap_on_literals
usage_simple = refl

pub usage_free : is_simple_and_free usage ≡ true
unfolding clap_on_literals
usage_free = refl

took_here : (r : Result ArgMatches Error) (u : App) (ws : List Text) → (is_simple_and_free u ≡ true → FailsBy (fault_of u ws) r) → IfOk r (HasMatchesOf u ws) → is_simple u ≡ true → is_simple_and_free u ≡ true
    → IfOk r (λ m. (fault_of u ws ≡ []) × (rows_of (found_of m) ≡ matches_of u ws)) × IfErr r (HasKind (fault_of u ws))
took_here (Ok m) u ws k h s f = ((k f, (h s).0), tt)
took_here (Err e) u ws k h s f = (tt, k f)

-- the command that was made is the one that was meant
pub took : (r : Result ArgMatches Error) (a u : App) (ws : List Text) → a ≡ u → (is_simple_and_free a ≡ true → FailsBy (fault_of a ws) r) → IfOk r (HasMatchesOf a ws) → is_simple u ≡ true → is_simple_and_free u ≡ true
    → IfOk r (λ m. (fault_of u ws ≡ []) × (rows_of (found_of m) ≡ matches_of u ws)) × IfErr r (HasKind (fault_of u ws))
took r a u ws e k h = took_here r u ws (subst (λ (z : App). is_simple_and_free z ≡ true → FailsBy (fault_of z ws) r) e k) (subst (λ (z : App). IfOk r (HasMatchesOf z ws)) e h)

-- words with a fault choose nothing
no_option : (k : ErrorKind) (ks : Kinds) (workers : Option ℕ) (board : Option BoardKind) (stairs : Option (Option ℕ)) (text : Option TextVersion) (ahead : Bool) → IsAmong k ks → options_from ks workers board stairs text ahead ≡ None
no_option k [] workers board stairs text ahead h = absurd h
no_option k (x ∷ xs) workers board stairs text ahead h = refl

-- an error of another kind than memory is a fault of the words
pub refuses : (ws : List Text) (e : Error) → HasKind (fault_of usage ws) e → (kind_of e ≡ OutOfMemory → ⊥) → options_of ws ≡ None
unfolding options_of
refuses ws e h n = elim h [ inl m ↦ absurd (n m) | inr among ↦ no_option (kind_of e) (fault_of usage ws) _ _ _ _ _ among ]

takes_them : (ws : List Text) → fault_of usage ws ≡ [] → options_of ws ≡ options_of_values (given (codes "workers") ws) (given (codes "board") ws) (given (codes "stairs") ws) (given (codes "text") ws) (given (codes "ahead") ws)
unfolding options_of
takes_them ws e = ap (λ (ks : Kinds). options_from ks (workers_of (given (codes "workers") ws)) (board_of (given (codes "board") ws)) (stairs_of (given (codes "stairs") ws)) (text_of (given (codes "text") ws)) (is_given (given (codes "ahead") ws))) e

value_is : (m : ArgMatches) (ws : List Text) (id : Text) → rows_of (found_of m) ≡ matches_of usage ws → first_value (found_of m) id ≡ given id ws
value_is m ws id e = first_value-rows (found_of m) id ∙ ap (first_of id) e

-- words without a fault choose what their five values choose
pub chosen_is : (m : ArgMatches) (ws : List Text) (a b s t h : Option Text) (r : Option Options) → (fault_of usage ws ≡ []) × (rows_of (found_of m) ≡ matches_of usage ws) → a ≡ first_value (found_of m) (codes "workers") → b ≡ first_value (found_of m) (codes "board") → s ≡ first_value (found_of m) (codes "stairs") → t ≡ first_value (found_of m) (codes "text") → h ≡ first_value (found_of m) (codes "ahead") → r ≡ options_of_values a b s t h → options_of ws ≡ r
chosen_is m ws a b s t h r is p q u v w e =
    takes_them ws is.0
    ∙ sym (e ∙ rw (p, q, u, v, w, value_is m ws (codes "workers") is.1, value_is m ws (codes "board") is.1, value_is m ws (codes "stairs") is.1, value_is m ws (codes "text") is.1, value_is m ws (codes "ahead") is.1) refl)
