-- Words that are accepted and refused, by the grammar and by clap.
use Rattle.nef_words.proofs.Prelude.{◌≡◌, ℕ, true, false, List, [], ◌∷◌, Option, Some, None, refl, codes, Options}
use Rattle.clap.proofs.OnLiterals.{clap_on_literals}
use Rattle.nef_words.specs.Chosen.{options_of}
use Rattle.nef_words.specs.Grammar.{read, options_in}
use Rattle.nef_core.specs.declared.work.BoardKind.TheVariants.{Lock, Free}
use Rattle.nef_core.specs.declared.work.TextVersion.TheVariants.{One, Two}

-- both the grammar and clap's definition choose these options, or none
abbrev Both : List (List ℕ) → Option Options → Type 0
Both words options = (options_in words ≡ options) × (options_of words ≡ options)

pub accepted_none : Both [] (Some (record { how = record { workers = 1; board = Lock }; stairs = None; text = One; ahead = false }))
unfolding options_in read options_of clap_on_literals
accepted_none = (refl, refl)

pub accepted_all : Both (codes "--workers" ∷ codes "4" ∷ codes "--board=free" ∷ codes "--ahead" ∷ codes "--text" ∷ codes "2" ∷ codes "--stairs=012" ∷ codes "--" ∷ []) (Some (record { how = record { workers = 4; board = Free }; stairs = Some 12; text = Two; ahead = true }))
unfolding options_in read options_of clap_on_literals
accepted_all = (refl, refl)

pub refused_after_end : Both (codes "--" ∷ codes "--ahead" ∷ []) None
unfolding options_in read options_of clap_on_literals
refused_after_end = (refl, refl)

pub refused_end_twice : Both (codes "--" ∷ codes "--" ∷ []) None
unfolding options_in read options_of clap_on_literals
refused_end_twice = (refl, refl)

pub refused_end_as_value : Both (codes "--workers" ∷ codes "--" ∷ codes "4" ∷ []) None
unfolding options_in read options_of clap_on_literals
refused_end_as_value = (refl, refl)

pub refused_repeated : Both (codes "--workers" ∷ codes "4" ∷ codes "--workers=4" ∷ []) None
unfolding options_in read options_of clap_on_literals
refused_repeated = (refl, refl)

pub refused_flag_repeated : Both (codes "--ahead" ∷ codes "--ahead" ∷ []) None
unfolding options_in read options_of clap_on_literals
refused_flag_repeated = (refl, refl)

pub refused_no_value : Both (codes "--workers" ∷ []) None
unfolding options_in read options_of clap_on_literals
refused_no_value = (refl, refl)

pub refused_no_value_before_option : Both (codes "--workers" ∷ codes "--ahead" ∷ []) None
unfolding options_in read options_of clap_on_literals
refused_no_value_before_option = (refl, refl)

pub refused_empty_value : Both (codes "--workers=" ∷ []) None
unfolding options_in read options_of clap_on_literals
refused_empty_value = (refl, refl)

pub refused_empty_value_next : Both (codes "--board" ∷ [] ∷ []) None
unfolding options_in read options_of clap_on_literals
refused_empty_value_next = (refl, refl)

pub refused_empty_word : Both ([] ∷ []) None
unfolding options_in read options_of clap_on_literals
refused_empty_word = (refl, refl)

pub refused_flag_value : Both (codes "--ahead=true" ∷ []) None
unfolding options_in read options_of clap_on_literals
refused_flag_value = (refl, refl)

pub refused_flag_empty_value : Both (codes "--ahead=" ∷ []) None
unfolding options_in read options_of clap_on_literals
refused_flag_empty_value = (refl, refl)

pub refused_dash_value : Both (codes "--workers" ∷ codes "-4" ∷ []) None
unfolding options_in read options_of clap_on_literals
refused_dash_value = (refl, refl)

pub refused_dash_value_behind : Both (codes "--stairs=-4" ∷ []) None
unfolding options_in read options_of clap_on_literals
refused_dash_value_behind = (refl, refl)

pub refused_plus : Both (codes "--workers=+4" ∷ []) None
unfolding options_in read options_of clap_on_literals
refused_plus = (refl, refl)

pub refused_two_equals : Both (codes "--workers=4=5" ∷ []) None
unfolding options_in read options_of clap_on_literals
refused_two_equals = (refl, refl)

pub refused_help : Both (codes "--help" ∷ []) None
unfolding options_in read options_of clap_on_literals
refused_help = (refl, refl)

pub refused_short_help : Both (codes "-h" ∷ []) None
unfolding options_in read options_of clap_on_literals
refused_short_help = (refl, refl)

pub refused_help_value : Both (codes "--text" ∷ codes "--help" ∷ []) None
unfolding options_in read options_of clap_on_literals
refused_help_value = (refl, refl)

pub refused_version : Both (codes "--version" ∷ []) None
unfolding options_in read options_of clap_on_literals
refused_version = (refl, refl)

pub refused_prefix : Both (codes "--work" ∷ codes "4" ∷ []) None
unfolding options_in read options_of clap_on_literals
refused_prefix = (refl, refl)

pub refused_capitals : Both (codes "--Workers" ∷ codes "4" ∷ []) None
unfolding options_in read options_of clap_on_literals
refused_capitals = (refl, refl)

pub refused_single_dash : Both (codes "-workers" ∷ codes "4" ∷ []) None
unfolding options_in read options_of clap_on_literals
refused_single_dash = (refl, refl)

pub refused_bare_word : Both (codes "4" ∷ []) None
unfolding options_in read options_of clap_on_literals
refused_bare_word = (refl, refl)

pub refused_help_word : Both (codes "help" ∷ []) None
unfolding options_in read options_of clap_on_literals
refused_help_word = (refl, refl)

pub refused_dash : Both (codes "-" ∷ []) None
unfolding options_in read options_of clap_on_literals
refused_dash = (refl, refl)

pub refused_no_name : Both (codes "--=4" ∷ []) None
unfolding options_in read options_of clap_on_literals
refused_no_name = (refl, refl)

pub refused_too_many : Both (codes "--workers" ∷ codes "65" ∷ []) None
unfolding options_in read options_of clap_on_literals
refused_too_many = (refl, refl)

pub refused_nought : Both (codes "--workers" ∷ codes "0" ∷ []) None
unfolding options_in read options_of clap_on_literals
refused_nought = (refl, refl)

pub refused_board : Both (codes "--board" ∷ codes "Lock" ∷ []) None
unfolding options_in read options_of clap_on_literals
refused_board = (refl, refl)

pub refused_text : Both (codes "--text" ∷ codes "3" ∷ []) None
unfolding options_in read options_of clap_on_literals
refused_text = (refl, refl)

pub refused_space : Both (codes "--workers" ∷ codes " 4" ∷ []) None
unfolding options_in read options_of clap_on_literals
refused_space = (refl, refl)

pub accepted_leading_zeros : Both (codes "--workers" ∷ codes "0064" ∷ []) (Some (record { how = record { workers = 64; board = Lock }; stairs = None; text = One; ahead = false }))
unfolding options_in read options_of clap_on_literals
accepted_leading_zeros = (refl, refl)

pub accepted_end_alone : Both (codes "--" ∷ []) (Some (record { how = record { workers = 1; board = Lock }; stairs = None; text = One; ahead = false }))
unfolding options_in read options_of clap_on_literals
accepted_end_alone = (refl, refl)

pub accepted_flag_last : Both (codes "--board" ∷ codes "lock" ∷ codes "--ahead" ∷ []) (Some (record { how = record { workers = 1; board = Lock }; stairs = None; text = One; ahead = true }))
unfolding options_in read options_of clap_on_literals
accepted_flag_last = (refl, refl)
