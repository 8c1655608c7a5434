-- A `&` to what is told holds nothing.
use denote.SharingLaws.{nothing_shr_laws}
use denote.Struct.Lending.{of_Lends, Lends-nothing}
use Rattle.nef_index.specs.contracts.skeleton.Told as told
use Rattle.nef_index.proofs.skeleton.Told.TheLaw.Statement.{statement}

pub shares : statement
shares = of_Lends told.struct told.the_codes told.the_heap told.the_lent (λ d p. nothing_shr_laws) tt (λ M 𝓤 𝓛 d p. Lends-nothing 𝓛 (told.the_heap d) told.the_row.lives)
