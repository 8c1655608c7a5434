-- The names that most clauses cite, passed on from one place. Declares nothing.
pub use Rattle.nef_lex.specs.Lines.{lines_of}
pub use Rattle.nef_lex.specs.Words.{words_of}
