-- The laws of a start symbol, and those that have them.
use Rattle.std.proofs.Common.{ℕ, suc}
use Rattle.pc_grammar.specs.Combinators.{none}
use Rattle.pc_grammar.specs.Starts.{Start}
use Rattle.pc_grammar.specs.Programs.{programs}
use Rattle.pc_grammar.specs.Parallels.{parallels}
use Rattle.pc_grammar.proofs.Outcomes.{Laws}
use Rattle.pc_grammar.proofs.Depths.{Bounded, program_bounded, parallel_bounded}
use Rattle.pc_grammar.proofs.Programs.{program_laws, parallel_laws}

-- at each depth the parser reads the language; and it never runs out of a depth that is above the number of symbols
pub record Lawful (S : Start) : Type 0 where
  pub reads : (n : ℕ) → Laws none (S.language n) (S.language (suc n)) (S.parser n) (S.parser (suc n))
  pub bounded : (n : ℕ) → Bounded n (S.parser n)

pub programs_lawful : Lawful programs
programs_lawful = record { reads = program_laws; bounded = program_bounded }

pub parallels_lawful : Lawful parallels
parallels_lawful = record { reads = parallel_laws; bounded = parallel_bounded }
