use Rattle.pc_grammar.specs.Programs.{programs}
use Rattle.pc_grammar.specs.Parallels.{parallels}
use Rattle.pc_grammar.proofs.Starts.{programs_lawful, parallels_lawful}
use Rattle.pc_grammar.proofs.Unique.{unambiguous}
use Rattle.pc_grammar.proofs.laws.grammar_is_unambiguous.Goals as goal

pub returns : goal.returns
returns c = record { programs = unambiguous programs programs_lawful; parallels = unambiguous parallels parallels_lawful }
