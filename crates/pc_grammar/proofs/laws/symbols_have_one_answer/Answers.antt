use Rattle.pc_grammar.specs.Programs.{programs}
use Rattle.pc_grammar.specs.Parallels.{parallels}
use Rattle.pc_grammar.proofs.Starts.{programs_lawful, parallels_lawful}
use Rattle.pc_grammar.proofs.Sound.{sound}
use Rattle.pc_grammar.proofs.Unique.{exists, unique}
use Rattle.pc_grammar.proofs.laws.symbols_have_one_answer.Goals as goal

pub returns : goal.returns
returns c = record {
  exists = exists programs programs_lawful;
  unique = unique programs programs_lawful;
  computed = sound programs programs_lawful;
  parallel_exists = exists parallels parallels_lawful;
  parallel_unique = unique parallels parallels_lawful;
  parallel_computed = sound parallels parallels_lawful;
}
