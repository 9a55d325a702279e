-- `show F` prints the canonical text of the source F.
use Rattle.std.specs.Prelude.{◌≡◌}
use Rattle.pc_text.specs.Bytes.{Bytes}
use Rattle.pc_program.specs.declared.program.Program.{Program}
use Rattle.pc_show.specs.Canonical.{program_text}
use Rattle.pc_app.specs.Inputs.{OneFile}
use Rattle.pc_app.specs.Kinds.{source_kind}
use Rattle.pc_app.specs.Tasks.{Task, plain}

abbrev pub ShowPrints : Program → Bytes → Type 0
ShowPrints p text = text ≡ program_text p.names p.body

abbrev pub show : Bytes → Task
show source = plain (OneFile source_kind source) ShowPrints
