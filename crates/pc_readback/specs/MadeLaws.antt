-- What a made source spells.
use Rattle.std.specs.Prelude.{ℕ}
use Rattle.pc_program.specs.declared.program.Program.{Program}
use Rattle.pc_syntax.specs.Spelling.{Spells}
use Rattle.pc_gen.specs.Made.{IsLoops, made}

-- each made source spells a program
abbrev pub MadeSpells : Type 0
MadeSpells = (n : ℕ) → IsLoops n → (p : Program) × Spells (made n) p
