-- Each made source spells a program.
use Rattle.std.proofs.Common.{◌≤◌, ℕ, subst}
use Rattle.pc_text.specs.Bytes.{Bytes}
use Rattle.pc_program.specs.declared.program.Program.{Program}
use Rattle.pc_syntax.specs.Spelling.{Spells}
use Rattle.pc_readback.proofs.ReadBack.{show_reads_back}
use Rattle.pc_readback.specs.Bare.{nowhere}
use Rattle.pc_gen.specs.declared.made.TheConstants.{LOOPS}
use Rattle.pc_readback.specs.MadeTrees.{names, loops}
use Rattle.pc_readback.specs.MadeLaws.{MadeSpells}
use Rattle.pc_readback.proofs.MadeTexts.{made_written}
use Rattle.pc_readback.proofs.MadeSanity.{made_sane}
use Rattle.pc_readback.proofs.MadeShown.{made_showable}

-- the program of so many loops
abbrev program : (n : ℕ) → n ≤ LOOPS → Program
program n h = record { place = nowhere; names = names; body = loops n; sane = made_sane n h }

pub made_spells : MadeSpells
made_spells n h = let x = show_reads_back (program n h.1) (made_showable n h.1) in (x.0, subst (λ (src : Bytes). Spells src x.0) (made_written n) x.1)
