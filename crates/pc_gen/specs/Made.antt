-- Made sources: loops, one behind the other.
use Rattle.std.specs.Prelude.{◌≤◌, ◌++◌, ℕ, zero, suc, [], codes}
use Rattle.pc_text.specs.Bytes.{Bytes}
use Rattle.pc_gen.specs.declared.made.TheConstants.{LOOPS}
use Rattle.pc_gen.specs.Pieces.{counted}

-- how many loops a made source may have
abbrev pub IsLoops : ℕ → Type 0
IsLoops n = (1 ≤ n) × (n ≤ LOOPS)

-- the loop of a number
abbrev pub loop_text : ℕ → Bytes
loop_text k = counted (codes "  i = 0;\n  while (i < 10) {\n    assert (i <= a + ") k (codes ");\n    i = i + 1;\n  }\n")

-- the loops of the numbers from 1 on
abbrev pub loops_text : ℕ → Bytes
loops_text zero = []
loops_text (suc n) = loops_text n ++ loop_text (suc n)

-- the source with so many loops
abbrev pub made : ℕ → Bytes
made n = codes "entry (a) {\n  var i;\n" ++ loops_text n ++ codes "}\n"
