use Rattle.std.proofs.Common.{◌≡◌, ◌++◌, take}
use Rattle.pc_text.proofs.WordLists.{joined}
use Rattle.pc_lines.proofs.Shown.{proof_words}
use Rattle.pc_lines.proofs.showing.push_proof.Given as goal

abbrev pub invariant-parts : goal.invariant-parts
invariant-parts l = l.text ≡ l.fn.text ++ joined (proof_words l.fn.p.goal (take l.i l.parts))
