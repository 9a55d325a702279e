use Rattle.std.proofs.Common.{◌≡◌, ◌≤◌, ◌+◌, drop}
use Rattle.pc_text.specs.Places.{behind}
use Rattle.pc_text.proofs.place.behind.Given as goal

-- the place so far goes on to the place behind the whole text
abbrev pub invariant-loop-byte : goal.invariant-loop-byte
invariant-loop-byte l =
    (behind l.fn.place l.text ≡ behind (record { line = l.line; column = l.column }) (drop l.byte-index l.text))
    × (l.line ≤ l.fn.place.line + l.byte-index)
    × (l.column ≤ l.fn.place.column + l.byte-index)
