use Rattle.std.proofs.Common.{◌≡◌, ℕ, ◌<◌, false}
use Rattle.pc_lower.specs.Annotation.{is_head}
use Rattle.pc_certify.proofs.inference.has_heads.Given as goal

abbrev pub invariant-loop-p : goal.invariant-loop-p
invariant-loop-p l = (q : ℕ) → q < l.p → is_head l.g.points q ≡ false
