use Rattle.std.proofs.Common.{rules, subst, sym}
use Rattle.pc_rows.specs.Evidence.{IsAbove}
use Rattle.pc_rows.proofs.Rising.{pushed}
use Rattle.pc_rows.proofs.proof.Parts.push.Goals as goal

pub invariant_of-self : goal.invariant_of-self
invariant_of-self c = pushed c.push.result c.self.inside.parts c.push.new.self _ c.push.ensures.ok c.push.ensures.err c.self.invariant (subst (IsAbove c.args.part.index) (sym c.self.view_is) c.requires.rising)
    record { index = c.requires.premise; in_range = search rules; not_zero = c.requires.not_zero }
