use Rattle.std.proofs.Common.{◌∙◌, [], ◌∷◌, subst, sym, arith}
use Rattle.pc_rows.specs.Linear.{Linear, negation}
use Rattle.pc_simplex.specs.Searching.{IsTold}
use Rattle.pc_rows.proofs.Joining.{each_join, each_left, each_right}
use Rattle.pc_simplex.proofs.Answering.{told_here, told_before, told_behind}
use Rattle.pc_simplex.proofs.guess.are_told.Goals as goal

pub returns-then-not-is_told : goal.returns-then-not-is_told
returns-then-not-is_told c =
    let p = c.args.p.now in
    let ps = c.args.s.now.premises in
    (λ h. cc, λ h. sym c.if-not-is_told.true ∙ c.is_told.ensures.1 (told_here p ps c.loop-i.i c.premise.result.now c.premise.ensures (c.loop-i.invariant.all (each_left (IsTold p) ps (negation c.args.s.now.goal ∷ []) h))).0)

pub loop-i-preserved : goal.loop-i-preserved
loop-i-preserved c =
    let p = c.args.p.now in
    let ps = c.args.s.now.premises in
    record {
      all = λ h. (told_here p ps c.loop-i.i c.premise.result.now c.premise.ensures (c.loop-i.invariant.all h)).1;
      back = λ h. c.loop-i.invariant.back (told_before p ps c.loop-i.i c.premise.result.now c.premise.ensures (c.is_told.ensures.0 c.if-not-is_told.false) h);
    }

pub returns : goal.returns
returns c =
    let p = c.args.p.now in
    let ps = c.args.s.now.premises in
    let behind = told_behind p ps c.loop-i.i (omega (arith, c.len-i-end.ensures.value)) in
    let same = c.goal.ensures in (
      λ h. each_join (IsTold p) ps (negation c.args.s.now.goal ∷ []) (c.loop-i.invariant.back behind) (subst (λ (r : Linear). IsTold p (negation r)) same (c.is_negation_told.ensures.0 h), tt),
      λ h. c.is_negation_told.ensures.1 (subst (λ (r : Linear). IsTold p (negation r)) (sym same) (each_right (IsTold p) ps (negation c.args.s.now.goal ∷ []) h).0),
    )
