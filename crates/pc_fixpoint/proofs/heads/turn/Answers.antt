use Rattle.std.proofs.Common.{◌≡◌, ◌∙◌, ℕ, ◌+◌, List, [], ◌∷◌, ◌++◌, Bool, true, false, arith, subst, sym, ap, length, length-append, set}
use Rattle.pc_fixpoint.specs.Rounds.{WidensTo, AreWidened, Turned}
use Rattle.pc_fixpoint.proofs.Turning.{widened_last, turned_none, turned_keeps, turned_takes}
use Rattle.pc_fixpoint.proofs.heads.turn.Goals as goal

pub heads-init : goal.heads-init
heads-init g c =
    let d = g.D.Forward in
    let flow = c.args.g.now in
    let round = c.args.round in
    let old = c.args.values.now in
    let moved = c.in_ok-moved.field-0 in
    let found = c.in_ok-wider.ensures in
    record {
      wider = subst (λ (k : ℕ). AreWidened d flow round old k c.in_ok-wider.wider) (sym found.long) found;
      within = (let long = found.long in omega arith);
      turned = subst (λ (k : ℕ). Turned d flow round k old false old moved) (sym found.long)
          (turned_none d flow round old moved c.in_ok-moved.ensures.long c.in_ok-moved.ensures.each);
    }

pub heads-preserved-in-Some-at_point : goal.heads-preserved-in-Some-at_point
heads-preserved-in-Some-at_point g c =
    let d = g.D.Forward in
    let flow = c.args.g.now in
    let round = c.args.round in
    let old = c.args.values.now in
    let at = c.heads in
    let rest = c.pop.new.self in
    let found = c.in-Some.at_point in
    let v = c.in-Some-at_point.v in
    let is : at.wider ≡ rest ++ found ∷ [] = c.in-Some.ensures in
    let longer : length at.wider ≡ length rest + 1 = ap length is ∙ length-append rest (found ∷ []) in
    let within = at.invariant.within in
    let last = widened_last d flow round old at.wider rest found is at.invariant.wider in
    let turned = subst (λ (k : ℕ). Turned d flow round k old at.changed at.values at.moved) longer at.invariant.turned in
    let takes = turned_takes d flow round (length rest) old at.changed at.values at.moved v (omega arith) turned (subst (WidensTo d flow round old (length rest)) c.in-Some-at_point.is last.1) in
    record {
      wider = last.0;
      within = omega arith;
      turned = subst (λ (z : List Bool). Turned d flow round (length rest) old true c.set.new.self z) (sym (c.set-in-Some-at_point.ensures ∙ ap (λ (k : ℕ). set at.moved k true) c.len-in-Some-at_point.ensures))
          (subst (λ (z : List _). Turned d flow round (length rest) old true z (set at.moved (length rest) true)) (sym (c.set.ensures ∙ ap (λ (k : ℕ). set at.values k v) c.len.ensures)) takes);
    }

pub heads-preserved : goal.heads-preserved
heads-preserved g c =
    let d = g.D.Forward in
    let flow = c.args.g.now in
    let round = c.args.round in
    let old = c.args.values.now in
    let at = c.heads in
    let rest = c.pop.new.self in
    let found = c.in-Some.at_point in
    let is : at.wider ≡ rest ++ found ∷ [] = c.in-Some.ensures in
    let longer : length at.wider ≡ length rest + 1 = ap length is ∙ length-append rest (found ∷ []) in
    let within = at.invariant.within in
    let last = widened_last d flow round old at.wider rest found is at.invariant.wider in
    let turned = subst (λ (k : ℕ). Turned d flow round k old at.changed at.values at.moved) longer at.invariant.turned in
    record {
      wider = last.0;
      within = omega arith;
      turned = turned_keeps d flow round (length rest) old at.changed at.values at.moved turned (subst (WidensTo d flow round old (length rest)) c.in_default-at_point.is last.1);
    }
