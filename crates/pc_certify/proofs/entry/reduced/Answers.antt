use Rattle.std.proofs.Common.{List, length, sym, ap, subst, ◌∙◌, arith}
use Rattle.std.specs.Prelude.{◌↔◌}
use Rattle.pc_rows.specs.Linear.{Linear, State, MeetsAll}
use Rattle.pc_entail.specs.Reduction.{Thinned, RemovesShown}
use Rattle.pc_certify.proofs.Reductions.{none_removed, left_over, renewed}
use Rattle.pc_certify.proofs.entry.reduced.Goals as goal

pub returns-then-len : goal.returns-then-len
returns-then-len c =
    let left = c.in_ok-left.left in
    let is = c.rows_at-before.ensures in
    let thin = subst (λ (z : List Linear). Thinned z left) is c.in_ok-left.ensures.kept in
    let removes = subst (λ (z : List Linear). RemovesShown z left) is c.in_ok-left.ensures.removed in
    none_removed c.args.g.now c.args.a c.requires left thin removes
    (sym c.len.ensures.value ∙ c.if-len.true ∙ c.len-2.ensures.value ∙ ap (length {A = Linear}) is)

pub replaced-requires-clause-over : goal.replaced-requires-clause-over
replaced-requires-clause-over c =
    let left = c.in_ok-left.left in
    let is = c.rows_at-before.ensures in
    let thin = subst (λ (z : List Linear). Thinned z left) is c.in_ok-left.ensures.kept in
    let removes = subst (λ (z : List Linear). RemovesShown z left) is c.in_ok-left.ensures.removed in
    left_over c.args.g.now c.args.a c.requires left thin removes

pub returns-in-Some : goal.returns-in-Some
returns-in-Some c =
    let left = c.in_ok-left.left in
    let is = c.rows_at-before.ensures in
    let thin = subst (λ (z : List Linear). Thinned z left) is c.in_ok-left.ensures.kept in
    let states = λ (s : State). subst (λ (z : List Linear). MeetsAll s z ↔ MeetsAll s left) is (c.in_ok-left.ensures.states s) in
    let start = c.entry_edge-start.ensures.start in
    let long = c.requires.long in
    renewed c.args.g.now c.args.a c.requires left thin states (omega arith) c.replaced.result c.replaced.ensures.rows c.replaced.ensures.proved
