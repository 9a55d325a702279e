use Rattle.std.proofs.Common.{◌≡◌, ◌∙◌, sym, ap, subst, length, List, Option, None, Some}
use Rattle.pc_rows.specs.Linear.{Linear}
use Rattle.pc_flow.specs.Annotation.{rows_at}
use Rattle.pc_breach.specs.Entry.{AreEvaluated, first_broken}
use Rattle.pc_breach.specs.Following.{followed, after_row}
use Rattle.pc_breach.specs.Answers.{needed, entry_rows}
use Rattle.pc_breach.proofs.Settling.{none_broken, some_broken}
use Rattle.pc_breach.proofs.breaking.breach_by.Goals as goal

pub returns-in-Ok-None : goal.returns-in-Ok-None
returns-in-Ok-None c =
    let s = c.args.entry.now in
    let same : c.rows_at.result.now ≡ entry_rows c.args.g.now = c.rows_at.ensures ∙ ap (λ (z : List (List Linear)). rows_at z 0) c.requires.need in
    let told = c.in-Ok-None.ensures in
    let e = subst (λ (z : List Linear). AreEvaluated s z × (None ≡ first_broken s z)) same (told.0, sym c.in-Ok-None.field-0-is ∙ told.1) in
    (record { need = c.requires.fit; entry = e.0 }, none_broken s (entry_rows c.args.g.now) e.1)

pub returns-in_ok-followed-in-Ok-Some : goal.returns-in_ok-followed-in-Ok-Some
returns-in_ok-followed-in-Ok-Some c =
    let g = c.args.g.now in
    let s = c.args.entry.now in
    let r = c.in-Ok-Some.r in
    let same : c.rows_at.result.now ≡ entry_rows g = c.rows_at.ensures ∙ ap (λ (z : List (List Linear)). rows_at z 0) c.requires.need in
    let told = c.in-Ok-Some.ensures in
    let e = subst (λ (z : List Linear). AreEvaluated s z × (Some r ≡ first_broken s z)) same (told.0, sym c.in-Ok-Some.field-0-is ∙ told.1) in
    let list =
    c.in_ok-followed-in-Ok-Some.ensures
    ∙ ap (λ (z : List (List Linear)). followed g.edges (rows_at z) (length g.points) 0 r) c.requires.need
    ∙ ap (λ (z : Option Linear). after_row (followed g.edges (rows_at (needed g)) (length g.points) 0) z) e.1 in
    (record { need = c.requires.fit; entry = e.0 }, some_broken s (entry_rows g) r e.1, list)
