-- A certificate for a program's graph has rows over the program's names alone, so its condition can be told.
use Rattle.std.proofs.Common.{◌≡◌, ◌<◌, ◌∙◌, ℕ, subst, arith, List, [], ◌∷◌, length, All}
use Rattle.std.specs.List.{AllByRecursion}
use Rattle.std.proofs.lemmas.List.Elements.{All-from_recursion}
use Rattle.pc_rows.specs.Linear.{Linear, IsOver}
use Rattle.pc_program.specs.declared.program.Program.{Program}
use Rattle.pc_flow.proofs.Lists.{each_more}
use Rattle.pc_graph.specs.Lowering.{graph}
use Rattle.pc_certificate.specs.declared.certificate.Annotated.{Annotated}
use Rattle.pc_certificate.specs.Certificate.{Certificate, IsAnnotation, IsShowable, SaysOf, entry_rows}
use Rattle.pc_replay.specs.Accepts.{Accepts}
use Rattle.example.proofs.condition.Goals as goal

of_entry : (n : ℕ) (rows : List (List Linear)) → AllByRecursion (AllByRecursion (IsOver n)) rows → AllByRecursion (IsOver n) (entry_rows rows)
of_entry n [] h = tt
of_entry n (r ∷ rows) h = h.0

says_names : (p : Program) (c : Certificate) → Accepts (graph p) c → IsShowable c → AllByRecursion (SaysOf (length p.names.names)) c.alternatives
says_names p c accepts showable =
    each_more (IsAnnotation c.points c.edges c.variables) (SaysOf (length p.names.names)) (λ a is. (there a is, over a is)) c.alternatives showable.each
  where
    there : (a : Annotated) → IsAnnotation c.points c.edges c.variables a → 0 < length a.rows
    there a is = let long : length a.rows ≡ length (graph p).points = is.rows ∙ accepts.shape.points in omega arith

    over : (a : Annotated) → IsAnnotation c.points c.edges c.variables a → All (IsOver (length p.names.names)) (entry_rows a.rows)
    over a is =
        let all = subst (λ (v : ℕ). AllByRecursion (AllByRecursion (IsOver v)) a.rows) accepts.shape.variables is.over in
        All-from_recursion (IsOver (length p.names.names)) (entry_rows a.rows) (of_entry (length p.names.names) a.rows all)

pub show_condition-requires : goal.show_condition-requires
show_condition-requires c =
    let same = c.in_ok-graph.ensures in
    let is = c.in-Ok.ensures in
    says_names c.args.program.now c.in-Ok.certificate (rw same at is.accepted) is.showable
