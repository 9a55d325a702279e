-- `trial N` prints how large the made source with N loops is, and its condition.
use Rattle.std.specs.Prelude.{◌≡◌, ◌++◌, ℕ, length}
use Rattle.pc_text.specs.Bytes.{Bytes}
use Rattle.pc_program.specs.declared.program.Program.{Program}
use Rattle.pc_syntax.specs.Spelling.{Spells}
use Rattle.pc_flow.specs.Flow.{Flow}
use Rattle.pc_certificate.specs.Certificate.{Certificate, condition_of}
use Rattle.pc_condition.specs.Conditions.{condition_text}
use Rattle.pc_gen.specs.Made.{IsLoops, made}
use Rattle.pc_gen.specs.Summary.{summary_text}
use Rattle.pc_gen.specs.declared.summary.Summary.{Summary}
use Rattle.pc_app.specs.Inputs.{NoFile}
use Rattle.pc_app.specs.Subjects.{of_program}
use Rattle.pc_app.specs.Inferred.{Inferred}
use Rattle.pc_app.specs.Tasks.{Task, plain}

-- the numbers of a source of so many loops, of its graph, and of a condition
abbrev pub IsSize : ℕ → Bytes → Flow → ℕ → Summary → Type 0
IsSize loops source g alternatives summary =
    summary ≡ record { loops = loops; bytes = length source; points = length g.points; edges = length g.edges; alternatives = alternatives }

-- the made source spells a program; the text tells how large it and its graph are and how many alternatives the condition has of a certificate
-- that is inferred for it, and then the condition
pub record TrialPrints (loops : ℕ) (text : Bytes) : Type 0 where
  pub fits : IsLoops loops
  pub program : Program
  pub spelled : Spells (made loops) program
  pub certificate : Certificate
  pub inferred : Inferred (of_program program) certificate
  pub summary : Summary
  pub size : IsSize loops (made loops) (of_program program).flow (length (condition_of certificate)) summary
  pub text_is : text ≡ summary_text summary ++ condition_text program.names.names (condition_of certificate)

abbrev pub trial : ℕ → Task
trial loops = plain NoFile (λ given. TrialPrints loops)
