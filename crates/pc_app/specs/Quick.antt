-- `quick F --domain=D` prints the condition of one line on the entry states of the source F that the domain finds going back once.
use Rattle.std.specs.Prelude.{◌≡◌, ◌≤◌, List, length, All}
use Rattle.std.specs.List.{AllByRecursion as Each}
use Rattle.pc_text.specs.Bytes.{Bytes}
use Rattle.pc_rows.specs.Linear.{Linear, State, MeetsAll, MeetsSome, IsOver}
use Rattle.pc_lower.specs.Tame.{IsTame}
use Rattle.pc_box.specs.Exact.{HasOneVariable}
use Rattle.pc_back.specs.Laws.{needed}
use Rattle.pc_condition.specs.Conditions.{condition_text}
use Rattle.pc_words.specs.declared.domains.QuickDomain.{QuickDomain}
use Rattle.pc_words.specs.declared.domains.QuickDomain.TheVariants as domains
use Rattle.pc_app.specs.Inputs.{OneFile}
use Rattle.pc_app.specs.Kinds.{source_kind}
use Rattle.pc_app.specs.Subjects.{Subject, of_program}
use Rattle.pc_app.specs.Suffices.{IsEntry, Suffices}
use Rattle.pc_app.specs.Exactness.{IsTameAndStraight}
use Rattle.pc_app.specs.Tasks.{Task, plain}

-- no right side and no row of an assertion has two variables
abbrev pub HasOneVariableEach : Subject → Type 0
HasOneVariableEach subject = Each (λ e. HasOneVariable e.what) subject.flow.edges

-- what a domain promises beyond. Rows: where it is tame and has no loops every state that meets what is needed at the entry meets the condition.
-- Boxes: where it is tame and straight, without two variables in a right side or in a row of an assertion, every safe entry state does
abbrev pub IsNoStronger : QuickDomain → Subject → List (List Linear) → Type 0
IsNoStronger domains.Rows subject condition =
    subject.IsLoopFree → IsTame subject.flow → (s : State) → IsEntry subject s → MeetsAll s (needed subject.flow 0) → MeetsSome s condition
IsNoStronger domains.Boxes subject condition =
    HasOneVariableEach subject → IsTameAndStraight subject → (s : State) → IsEntry subject s → subject.Safe s → MeetsSome s condition

-- the text of a condition over the parameters, of at most one alternative, that suffices
pub record QuickPrints (domain : QuickDomain) (subject : Subject) (text : Bytes) : Type 0 where
  pub condition : List (List Linear)
  pub one : length condition ≤ 1
  pub parameters : All (All (IsOver subject.flow.params)) condition
  pub sound : Suffices subject condition
  pub weak : IsNoStronger domain subject condition
  pub text_is : text ≡ condition_text subject.names condition

abbrev pub quick : QuickDomain → Bytes → Task
quick domain source = plain (OneFile source_kind source) (λ p. QuickPrints domain (of_program p))
