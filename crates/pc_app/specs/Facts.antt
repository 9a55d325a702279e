-- `facts F --domain=D` prints for each point of the source F what the domain knows there.
use Rattle.std.specs.Prelude.{◌≡◌, ℕ, List, map, length, Some, IsSomeAnd, slice_get}
use Rattle.pc_rows.specs.Linear.{Linear, State, MeetsAll}
use Rattle.pc_text.specs.Bytes.{Bytes}
use Rattle.pc_flow.specs.Walk.{Reach}
use Rattle.pc_box.specs.Boxes.{rows_of}
use Rattle.pc_box.specs.BoxAt.{boxes_of}
use Rattle.pc_poly.specs.Laws.{TellsReach}
use Rattle.pc_facts.specs.Lines.{lines_from, shown}
use Rattle.pc_words.specs.declared.domains.FactsDomain.{FactsDomain}
use Rattle.pc_words.specs.declared.domains.FactsDomain.TheVariants as domains
use Rattle.pc_app.specs.Inputs.{OneFile}
use Rattle.pc_app.specs.Kinds.{source_kind}
use Rattle.pc_app.specs.Subjects.{Subject, of_program}
use Rattle.pc_app.specs.Tasks.{Task, plain}

-- what a domain promises beyond. Boxes: without loops the rows are exactly those of the box at each point. Polyhedra: with assertions and
-- assumptions alone, and few rows, an entry state meets the rows that are shown of a point exactly where it comes there
abbrev pub IsExact : FactsDomain → Subject → List (List Linear) → Type 0
IsExact domains.Boxes subject rows = subject.IsLoopFree → rows ≡ map rows_of (boxes_of subject.flow)
IsExact domains.Polyhedra subject rows =
    subject.HasChecksAlone → (q : ℕ) (told : List Linear) → slice_get rows q ≡ Some told → TellsReach subject.flow q (shown (length subject.names) told)

-- rows for each point of the graph: each state meets them that some walk from an entry state brings to the point
pub record AreKnown (domain : FactsDomain) (subject : Subject) (rows : List (List Linear)) : Type 0 where
  pub long : length rows ≡ length subject.flow.points
  pub met : (q : ℕ) (s : State) → Reach subject.flow q s → IsSomeAnd (slice_get rows q) (MeetsAll s)
  pub exact : IsExact domain subject rows

-- a line for each point, with such rows
pub record FactsPrints (domain : FactsDomain) (subject : Subject) (text : Bytes) : Type 0 where
  pub rows : List (List Linear)
  pub known : AreKnown domain subject rows
  pub text_is : text ≡ lines_from subject.names subject.flow.points 0 rows

abbrev pub facts : FactsDomain → Bytes → Task
facts domain source = plain (OneFile source_kind source) (λ p. FactsPrints domain (of_program p))
