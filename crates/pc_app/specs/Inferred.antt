-- What is inferred: a certificate, and what its condition promises.
use Rattle.std.specs.Prelude.{◌≡◌, ◌≤◌, List, [], length, All}
use Rattle.std.specs.List.{AllByRecursion}
use Rattle.pc_rows.specs.Linear.{IsOver, Linear}
use Rattle.pc_rows.specs.declared.rows.TheConstants.{ROWS}
use Rattle.pc_flow.specs.Flow.{Flow}
use Rattle.pc_flow.specs.Shape.{NoHeads}
use Rattle.pc_lower.specs.declared.mode.Mode.{Mode}
use Rattle.pc_certificate.specs.Certificate.{Certificate, condition_of, IsShowable}
use Rattle.pc_replay.specs.Accepts.{Accepts}
use Rattle.pc_certify.specs.Candidates.{Candidate, IsTried}
use Rattle.pc_certify.specs.Inferring.{IsAlternative, HasNone, IsExact, Covers}
use Rattle.pc_certify.specs.Selecting.{AreApart}
use Rattle.pc_app.specs.declared.limits.TheConstants.{ALTERNATIVES}
use Rattle.pc_app.specs.Subjects.{Subject}
use Rattle.pc_app.specs.Suffices.{Suffices}
use Rattle.pc_app.specs.Exactness.{IsNeeded, IsTameAndStraight}
use Rattle.pc_app.specs.Covering.{CoversGuesses}

-- a condition over the parameters: a list of alternatives, each a list of rows, that is no larger than may be printed
pub record IsCondition (subject : Subject) (condition : List (List Linear)) : Type 0 where
  pub alternatives : length condition ≤ ALTERNATIVES
  pub rows : All (λ rows. length rows ≤ ROWS) condition
  pub parameters : All (All (IsOver subject.flow.params)) condition

-- where the alternatives of a certificate come from: each is a candidate, with its rows at the entry reduced; none is found to be needless
-- beside another one; there is no more than one without loops; and where there is none, each candidate that is tried has a cause
pub record AreFound (g : Flow) (c : Certificate) : Type 0 where
  pub rows : AllByRecursion (IsAlternative g) c.alternatives
  pub apart : AreApart c.alternatives
  pub one : NoHeads g.points → length c.alternatives ≤ 1
  pub none : c.alternatives ≡ [] → (k : Candidate) → IsTried g k → HasNone g k

-- what is found of a graph: a certificate that has a text and is right, where its alternatives come from, and how weak its condition is
pub record IsFound (g : Flow) (c : Certificate) : Type 0 where
  pub accepted : Accepts g c
  pub showable : IsShowable c
  pub few : length c.alternatives ≤ ALTERNATIVES
  pub found : AreFound g c
  pub exact : NoHeads g.points → IsExact g c
  pub covering : (m : Mode) → Covers g m (condition_of c)

-- a certificate that is right, and where its alternatives come from; its condition suffices, is needed where the subject is tame and straight,
-- and loses no promised guess
pub record Inferred (subject : Subject) (c : Certificate) : Type 0 where
  pub accepted : Accepts subject.flow c
  pub found : AreFound subject.flow c
  pub small : IsCondition subject (condition_of c)
  pub sound : Suffices subject (condition_of c)
  pub exact : IsTameAndStraight subject → IsNeeded subject (condition_of c)
  pub covering : CoversGuesses subject (condition_of c)
