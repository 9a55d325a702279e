-- `replay F C` prints the ruling on the certificate C for the source F, and where it is accepted its condition.
use Rattle.std.specs.Prelude.{◌≡◌, ◌⊎◌, ◌++◌, ℕ, pos, List, codes}
use Rattle.pc_rows.specs.Linear.{Linear}
use Rattle.pc_text.specs.Numerals.{numeral}
use Rattle.pc_text.specs.Bytes.{Bytes}
use Rattle.pc_certificate.specs.Certificate.{Certificate, condition_of}
use Rattle.pc_condition.specs.Conditions.{condition_text}
use Rattle.pc_replay.specs.Accepts.{Accepts}
use Rattle.pc_replay.specs.Rule.{ruling as ruling_on}
use Rattle.pc_replay.specs.declared.ruling.Ruling.{Ruling}
use Rattle.pc_replay.specs.declared.ruling.Ruling.TheVariants as ruling
use Rattle.pc_app.specs.declared.status.TheConstants.{DONE, FAILED}
use Rattle.pc_app.specs.Inputs.{TwoFiles}
use Rattle.pc_app.specs.Kinds.{source_kind, certificate_kind}
use Rattle.pc_app.specs.Subjects.{Subject, of_program}
use Rattle.pc_app.specs.Suffices.{Suffices}
use Rattle.pc_app.specs.Tasks.{Task}

-- ---- a ruling as a status and a text

abbrev pub ruling_status : Ruling → ℕ
ruling_status ruling.Accepted = DONE
ruling_status ruling.Shape = FAILED
ruling_status (ruling.Entry a r) = FAILED
ruling_status (ruling.Count a e) = FAILED
ruling_status (ruling.Negative a e r) = FAILED
ruling_status (ruling.Index a e r) = FAILED
ruling_status (ruling.Past a e r) = FAILED
ruling_status (ruling.NotBelow a e r) = FAILED
ruling_status (ruling.Left a e r v) = FAILED

-- a word and a number, each behind a space
abbrev pub numbered : Bytes → ℕ → Bytes
numbered word n = codes " " ++ word ++ codes " " ++ numeral (pos n)

abbrev pub at_edge : ℕ → ℕ → Bytes
at_edge a e = numbered (codes "alternative") a ++ numbered (codes "edge") e

abbrev pub at_row : ℕ → ℕ → ℕ → Bytes
at_row a e r = at_edge a e ++ numbered (codes "row") r

-- what is told of a refusal
abbrev pub refusal_text : Ruling → Bytes
refusal_text ruling.Accepted = codes ""
refusal_text ruling.Shape = codes "shape"
refusal_text (ruling.Entry a r) = codes "entry" ++ numbered (codes "alternative") a ++ numbered (codes "row") r
refusal_text (ruling.Count a e) = codes "count" ++ at_edge a e
refusal_text (ruling.Negative a e r) = codes "negative" ++ at_row a e r
refusal_text (ruling.Index a e r) = codes "index" ++ at_row a e r
refusal_text (ruling.Past a e r) = codes "past" ++ at_row a e r
refusal_text (ruling.NotBelow a e r) = codes "not-below" ++ at_row a e r
refusal_text (ruling.Left a e r v) = codes "left" ++ at_row a e r ++ numbered (codes "variable") v

abbrev pub refusal_line : Ruling → Bytes
refusal_line r = codes "refused: " ++ refusal_text r ++ codes "\n"

-- the text of a ruling on a certificate that says this of the entry
abbrev pub ruling_text : List Bytes → List (List Linear) → Ruling → Bytes
ruling_text names condition ruling.Accepted = codes "accepted\n" ++ condition_text names condition
ruling_text names condition ruling.Shape = refusal_line ruling.Shape
ruling_text names condition (ruling.Entry a r) = refusal_line (ruling.Entry a r)
ruling_text names condition (ruling.Count a e) = refusal_line (ruling.Count a e)
ruling_text names condition (ruling.Negative a e r) = refusal_line (ruling.Negative a e r)
ruling_text names condition (ruling.Index a e r) = refusal_line (ruling.Index a e r)
ruling_text names condition (ruling.Past a e r) = refusal_line (ruling.Past a e r)
ruling_text names condition (ruling.NotBelow a e r) = refusal_line (ruling.NotBelow a e r)
ruling_text names condition (ruling.Left a e r v) = refusal_line (ruling.Left a e r v)

-- ---- the command

-- the certificate is right for the graph, the text tells so and what it says of the entry, and every entry state that meets that is safe
pub record IsAccepted (subject : Subject) (c : Certificate) (text : Bytes) : Type 0 where
  pub accepted : Accepts subject.flow c
  pub text_is : text ≡ codes "accepted\n" ++ condition_text subject.names (condition_of c)
  pub sound : Suffices subject (condition_of c)

-- the ruling on a certificate, which is the first refusal in the order of the rule; where it is done, the certificate is accepted
pub record ReplaySays (subject : Subject) (c : Certificate) (status : ℕ) (text : Bytes) : Type 0 where
  pub status_is : status ≡ ruling_status (ruling_on subject.flow c)
  pub text_is : text ≡ ruling_text subject.names (condition_of c) (ruling_on subject.flow c)
  pub done : status ≡ DONE → IsAccepted subject c text

-- the statuses of a ruling
abbrev pub IsRuling : ℕ → Type 0
IsRuling status = (status ≡ DONE) ⊎ (status ≡ FAILED)

-- it fails where the certificate is not right for the graph
abbrev pub replay : Bytes → Bytes → Task
replay source certificate = record {
  inputs = TwoFiles source_kind source (λ p. certificate_kind) certificate;
  Says = λ given. ReplaySays (of_program given.0) given.1;
  Ends = IsRuling;
  Fails = λ given. Accepts (of_program given.0).flow given.1 → ⊥;
  IsPast = λ given. ⊥;
}
