-- Running keeps the laws of commands.
use Rattle.std.proofs.Common.{◌≡◌, ◌∙◌, ap, sym, subst, inl, inr, refl, ℕ, Ok, length, arith}
use Rattle.pc_text.specs.Bytes.{Bytes}
use Rattle.pc_program.specs.declared.program.Program.{Program}
use Rattle.pc_program.specs.Machine.{started}
use Rattle.pc_syntax.specs.Context.{Content, content_of}
use Rattle.pc_runner.specs.Runs.{SaysOf}
use Rattle.pc_runner.specs.Scripts.{Choosing, script_of}
use Rattle.pc_runner.specs.declared.verdict.Verdict.{Verdict}
use Rattle.pc_runner.specs.declared.verdict.Verdict.TheVariants as verdict
use Rattle.pc_runner.proofs.Sayings.{says_only}
use Rattle.pc_app.specs.declared.status.TheConstants.{FAILED, PAST}
use Rattle.pc_app.specs.Run.{verdict_status, verdict_text, RunSays, Violates, LeavesRange, IsVerdict, run}
use Rattle.pc_app.specs.Kinds.{source_kind, script_kind}
use Rattle.pc_app.proofs.CauseLemmas.{SameFile}
use Rattle.pc_app.proofs.InputLemmas.{IsEnd}
use Rattle.pc_app.proofs.KindLemmas.{source_decided, script_decided, scripts_alike, one_content}
use Rattle.pc_app.proofs.TaskLemmas.{Lawful}

of_verdict : (status : ℕ) (v : Verdict) → status ≡ verdict_status v → IsVerdict status
of_verdict status (verdict.Violated n p) s = inr (inl s)
of_verdict status (verdict.Blocked n p) s = inl s
of_verdict status (verdict.Ended n) s = inl s
of_verdict status (verdict.Going state) s = inl s
of_verdict status (verdict.Past n p) s = inr (inr s)

pub verdict_end : (status : ℕ) → IsVerdict status → IsEnd status
verdict_end status is = record { end = is }

-- programs that one text spells have as many parameters
pub same_params : (bytes : Bytes) (p q : Program) → source_kind.Means bytes p → source_kind.Means bytes q → p.names.params ≡ q.names.params
same_params bytes p q left right = ap (λ (c : Content). c.names.params) (one_content bytes p q left right)

-- one text is one script
module _ (params : ℕ) (bytes : Bytes) (c d : Choosing) where
  pub script_once : script_of params bytes ≡ Ok c → script_of params bytes ≡ Ok d → c ≡ d
  script_once left right = cc

-- ---- two runs of what the same files mean have one status

verdict_once : (p q : Program) → content_of p ≡ content_of q → (c : Choosing) (s : ℕ) (t : Bytes) (s' : ℕ) (t' : Bytes) → RunSays p c s t → RunSays q c s' t' → s ≡ s'
verdict_once p q same c s t s' t' x y =
    let a = says_only c.choices p.body (started p c.entry) x.verdict x.says in
    let b = says_only c.choices q.body (started q c.entry) y.verdict y.says in
    let body : p.body ≡ q.body = ap (λ (z : Content). z.body) same in
    let names : p.names ≡ q.names = ap (λ (z : Content). z.names) same in
    let one : x.verdict ≡ y.verdict = sym a ∙ rw (body, names) b in
    x.status_is ∙ ap verdict_status one ∙ sym y.status_is

runs_once : (p q : Program) (c d : Choosing) (s : ℕ) (t : Bytes) (s' : ℕ) (t' : Bytes) → SameFile source_kind source_kind p q → SameFile (script_kind p.names.params) (script_kind q.names.params) c d →
    RunSays p c s t → RunSays q d s' t' → s ≡ s'
runs_once p q c d s t s' t' sources scripts x y =
    let same = one_content sources.bytes p q sources.left sources.right in
    let params = same_params sources.bytes p q sources.left sources.right in
    let left = subst (λ (n : ℕ). script_of n scripts.bytes ≡ Ok c) params scripts.left in
    let e : c ≡ d = script_once q.names.params scripts.bytes c d left scripts.right in
    verdict_once p q same c s t s' t' x (subst (λ (z : Choosing). RunSays q z s' t') (sym e) y)

-- ---- when a run fails, and when it leaves the range

module _ (p : Program) (script : Choosing) where
  told : (v : Verdict) → SaysOf p script.entry script.choices v → (text : Bytes) × RunSays p script (verdict_status v) text
  told v says = (verdict_text p.names.names (length script.choices) v, record { verdict = v; says = says; status_is = refl; text_is = refl })

  run_failed : (v : Verdict) → verdict_status v ≡ FAILED → SaysOf p script.entry script.choices v → Violates p script
  run_failed (verdict.Violated n place) e says = record { step = n; place = place; says = says }
  run_failed (verdict.Blocked n place) e says = absurd (omega arith)
  run_failed (verdict.Ended n) e says = absurd (omega arith)
  run_failed (verdict.Going s) e says = absurd (omega arith)
  run_failed (verdict.Past n place) e says = absurd (omega arith)

  run_past : (v : Verdict) → verdict_status v ≡ PAST → SaysOf p script.entry script.choices v → LeavesRange p script
  run_past (verdict.Violated n place) e says = absurd (omega arith)
  run_past (verdict.Blocked n place) e says = absurd (omega arith)
  run_past (verdict.Ended n) e says = absurd (omega arith)
  run_past (verdict.Going s) e says = absurd (omega arith)
  run_past (verdict.Past n place) e says = record { step = n; place = place; says = says }

pub run_is_lawful : (source script : Bytes) → Lawful (run source script)
run_is_lawful source script = record {
  decided = record {
    decided = source_decided;
    each = λ p. script_decided p.names.params;
    alike = λ bytes p q left right. scripts_alike p.names.params q.names.params (same_params bytes p q left right);
  };
  ends = λ given status text says. of_verdict status says.verdict says.status_is;
  end = verdict_end;
  once = λ g h s t s' t' same x y. runs_once g.0 h.0 g.1 h.1 s t s' t' same.0 same.1 x y;
  fails = λ given h. told given.0 given.1 (verdict.Violated h.step h.place) h.says;
  failed = λ given status text e says. run_failed given.0 given.1 says.verdict (sym says.status_is ∙ e) says.says;
  leaves = λ given h. told given.0 given.1 (verdict.Past h.step h.place) h.says;
  left = λ given status text e says. run_past given.0 given.1 says.verdict (sym says.status_is ∙ e) says.says;
}
