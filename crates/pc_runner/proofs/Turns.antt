-- One turn of the run: what its first step makes of the verdict.
use Rattle.std.proofs.Common.{◌≡◌, ◌∙◌, refl, ap, sym, ℕ, ◌+◌, ◌<◌, ℤ, List, ◌∷◌, length, get_or, drop, arith}
use Rattle.std.proofs.lemmas.List.{drop_more}
use Rattle.pc_program.specs.declared.tree.Stmt.{Stmt}
use Rattle.pc_rows.specs.Linear.{State}
use Rattle.pc_runner.specs.declared.machine.Step.{Step}
use Rattle.pc_runner.specs.declared.machine.Step.TheVariants as step
use Rattle.pc_runner.specs.declared.verdict.Verdict.{Verdict}
use Rattle.pc_runner.specs.declared.verdict.Verdict.TheVariants as verdict
use Rattle.pc_runner.specs.Checked.{stepped}
use Rattle.pc_runner.specs.Stack.{led_to}
use Rattle.pc_runner.specs.Verdicts.{taken, later, concluded, verdict_from}
use Rattle.pc_runner.proofs.Steps.{stepped_is}

later_more : (n : ℕ) (v : Verdict) → later n (later 1 v) ≡ later (n + 1) v
later_more n (verdict.Violated m p) = ap (λ (i : ℕ). verdict.Violated i p) (omega arith)
later_more n (verdict.Blocked m p) = ap (λ (i : ℕ). verdict.Blocked i p) (omega arith)
later_more n (verdict.Ended m) = ap (λ (i : ℕ). verdict.Ended i) (omega arith)
later_more n (verdict.Going s) = refl
later_more n (verdict.Past m p) = ap (λ (i : ℕ). verdict.Past i p) (omega arith)

-- what the step after `n` steps says of the verdict `v`
abbrev pub Turned : ℕ → ℕ → Step → List Stmt → State → List ℤ → Verdict → Type 0
Turned m n step.Going k s cs v = (m + 1 ≡ n + 1) × (later (n + 1) (verdict_from k s (drop (n + 1) cs)) ≡ v)
Turned m n (step.Violated p) k s cs v = verdict.Violated (m + 1) p ≡ v
Turned m n (step.Blocked p) k s cs v = verdict.Blocked (m + 1) p ≡ v
Turned m n step.Ended k s cs v = verdict.Ended (m + 1) ≡ v
Turned m n (step.Past p) k s cs v = verdict.Past (m + 1) p ≡ v

turned : (m n : ℕ) (t : Step) (k : List Stmt) (s : State) (cs : List ℤ) (v : Verdict) → m ≡ n
    → later n (concluded (led_to t k s) (λ k s. later 1 (verdict_from k s (drop (n + 1) cs)))) ≡ v → Turned m n t k s cs v
turned m n step.Going k s cs v e h = (ap (λ (i : ℕ). i + 1) e, sym (later_more n (verdict_from k s (drop (n + 1) cs))) ∙ h)
turned m n (step.Violated p) k s cs v e h = ap (λ (i : ℕ). verdict.Violated i p) (let one : m + 1 ≡ 1 + n = omega arith in one) ∙ h
turned m n (step.Blocked p) k s cs v e h = ap (λ (i : ℕ). verdict.Blocked i p) (let one : m + 1 ≡ 1 + n = omega arith in one) ∙ h
turned m n step.Ended k s cs v e h = ap (λ (i : ℕ). verdict.Ended i) (let one : m + 1 ≡ 1 + n = omega arith in one) ∙ h
turned m n (step.Past p) k s cs v e h = ap (λ (i : ℕ). verdict.Past i p) (let one : m + 1 ≡ 1 + n = omega arith in one) ∙ h

-- the step after `n` steps, which takes the next choice
pub turn : (m n : ℕ) (t t' : Step) (k k' : List Stmt) (s s' : State) (items cs : List ℤ) (d : ℤ) (v : Verdict) → m ≡ n → n < length items → items ≡ cs
    → led_to t k' s' ≡ stepped k s (get_or items n d) → later n (verdict_from k s (drop n cs)) ≡ v → t ≡ t' → Turned m n t' k' s' cs v
turn m n t t' k k' s s' items cs d v same h e f g i =
    let c = get_or items n d in
    let more = λ (k : List Stmt) (s : State). later 1 (verdict_from k s (drop (n + 1) cs)) in
    let front : drop n cs ≡ c ∷ drop (n + 1) cs = ap (drop n) (sym e) ∙ drop_more items n d h ∙ ap (λ z. c ∷ drop (n + 1) z) e in
    let first : led_to t' k' s' ≡ taken k s c = ap (λ t. led_to t k' s') (sym i) ∙ f ∙ stepped_is k s c in
    turned m n t' k' s' cs v same (ap (λ r. later n (concluded r more)) first ∙ ap (λ z. later n (verdict_from k s z)) (sym front) ∙ g)
