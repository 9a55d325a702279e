-- Seeking choices that break an assertion keeps the laws of commands.
use Rattle.std.proofs.Common.{◌≡◌, ◌∙◌, ap, sym, subst, inl, inr, refl, ℕ, ◌≤◌, ℤ, List, [], ◌∷◌, Option, Some, None, Ok, true, length, arith}
use Rattle.std.proofs.lemmas.Bool.{and_parts}
use Rattle.std.proofs.lemmas.Bool.Decides.{nat_tests}
use Rattle.std.specs.List.{list_all, AllByRecursion as Each}
use Rattle.pc_ports.specs.Outside.{Holding}
use Rattle.pc_text.specs.Bytes.{Bytes}
use Rattle.pc_text.specs.Numerals.{is_in_range}
use Rattle.pc_text.specs.declared.place.Place.{Place}
use Rattle.pc_rows.specs.declared.row.TheConstants.{VARIABLES}
use Rattle.pc_rows.specs.Linear.{State, MeetsAll, InRange, AllInRange}
use Rattle.pc_flow.specs.Arc.{IsFit}
use Rattle.pc_flow.specs.Exact.{StraightEdge}
use Rattle.pc_flow.specs.Flow.{Flow}
use Rattle.pc_flow.proofs.Lists.{each_more}
use Rattle.pc_graph.specs.Lowering.{graph}
use Rattle.pc_graph.specs.Straight.{are_straight}
use Rattle.pc_graph.proofs.Graphs.{graph_kept}
use Rattle.pc_graph.proofs.Straights.{straight_graphs}
use Rattle.pc_program.specs.Loops.{first}
use Rattle.pc_program.specs.Machine.{Safe}
use Rattle.pc_program.specs.declared.program.Program.{Program}
use Rattle.pc_syntax.specs.Context.{Content}
use Rattle.pc_runner.specs.Scripts.{Choosing, script_of}
use Rattle.pc_runner.specs.declared.script.TheConstants.{CHOICES}
use Rattle.pc_breach.specs.declared.sought.Sought.TheVariants.{Bend, OpenEnd}
use Rattle.pc_breach.specs.declared.answer.Breach.{Breach}
use Rattle.pc_breach.specs.declared.answer.Breach.TheVariants as found
use Rattle.pc_breach.specs.Answers.{IsSettled, BreachIs, entry_rows, choices}
use Rattle.pc_breach.specs.Graphs.{IsStraight}
use Rattle.pc_breach.specs.Laws.{RunsHold}
use Rattle.pc_breach.specs.Scripts.{script_text}
use Rattle.pc_breach.specs.Sought.{places_of, bends, open_ends}
use Rattle.pc_breach.proofs.Fitting.{choices_are_fit}
use Rattle.pc_breach.proofs.Meaning.{runs_are_meant}
use Rattle.pc_breach.proofs.Seeking.{places_are_meant}
use Rattle.pc_breach.proofs.Settling.{tame_settled}
use Rattle.pc_breach.proofs.Texts.{script_is_read}
use Rattle.pc_app.specs.declared.answer.Stop.{Stop}
use Rattle.pc_app.specs.declared.answer.Stop.TheVariants as stop
use Rattle.pc_app.specs.declared.breach.Unfit.{Unfit}
use Rattle.pc_app.specs.declared.status.TheConstants.{DONE, FAILED, PAST, REFUSED}
use Rattle.pc_app.specs.Breach.{unfit_by, unfit_of, unfit_text, straight_kind, unsettled, safe, IsAnswer, IsViolating, IsTold, BreachSays, breach}
use Rattle.pc_app.specs.Breach.IsAnswer.{IsUnsettled, IsSafe, IsBroken}
use Rattle.pc_app.specs.Files.{MayMean, IsUnread}
use Rattle.pc_app.specs.Kinds.{source_kind, script_kind}
use Rattle.pc_app.specs.Reading.{Stops}
use Rattle.pc_app.specs.Run.{IsVerdict}
use Rattle.pc_app.specs.Texts.{refused}
use Rattle.pc_app.proofs.CauseLemmas.{SameFile}
use Rattle.pc_app.proofs.KindLemmas.{IsDecided, source_decided, script_decided, scripts_alike, one_content, with_fault_decided}
use Rattle.pc_app.proofs.ReplayLemmas.{same_graph}
use Rattle.pc_app.proofs.RunLemmas.{verdict_end, same_params, script_once}
use Rattle.pc_app.proofs.ScriptLemmas.{as_many_values, entry_in_range}
use Rattle.pc_app.proofs.TaskLemmas.{Lawful}

-- ---- the source

-- programs that one text spells are unfit together
unfit_same : (bytes : Bytes) (p q : Program) → source_kind.Means bytes p → source_kind.Means bytes q → unfit_of p ≡ unfit_of q
unfit_same bytes p q left right =
    ap (λ (c : Content). unfit_by (first (places_of Bend c.body)) (first (places_of OpenEnd c.body))) (one_content bytes p q left right)

straight_decided : IsDecided straight_kind
straight_decided = with_fault_decided source_kind Unfit unfit_of (λ u. refused (unfit_text u)) source_decided unfit_same

module _ (held : Holding) (p : Program) (is : MayMean source_kind held p) where
  -- a source that is fit
  pub still_means : None ≡ unfit_of p → MayMean straight_kind held p
  still_means fit = record { bytes = is.bytes; has = is.has; means = (is.means, sym fit) }

  -- a source that is not is refused
  pub is_unfit : (u : Unfit) → Some u ≡ unfit_of p → (status : ℕ) (text : Bytes) → status ≡ REFUSED → text ≡ refused (unfit_text u) → IsUnread straight_kind held status text
  is_unfit u unfit status text status_is text_is =
      inr (record { bytes = is.bytes; has = is.has; fault = inr u; faulty = (p, is.means, sym unfit); status_is = status_is; text_is = text_is })

-- a source that spells no program is refused as every other
unread : (held : Holding) (status : ℕ) (text : Bytes) → IsUnread source_kind held status text → IsUnread straight_kind held status text
unread held status text (inl long) =
    inl (record { bytes = long.bytes; holds = long.holds; more = long.more; status_is = long.status_is; text_is = long.text_is })
unread held status text (inr bad) =
    inr (record { bytes = bad.bytes; has = bad.has; fault = inl bad.fault; faulty = bad.faulty; status_is = bad.status_is; text_is = bad.text_is })

pub source_stops : (held : Holding) (Lost : Type 0) (e : Stop) → Stops (IsUnread source_kind held) Lost e → Stops (IsUnread straight_kind held) Lost e
source_stops held Lost (stop.Refused a) h = unread held a.status a.text h
source_stops held Lost stop.Store h = h
source_stops held Lost stop.Memory h = h

none_of : (a b : Option Place) → unfit_by a b ≡ None → (a ≡ None) × (b ≡ None)
none_of None None e = (refl, refl)
none_of None (Some y) e = absurd (cc)
none_of (Some x) b e = absurd (cc)

-- ---- the script

one_in_range : (z : ℤ) → is_in_range z ≡ true → InRange z
one_in_range z h = grind (arith, nat_tests)

-- numbers in range, one by one
pub all_in_range : (zs : List ℤ) → list_all is_in_range zs ≡ true → AllInRange zs
all_in_range [] h = tt
all_in_range (z ∷ zs) h = let both = and_parts (is_in_range z) (list_all is_in_range zs) h in (one_in_range z both.0, all_in_range zs both.1)

-- ---- what an answer says

module _ (p : Program) (entry : State) (runs : RunsHold p entry) where
  safe_by : (status : ℕ) (text : Bytes) → IsAnswer (graph p) entry status text → status ≡ DONE → Safe p entry
  safe_by status text (IsUnsettled never s t) e = absurd (omega arith)
  safe_by status text (IsSafe settled met s t) e = runs.safe met
  safe_by status text (IsBroken settled bad s t) e = absurd (omega arith)

-- the text of the choices is read as a script
script_again : (params : ℕ) (entry cs : List ℤ) (text : Bytes) → length entry ≡ params → list_all is_in_range entry ≡ true → list_all is_in_range cs ≡ true → length cs ≤ CHOICES →
    text ≡ script_text entry cs → script_of params text ≡ Ok (record { entry = entry; choices = cs })
script_again params entry cs text long ranged fit few is =
    subst (λ (b : Bytes). script_of params b ≡ Ok (record { entry = entry; choices = cs })) (sym is)
    (subst (λ (n : ℕ). script_of n (script_text entry cs) ≡ Ok (record { entry = entry; choices = cs })) long (script_is_read entry cs ranged fit few))

module _ (p : Program) (entry : State) (straight : are_straight p.body ≡ true) (runs : RunsHold p entry) (long : length entry ≡ p.names.params) (ranged : list_all is_in_range entry ≡ true) where
  edges_fit : Each (λ e. IsFit e.what) (graph p).edges
  edges_fit = each_more (StraightEdge (length (graph p).points) (graph p).variables) (λ e. IsFit e.what) (λ e h. h.fits) (graph p).edges (straight_graphs p straight)

  violating_by : (status : ℕ) (text : Bytes) → IsAnswer (graph p) entry status text → status ≡ FAILED → IsViolating p entry text
  violating_by status text (IsUnsettled never s t) e = absurd (omega arith)
  violating_by status text (IsSafe settled met s t) e = absurd (omega arith)
  violating_by status text (IsBroken settled bad s t) e =
      let cs = choices (graph p) entry in
      let fit = choices_are_fit (graph p) entry (graph_kept p) edges_fit in
      let run = runs.violated bad in
      record {
        script = record { entry = entry; choices = cs };
        read = script_again p.names.params entry cs text long ranged fit.0 fit.1 t;
        entry_is = refl;
        place = run.0;
        violated = run.1;
      }

settled_by : (p : Program) (entry : State) (status : ℕ) (text : Bytes) → IsAnswer (graph p) entry status text → IsSettled (graph p) entry → status ≡ PAST → ⊥
settled_by p entry status text (IsUnsettled never s t) settled e = never settled
settled_by p entry status text (IsSafe is met s t) settled e = omega arith
settled_by p entry status text (IsBroken is bad s t) settled e = omega arith

few_values : (p : Program) (entry : State) → length entry ≡ p.names.params → length entry ≤ VARIABLES
few_values p entry long =
    let kept = graph_kept p in
    let parameters = kept.parameters in
    let variables = kept.variables in
    omega arith

module _ (p : Program) (script : Choosing) where
  told_of : (status : ℕ) (text : Bytes) → IsAnswer (graph p) script.entry status text → unfit_of p ≡ None → (bytes : Bytes) → script_of p.names.params bytes ≡ Ok script →
      IsTold p script.entry status text
  told_of status text a fit bytes is =
      let none = none_of (first (bends p)) (first (open_ends p)) fit in
      let places = places_are_meant p in
      let straight = places.straight.0 none.0 in
      let graph_fit = places.fit none.0 none.1 in
      let long = as_many_values p.names.params bytes script is in
      let ranged = entry_in_range p.names.params bytes script is in
      let runs = runs_are_meant p script.entry straight graph_fit.ends long in
      record {
        safe = safe_by p script.entry runs status text a;
        violating = violating_by p script.entry straight runs long ranged status text a;
        settled = λ tame within.
            settled_by p script.entry status text a (tame_settled (graph p) script.entry (graph_kept p) graph_fit.heads (few_values p script.entry long) tame within);
      }

  -- an answer, with what it says
  pub says_answer : (status : ℕ) (text : Bytes) → IsAnswer (graph p) script.entry status text → BreachSays p script status text
  says_answer status text a = record { answer = a; told = told_of status text a }

-- the graph of a program that is fit is fit
pub straight_graph : (p : Program) → unfit_of p ≡ None → IsStraight (graph p)
straight_graph p fit = let none = none_of (first (bends p)) (first (open_ends p)) fit in (places_are_meant p).fit none.0 none.1

-- what is found of the graph that is made of a program, and of the values that are read
module _ (p : Program) (g : Flow) (s entry : State) (made : g ≡ graph p) (read : s ≡ entry) where
  moved : (b c : Breach) → b ≡ c → BreachIs g s (Ok b) → BreachIs (graph p) entry (Ok c)
  moved b c e h =
      subst (λ (z : State). BreachIs (graph p) z (Ok c)) read (subst (λ (z : Flow). BreachIs z s (Ok c)) made (subst (λ (z : Breach). BreachIs g s (Ok z)) e h))

  pub past_answer : (b : Breach) → b ≡ found.Past → BreachIs g s (Ok b) → (status : ℕ) (text : Bytes) → status ≡ PAST → text ≡ unsettled → IsAnswer (graph p) entry status text
  past_answer b e h status text i t = IsUnsettled (moved b found.Past e h) i t

  pub safe_answer : (b : Breach) → b ≡ found.Safe → BreachIs g s (Ok b) → (status : ℕ) (text : Bytes) → status ≡ DONE → text ≡ safe → IsAnswer (graph p) entry status text
  safe_answer b e h status text i t = let is = moved b found.Safe e h in IsSafe is.0 is.1 i t

  pub broken_answer : (b : Breach) (cs : List ℤ) → b ≡ found.Choices cs → BreachIs g s (Ok b) → (text : Bytes) → text ≡ script_text entry cs → IsAnswer (graph p) entry FAILED text
  broken_answer b cs e h text t =
      let is = moved b (found.Choices cs) e h in
      IsBroken is.0 is.1 refl (t ∙ ap (λ (z : List ℤ). script_text entry z) is.2)

-- ---- the laws of commands

module _ (g : Flow) (s : State) where
  ends_by : (status : ℕ) (text : Bytes) → IsAnswer g s status text → IsVerdict status
  ends_by status text (IsUnsettled never e t) = inr (inr e)
  ends_by status text (IsSafe settled met e t) = inl e
  ends_by status text (IsBroken settled bad e t) = inr (inl e)

  answered_once : (m : ℕ) (t : Bytes) (n : ℕ) (u : Bytes) → IsAnswer g s m t → IsAnswer g s n u → m ≡ n
  answered_once m t n u (IsUnsettled never e i) (IsUnsettled never' e' i') = e ∙ sym e'
  answered_once m t n u (IsUnsettled never e i) (IsSafe settled met e' i') = absurd (never settled)
  answered_once m t n u (IsUnsettled never e i) (IsBroken settled bad e' i') = absurd (never settled)
  answered_once m t n u (IsSafe settled met e i) (IsUnsettled never e' i') = absurd (never settled)
  answered_once m t n u (IsSafe settled met e i) (IsSafe settled' met' e' i') = e ∙ sym e'
  answered_once m t n u (IsSafe settled met e i) (IsBroken settled' bad e' i') = absurd (bad met)
  answered_once m t n u (IsBroken settled bad e i) (IsUnsettled never e' i') = absurd (never settled)
  answered_once m t n u (IsBroken settled bad e i) (IsSafe settled' met e' i') = absurd (bad met)
  answered_once m t n u (IsBroken settled bad e i) (IsBroken settled' bad' e' i') = e ∙ sym e'

  broken_by : (status : ℕ) (text : Bytes) → status ≡ FAILED → IsAnswer g s status text → IsSettled g s × (MeetsAll s (entry_rows g) → ⊥)
  broken_by status text f (IsUnsettled never e t) = absurd (omega arith)
  broken_by status text f (IsSafe settled met e t) = absurd (omega arith)
  broken_by status text f (IsBroken settled bad e t) = (settled, bad)

  unsettled_by : (status : ℕ) (text : Bytes) → status ≡ PAST → IsAnswer g s status text → IsSettled g s → ⊥
  unsettled_by status text f (IsUnsettled never e t) = never
  unsettled_by status text f (IsSafe settled met e t) = absurd (omega arith)
  unsettled_by status text f (IsBroken settled bad e t) = absurd (omega arith)

breach_once : (p q : Program) (c d : Choosing) (m : ℕ) (t : Bytes) (n : ℕ) (u : Bytes) → SameFile straight_kind straight_kind p q →
    SameFile (script_kind p.names.params) (script_kind q.names.params) c d → IsAnswer (graph p) c.entry m t → IsAnswer (graph q) d.entry n u → m ≡ n
breach_once p q c d m t n u sources scripts x y =
    let graphs = same_graph p q (one_content sources.bytes p q sources.left.0 sources.right.0) in
    let params = same_params sources.bytes p q sources.left.0 sources.right.0 in
    let left = subst (λ (k : ℕ). script_of k scripts.bytes ≡ Ok c) params scripts.left in
    let same : c ≡ d = script_once q.names.params scripts.bytes c d left scripts.right in
    let moved = subst (λ (g : Flow). IsAnswer g d.entry n u) (sym graphs) y in
    answered_once (graph p) c.entry m t n u x (subst (λ (z : Choosing). IsAnswer (graph p) z.entry n u) (sym same) moved)

pub breach_is_lawful : (source script : Bytes) → Lawful (breach source script)
breach_is_lawful source script = record {
  decided = record {
    decided = straight_decided;
    each = λ p. script_decided p.names.params;
    alike = λ bytes p q left right. scripts_alike p.names.params q.names.params (same_params bytes p q left.0 right.0);
  };
  ends = λ given status text says. ends_by (graph given.0) given.1.entry status text says.answer;
  end = verdict_end;
  once = λ g h s t s' t' same x y. breach_once g.0 h.0 g.1 h.1 s t s' t' same.0 same.1 x.answer y.answer;
  fails = λ given h.
      let text = script_text given.1.entry (choices (graph given.0) given.1.entry) in
      (text, says_answer given.0 given.1 FAILED text (IsBroken h.0 h.1 refl refl));
  failed = λ given status text e says. broken_by (graph given.0) given.1.entry status text e says.answer;
  leaves = λ given h. (unsettled, says_answer given.0 given.1 PAST unsettled (IsUnsettled h refl refl));
  left = λ given status text e says. unsettled_by (graph given.0) given.1.entry status text e says.answer;
}
