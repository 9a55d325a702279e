-- What follows from a certificate that is right for the graph of a program.
use Rattle.std.proofs.Common.{◌≡◌, ◌≤◌, ℕ, suc, ap, subst, ◌∙◌, arith, List, [], ◌∷◌, length, map, get_or, Bool, true, false, All, inl, inr, pos, refl}
use Rattle.std.specs.Prelude.{◌⊎◌, ◌&&◌, nat_le, int_le}
use Rattle.std.specs.List.{AllByRecursion}
use Rattle.std.proofs.lemmas.Int.{ints}
use Rattle.std.proofs.lemmas.Bool.{and_parts, leb-true}
use Rattle.std.proofs.lemmas.List.Elements.{All-from_recursion}
use Rattle.pc_rows.specs.Linear.{Linear, State, value, Meets, MeetsAll, MeetsSome, IsOver}
use Rattle.pc_rows.specs.declared.row.TheConstants.{VARIABLES}
use Rattle.pc_rows.specs.declared.rows.TheConstants.{ROWS}
use Rattle.pc_rows.specs.declared.system.TheConstants.{PREMISES}
use Rattle.pc_language.specs.declared.limits.TheConstants.{EDGES}
use Rattle.pc_program.specs.declared.program.Program.{Program}
use Rattle.pc_program.specs.Sane.{is_sane, sane_stmts, edges_of}
use Rattle.pc_graph.specs.Lowering.{graph}
use Rattle.pc_graph.proofs.LoopFree.{loop_free_graphs}
use Rattle.pc_graph.proofs.StraightLoops.{straight_is_loop_free}
use Rattle.pc_certificate.specs.declared.certificate.Annotated.{Annotated}
use Rattle.pc_certificate.specs.declared.certificate.TheConstants.{POINTS}
use Rattle.pc_certificate.specs.Certificate.{Certificate, entry_rows, condition_of, SaysOf}
use Rattle.pc_text.specs.Bytes.{Bytes}
use Rattle.pc_cert.specs.CertificateTexts.{IsTextOf}
use Rattle.pc_cert.specs.Lengths.{text_bytes}
use Rattle.pc_cert.proofs.ShortTexts.{texts_are_short}
use Rattle.pc_cert.proofs.WholeReading.{each_of}
use Rattle.pc_flow.specs.Annotation.{rows_at}
use Rattle.pc_flow.specs.Flow.{Flow}
use Rattle.pc_flow.proofs.Lists.{each_more}
use Rattle.pc_replay.specs.Accepts.{Accepts, AlternativeProved}
use Rattle.pc_replay.specs.Shape.{IsShaped}
use Rattle.pc_replay.proofs.Lean.{accepted_is_lean}
use Rattle.pc_app.proofs.Programs.{accepted_programs_are_safe}
use Rattle.pc_certify.specs.Inferring.{IsExact, IsAlternative}
use Rattle.pc_app.proofs.Programs.{infer_is_exact}
use Rattle.pc_app.specs.declared.limits.TheConstants.{ALTERNATIVES, CERTIFICATE_BYTES}
use Rattle.pc_app.specs.Subjects.{HasViolation, of_program}
use Rattle.pc_app.specs.Exactness.{IsNeeded, IsTameAndStraight}
use Rattle.pc_app.specs.Inferred.{IsCondition, IsFound, Inferred}

-- ---- what a program keeps

few_params : (p : Program) → is_sane p.names p.body ≡ true → p.names.params ≤ length p.names.names
few_params p h =
    let n = length p.names.names in
    leb-true p.names.params n (and_parts (nat_le p.names.params n) (nat_le n VARIABLES && (sane_stmts n p.body && nat_le (edges_of p.body) EDGES)) h).0

-- ---- facts of each item

each_mapped : {A B : Type 0} (P : B → Type 0) (f : A → B) (xs : List A) → AllByRecursion (λ x. P (f x)) xs → AllByRecursion P (map f xs)
each_mapped P f [] h = tt
each_mapped P f (x ∷ xs) h = (h.0, each_mapped P f xs h.1)

-- ---- the rows of the entry

entry_is : (a : Annotated) → rows_at a.rows 0 ≡ entry_rows a.rows
entry_is a = by a.rows
  where
    by : (rows : List (List Linear)) → get_or rows 0 [] ≡ entry_rows rows
    by [] = refl
    by (r ∷ rows) = refl

wider : (m n : ℕ) → m ≤ n → (r : Linear) → IsOver m r → IsOver n r
wider m n le r over v l = over v (omega arith)

-- rows of the entry, over the parameters and not too many
abbrev IsEntryOf : Flow → List Linear → Type 0
IsEntryOf g rows = (length rows ≤ ROWS) × AllByRecursion (IsOver g.params) rows

is_entry : (g : Flow) (a : Annotated) → IsAlternative g a → IsEntryOf g (rows_at a.rows 0)
is_entry g a is = let entry = is.entry in (entry.most, entry.over)

-- each alternative has rows for the entry, over the names
pub says : (p : Program) (c : Certificate) → Accepts (graph p) c → AllByRecursion (SaysOf (length p.names.names)) c.alternatives
says p c accepts =
    each_of (IsShaped c.points c.edges c.variables) (AlternativeProved (graph p)) (SaysOf (length p.names.names))
    (λ a shaped proved.
    let long = shaped.rows ∙ accepts.shape.points in
    let over = each_more (IsOver p.names.params) (IsOver (length p.names.names)) (wider p.names.params (length p.names.names) (few_params p p.sane)) (rows_at a.rows 0) proved.entry in
    (omega arith, All-from_recursion (IsOver (length p.names.names)) (entry_rows a.rows) (subst (λ (rows : List Linear). AllByRecursion (IsOver (length p.names.names)) rows) (entry_is a) over)))
    c.alternatives accepts.shape.each accepts.each

-- ---- the condition

mapped_length : {A B : Type 0} (f : A → B) (xs : List A) → length (map f xs) ≡ length xs
mapped_length f [] = refl
mapped_length f (x ∷ xs) = ap suc (mapped_length f xs)

-- what is told of an alternative's rows at the entry is told of the condition
entries : (g : Flow) (all : List Annotated) → AllByRecursion (IsAlternative g) all → AllByRecursion (IsEntryOf g) (map (λ (a : Annotated). entry_rows a.rows) all)
entries g all h =
    each_mapped (IsEntryOf g) (λ (a : Annotated). entry_rows a.rows) all
    (each_more (IsAlternative g) (λ (a : Annotated). IsEntryOf g (entry_rows a.rows)) (λ a is. subst (IsEntryOf g) (entry_is a) (is_entry g a is)) all h)

small : (p : Program) (c : Certificate) → length c.alternatives ≤ ALTERNATIVES → AllByRecursion (IsAlternative (graph p)) c.alternatives → IsCondition (of_program p) (condition_of c)
small p c few alternatives =
    let long = mapped_length (λ (a : Annotated). entry_rows a.rows) c.alternatives in
    let rows = entries (graph p) c.alternatives alternatives in
    record {
      alternatives = omega arith;
      rows = All-from_recursion (λ rows. length rows ≤ ROWS) (condition_of c) (each_more (IsEntryOf (graph p)) (λ rows. length rows ≤ ROWS) (λ rows h. h.0) (condition_of c) rows);
      parameters = All-from_recursion (All (IsOver p.names.params)) (condition_of c)
          (each_more (IsEntryOf (graph p)) (All (IsOver p.names.params)) (λ rows h. All-from_recursion (IsOver p.names.params) rows h.1) (condition_of c) rows);
    }

-- ---- whether a state meets a condition

meets_or_not : (s : State) (r : Linear) → Meets s r ⊎ (Meets s r → ⊥)
meets_or_not s r = by (int_le (pos 0) (value r s)) refl
  where
    by : (t : Bool) → int_le (pos 0) (value r s) ≡ t → Meets s r ⊎ (Meets s r → ⊥)
    by true e = inl (grind (arith, ints))
    by false e = inr (λ m. grind (arith, ints))

all_or_not : (s : State) (rows : List Linear) → MeetsAll s rows ⊎ (MeetsAll s rows → ⊥)
all_or_not s [] = inl tt
all_or_not s (r ∷ rows) = by (meets_or_not s r) (all_or_not s rows)
  where
    by : Meets s r ⊎ (Meets s r → ⊥) → MeetsAll s rows ⊎ (MeetsAll s rows → ⊥) → MeetsAll s (r ∷ rows) ⊎ (MeetsAll s (r ∷ rows) → ⊥)
    by (inl h) (inl g) = inl (h, g)
    by (inl h) (inr g) = inr (λ m. g m.1)
    by (inr h) q = inr (λ m. h m.0)

some_or_not : (s : State) (condition : List (List Linear)) → MeetsSome s condition ⊎ (MeetsSome s condition → ⊥)
some_or_not s [] = inr (λ m. m)
some_or_not s (rows ∷ condition) = by (all_or_not s rows) (some_or_not s condition)
  where
    by : MeetsAll s rows ⊎ (MeetsAll s rows → ⊥) → MeetsSome s condition ⊎ (MeetsSome s condition → ⊥) → MeetsSome s (rows ∷ condition) ⊎ (MeetsSome s (rows ∷ condition) → ⊥)
    by (inl h) q = inl (inl h)
    by (inr h) (inl g) = inl (inr g)
    by (inr h) (inr g) = inr (λ m. elim m [ inl x ↦ h x | inr y ↦ g y ])

needed : (p : Program) (c : Certificate) → Accepts (graph p) c → IsExact (graph p) c → IsTameAndStraight (of_program p) → IsNeeded (of_program p) (condition_of c)
needed p c accepts exact is s entry = by (some_or_not s (condition_of c))
  where
    by : MeetsSome s (condition_of c) ⊎ (MeetsSome s (condition_of c) → ⊥) → MeetsSome s (condition_of c) ⊎ HasViolation p s
    by (inl h) = inl h
    by (inr h) = inr ((infer_is_exact p c is.straight is.tame accepts exact s entry).violated h)

pub inferred : (p : Program) (c : Certificate) → IsFound (graph p) c → Inferred (of_program p) c
inferred p c is =
    record {
      accepted = is.accepted;
      found = is.found;
      small = small p c is.few is.found.rows;
      sound = accepted_programs_are_safe p c is.accepted;
      exact = λ tame. needed p c is.accepted (is.exact (loop_free_graphs p (straight_is_loop_free p tame.straight))) tame;
      covering = is.covering;
    }

-- ---- the length of the text

-- as many alternatives as a condition may have are within the limit
fits : (n : ℕ) → n ≤ ALTERNATIVES → text_bytes POINTS EDGES VARIABLES ROWS PREMISES n ≤ CERTIFICATE_BYTES
fits n few = omega arith

pub short_text : (p : Program) (c : Certificate) (text : Bytes) → length c.alternatives ≤ ALTERNATIVES → Accepts (graph p) c → IsTextOf text c → length text ≤ CERTIFICATE_BYTES
short_text p c text few accepts is =
    let short = texts_are_short c is.showable is.kept (accepted_is_lean (graph p) c is.kept accepts) in
    let e = ap (λ (z : Bytes). length z) is.text in
    let most = fits (length c.alternatives) few in
    omega arith
