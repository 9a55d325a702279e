-- `longest` gives the longest lexeme.
use Rattle.std.proofs.Common.{◌≡◌, ◌≤◌, ◌<◌, ℕ, suc, Bool, true, false, cond, nat_eq, [], ◌∷◌, ◌++◌, length, take, drop, Option, Some, None, refl, sym, ap, ◌∙◌, subst, inl, inr, arith, take-append-drop, length-take-le}
use Rattle.std.proofs.lemmas.Bool.{eqb-true}
use Rattle.pc_text.specs.declared.lexeme.Form.{Form}
use Rattle.pc_text.specs.declared.lexeme.Form.TheVariants as form
use Rattle.pc_text.specs.declared.lexeme.Class.{Class}
use Rattle.pc_text.specs.declared.lexeme.Class.TheVariants.{Blank, Slash, Letter, Digit, Alone, MayEqual, Bang, Ampersand, Other}
use Rattle.pc_text.specs.Bytes.{Bytes}
use Rattle.pc_text.specs.Lexemes.{class, in_word, in_number, in_line, EachPasses, IsPair, HasForm, Lexeme, IsLongest, LedByNone}
use Rattle.pc_text.specs.Longest.{run, pair_or, comment_if, longest_by, longest}

-- the front is at least so long
abbrev pub AtLeast : ℕ → Option (Form × ℕ) → Type 0
AtLeast k None = ⊥
AtLeast k (Some x) = k ≤ x.1

pub run_all : (p : ℕ → Bool) (w s : Bytes) → EachPasses p w → length w ≤ run p (w ++ s)
run_all p [] s h = omega arith
run_all p (b ∷ w) s h = let i = run_all p w s h.1 in rw h.0 (omega arith)

all_by : (p : ℕ → Bool) (b : ℕ) (r : Bytes) (c : Bool) → p b ≡ c → EachPasses p (take (run p r) r) → EachPasses p (take (cond c (suc (run p r)) 0) (b ∷ r))
all_by p b r true e h = (e, h)
all_by p b r false e h = tt

pub all_run : (p : ℕ → Bool) (r : Bytes) → EachPasses p (take (run p r) r)
all_run p [] = tt
all_run p (b ∷ r) = all_by p b r (p b) refl (all_run p r)

run_within_by : (p : ℕ → Bool) (r : Bytes) (c : Bool) → run p r ≤ length r → cond c (suc (run p r)) 0 ≤ suc (length r)
run_within_by p r true h = omega arith
run_within_by p r false h = omega arith

pub run_within : (p : ℕ → Bool) (r : Bytes) → run p r ≤ length r
run_within p [] = omega arith
run_within p (b ∷ r) = run_within_by p r (p b) (run_within p r)

pair_least : (d : ℕ) (s : Bytes) (k : ℕ) → k ≤ 1 → AtLeast k (pair_or d s (Some (form.Sign, 1)))
pair_least d [] k h = h
pair_least d (b ∷ s) k h = by (nat_eq b d)
  where
    by : (c : Bool) → AtLeast k (cond c (Some (form.Sign, 2)) (Some (form.Sign, 1)))
    by true = omega arith
    by false = h

-- a front of some form is no longer than what `longest` gives
pub bounds : (f : Form) (v s : Bytes) → HasForm f v → AtLeast (length v) (longest (v ++ s))
bounds f [] s h = absurd h
bounds form.Blank (b ∷ w) s h = rw (h.0, h.1) (omega arith)
bounds form.Comment (b ∷ []) s h = absurd h
bounds form.Comment (b ∷ c ∷ w) s h = let i = run_all in_line w s h.2 in rw (h.0, h.1) (omega arith)
bounds form.Word (b ∷ w) s h = let i = run_all in_word w s h.1 in rw h.0 (omega arith)
bounds form.Number (b ∷ w) s h = let i = run_all in_number w s h.1 in rw h.0 (omega arith)
bounds form.Sign (b ∷ []) s (inl h) = rw h (omega arith)
bounds form.Sign (b ∷ []) s (inr h) = rw h (pair_least 61 s 1 (omega arith))
bounds form.Sign (b ∷ c ∷ []) s (inl h) = rw (h.0, h.1) (omega arith)
bounds form.Sign (b ∷ c ∷ []) s (inr (inl h)) = rw (h.0, h.1) (omega arith)
bounds form.Sign (b ∷ c ∷ []) s (inr (inr h)) = rw (h.0, h.1) (omega arith)
bounds form.Sign (b ∷ c ∷ d ∷ w) s h = absurd h

-- what `longest` gives has its form, and is within the text
abbrev pub IsFound : Bytes → Form → ℕ → Type 0
IsFound i f n = HasForm f (take n i) × (0 < n) × (n ≤ length i)

abbrev pub Found : Bytes → Option (Form × ℕ) → Type 0
Found i None = Unit {0}
Found i (Some x) = IsFound i x.0 x.1

pair_found : (b d : ℕ) (r : Bytes) (o : Option (Form × ℕ)) → Found (b ∷ r) o → IsPair (class b) d → Found (b ∷ r) (pair_or d r o)
pair_found b d [] o h q = h
pair_found b d (c ∷ r) o h q = by (nat_eq c d) refl
  where
    by : (e : Bool) → nat_eq c d ≡ e → Found (b ∷ c ∷ r) (cond e (Some (form.Sign, 2)) o)
    by true e = (subst (λ z. IsPair (class b) z) (sym (eqb-true c d e)) q, omega arith, omega arith)
    by false e = h

comment_found : (b c : ℕ) (r : Bytes) (k : Class) → class b ≡ Slash → class c ≡ k → Found (b ∷ c ∷ r) (comment_if k r)
comment_found b c r Slash h e = ((h, e, all_run in_line r), omega arith, let w = run_within in_line r in omega arith)
comment_found b c r _ h e = tt

found_by : (b : ℕ) (r : Bytes) (k : Class) → class b ≡ k → Found (b ∷ r) (longest_by k r)
found_by b r Blank e = ((e, refl), omega arith, omega arith)
found_by b [] Slash e = tt
found_by b (c ∷ r) Slash e = comment_found b c r (class c) e refl
found_by b r Letter e = ((e, all_run in_word r), omega arith, let w = run_within in_word r in omega arith)
found_by b r Digit e = ((e, all_run in_number r), omega arith, let w = run_within in_number r in omega arith)
found_by b r Alone e = (inl e, omega arith, omega arith)
found_by b r MayEqual e = pair_found b 61 r (Some (form.Sign, 1)) (inr e, omega arith, omega arith) (inl (e, refl))
found_by b r Bang e = pair_found b 61 r None tt (inr (inl (e, refl)))
found_by b r Ampersand e = pair_found b 38 r None tt (inr (inr (e, refl)))
found_by b r Other e = tt

found : (i : Bytes) → Found i (longest i)
found [] = tt
found (b ∷ r) = found_by b r (class b) refl

-- a part of a text of some form
abbrev pub lexeme : Form → Bytes → Lexeme
lexeme f w = record { form = f; text = w }

-- what `longest` gives is the longest lexeme at the front
pub longest_is : (i : Bytes) (f : Form) (n : ℕ) → longest i ≡ Some (f, n) → IsFound i f n × IsLongest (take n i) (drop n i)
longest_is i f n e =
    let h : IsFound i f n = subst (Found i) e (found i) in (
      h,
      λ g v s q l.
          let m : length v ≤ n = subst (AtLeast (length v)) (ap longest (q ∙ take-append-drop n i) ∙ e) (bounds g v s l) in
          let k = length-take-le n i h.2 in omega arith,
    )

pub longest_none : (i : Bytes) → longest i ≡ None → LedByNone i
longest_none i e f v s q l = subst (AtLeast (length v)) (ap longest q ∙ e) (bounds f v s l)
