-- One turn of the lexer's loop, and its answer.
use Rattle.std.proofs.Common.{◌≡◌, ◌≤◌, ◌<◌, ℕ, zero, suc, ◌+◌, ◌-◌, List, [], ◌∷◌, length, drop, get_or, Option, Some, None, Ok, Err, refl, sym, ap, ◌∙◌, subst, arith, append_assoc, append-nil, drop-cons, length-drop, IfOk}
use Rattle.std.proofs.lemmas.List.{drop-drop, drop_all}
use Rattle.pc_text.specs.declared.token.Kind.{Kind}
use Rattle.pc_text.specs.declared.token.Token.{Token}
use Rattle.pc_text.specs.declared.token.LexFault.{LexFault}
use Rattle.pc_text.specs.Bytes.{Bytes}
use Rattle.pc_text.specs.Lexemes.{AreSpans}
use Rattle.pc_text.specs.Lex.{piece_at, with_front, with_piece, lex_from, lex, with_found, more}
use Rattle.pc_text.specs.Answers.{Means, Gives, MeansUnless}
use Rattle.pc_text.proofs.LexMeans.{Answer, means}
use Rattle.pc_text.proofs.LexOnly.{only, skip}
use Rattle.pc_text.proofs.Spans.{spans}

-- what was found, with what is still to be read
abbrev pub from : Bytes → List Token → ℕ → Answer
from s found at = with_found found (lex_from s 0 at (drop at s))

more_found : (found : List Token) (k : Option Kind) (at to : ℕ) (o : Answer) → with_found found (with_front k at to o) ≡ with_found (more found k at to) o
more_found found k at to (Err e) = refl
more_found found None at to (Ok ts) = refl
more_found found (Some k) at to (Ok ts) = ap Ok (sym (append_assoc found (record { kind = k; «from» = at; to = to } ∷ []) ts))

rest_behind : (s : Bytes) (at n b : ℕ) (r : Bytes) → drop at s ≡ b ∷ r → 0 < n → at + n ≤ length s → lex_from s (n - 1) (at + 1) r ≡ lex_from s 0 (at + n) (drop (at + n) s)
rest_behind s at zero b r d h l = absurd (omega arith)
rest_behind s at (suc n) b r d h l =
    let less : suc n - 1 ≡ n = omega arith in
    let place : at + 1 + n ≡ at + suc n = omega arith in
    let within : n ≤ length r = omega (arith, ap length d, length-drop at s) in
    let same : drop n r ≡ drop (at + suc n) s = ap (drop (suc n)) (sym d) ∙ drop-drop (suc n) at s in
    ap (λ q. lex_from s q (at + 1) r) less ∙ skip s n (at + 1) r within ∙ ap (λ q. lex_from s 0 q (drop n r)) place ∙ ap (lex_from s 0 (at + suc n)) same

turn_on : (s : Bytes) (found : List Token) (at b : ℕ) (r : Bytes) (x : Option Kind × ℕ) → drop at s ≡ b ∷ r → piece_at s at (b ∷ r) ≡ Ok x → 0 < x.1 → at + x.1 ≤ length s
    → from s found at ≡ from s (more found x.0 at (at + x.1)) (at + x.1)
turn_on s found at b r x d e h l =
    ap (λ q. with_found found (lex_from s 0 at q)) d
    ∙ ap (λ q. with_found found (with_piece at q (λ k. lex_from s k (at + 1) r))) e
    ∙ ap (λ q. with_found found (with_front x.0 at (at + x.1) q)) (rest_behind s at x.1 b r d h l)
    ∙ more_found found x.0 at (at + x.1) (lex_from s 0 (at + x.1) (drop (at + x.1) s))

pub turn : (s : Bytes) (found : List Token) (at : ℕ) (x : Option Kind × ℕ) → at < length s → piece_at s at (drop at s) ≡ Ok x → 0 < x.1 → at + x.1 ≤ length s
    → from s found at ≡ from s (more found x.0 at (at + x.1)) (at + x.1)
turn s found at x i e h l = let d = drop-cons s at 0 i in turn_on s found at (get_or s at 0) (drop (suc at) s) x d (ap (piece_at s at) (sym d) ∙ e) h l

pub begin : (s : Bytes) → lex s ≡ from s [] 0
unfolding lex
begin s = sym (none (lex_from s 0 0 s))
  where
    none : (o : Answer) → with_found [] o ≡ o
    none (Ok ts) = refl
    none (Err e) = refl

-- ---- the clauses of `tokens`

pub meant : (r : Answer) (s : Bytes) → Gives r (lex s) → MeansUnless r s
unfolding lex
meant (Ok ts) s g = subst (Means s) g (means s s 0 0)
meant (Err e) s g = λ h. subst (Means s) (g h) (means s s 0 0)

pub just : (r : Answer) (s : Bytes) → Gives r (lex s) → (o : Answer) → Means s o → Gives r o
unfolding lex
just r s g o m = subst (Gives r) (only s s 0 o m) g

pub in_order : (r : Answer) (s : Bytes) → Gives r (lex s) → IfOk r (λ ts. AreSpans 0 (length s) ts)
in_order (Ok ts) s g = by (meant (Ok ts) s g)
  where
    by : Means s (Ok ts) → AreSpans 0 (length s) ts
    by (ls, c, f, e) = subst (AreSpans 0 (length s)) (sym e) (spans ls s 0 (length s) c (omega arith))
in_order (Err e) s g = tt
