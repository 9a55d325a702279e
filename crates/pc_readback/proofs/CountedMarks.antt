-- The counts over single marks.
use Rattle.std.proofs.Common.{◌≡◌, ℕ, ◌+◌, ◌-◌, ◌<◌, refl, ap, arith, [], ◌∷◌, true, false, None, Ok}
use Rattle.std.proofs.lemmas.Bool.{lt-ltb}
use Rattle.pc_text.specs.Bytes.{Bytes}
use Rattle.pc_grammar.specs.declared.symbol.Symbol.{Symbol}
use Rattle.pc_language.specs.declared.terminal.Terminal.{Terminal}
use Rattle.pc_language.specs.declared.terminal.Terminal.TheVariants as terminal
use Rattle.pc_grammar.specs.declared.limits.Counts.{Counts}
use Rattle.pc_language.specs.declared.limits.TheConstants.{BRACES, COMPARISONS}
use Rattle.pc_grammar.specs.Combinators.{Text}
use Rattle.pc_grammar.specs.Limits.{counted}
use Rattle.pc_show.specs.Pieces.{Mark, Name}
use Rattle.pc_readback.proofs.CountedPieces.{Anything, Count, steps, count_mark, count_name}
use Rattle.pc_readback.proofs.CountedExprs.{Within, Here}

-- only the open braces are known
abbrev pub Braces : ℕ → Counts → Type 0
Braces b c = c.braces ≡ b

-- directly behind a keyword
pub record Keyword (braces : ℕ) (c : Counts) : Type 0 where
  pub braces_are : c.braces ≡ braces
  pub ands_none : c.ands ≡ 0
  pub signs_none : c.signs ≡ 0
  pub behind : c.behind_keyword ≡ true

-- a symbol that leaves braces and "&&" as they are, and ends an expression
abbrev pub Resets : Terminal → Type 0
Resets t = (c : Counts) (s : Symbol) (r : Text) → s.terminal ≡ t → counted None c s r ≡ Ok (record { braces = c.braces; signs = 0; ands = c.ands; blocks = c.blocks; behind_keyword = false })

-- a keyword
abbrev pub Begins : Terminal → Type 0
Begins t = (c : Counts) (s : Symbol) (r : Text) → s.terminal ≡ t → counted None c s r ≡ Ok (record { braces = c.braces; signs = 0; ands = 0; blocks = c.blocks; behind_keyword = true })

module _ (src : Bytes) (b : ℕ) where
  pub reset : (n : ℕ) (t : Terminal) → Resets t → Count src (Mark t ∷ []) (Here b n) (Within b n 0) Anything
  reset n t f = count_mark src t (Here b n) (Within b n 0) Anything (λ c s r p e k. steps c s r (Within b n 0) (record { braces = c.braces; signs = 0; ands = c.ands; blocks = c.blocks; behind_keyword = false })
      (f c s r e) (record { braces_are = p.braces_are; ands_are = p.ands_are; signs_are = refl; behind_none = refl }))

  -- a mark behind which only the braces matter
  pub closed : (t : Terminal) → Resets t → Count src (Mark t ∷ []) (Braces b) (Braces b) Anything
  closed t f = count_mark src t (Braces b) (Braces b) Anything (λ c s r p e k. record { after = record { braces = c.braces; signs = 0; ands = c.ands; blocks = c.blocks; behind_keyword = false }; runs = f c s r e; holds = p })

  pub keyword : (t : Terminal) → Begins t → Count src (Mark t ∷ []) (Braces b) (Keyword b) Anything
  keyword t f = count_mark src t (Braces b) (Keyword b) Anything (λ c s r p e k. steps c s r (Keyword b) (record { braces = c.braces; signs = 0; ands = 0; blocks = c.blocks; behind_keyword = true })
      (f c s r e) (record { braces_are = p; ands_none = refl; signs_none = refl; behind = refl }))

  -- the parenthesis behind a keyword is no sign
  pub open_paren : Count src (Mark terminal.OpenParen ∷ []) (Keyword b) (Within b 0 0) Anything
  open_paren = count_mark src terminal.OpenParen (Keyword b) (Within b 0 0) Anything (λ c s r p e k. steps c s r (Within b 0 0) (record { braces = c.braces; signs = c.signs; ands = c.ands; blocks = c.blocks; behind_keyword = false })
      (rw (e, p.behind) refl) (record { braces_are = p.braces_are; ands_are = p.ands_none; signs_are = p.signs_none; behind_none = refl }))

  pub close_paren : Count src (Mark terminal.CloseParen ∷ []) (Braces b) (Braces b) Anything
  close_paren = count_mark src terminal.CloseParen (Braces b) (Braces b) Anything (λ c s r p e k. steps c s r (Braces b) (record { braces = c.braces; signs = c.signs; ands = c.ands; blocks = c.blocks; behind_keyword = false })
      (rw e refl) p)

  -- the name of an assignment, and one that is declared
  pub name_here : (n : ℕ) (w : Bytes) → Count src (Name w ∷ []) (Here b n) (Here b n) Anything
  name_here n w = count_name src w (Here b n) (Here b n) Anything (λ c s r p e k. steps c s r (Here b n) (record { braces = c.braces; signs = c.signs; ands = c.ands; blocks = c.blocks; behind_keyword = false })
      (rw e refl) (record { braces_are = p.braces_are; ands_are = p.ands_are }))

  pub name_closed : (w : Bytes) → Count src (Name w ∷ []) (Braces b) (Braces b) Anything
  name_closed w = count_name src w (Braces b) (Braces b) Anything (λ c s r p e k. steps c s r (Braces b) (record { braces = c.braces; signs = c.signs; ands = c.ands; blocks = c.blocks; behind_keyword = false })
      (rw e refl) p)

  -- the test `*`
  pub any_test : Count src (Mark terminal.Star ∷ []) (Within b 0 0) (Braces b) Anything
  any_test = count_mark src terminal.Star (Within b 0 0) (Braces b) Anything (λ c s r p e k. steps c s r (Braces b) (record { braces = c.braces; signs = c.signs + 1; ands = c.ands; blocks = c.blocks; behind_keyword = false })
      (rw (e, p.signs_are) refl) p.braces_are)

  pub one_and : (n : ℕ) → n < COMPARISONS - 1 → Count src (Mark terminal.And ∷ []) (Here b n) (Within b (n + 1) 0) Anything
  one_and n l = count_mark src terminal.And (Here b n) (Within b (n + 1) 0) Anything (λ c s r p e k. steps c s r (Within b (n + 1) 0) (record { braces = c.braces; signs = 0; ands = c.ands + 1; blocks = c.blocks; behind_keyword = false })
      (rw (e, p.ands_are, lt-ltb n (COMPARISONS - 1) l) refl) (record { braces_are = p.braces_are; ands_are = ap (λ (m : ℕ). m + 1) p.ands_are; signs_are = refl; behind_none = refl }))

  pub open_brace : b < BRACES → Count src (Mark terminal.OpenBrace ∷ []) (Braces b) (Braces (b + 1)) Anything
  open_brace l = count_mark src terminal.OpenBrace (Braces b) (Braces (b + 1)) Anything (λ c s r p e k. steps c s r (Braces (b + 1)) (record { braces = c.braces + 1; signs = 0; ands = c.ands; blocks = c.blocks; behind_keyword = false })
      (rw (e, p, lt-ltb b BRACES l) refl) (ap (λ (m : ℕ). m + 1) p))

  pub close_brace : Count src (Mark terminal.CloseBrace ∷ []) (Braces (b + 1)) (Braces b) Anything
  close_brace = count_mark src terminal.CloseBrace (Braces (b + 1)) (Braces b) Anything (λ c s r p e k. steps c s r (Braces b) (record { braces = c.braces - 1; signs = 0; ands = c.ands; blocks = c.blocks; behind_keyword = false })
      (rw e refl) (omega arith))
