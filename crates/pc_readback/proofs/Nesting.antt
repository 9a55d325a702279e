-- How many braces are open in phrases of blocks.
use Rattle.std.proofs.Common.{◌≡◌, ℕ, zero, suc, ◌+◌, ◌-◌, ◌≤◌, ◌<◌, refl, sym, ◌∙◌, arith, [], ◌∷◌, Bool, true, false, cond, Some, None}
use Rattle.std.specs.Prelude.{◌&&◌, nat_lt, max}
use Rattle.std.proofs.lemmas.Bool.{ltb-true}
use Rattle.pc_grammar.specs.declared.symbol.Symbol.{Symbol}
use Rattle.pc_language.specs.declared.terminal.Terminal.{Terminal}
use Rattle.pc_language.specs.declared.terminal.Terminal.TheVariants as terminal
use Rattle.pc_grammar.specs.declared.limits.Counts.{Counts}
use Rattle.pc_language.specs.declared.limits.TheConstants.{BRACES}
use Rattle.pc_grammar.specs.Terminals.{has}
use Rattle.pc_grammar.specs.Limits.{braces_after}
use Rattle.pc_program.proofs.Results.{and_of}
use Rattle.pc_syntax.proofs.Phrases.{IsOne}
use Rattle.pc_readback.proofs.SeenTests.{Holds}

pub record Opens (n m : ℕ) : Type 0 where
  pub sum : m ≡ n + 1
  pub room : n < BRACES

pub opening : (n m : ℕ) (k : Terminal) → has (terminal.OpenBrace ∷ []) k ≡ true → braces_after n k ≡ Some m → Opens n m
opening n m terminal.OpenBrace h e = by (nat_lt n BRACES) refl e
  where
    by : (b : Bool) → nat_lt n BRACES ≡ b → cond b (Some (n + 1)) None ≡ Some m → Opens n m
    by true g e = let f : n + 1 ≡ m = cc in record { sum = sym f; room = ltb-true n BRACES g }
    by false g e = absurd (cc)
opening n m k h e = absurd (cc)

pub closing : (n m : ℕ) (k : Terminal) → has (terminal.CloseBrace ∷ []) k ≡ true → braces_after n k ≡ Some m → m ≡ n - 1
closing n m terminal.CloseBrace h e = let f : n - 1 ≡ m = cc in sym f
closing n m k h e = absurd (cc)

-- a test of a phrase is passed, the braces are as before, and the phrase has so many levels of blocks
pub record Nests (b : Bool) (n : ℕ) (c d : Counts) : Type 0 where
  pub passed : b ≡ true
  pub level : d.braces ≡ c.braces
  pub room : c.braces ≤ BRACES → c.braces + n ≤ BRACES

-- the same of what may be left out
pub record MayNest (b : Bool) (n : ℕ) (c d : Counts) : Type 0 where
  pub passed : b ≡ true
  pub level : d.braces ≡ c.braces
  pub room : c.braces ≤ BRACES → 0 < n → c.braces + (1 + n) ≤ BRACES

-- a statement without blocks
pub flat_nests : (b b' : Bool) (n : ℕ) (c d : Counts) → b' ≡ b → n ≡ 0 → Holds b c d → Nests b' n c d
flat_nests b b' n c d e z i = record { passed = e ∙ i.passed; level = i.level; room = λ h. omega arith }

-- ---- one phrase behind another

pub renamed : (p q : Bool) (m k : ℕ) (c d : Counts) → q ≡ p → k ≡ m → Nests p m c d → Nests q k c d
renamed p q m k c d e f i = record { passed = e ∙ i.passed; level = i.level; room = λ h. let r = i.room h in omega arith }

pub moved : (p : Bool) (m : ℕ) (c e d : Counts) → e.braces ≡ c.braces → Nests p m e d → Nests p m c d
moved p m c e d l i = record { passed = i.passed; level = i.level ∙ l; room = λ h. let r = i.room (omega arith) in omega arith }

pub tested_too : (t p : Bool) (m : ℕ) (c e d : Counts) → Holds t c e → Nests p m e d → Nests (t && p) m c d
tested_too t p m c e d i j =
    let l = i.level in
    record { passed = and_of t p i.passed j.passed; level = j.level ∙ l; room = λ h. let r = j.room (omega arith) in omega arith }

room_by : (c e b m k : ℕ) → e ≡ c → c + (1 + m) ≤ b → (0 < k → e + (1 + k) ≤ b) → c + (1 + max m k) ≤ b
room_by c e b m zero s h g = omega arith
room_by c e b m (suc k) s h g = let j = g (omega arith) in omega arith

pub two_blocks : (p q : Bool) (m k : ℕ) (c e d : Counts) → Nests p (1 + m) c e → MayNest q k e d → Nests (p && q) (1 + max m k) c d
two_blocks p q m k c e d i j =
    let l = i.level in
    record { passed = and_of p q i.passed j.passed; level = j.level ∙ l; room = λ h. room_by c.braces e.braces BRACES m k l (i.room h) (λ z. j.room (omega arith) z) }

-- statements, and the brace behind them
pub record Closes (b : Bool) (n : ℕ) (c d : Counts) : Type 0 where
  pub passed : b ≡ true
  pub level : d.braces ≡ c.braces - 1
  pub room : c.braces ≤ BRACES → c.braces + n ≤ BRACES

pub block_nests : (f : Symbol → Bool) (b : Bool) (n : ℕ) (s : Symbol) (c e d : Counts) → IsOne f (terminal.OpenBrace ∷ []) s c e → Closes b n e d → Nests b (1 + n) c d
block_nests f b n s c e d i j =
    let o = opening c.braces e.braces s.terminal i.is i.braces in
    let sum = o.sum in
    let more = o.room in
    let l = j.level in
    record { passed = j.passed; level = omega arith; room = λ h. let r = j.room (omega arith) in omega arith }
