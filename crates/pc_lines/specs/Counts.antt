-- The counts behind the name of a line, read word by word.
use Rattle.std.specs.Prelude.{ℕ, if◌then◌else◌, [], ◌∷◌, option_map, Option, Some, None}
use Rattle.pc_text.specs.Bytes.{Bytes}
use Rattle.pc_text.specs.Words.{Words, is_empty, behind, count_of}

infixl 10 ◌>>=◌
-- a value handed on, if there is one
abbrev pub ◌>>=◌ : {A B : Type 0} → Option A → (A → Option B) → Option B
None >>= f = None
Some x >>= f = f x

-- the next word as a count, and the words behind it
abbrev pub next_count : Words → Option (ℕ × Words)
next_count [] = None
next_count (w ∷ ws) = option_map (λ n. (n, ws)) (count_of w)

-- the two counts behind the name
abbrev pub two_counts : Bytes → Words → Option (ℕ × ℕ)
two_counts name ws = do
  counts ← behind name ws
  a ← next_count counts
  b ← next_count a.1
  if is_empty b.1 then Some (a.0, b.0) else None

-- the three counts behind the name
abbrev pub three_counts : Bytes → Words → Option (ℕ × ℕ × ℕ)
three_counts name ws = do
  counts ← behind name ws
  a ← next_count counts
  b ← next_count a.1
  c ← next_count b.1
  if is_empty c.1 then Some (a.0, b.0, c.0) else None
