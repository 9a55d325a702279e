-- What it is that a line spells a value.
use Rattle.std.proofs.Common.{◌≡◌, true}
use Rattle.pc_text.specs.Words.{Words}
use Rattle.pc_lines.specs.Kinds.{Kind}
use Rattle.pc_text.proofs.PlainWords.{ArePlain}

-- the lines that are wanted and keep the rules are those of the good values, each of one value
pub record IsSpelled {A : Type 0} (kind : Kind) (value : Words → A) (line : A → Words) (good : A → Type 0) : Type 0 where
  pub back : (ws : Words) → kind.has_form ws ≡ true → kind.keeps_rules ws ≡ true → good (value ws) × (line (value ws) ≡ ws)
  pub plain : (x : A) → good x → ArePlain (line x)
  pub form : (x : A) → good x → kind.has_form (line x) ≡ true
  pub rules : (x : A) → good x → kind.keeps_rules (line x) ≡ true
  pub forth : (x : A) → good x → value (line x) ≡ x
