-- Start symbols of the grammar: what a whole text may be read as.
use Rattle.std.specs.Prelude.{ℕ, Option}
use Rattle.pc_grammar.specs.Combinators.{Text, Parser, Lang}

pub record Start : Type 1 where
  -- the trees of whole texts
  pub Tree : Type 0
  -- their language and their parser, at each depth of nesting
  pub language : ℕ → Lang Tree
  pub parser : ℕ → Parser Tree
  -- how many blocks may stand directly in the outermost braces, where that is limited
  pub most : Option ℕ

-- the symbols derive the tree, at some depth of nesting
abbrev pub Derives : (S : Start) → S.Tree → Text → Type 0
Derives S t w = (n : ℕ) × S.language n t w
