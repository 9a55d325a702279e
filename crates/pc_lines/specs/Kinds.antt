-- What the words of a line are to be, and the kinds of lines that formats share.
use Rattle.std.specs.Prelude.{ℕ, suc, ◌<◌, ◌-◌, ◌^◌, ◌+◌, ◌==◌, nat_lt, nat_le, Bool, true, false, not, ◌&&◌, [], ◌∷◌, map, codes}
use Rattle.std.specs.List.{list_all}
use Rattle.pc_rows.specs.Linear.{in_range, is_zero}
use Rattle.pc_text.specs.Bytes.{Bytes}
use Rattle.pc_text.specs.Digits.{natural_of}
use Rattle.pc_text.specs.Numerals.{integer_of}
use Rattle.pc_text.specs.Words.{Words, words, is_numeral}
use Rattle.pc_lines.specs.declared.sizes.Sizes.{Sizes}
use Rattle.pc_lines.specs.Forms.{are_numerals, are_counts, are_pairs, is_named, is_just, number_at}

-- the words and numerals that are wanted, and the rules on the numbers of a line that has these
pub record Kind : Type 0 where
  pub has_form : Words → Bool
  pub keeps_rules : Words → Bool

-- the line with just this text
abbrev pub just : Bytes → Kind
just text = record { has_form = is_just (words text); keeps_rules = λ ws. true }

-- the three numbers behind `graph`
abbrev pub sizes_of : Words → Sizes
sizes_of ws = record { points = number_at 1 ws; edges = number_at 2 ws; variables = number_at 3 ws }

-- sizes within these limits
abbrev pub are_within : Sizes → Sizes → Bool
are_within most z = nat_le z.points most.points && nat_le z.edges most.edges && nat_le z.variables most.variables

-- limits that the code tells apart from all greater numbers
pub record AreSmall (most : Sizes) : Type 0 where
  pub points : most.points < 2 ^ 32 - 1
  pub edges : most.edges < 2 ^ 32 - 1
  pub variables : most.variables < 2 ^ 32 - 1

-- the sizes of a graph, within these limits
abbrev pub graph : Sizes → Kind
graph most = record { has_form = is_named (codes "graph") (are_counts 3); keeps_rules = λ ws. are_within most (sizes_of ws) }

-- a name, the running number, and how many lines follow, at most so many
abbrev pub head : Bytes → ℕ → ℕ → Kind
head name running most = record {
  has_form = is_named name (are_counts 2);
  keeps_rules = λ ws. (number_at 1 ws == running) && nat_le (number_at 2 ws) most;
}

-- a row over so many variables
abbrev pub row : ℕ → Kind
row v = record { has_form = are_numerals (suc v); keeps_rules = λ ws. list_all in_range (map integer_of ws) }

-- the pair names one of so many premises, from number `least` on, with a multiplier in range and other than 0
abbrev pub part_keeps : ℕ → ℕ → Bytes → Bytes → Bool
part_keeps premises least i m =
    nat_le least (natural_of i) && nat_lt (natural_of i) premises && in_range (integer_of m) && not (is_zero (integer_of m))

-- the pairs keep the rules, and their indices rise from number `least` on
abbrev pub pairs_keep : ℕ → ℕ → Words → Bool
pairs_keep premises least [] = true
pairs_keep premises least (i ∷ []) = true
pairs_keep premises least (i ∷ m ∷ ws) = part_keeps premises least i m && pairs_keep premises (natural_of i + 1) ws

-- the multiplier of the goal, and pairs
abbrev pub is_proof : Words → Bool
is_proof [] = false
is_proof (goal ∷ ws) = is_numeral goal && are_pairs ws

abbrev pub proof_keeps : ℕ → Words → Bool
proof_keeps premises [] = true
proof_keeps premises (goal ∷ ws) = in_range (integer_of goal) && pairs_keep premises 0 ws

-- a proof that names some of so many premises
abbrev pub proof : ℕ → Kind
proof premises = record { has_form = is_proof; keeps_rules = proof_keeps premises }
