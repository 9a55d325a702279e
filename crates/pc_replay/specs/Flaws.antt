-- What is wrong with a proof of a row that an edge owes: the first of its flaws, in the order of the rule.
use Rattle.std.specs.Prelude.{ℕ, nat_lt, ◌&&◌, Bool, pos, int_le, List, length, Option, Some, None, if◌then◌else◌}
use Rattle.std.specs.List.{list_all}
use Rattle.std.specs.Prelude.{not}
use Rattle.pc_rows.specs.Linear.{Linear}
use Rattle.pc_rows.specs.Evidence.{Proof}
use Rattle.pc_rows.specs.Shows.{total}
use Rattle.pc_rows.specs.Totals.{first_variable}
use Rattle.pc_flow.specs.declared.what.What.{What}
use Rattle.pc_flow.specs.Carry.{back}
use Rattle.pc_replay.specs.declared.flaw.Flaw.{Flaw}
use Rattle.pc_replay.specs.declared.flaw.Flaw.TheVariants.{Past, Negative, Index, Left, NotBelow}
use Rattle.pc_replay.specs.Ranges.{back_fits, total_fits}

-- what lacks, where something is needed that does not hold; else the rest
abbrev pub needs : {R : Type 0} → Bool → R → R → R
needs holds lacks rest = if holds then rest else lacks

-- no multiplier is below 0
abbrev pub is_signed : Proof → Bool
is_signed p = list_all (λ q. int_le (pos 0) q.multiplier) p.parts && int_le (pos 0) p.goal

-- each part names one of so many premises
abbrev pub names_premises : ℕ → Proof → Bool
names_premises count p = list_all (λ q. nat_lt q.index count) p.parts

-- what is wrong with a total: its first variable, or that its constant is not below 0
abbrev pub flaw_by : Option ℕ → Bool → Option Flaw
flaw_by (Some v) is_below = Some (Left v)
flaw_by None is_below = needs is_below (Some NotBelow) None

abbrev pub flaw_of_total : Linear → Option Flaw
flaw_of_total r = flaw_by (first_variable r.coefficients) (not (int_le (pos 0) r.constant))

-- what is wrong with a proof that is to show the goal from the premises
abbrev pub flaw : List Linear → Linear → Proof → Option Flaw
flaw premises goal p =
    needs (is_signed p) (Some Negative) (
    needs (names_premises (length premises) p) (Some Index) (
    needs (total_fits premises goal p) (Some Past) (
    flaw_of_total (total premises goal p))))

-- what is wrong with a proof of a row that an edge has to show, which is carried back first
abbrev pub row_flaw : What → List Linear → Linear → Proof → Option Flaw
row_flaw w premises r p = needs (back_fits w r) (Some Past) (flaw premises (back w r) p)
