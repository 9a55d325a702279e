-- Tests and assertions: what is left are the states that meet the rows of the value and those of the edge.
use Rattle.std.proofs.Common.{◌≡◌, ◌∙◌, List, Some, None, sym, ap, subst, pos}
use Rattle.pc_rows.specs.Linear.{Linear, State, Meets, MeetsAll, coefficient}
use Rattle.pc_rows.specs.Joins.{joined}
use Rattle.pc_rows.proofs.Counting.{count_most}
use Rattle.pc_rows.proofs.Joining.{joined_each, join_is_both}
use Rattle.pc_poly.specs.declared.polyhedron.Polyhedron.{Polyhedron}
use Rattle.pc_poly.specs.Polyhedra.{Value, HasState, IsTested, IsBoth, SaysTested}
use Rattle.pc_poly.proofs.Gathering.{gathered_each, gathered_joined}
use Rattle.pc_poly.specs.Rows.{gathered}

pub tested_states : (p : Polyhedron) (own : List Linear) (v : Value) (s : State) → IsTested p own v → MeetsAll s p.rows → MeetsAll s own → HasState v s
tested_states p own None s h m n = h s (gathered_each (Meets s) p.rows own m n)
tested_states p own (Some q) s h m n = subst (MeetsAll s) (sym h) (gathered_each (Meets s) p.rows own m n)

joined_both : (old own : List Linear) → IsBoth old own (joined old own)
joined_both old own = record {
  states = λ s. join_is_both old own s;
  few = count_most old own;
  over = λ v h g. joined_each (λ r. coefficient r v ≡ pos 0) old own h g;
}

pub tested_says : (p : Polyhedron) (own : List Linear) (v : Value) → IsTested p own v → SaysTested (Some p) own v
tested_says p own None h few = λ s m n. h s (gathered_each (Meets s) p.rows own m n)
tested_says p own (Some q) h few =
    subst (IsBoth p.rows own) (sym h) (subst (IsBoth p.rows own) (sym (gathered_joined p.rows own few)) (joined_both p.rows own))

-- ---- what the code has joined

pub joined_is : (old own copied all : List Linear) → copied ≡ old → all ≡ gathered copied own → all ≡ gathered old own
joined_is old own copied all same is = is ∙ ap (λ (z : List Linear). gathered z own) same

pub none_tested : (p : Polyhedron) (own all : List Linear) → all ≡ gathered p.rows own → ((s : State) → MeetsAll s all → ⊥) → IsTested p own None
none_tested p own all is h s m = h s (subst (MeetsAll s) (sym is) m)
