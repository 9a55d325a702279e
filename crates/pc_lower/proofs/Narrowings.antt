-- Each state that meets the answer of the lower widening meets both lists.
use Rattle.std.proofs.Common.{◌≡◌, List, subst, Result, Ok, Err, inl, inr, negsuc, arith}
use Rattle.std.specs.Prelude.{IfOk}
use Rattle.std.proofs.lemmas.Int.{ints}
use Rattle.pc_rows.specs.Linear.{Linear, State, MeetsAll}
use Rattle.pc_rows.specs.declared.rows.NoMemory.{NoMemory}
use Rattle.pc_rows.proofs.Joining.{join_is_both}
use Rattle.pc_rows.proofs.Values.{value-constant}
use Rattle.pc_entail.proofs.Finding.{shown_rows_are_met}
use Rattle.pc_lower.specs.Narrowing.{nothing, IsJoined, IsKept, AreBelow}

pub nothing_is_met : (s : State) → MeetsAll s nothing → ⊥
nothing_is_met s m =
    let below = m.0 in
    let v = value-constant (negsuc 0) s in
    omega (arith, ints)

below_nothing : (old newer rows : List Linear) → rows ≡ nothing → AreBelow old newer rows
below_nothing old newer rows is s m = absurd (nothing_is_met s (subst (MeetsAll s) is m))

joined_below : (old newer rows : List Linear) → IsJoined old newer rows → AreBelow old newer rows
joined_below old newer rows (inl h) s m = (join_is_both old newer s).0 ((h.1 s).1 m)
joined_below old newer rows (inr h) s m = below_nothing old newer rows h.1 s m

kept_below : (old newer rows : List Linear) → IsKept old newer rows → AreBelow old newer rows
kept_below old newer rows (inl h) s m = let met = subst (MeetsAll s) h.1 m in (met, shown_rows_are_met old newer s h.0 met)
kept_below old newer rows (inr h) s m = below_nothing old newer rows h.1 s m

pub early_states : (old newer : List Linear) (answer : Result (List Linear) NoMemory) → IfOk answer (IsJoined old newer) → IfOk answer (AreBelow old newer)
early_states old newer (Ok rows) h = joined_below old newer rows h
early_states old newer (Err e) h = tt

pub late_states : (old newer : List Linear) (answer : Result (List Linear) NoMemory) → IfOk answer (IsKept old newer) → IfOk answer (AreBelow old newer)
late_states old newer (Ok rows) h = kept_below old newer rows h
late_states old newer (Err e) h = tt
