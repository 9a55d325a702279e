-- A box goes back exactly over an edge with small numbers and at most one variable in each form and row.
use Rattle.std.proofs.Common.{ℕ, ◌+◌, ◌<◌, ◌^◌, ◌+ℤ◌, Some, None, refl, sym, subst}
use Rattle.std.specs.Prelude.{slice_set}
use Rattle.pc_language.specs.Ends.{end_of}
use Rattle.pc_rows.specs.Linear.{State, value, MeetsAll, zero_from}
use Rattle.pc_flow.specs.declared.what.What.{What}
use Rattle.pc_flow.specs.declared.what.What.TheVariants.{Enter, Test, Set, Check}
use Rattle.pc_flow.specs.Arc.{IsFit}
use Rattle.pc_flow.specs.Carry.{HasVariable}
use Rattle.pc_flow.specs.Exact.{NoRows}
use Rattle.pc_flow.specs.Walk.{Pass, Keeps}
use Rattle.pc_box.specs.Boxes.{Box, HasBox}
use Rattle.pc_box.specs.Backward.{before_of}
use Rattle.pc_box.specs.Exact.{HasOneVariable, small_bound, HasSmallNumbers}
use Rattle.pc_box.proofs.Claims.{claimed_rows_keep}
use Rattle.pc_box.proofs.Small.{BoxIsSmall}
use Rattle.pc_box.proofs.Enters.{before_enter_keeps}
use Rattle.pc_box.proofs.Needed.{some_choice, before_set_keeps}

pub before_keeps : (w : What) (b : Box) (s : State) (m : ℕ) → NoRows w → IsFit w → HasVariable w s → HasOneVariable w → HasSmallNumbers w → BoxIsSmall m b → m + (small_bound + small_bound) < 2 ^ 127 →
    Keeps w s → ((t : State) → Pass w s t → HasBox b t) → HasBox (before_of w b) s
before_keeps (Enter params) None s m straight fit var one small bounds few keeps all = all (zero_from params s) refl
before_keeps (Enter params) (Some b) s m straight fit var one small bounds few keeps all = before_enter_keeps params b s (all (zero_from params s) refl)
before_keeps (Test rows) None s m straight fit var one small bounds few keeps all = all s (subst (MeetsAll s) (sym straight) tt, refl)
before_keeps (Test rows) (Some b) s m straight fit var one small bounds few keeps all = all s (subst (MeetsAll s) (sym straight) tt, refl)
before_keeps (Check rows) None s m straight fit var one small bounds few keeps all = all s (keeps, refl)
before_keeps (Check rows) (Some b) s m straight fit var one small bounds few keeps all = claimed_rows_keep s (Some b) rows one (all s (keeps, refl)) keeps
before_keeps (Set x form lo hi) None s m straight fit var one small bounds few keeps all =
    let c = some_choice (end_of lo) (end_of hi) fit.1.ordered in all (slice_set s x (value form s +ℤ c.0)) (c.0, c.1, c.2, refl)
before_keeps (Set x form lo hi) (Some b) s m straight fit var one small bounds few keeps all =
    before_set_keeps s b x form (end_of lo) (end_of hi) var fit.1.ordered (λ c low high. all (slice_set s x (value form s +ℤ c)) (c, low, high, refl)) small_bound m one small.0 small.1 small.2 bounds few
