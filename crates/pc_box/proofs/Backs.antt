-- From a state of what an edge asks for a box the edge leads into the box alone.
use Rattle.std.proofs.Common.{◌≡◌, ℕ, Some, None, refl, sym, subst}
use Rattle.pc_language.specs.Ends.{end_of}
use Rattle.pc_rows.specs.Linear.{State, MeetsAll, zero_from}
use Rattle.pc_flow.specs.declared.what.What.{What}
use Rattle.pc_flow.specs.declared.what.What.TheVariants.{Enter, Test, Set, Check}
use Rattle.pc_flow.specs.Carry.{HasVariable}
use Rattle.pc_flow.specs.Walk.{Pass, Keeps}
use Rattle.pc_box.specs.Boxes.{Box, HasBounds, HasBox, IsNarrow, rows_of}
use Rattle.pc_box.specs.Backward.{before_of}
use Rattle.pc_box.proofs.Claims.{claimed_rows_tell}
use Rattle.pc_box.proofs.Telling.{box_rows_tell}
use Rattle.pc_box.proofs.Assigned.{before_set_tells}
use Rattle.pc_box.proofs.Enters.{before_enter_tells, narrow_still}

pub box_before : (w : What) (b : Box) (s : State) → HasVariable w s → HasBox (before_of w b) s → Keeps w s × ((t : State) → Pass w s t → HasBox b t)
box_before w None s var h = absurd h
box_before (Enter params) (Some b) s var h = (tt, λ t pass. subst (HasBounds b.intervals) (sym pass) (before_enter_tells params b s h))
box_before (Test rows) (Some b) s var h = (tt, λ t pass. subst (HasBounds b.intervals) (sym pass.1) h)
box_before (Check rows) (Some b) s var h =
    let told = claimed_rows_tell s (Some b) rows h in
    (told.1, λ t pass. subst (HasBounds b.intervals) (sym pass.1) told.0)
box_before (Set x form lo hi) (Some b) s var h =
    (tt, λ t pass. subst (HasBounds b.intervals) (sym pass.3) (before_set_tells s b x form (end_of lo) (end_of hi) pass.0 var pass.1 pass.2 h))

pub entry_tells : (params : ℕ) (b : Box) → IsNarrow b → (s : State) → zero_from params s ≡ s → MeetsAll s (rows_of (before_of (Enter params) b)) → HasBox b s
entry_tells params b few s zeros met =
    subst (HasBox b) zeros ((box_before (Enter params) b s tt (box_rows_tell (before_of (Enter params) b) (narrow_still params b few) s met)).1 (zero_from params s) refl)
