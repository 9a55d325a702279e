-- The levels of an elimination and the way back over them: what comes of each step, and of the faults on the way.
use Rattle.std.proofs.Common.{◌≡◌, ℕ, zero, suc, ◌≤◌, ◌<◌, sym, subst, ◌∙◌, ap, arith, ℤ, List, length, false, Option, None, Result, Ok, Err, ◌⊎◌, inl, inr}
use Rattle.pc_rows.specs.Evidence.{Point}
use Rattle.pc_elim.specs.declared.settle.Found.TheVariants.{At}
use Rattle.pc_elim.specs.declared.made.TheConstants.{LIMIT}
use Rattle.pc_elim.specs.declared.made.Fault.{Fault}
use Rattle.pc_elim.specs.declared.made.Fault.TheVariants.{Past, Full, NoMemory}
use Rattle.pc_elim.specs.Elimination.{Made, eliminated, level}
use Rattle.pc_elim.specs.Places.{has_variable}
use Rattle.pc_elim.specs.Settling.{origin, contradiction_of, taken_back, settled_by, settle}
use Rattle.pc_elim.specs.Placing.{placed}
use Rattle.pc_elim.specs.Fits.{EliminationFits, LevelFits, PlacedFits, BackFits}
use Rattle.pc_elim.specs.Steps.{PointFits, SettleFits, FaultIs, SettleIs}
use Rattle.pc_elim.proofs.Absent.{all_free, free_made, free_placed, free_level, free_fits}

-- a fault of one is a fault of the other
pub fault_moves : (F G : Type 0) (e : Fault) → (G → F) → FaultIs F e → FaultIs G e
fault_moves F G Past i h = λ g. h (i g)
fault_moves F G Full i h = λ g. h (i g)
fault_moves F G NoMemory i h = tt

pub settle_moves : {A : Type 0} (v u : A) (F G : Type 0) (r : Result A Fault) → v ≡ u → (G → F) → (F → G) → SettleIs v F r → SettleIs u G r
settle_moves v u F G (Ok f) e i j h = (j h.0, h.1 ∙ e)
settle_moves v u F G (Err x) e i j h = fault_moves F G x i h

-- the rows of each level fit

fits_at : (k j : ℕ) (start : List Made) → j < k → LevelFits k start → EliminationFits j (level j start)
fits_at zero j start lt h = absurd (omega arith)
fits_at (suc k) j start lt h = by (last_or_before j k lt) (λ l. fits_at k j start l h.0)
  where
    last_or_before : (j k : ℕ) → j < suc k → (j ≡ k) ⊎ (j < k)
    last_or_before j k lt = grind arith

    by : (j ≡ k) ⊎ (j < k) → (j < k → EliminationFits j (level j start)) → EliminationFits j (level j start)
    by (inl e) before = subst (λ (i : ℕ). EliminationFits i (level i start)) (sym e) h.1
    by (inr l) before = before l

level_most : (k : ℕ) (start : List Made) → length start ≤ LIMIT → LevelFits k start → length (level k start) ≤ LIMIT
level_most zero start most h = most
level_most (suc k) start most h = h.1.1

pub level_fails : (k j : ℕ) (start rows : List Made) (e : Fault) → j < k → rows ≡ level j start → FaultIs (EliminationFits j rows) e → FaultIs (LevelFits k start) e
level_fails k j start rows e lt is h = fault_moves (EliminationFits j rows) (LevelFits k start) e (λ f. subst (EliminationFits j) (sym is) (fits_at k j start lt f)) h

-- where all fits there is only want of memory
pub fitting_fails : (F G : Type 0) (e : Fault) → F → FaultIs F e → FaultIs G e
fitting_fails F G Past f h = absurd (h f)
fitting_fails F G Full f h = absurd (h f)
fitting_fails F G NoMemory f h = tt

pub free_next : (j : ℕ) (rows : List Made) → has_variable j rows ≡ false → length rows ≤ LIMIT → EliminationFits j rows × (rows ≡ eliminated j rows)
free_next j rows none most = let free = all_free j rows none in (free_fits j rows free most, sym (free_made j rows free))

-- variable j, the last of the first k

module _ (k j : ℕ) (start : List Made) (next : k ≡ suc j) where
  level_is : level k start ≡ eliminated j (level j start)
  level_is = ap (λ (n : ℕ). level n start) next

  fits_before : LevelFits k start → LevelFits j start × EliminationFits j (level j start)
  fits_before h = subst (λ (n : ℕ). LevelFits n start) next h

  fits_after : LevelFits j start × EliminationFits j (level j start) → LevelFits k start
  fits_after h = subst (λ (n : ℕ). LevelFits n start) (sym next) h

  pub levels_before : LevelFits k start → LevelFits j start
  levels_before h = (fits_before h).0

  -- it does not occur
  pub last_over : (found : Result (Option (List ℤ)) Fault) → length start ≤ LIMIT → has_variable j start ≡ false → SettleIs (contradiction_of (level j start)) (LevelFits j start) found → SettleIs (contradiction_of (level k start)) (LevelFits k start) found
  last_over found most none h =
      let free = free_level j j start (all_free j start none) in
      settle_moves (contradiction_of (level j start)) (contradiction_of (level k start)) (LevelFits j start) (LevelFits k start) found
      (ap contradiction_of (sym (level_is ∙ free_made j (level j start) free)))
      levels_before (λ f. fits_after (f, free_fits j (level j start) free (level_most j start most f))) h

  pub last_stops : (e : Fault) → FaultIs (LevelFits j start) e → FaultIs (LevelFits k start) e
  last_stops e h = fault_moves (LevelFits j start) (LevelFits k start) e levels_before h

  pub last_comes : (rows : List Made) (found : Result (Option (List ℤ)) Fault) → LevelFits j start × (rows ≡ level j start) → SettleIs (contradiction_of (eliminated j rows)) (EliminationFits j rows) found → SettleIs (contradiction_of (level k start)) (LevelFits k start) found
  last_comes rows found is h =
      settle_moves (contradiction_of (eliminated j rows)) (contradiction_of (level k start)) (EliminationFits j rows) (LevelFits k start) found
      (ap contradiction_of (ap (eliminated j) is.1 ∙ sym level_is))
      (λ f. subst (EliminationFits j) (sym is.1) (fits_before f).1)
      (λ f. fits_after (is.0, subst (EliminationFits j) is.1 f)) h

-- one variable on the way back

pub free_comes : (k : ℕ) (start : List Made) (p : Point) → has_variable k start ≡ false → PlacedFits k (level k start) p × (p ≡ placed k (level k start) p)
free_comes k start p none = let q = free_placed k (level k start) p (free_level k k start (all_free k start none)) in (q.0, sym q.1)

-- the whole, where no contradiction is found

module _ (w : ℕ) (start : List Made) (o : Option (List ℤ)) (found : LevelFits w start × (o ≡ contradiction_of (level w start))) where
  none_is : o ≡ None → None ≡ contradiction_of (level w start)
  none_is is = sym is ∙ found.1

  pub point_settles : (from p : Point) → o ≡ None → from ≡ origin w → BackFits w start from × (p ≡ taken_back w start from) → SettleFits w start × (At p ≡ settle w start)
  point_settles from p is at h =
      let back = subst (λ (q : Point). BackFits w start q × (p ≡ taken_back w start q)) at h in
      (record { levels = found.0; point = subst (PointFits w start) (none_is is) back.0 }, ap At back.1 ∙ ap (settled_by w start) (none_is is))

  pub point_fails : (from : Point) (e : Fault) → o ≡ None → from ≡ origin w → FaultIs (BackFits w start from) e → FaultIs (SettleFits w start) e
  point_fails from e is at h = fault_moves (BackFits w start from) (SettleFits w start) e
      (λ f. subst (BackFits w start) (sym at) (subst (PointFits w start) (sym (none_is is)) f.point)) h
