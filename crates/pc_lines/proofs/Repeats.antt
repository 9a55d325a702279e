-- A reader that is repeated, one turn more.
use Rattle.std.proofs.Common.{◌≡◌, ◌∙◌, refl, ap, sym, ℕ, ◌+◌, ◌-◌, ◌<◌, false, List, [], ◌∷◌, ◌++◌, Result, Ok, Err, append_assoc}
use Rattle.std.specs.Result.{is_err}
use Rattle.pc_rows.specs.declared.rows.RowsFault.{RowsFault}
use Rattle.pc_rows.specs.declared.rows.RowsFault.TheVariants.{Full, NoMemory}
use Rattle.pc_rows.specs.Linear.{Linear}
use Rattle.pc_rows.specs.Joins.{PushIs}
use Rattle.pc_lines.specs.declared.fault.CertFault.{CertFault}
use Rattle.pc_lines.specs.Readers.{◌>>=◌, Unread, Reader, repeated}
use Rattle.pc_lines.proofs.LineSteps.{one_less}

-- what was read so far, before what is read
abbrev pub behind : {A : Type 0} → List A → Result (List A × Unread) CertFault → Result (List A × Unread) CertFault
behind found r = r >>= (λ x. Ok (found ++ x.0, x.1))

pub behind_cons : {A : Type 0} (found : List A) (x : A) (r : Result (List A × Unread) CertFault) →
    behind (found ++ x ∷ []) r ≡ behind found (r >>= (λ xs. Ok (x ∷ xs.0, xs.1)))
behind_cons found x (Ok xs) = ap (λ ys. Ok (ys, xs.1)) (append_assoc found (x ∷ []) xs.0)
behind_cons found x (Err e) = refl

module _ {A : Type 0} (r : ℕ → Reader A) (k i : ℕ) (found : List A) (s : Unread) (within : i < k) where
  -- a turn that reads
  pub turn : (more : List A) (x : A) (left : Unread) → r i s ≡ Ok (x, left) → more ≡ found ++ x ∷ [] →
      behind more (repeated r (i + 1) (k - (i + 1)) left) ≡ behind found (repeated r i (k - i) s)
  turn more x left e m =
      ap (λ ys. behind ys (repeated r (i + 1) (k - (i + 1)) left)) m
      ∙ behind_cons found x (repeated r (i + 1) (k - (i + 1)) left)
      ∙ sym (ap (λ n. behind found (repeated r i n s)) (one_less k i within)
      ∙ ap (λ t. behind found (t >>= (λ y. repeated r (i + 1) (k - (i + 1)) y.1 >>= (λ ys. Ok (y.0 ∷ ys.0, ys.1))))) e)

  -- a turn that finds a fault
  pub turn_fault : (f : CertFault) → r i s ≡ Err f → behind found (repeated r i (k - i) s) ≡ Err f
  turn_fault f e =
      ap (λ n. behind found (repeated r i n s)) (one_less k i within)
      ∙ ap (λ t. behind found (t >>= (λ y. repeated r (i + 1) (k - (i + 1)) y.1 >>= (λ ys. Ok (y.0 ∷ ys.0, ys.1))))) e

behind_none : {A : Type 0} (r : Result (List A × Unread) CertFault) → behind [] r ≡ r
behind_none (Ok x) = refl
behind_none (Err e) = refl

-- a row that is pushed stands at the end
pub pushed : (old new : List Linear) (r : Linear) (o : Result (Unit {0}) RowsFault) → PushIs old r o new → false ≡ is_err o → new ≡ old ++ r ∷ []
pushed old new r (Ok u) h e = h.1
pushed old new r (Err Full) h e = absurd (cc)
pushed old new r (Err NoMemory) h e = absurd (cc)
