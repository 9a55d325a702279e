-- Lists of parts that grow at their end.
use Rattle.std.proofs.Common.{◌≡◌, ℕ, ◌≤◌, sym, arith, subst, List, [], ◌∷◌, ◌++◌, Result, Ok, Err}
use Rattle.std.specs.Prelude.{◌<◌, OnOk, OnErr}
use Rattle.pc_rows.specs.declared.proof.Part.{Part}
use Rattle.pc_rows.specs.Evidence.{IsAbove, IsRising, IsPart, IsParts}
use Rattle.pc_rows.proofs.Joining.{each_join}

rising_more : (ps : List Part) (p : Part) → IsRising ps → IsAbove p.index ps → IsRising (ps ++ p ∷ [])
rising_more [] p h g = (tt, tt)
rising_more (q ∷ ps) p h g = (each_join (λ x. q.index < x.index) ps (p ∷ []) h.0 (g.0, tt), rising_more ps p h.1 g.1)

pub parts_more : (ps : List Part) (p : Part) → IsParts ps → IsAbove p.index ps → IsPart p → IsParts (ps ++ p ∷ [])
parts_more ps p h above is = record { rising = rising_more ps p h.rising above; each = each_join IsPart ps (p ∷ []) h.each (is, tt) }

-- indices below a number are below each greater one
pub above_more : (m n : ℕ) (ps : List Part) → m ≤ n → IsAbove m ps → IsAbove n ps
above_more m n [] le h = tt
above_more m n (p ∷ ps) le h = (omega (arith, h.0), above_more m n ps le h.1)

-- after a push, whether it was refused or not
pub pushed : {E : Type 0} (r : Result (Unit {0}) E) (old new : List Part) (p : Part) →
    OnOk r (new ≡ old ++ p ∷ []) → OnErr r (new ≡ old) → IsParts old → IsAbove p.index old → IsPart p → IsParts new
pushed (Ok u) old new p ok err h above is = subst IsParts (sym ok) (parts_more old p h above is)
pushed (Err e) old new p ok err h above is = subst IsParts (sym err) h
