-- Operations that are carried out one after the other, and what is left of them.
use Rattle.std.proofs.Common.{◌≡◌, ◌<◌, refl, arith, length, List, [], ◌∷◌, ◌++◌, Result, Ok, Err, inl, inr}
use Rattle.std.specs.List.{AllByRecursion as Each}
use Rattle.pc_rows.specs.Linear.{Linear}
use Rattle.pc_rows.specs.Joins.{PushIs}
use Rattle.pc_rows.specs.declared.rows.RowsFault.{RowsFault}
use Rattle.pc_rows.specs.declared.rows.RowsFault.TheVariants as rows
use Rattle.pc_rows.specs.declared.rows.TheConstants.{ROWS}
use Rattle.pc_rows.proofs.Joining.{each_join}
use Rattle.pc_lower.specs.declared.fault.CandidateFault.{CandidateFault}
use Rattle.pc_lower.specs.declared.fault.CandidateFault.TheVariants.{Past, Full, NoMemory}
use Rattle.pc_lower.specs.Faults.{told}
use Rattle.pc_lower.specs.Operations.{Operation, Fits, fault_of, IsFirstFault, Answers}

-- the operations before those that are left can be carried out
pub record Left (os whole : List Operation) : Type 0 where
  pub fit : Each Fits os → Each Fits whole
  pub fault : (f : CandidateFault) → IsFirstFault f os → IsFirstFault f whole

pub left_all : (os : List Operation) → Left os os
left_all os = record { fit = λ h. h; fault = λ f h. h }

pub fault_after : (f : CandidateFault) (os more : List Operation) → Each Fits os → IsFirstFault f more → IsFirstFault f (os ++ more)
fault_after f [] more fit h = h
fault_after f (o ∷ os) more fit h = inr (fit.0, fault_after f os more fit.1 h)

pub fault_within : (f : CandidateFault) (os more : List Operation) → IsFirstFault f os → IsFirstFault f (os ++ more)
fault_within f [] more h = absurd h
fault_within f (o ∷ os) more (inl h) = inl h
fault_within f (o ∷ os) more (inr h) = inr (h.0, fault_within f os more h.1)

pub left_over : (os more whole : List Operation) → Left (os ++ more) whole → Each Fits os → Left more whole
left_over os more whole left fit = record {
  fit = λ h. left.fit (each_join Fits os more fit h);
  fault = λ f h. left.fault f (fault_after f os more fit h);
}

pub left_next : (o : Operation) (more whole : List Operation) → Left (o ∷ more) whole → Fits o → Left more whole
left_next o more whole left fit = record { fit = λ h. left.fit (fit, h); fault = λ f h. left.fault f (inr (fit, h)) }

-- what cannot be carried out next is the first that cannot
pub first_is : (o : Operation) (more whole : List Operation) → Left (o ∷ more) whole → (Fits o → ⊥) → IsFirstFault (fault_of o) whole
first_is o more whole left bad = left.fault (fault_of o) (inl (bad, refl))

-- no operation is at fault where all can be carried out
pub no_fault : (f : CandidateFault) (os : List Operation) → IsFirstFault f os → Each Fits os → ⊥
no_fault f [] h fit = h
no_fault f (o ∷ os) (inl h) fit = h.0 fit.0
no_fault f (o ∷ os) (inr h) fit = no_fault f os h.1 fit.1

-- a refusal of the operations that come next refuses the whole
pub refused : {A B : Type 0} (os more whole : List Operation) (part : A) (value : B) (e : CandidateFault) →
    Left (os ++ more) whole → Answers os part (Err e) → Answers whole value (Err e)
refused os more whole part value Past left h = left.fault Past (fault_within Past os more h)
refused os more whole part value Full left h = left.fault Full (fault_within Full os more h)
refused os more whole part value NoMemory left h = tt

-- the answer of what is left, where what was before can be carried out
pub answer_after : {A : Type 0} (os more : List Operation) (value : A) (answer : Result A CandidateFault) → Each Fits os → Answers more value answer → Answers (os ++ more) value answer
answer_after os more value (Ok x) fit h = (each_join Fits os more fit h.0, h.1)
answer_after os more value (Err Past) fit h = fault_after Past os more fit h
answer_after os more value (Err Full) fit h = fault_after Full os more fit h
answer_after os more value (Err NoMemory) fit h = tt

-- a list that is not full takes a row, unless memory is wanting
pub push_refused : {B : Type 0} (old new : List Linear) (r : Linear) (f : RowsFault) (e : CandidateFault) (whole : List Operation) (value : B) →
    length old < ROWS → PushIs old r (Err f) new → e ≡ told f → Answers whole value (Err e)
push_refused old new r rows.Full e whole value lt h is = absurd (omega (arith, h.0))
push_refused old new r rows.NoMemory e whole value lt h is = rw is tt

-- operations that can be carried out refuse nothing but memory
pub cannot_refuse : {A B : Type 0} (os whole : List Operation) (part : A) (value : B) (f : CandidateFault) → Each Fits os → Answers os part (Err f) → Answers whole value (Err f)
cannot_refuse os whole part value Past fit h = absurd (no_fault Past os h fit)
cannot_refuse os whole part value Full fit h = absurd (no_fault Full os h fit)
cannot_refuse os whole part value NoMemory fit h = tt
