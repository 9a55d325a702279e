-- Lemmas on tests and on results that are handed on.
use Rattle.std.proofs.Common.{◌≡◌, ℕ, ◌≤◌, arith, Bool, true, false, refl, Result, Ok, Err}
use Rattle.std.specs.Prelude.{◌&&◌, not, nat_le, IfOk, if◌then◌else◌}
use Rattle.std.proofs.lemmas.Bool.Decides.{nat_tests}
use Rattle.pc_program.specs.Forms.{bind}

pub and_is : (b c : Bool) → (b && c) ≡ true → (b ≡ true) × (c ≡ true)
and_is true c h = (refl, h)
and_is false c h = cc

pub and_of : (b c : Bool) → b ≡ true → c ≡ true → (b && c) ≡ true
and_of true c h k = k
and_of false c h k = cc

pub not_true : (b : Bool) → not b ≡ true → b ≡ false
not_true true h = cc
not_true false h = refl

pub at_most : (a b : ℕ) → a ≤ b → nat_le a b ≡ true
at_most a b h = grind (arith, nat_tests)

pub true_or_false : (P : Bool → Type 0) → P true → P false → (b : Bool) → P b
true_or_false P t f true = t
true_or_false P t f false = f

-- what holds of a result's value holds of what is made of it
pub bind_keeps : {A B E : Type 0} (P : A → Type 0) (Q : B → Type 0) (r : Result A E) (f : A → Result B E) →
    ((x : A) → P x → IfOk (f x) Q) → IfOk r P → IfOk (bind r f) Q
bind_keeps P Q (Ok x) f h k = h x k
bind_keeps P Q (Err e) f h k = tt

-- a choice between a value and a fault
pub if_keeps : {A E : Type 0} (P : A → Type 0) (b : Bool) (x : A) (e : E) → (b ≡ true → P x) → IfOk {T = A} {E = E} (if b then Ok x else Err e) P
if_keeps P true x e h = h refl
if_keeps P false x e h = tt
