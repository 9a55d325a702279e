-- The laws of commands, and that those which are done whatever their files mean keep them.
use Rattle.std.proofs.Common.{◌≡◌, ◌∙◌, sym, inl, ℕ, arith}
use Rattle.pc_text.specs.Bytes.{Bytes}
use Rattle.pc_app.specs.declared.status.TheConstants.{DONE, FAILED, PAST}
use Rattle.pc_app.specs.Inputs.{Inputs, Given}
use Rattle.pc_app.specs.Tasks.{Task, plain}
use Rattle.pc_app.proofs.InputLemmas.{AreDecided, AreSame, IsEnd}

-- its kinds of files are decided; what the files mean is answered with a status of those told, and with one alone; and it fails, and leaves
-- the range, exactly by what the files mean
pub record Lawful (task : Task) : Type 0 where
  pub decided : AreDecided task.inputs
  pub ends : (given : Given task.inputs) (status : ℕ) (text : Bytes) → task.Says given status text → task.Ends status
  pub end : (status : ℕ) → task.Ends status → IsEnd status
  pub once : (g h : Given task.inputs) (s : ℕ) (t : Bytes) (s' : ℕ) (t' : Bytes) → AreSame task.inputs g h → task.Says g s t → task.Says h s' t' → s ≡ s'
  pub fails : (given : Given task.inputs) → task.Fails given → (text : Bytes) × task.Says given FAILED text
  pub failed : (given : Given task.inputs) (status : ℕ) (text : Bytes) → status ≡ FAILED → task.Says given status text → task.Fails given
  pub leaves : (given : Given task.inputs) → task.IsPast given → (text : Bytes) × task.Says given PAST text
  pub left : (given : Given task.inputs) (status : ℕ) (text : Bytes) → status ≡ PAST → task.Says given status text → task.IsPast given

not_failed : (status : ℕ) → status ≡ FAILED → status ≡ DONE → ⊥
not_failed status e s = omega arith

not_past : (status : ℕ) → status ≡ PAST → status ≡ DONE → ⊥
not_past status e s = omega arith

pub plain_is_lawful : (inputs : Inputs) (Prints : Given inputs → Bytes → Type 0) → AreDecided inputs → Lawful (plain inputs Prints)
plain_is_lawful inputs Prints decided = record {
  decided = decided;
  ends = λ given status text says. says.0;
  end = λ status done. record { end = inl done };
  once = λ g h s t s' t' same x y. x.0 ∙ sym y.0;
  fails = λ given h. absurd h;
  failed = λ given status text e says. not_failed status e says.0;
  leaves = λ given h. absurd h;
  left = λ given status text e says. not_past status e says.0;
}
