-- An alternative that is needless beside one of several.
use Rattle.std.proofs.Common.{◌≡◌, ℕ, zero, suc, ◌<◌, List, [], ◌∷◌, length, get_or, sym, ap, subst, arith, Bool, true, Some, slice_get, Ok}
use Rattle.pc_certificate.specs.declared.certificate.Annotated.{Annotated}
use Rattle.pc_certify.specs.Selecting.{IsNeedless, NeedlessIs}

-- an item that is read by its place
pub item_got : {A : Type 0} (xs : List A) (i : ℕ) (x : A) → i < length xs → x ≡ get_or xs i x → slice_get xs i ≡ Some x
item_got [] i x lt is = absurd (omega arith)
item_got (y ∷ xs) zero x lt is = ap (λ z. Some z) (sym is)
item_got (y ∷ xs) (suc i) x lt is = item_got xs i x (omega arith) is

-- what is said of an answer whose content is known
pub is_needless : (a b : Annotated) (t : Bool) → t ≡ true → NeedlessIs a b (Ok t) → IsNeedless a b
is_needless a b t is h = subst (λ (z : Bool). NeedlessIs a b (Ok z)) is h
