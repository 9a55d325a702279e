-- Loops that add what is made of each row.
use Rattle.std.proofs.Common.{◌≡◌, ℕ, zero, suc, ◌+◌, ◌<◌, sym, subst, ◌∙◌, ap, arith, List, [], ◌∷◌, ◌++◌, length, drop, get_or}
use Rattle.std.specs.List.{AllByRecursion}
use Rattle.std.proofs.lemmas.List.{drop_more}
use Rattle.pc_elim.specs.Elimination.{Made, flat}

pub flat_next : (f : Made → List Made) (xs : List Made) (i : ℕ) (x : Made) → i < length xs → x ≡ get_or xs i x → flat f (drop i xs) ≡ f x ++ flat f (drop (i + 1) xs)
flat_next f xs i x lt e = ap (flat f) (drop_more xs i x lt) ∙ ap (λ (z : Made). f z ++ flat f (drop (i + 1) xs)) (sym e)

pub all_at : (F : Made → Type 0) (xs : List Made) (i : ℕ) (x : Made) → i < length xs → x ≡ get_or xs i x → AllByRecursion F xs → F x
all_at F [] i x lt e h = absurd (omega arith)
all_at F (y ∷ xs) zero x lt e h = subst F (sym e) h.0
all_at F (y ∷ xs) (suc i) x lt e h = all_at F xs i x (omega arith) e h.1
