-- The first symbol past a limit, counted on from a later one.
use Rattle.std.proofs.Common.{◌≡◌, ◌+◌, ℕ, ◌∷◌, Option, Some, None, Ok, Err, refl, ap, arith}
use Rattle.pc_grammar.specs.declared.symbol.Symbol.{Symbol}
use Rattle.pc_grammar.specs.declared.fault.ParseFault.{ParseFault}
use Rattle.pc_grammar.specs.declared.limits.Counts.{Counts}
use Rattle.pc_grammar.specs.declared.limits.Past.{Past}
use Rattle.pc_grammar.specs.Combinators.{Text}
use Rattle.pc_grammar.specs.Limits.{counted, first_past, one_later}

abbrev pub later : ℕ → Option Past → Option Past
later n None = None
later n (Some p) = Some (record { at = n + p.at; fault = p.fault })

pub later_none : (o : Option Past) → later 0 o ≡ o
later_none None = refl
later_none (Some p) = ap (λ n. Some (record { at = n; fault = p.fault })) (omega arith)

later_one : (n : ℕ) (o : Option Past) → later n (one_later o) ≡ later (n + 1) o
later_one n None = refl
later_one n (Some p) = ap (λ m. Some (record { at = m; fault = p.fault })) (omega arith)

pub later_goes : (most : Option ℕ) (n : ℕ) (c d : Counts) (s : Symbol) (r : Text) → counted most c s r ≡ Ok d → later n (first_past most c (s ∷ r)) ≡ later (n + 1) (first_past most d r)
later_goes most n c d s r e = rw e (later_one n (first_past most d r))

pub later_stops : (most : Option ℕ) (n : ℕ) (c : Counts) (f : ParseFault) (s : Symbol) (r : Text) → counted most c s r ≡ Err f → later n (first_past most c (s ∷ r)) ≡ Some (record { at = n; fault = f })
later_stops most n c f s r e = rw e (ap (λ m. Some (record { at = m; fault = f })) (omega arith))
