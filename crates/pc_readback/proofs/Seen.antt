-- The braces that are open behind symbols and words, and the keywords before what follows.
use Rattle.std.proofs.Common.{◌≡◌, ℕ, refl, ap, sym, ◌∙◌, List, [], ◌∷◌, ◌++◌, Bool, true, false, Option, Some, Result, Ok, Err}
use Rattle.std.specs.List.{list_all}
use Rattle.pc_grammar.specs.declared.symbol.Symbol.{Symbol}
use Rattle.pc_language.specs.declared.terminal.Terminal.{Terminal}
use Rattle.pc_language.specs.declared.terminal.Terminal.TheVariants as terminal
use Rattle.pc_grammar.specs.declared.limits.Counts.{Counts}
use Rattle.pc_grammar.specs.declared.fault.ParseFault.{ParseFault}
use Rattle.pc_grammar.specs.Combinators.{Text}
use Rattle.pc_grammar.specs.Terminals.{among, has}
use Rattle.pc_grammar.specs.Limits.{keywords, braces_after, counted, and_on, counts}
use Rattle.pc_grammar.proofs.Scans.{is_counted}
use Rattle.pc_grammar.proofs.Sets.{apart, parted}
use Rattle.pc_program.proofs.Results.{and_is}
use Rattle.pc_syntax.proofs.Phrases.{IsOne}

abbrev pub braces : List Terminal
braces = terminal.OpenBrace ∷ terminal.CloseBrace ∷ []

flat_by : (n : ℕ) (k : Terminal) → has braces k ≡ false → braces_after n k ≡ Some n
flat_by n terminal.OpenBrace h = absurd (cc)
flat_by n terminal.CloseBrace h = absurd (cc)
flat_by n k h = refl

pub clear_behind : (f : Symbol → Bool) (ks : List Terminal) (s : Symbol) (c d : Counts) → apart ks keywords ≡ true → IsOne f ks s c d → d.behind_keyword ≡ false
clear_behind f ks s c d a i = i.behind ∙ parted ks keywords a (s ∷ []) i.is

pub level_behind : (f : Symbol → Bool) (ks : List Terminal) (s : Symbol) (c d : Counts) → apart ks braces ≡ true → IsOne f ks s c d → d.braces ≡ c.braces
level_behind f ks s c d a i = let h = flat_by c.braces s.terminal (parted ks braces a (s ∷ []) i.is) in let g = i.braces in cc

-- a word without braces leaves their count
pub flat_on : (ks : List Terminal) → apart ks braces ≡ true → (most : Option ℕ) (c d : Counts) (w v : Text) → list_all (among ks) w ≡ true → counts most c w v ≡ Ok d → d.braces ≡ c.braces
flat_on ks a most c d [] v h k = let same : c ≡ d = cc in ap (λ (c : Counts). c.braces) (sym same)
flat_on ks a most c d (s ∷ w) v h k =
    let p = and_is (among ks s) (list_all (among ks) w) h in
    by p.0 (λ e k. flat_on ks a most e d w v p.1 k) (counted most c s (w ++ v)) refl k
  where
    by : among ks s ≡ true → ((e : Counts) → counts most e w v ≡ Ok d → d.braces ≡ e.braces) → (o : Result Counts ParseFault) → counted most c s (w ++ v) ≡ o → and_on o (λ e. counts most e w v) ≡ Ok d → d.braces ≡ c.braces
    by m again (Err z) g k = absurd (cc)
    by m again (Ok e) g k =
        let h = flat_by c.braces s.terminal (parted ks braces a (s ∷ []) m) in
        let i = (is_counted most c e s (w ++ v) g).braces in
        let same : e.braces ≡ c.braces = cc in
        again e k ∙ same
