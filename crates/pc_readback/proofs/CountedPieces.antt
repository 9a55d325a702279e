-- What the limits count over symbols of pieces, wherever they stand.
use Rattle.std.proofs.Common.{◌≡◌, refl, ◌∙◌, ap, List, [], ◌∷◌, ◌++◌, false, None, Ok}
use Rattle.pc_text.specs.Bytes.{Bytes}
use Rattle.pc_grammar.specs.declared.symbol.Symbol.{Symbol}
use Rattle.pc_language.specs.declared.terminal.Terminal.{Terminal}
use Rattle.pc_language.specs.declared.terminal.Terminal.TheVariants as terminal
use Rattle.pc_grammar.specs.declared.limits.Counts.{Counts}
use Rattle.pc_grammar.specs.Combinators.{Text, starts}
use Rattle.pc_grammar.specs.Terminals.{the, has}
use Rattle.pc_grammar.specs.Limits.{and_on, counted, counts}
use Rattle.pc_grammar.proofs.Scans.{counts_append}
use Rattle.pc_show.specs.Pieces.{Piece, Mark, Name}
use Rattle.pc_readback.specs.Matched.{AreOf}
use Rattle.pc_readback.proofs.PieceParts.{parts_of}

-- no symbol of a word is past a limit, and this holds of the counts behind it
pub record Passes (c : Counts) (u v : Text) (Q : Counts → Type 0) : Type 0 where
  pub after : Counts
  pub runs : counts None c u v ≡ Ok after
  pub holds : Q after

-- the same of one symbol
pub record Step (c : Counts) (s : Symbol) (r : Text) (Q : Counts → Type 0) : Type 0 where
  pub after : Counts
  pub runs : counted None c s r ≡ Ok after
  pub holds : Q after

pub steps : (c : Counts) (s : Symbol) (r : Text) (Q : Counts → Type 0) (d : Counts) → counted None c s r ≡ Ok d → Q d → Step c s r Q
steps c s r Q d runs holds = record { after = d; runs = runs; holds = holds }

pub passes_both : (c : Counts) (u w v : Text) (Q R : Counts → Type 0) → Passes c u (w ++ v) Q → ((d : Counts) → Q d → Passes d w v R) → Passes c (u ++ w) v R
passes_both c u w v Q R x f = let y = f x.after x.holds in record { after = y.after; runs = counts_append None c u w v ∙ ap (λ o. and_on o (λ d. counts None d w v)) x.runs ∙ y.runs; holds = y.holds }

pub passes_first : (c : Counts) (s : Symbol) (u v : Text) (Q R : Counts → Type 0) → Step c s (u ++ v) Q → ((d : Counts) → Q d → Passes d u v R) → Passes c (s ∷ u) v R
passes_first c s u v Q R x f = let y = f x.after x.holds in record { after = y.after; runs = ap (λ o. and_on o (λ d. counts None d u v)) x.runs ∙ y.runs; holds = y.holds }

-- nothing is asked of what follows
abbrev pub Anything : Text → Type 0
Anything v = Unit {0}

-- no choice begins
abbrev pub NoChoice : Text → Type 0
NoChoice v = starts (the terminal.OpenBracket) v ≡ false

module _ (src : Bytes) where
  -- where P holds of the counts before symbols of these pieces, and F of what follows them, none is past a limit, and Q holds behind them
  abbrev pub Count : List Piece → (Counts → Type 0) → (Counts → Type 0) → (Text → Type 0) → Type 0
  Count ps P Q F = (c : Counts) → P c → (u v : Text) → AreOf src ps u → F v → Passes c u v Q

  pub count_none : (P : Counts → Type 0) (F : Text → Type 0) → Count [] P P F
  count_none P F c p [] v h f = record { after = c; runs = refl; holds = p }
  count_none P F c p (s ∷ u) v h f = absurd h

  module _ (P Q R : Counts → Type 0) where
    pub count_both : (F G : Text → Type 0) (ps qs : List Piece) → ((w v : Text) → AreOf src qs w → G v → F (w ++ v)) → Count ps P Q F → Count qs Q R G → Count (ps ++ qs) P R G
    count_both F G ps qs f x y c p u v h g =
        let a = parts_of src ps qs u h in
        let b = f a.right v a.second g in
        rw (a.split) (passes_both c a.left a.right v Q R (x c p a.left (a.right ++ v) a.first b) (λ d q. y d q a.right v a.second g))

    -- where nothing is asked of what follows the first
    pub count_then : (F : Text → Type 0) (ps qs : List Piece) → Count ps P Q Anything → Count qs Q R F → Count (ps ++ qs) P R F
    count_then F ps qs x y = count_both Anything F ps qs (λ w v h g. tt) x y

  pub count_mark : (t : Terminal) (P Q : Counts → Type 0) (F : Text → Type 0) → ((c : Counts) (s : Symbol) (r : Text) → P c → s.terminal ≡ t → F r → Step c s r Q) → Count (Mark t ∷ []) P Q F
  count_mark t P Q F f c p [] v h g = absurd h
  count_mark t P Q F f c p (s ∷ []) v (e, h) g = passes_first c s [] v Q Q (f c s v p e g) (λ d q. record { after = d; runs = refl; holds = q })
  count_mark t P Q F f c p (s ∷ z ∷ u) v (e, h) g = absurd h

  pub count_name : (w : Bytes) (P Q : Counts → Type 0) (F : Text → Type 0) → ((c : Counts) (s : Symbol) (r : Text) → P c → s.terminal ≡ terminal.Name → F r → Step c s r Q) → Count (Name w ∷ []) P Q F
  count_name w P Q F f c p [] v h g = absurd h
  count_name w P Q F f c p (s ∷ []) v (e, i, h) g = passes_first c s [] v Q Q (f c s v p e g) (λ d q. record { after = d; runs = refl; holds = q })
  count_name w P Q F f c p (s ∷ z ∷ u) v (e, i, h) g = absurd h

  pub count_as : (P P' Q Q' : Counts → Type 0) (F : Text → Type 0) (ps : List Piece) → ((c : Counts) → P' c → P c) → ((c : Counts) → Q c → Q' c) → Count ps P Q F → Count ps P' Q' F
  count_as P P' Q Q' F ps f g x c p u v h k = let y = x c (f c p) u v h k in record { after = y.after; runs = y.runs; holds = g y.after y.holds }

  -- a mark before which no choice begins
  pub next_mark : (t : Terminal) → has (terminal.OpenBracket ∷ []) t ≡ false → (ps : List Piece) (u v : Text) → AreOf src (Mark t ∷ ps) u → NoChoice (u ++ v)
  next_mark t i ps [] v h = absurd h
  next_mark t i ps (s ∷ u) v (e, h) = ap (has (terminal.OpenBracket ∷ [])) e ∙ i
