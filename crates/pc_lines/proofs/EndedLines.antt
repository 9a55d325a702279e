-- The lines of a text that a line feed ends, one after another.
use Rattle.std.proofs.Common.{◌≡◌, ◌∙◌, refl, ap, sym, ℕ, ◌+◌, ◌<◌, Bool, true, false, List, [], ◌∷◌, ◌++◌, length, Ok, Err, arith}
use Rattle.std.specs.List.{count_by}
use Rattle.std.proofs.lemmas.List.Splits.{length-slice_split}
use Rattle.pc_text.specs.Bytes.{Bytes}
use Rattle.pc_text.specs.Places.{is_line_feed}
use Rattle.pc_text.specs.Lexemes.{in_line, EachPasses}
use Rattle.pc_text.specs.Lines.{lines, Left, IsLine}
use Rattle.pc_text.proofs.LineLists as lists
use Rattle.pc_lines.specs.declared.fault.CertFault.TheVariants as fault
use Rattle.pc_lines.specs.Faults.{all_but_last, last_of, ended_lines, tail_of}
use Rattle.pc_lines.specs.Readers.{Unread, unread, is_over, take_of, take_line}

more_by : (line : Bytes) (ls : List Bytes) (k : ℕ) → length ls ≡ k + 1 → (all_but_last (line ∷ ls) ≡ line ∷ all_but_last ls) × (last_of (line ∷ ls) ≡ last_of ls)
more_by line [] k h = absurd (omega arith)
more_by line (next ∷ more) k h = (refl, refl)

-- a line and its line feed at the front
pub line_on : (line rest : Bytes) → EachPasses in_line line → (ended_lines (line ++ 10 ∷ rest) ≡ line ∷ ended_lines rest) × (tail_of (line ++ 10 ∷ rest) ≡ tail_of rest)
line_on line rest h =
    let both = more_by line (lines rest) (count_by is_line_feed rest) (length-slice_split is_line_feed rest) in
    (ap all_but_last (lists.line_on line rest h) ∙ both.0, ap last_of (lists.line_on line rest h) ∙ both.1)

pub line_first : (b line rest : Bytes) → IsLine b line true rest → (ended_lines b ≡ line ∷ ended_lines rest) × (tail_of b ≡ tail_of rest)
line_first b line rest h = let both = line_on line rest h.1 in (ap ended_lines h.0 ∙ both.0, ap tail_of h.0 ∙ both.1)

pub line_last : (b line rest : Bytes) → IsLine b line false rest → (ended_lines b ≡ []) × (tail_of b ≡ line)
line_last b line rest h = let alone = lists.line_last b line rest h in (ap all_but_last alone, ap last_of alone)

-- ---- the next line of a text

abbrev pub unread_of : ℕ → List Bytes → Bytes → Unread
unread_of n lines tail = record { number = n; lines = lines; tail = tail }

pub line_taken : (l left : Left) (line : Bytes) → IsLine l.rest line true left.rest → left.number ≡ l.number + 1 → take_line (unread l) ≡ Ok (line, unread left)
line_taken l left line h e =
    let first = line_first l.rest line left.rest h in
    ap (λ lines. take_of l.number lines (tail_of l.rest)) first.0
    ∙ ap (λ tail. Ok (line, unread_of (l.number + 1) (ended_lines left.rest) tail)) first.1
    ∙ ap (λ n. Ok (line, unread_of n (ended_lines left.rest) (tail_of left.rest))) (sym e)

pub line_open : (l left : Left) (line : Bytes) → IsLine l.rest line false left.rest → take_line (unread l) ≡ Err (fault.Form l.number)
line_open l left line h = ap (λ lines. take_of l.number lines (tail_of l.rest)) (line_last l.rest line left.rest h).0

-- something is left where a line is
pub not_over : (l : Left) (line rest : Bytes) (ended : Bool) → 0 < length l.rest → IsLine l.rest line ended rest → is_over (unread l) ≡ false
not_over l line rest true some h = rw (line_first l.rest line rest h).0 refl
not_over l line rest false some h =
    let last = line_last l.rest line rest h in
    rw (last.0, last.1) (lists.some_last l.rest line rest some h)
