-- What the counts say of a text and its fronts.
use Rattle.std.proofs.Common.{◌≡◌, ◌≤◌, ℕ, [], ◌∷◌, ◌++◌, length, Option, Some, None, Result, Ok, Err, refl, sym, ap, ◌∙◌, subst, append_assoc, inl, inr, arith, length-append, append-nil}
use Rattle.pc_grammar.specs.declared.symbol.Symbol.{Symbol}
use Rattle.pc_grammar.specs.declared.fault.ParseFault.{ParseFault}
use Rattle.pc_grammar.specs.declared.fault.ParseFault.TheVariants as fault
use Rattle.pc_grammar.specs.declared.limits.Counts.{Counts}
use Rattle.pc_grammar.specs.declared.limits.Past.{Past}
use Rattle.pc_grammar.specs.Combinators.{Text}
use Rattle.pc_grammar.specs.Terminals.{has}
use Rattle.pc_grammar.specs.Limits.{keywords, or_else, braces_after, signs_after, ands_after, blocks_after, is_sign, counted, and_on, counts, start, Within, FirstPast, one_later, past_or, first_past}
use Rattle.std.proofs.lemmas.Bool.{cases_lt}

-- ---- two fronts of one text

pub cut : (u v r q : Text) → u ++ r ≡ v ++ q → length u ≤ length v → (w : Text) × (v ≡ u ++ w) × (r ≡ w ++ q)
cut [] v r q e l = (v, refl, e)
cut (s ∷ u) [] r q e l = absurd (omega arith)
cut (s ∷ u) (t ∷ v) r q e l =
    let same : s ≡ t = cc in
    let rest : u ++ r ≡ v ++ q = cc in
    let x = cut u v r q rest (omega arith) in
    (x.0, ap (λ z. t ∷ z) x.1 ∙ ap (λ z. z ∷ (u ++ x.0)) (sym same), x.2)

-- ---- only these faults come from counts

abbrev pub OfLimit : ParseFault → Type 0
OfLimit (fault.TooDeep p) = Unit {0}
OfLimit (fault.TooLong p) = Unit {0}
OfLimit (fault.TooManyProcesses p) = Unit {0}
OfLimit (fault.Syntax p) = ⊥
OfLimit fault.NoMemory = ⊥

abbrev Counted : Result Counts ParseFault → Type 0
Counted (Ok c) = Unit {0}
Counted (Err f) = OfLimit f

or_fault : {A : Type 0} (f : ParseFault) → OfLimit f → (o : Option A) (k : A → Result Counts ParseFault) → ((a : A) → Counted (k a)) → Counted (or_else o f k)
or_fault f h None k g = h
or_fault f h (Some a) k g = g a

-- ---- the index of the first symbol past a limit

pub record IsPastAt (most : Option ℕ) (c : Counts) (i : Text) (p : Past) : Type 0 where
  pub before : Text
  pub symbol : Symbol
  pub rest : Text
  pub split : i ≡ before ++ symbol ∷ rest
  pub here : length before ≡ p.at
  pub counts_here : Counts
  pub within : counts most c before (symbol ∷ rest) ≡ Ok counts_here
  pub past : counted most counts_here symbol rest ≡ Err p.fault

-- what the counts after one more symbol are
pub record IsCounted (c : Counts) (s : Symbol) (r : Text) (d : Counts) : Type 0 where
  pub braces : braces_after c.braces s.terminal ≡ Some d.braces
  pub signs : signs_after c.signs (is_sign s.terminal c.behind_keyword r) s.terminal ≡ Some d.signs
  pub ands : ands_after c.ands s.terminal ≡ Some d.ands
  pub behind : d.behind_keyword ≡ has keywords s.terminal

-- ---- with at most so many blocks directly in the outermost braces, where that is limited

module _ (most : Option ℕ) where
  counted_is : (c : Counts) (s : Symbol) (r : Text) → Counted (counted most c s r)
  counted_is c s r =
      or_fault (fault.TooDeep s.place) tt (braces_after c.braces s.terminal) _ (λ b.
      or_fault (fault.TooLong s.place) tt (signs_after c.signs (is_sign s.terminal c.behind_keyword r) s.terminal) _ (λ n.
      or_fault (fault.TooLong s.place) tt (ands_after c.ands s.terminal) _ (λ k.
      or_fault (fault.TooManyProcesses s.place) tt (blocks_after most c.blocks c.braces s.terminal) _ (λ m. tt))))

  pub fault_of : (c : Counts) (s : Symbol) (r : Text) (f : ParseFault) → counted most c s r ≡ Err f → OfLimit f
  fault_of c s r f e = subst Counted e (counted_is c s r)

  pub is_counted : (c d : Counts) (s : Symbol) (r : Text) → counted most c s r ≡ Ok d → IsCounted c s r d
  is_counted c d s r h =
      by (braces_after c.braces s.terminal) (signs_after c.signs (is_sign s.terminal c.behind_keyword r) s.terminal) (ands_after c.ands s.terminal) (blocks_after most c.blocks c.braces s.terminal) refl refl refl h
    where
      by : (x y z m : Option ℕ) → braces_after c.braces s.terminal ≡ x → signs_after c.signs (is_sign s.terminal c.behind_keyword r) s.terminal ≡ y → ands_after c.ands s.terminal ≡ z →
          or_else x (fault.TooDeep s.place) (λ braces. or_else y (fault.TooLong s.place) (λ signs. or_else z (fault.TooLong s.place) (λ ands. or_else m (fault.TooManyProcesses s.place) (λ blocks.
          Ok (record { braces = braces; signs = signs; ands = ands; blocks = blocks; behind_keyword = has keywords s.terminal }))))) ≡ Ok d →
          IsCounted c s r d
      by None y z m e f g h = absurd (cc)
      by (Some x) None z m e f g h = absurd (cc)
      by (Some x) (Some y) None m e f g h = absurd (cc)
      by (Some x) (Some y) (Some z) None e f g h = absurd (cc)
      by (Some x) (Some y) (Some z) (Some m) e f g h =
          let same : record { braces = x; signs = y; ands = z; blocks = m; behind_keyword = has keywords s.terminal } ≡ d = cc in
          record {
            braces = e ∙ ap (λ (c : Counts). Some c.braces) same;
            signs = f ∙ ap (λ (c : Counts). Some c.signs) same;
            ands = g ∙ ap (λ (c : Counts). Some c.ands) same;
            behind = sym (ap (λ (c : Counts). c.behind_keyword) same);
          }

  -- ---- the counts go on from one text to the next

  append_on : (a b v : Text) → ((c : Counts) → counts most c (a ++ b) v ≡ and_on (counts most c a (b ++ v)) (λ d. counts most d b v)) → (o : Result Counts ParseFault)
      → and_on o (λ d. counts most d (a ++ b) v) ≡ and_on (and_on o (λ d. counts most d a (b ++ v))) (λ d. counts most d b v)
  append_on a b v again (Ok d) = again d
  append_on a b v again (Err f) = refl

  pub counts_append : (c : Counts) (a b v : Text) → counts most c (a ++ b) v ≡ and_on (counts most c a (b ++ v)) (λ d. counts most d b v)
  counts_append c [] b v = refl
  counts_append c (s ∷ a) b v = rw (append_assoc a b v) (append_on a b v (λ d. counts_append d a b v) (counted most c s (a ++ (b ++ v))))

  -- a front of what is within the limits is within them
  pub within_front : (c d : Counts) (a b v : Text) → counts most c (a ++ b) v ≡ Ok d → (e : Counts) × (counts most c a (b ++ v) ≡ Ok e)
  within_front c d a b v h = by (counts most c a (b ++ v)) refl (sym (counts_append c a b v) ∙ h)
    where
      by : (o : Result Counts ParseFault) → counts most c a (b ++ v) ≡ o → and_on o (λ e. counts most e b v) ≡ Ok d → (e : Counts) × (counts most c a (b ++ v) ≡ Ok e)
      by (Ok e) g h = (e, g)
      by (Err f) g h = absurd (cc)

  -- what stands before the first symbol past a limit is the longest front within the limits
  pub before_past : (a b u v : Text) (s : Symbol) (f : ParseFault) → FirstPast most u s v f → Within most a b → a ++ b ≡ u ++ s ∷ v → length a ≤ length u
  before_past a b u v s f (c, m, p) (d, w) e = elim (cases_lt (length u) (length a)) [
    | inr l ↦ l
    | inl l ↦ longer (cut u a (s ∷ v) b (sym e) (omega arith))
  ]
    where
      longer : ((w : Text) × (a ≡ u ++ w) × (s ∷ v ≡ w ++ b)) → length a ≤ length u
      longer ([], g, h) = let n = length-append u [] in omega (arith, ap length g)
      longer (t ∷ x, g, h) =
          let same : s ≡ t = cc in
          let rest : v ≡ x ++ b = cc in
          let m' : counts most start u ((s ∷ x) ++ b) ≡ Ok c = subst (λ z. counts most start u (s ∷ z) ≡ Ok c) rest m in
          let p' : counted most c s (x ++ b) ≡ Err f = subst (λ z. counted most c s z ≡ Err f) rest p in
          let g' : a ≡ u ++ s ∷ x = g ∙ ap (λ z. u ++ z ∷ x) (sym same) in
          let k : counts most start (u ++ s ∷ x) b ≡ Err f = counts_append start u (s ∷ x) b ∙ rw (m', p') refl in
          let j : counts most start (u ++ s ∷ x) b ≡ Ok d = subst (λ z. counts most start z b ≡ Ok d) g' w in
          absurd (cc)

  -- ---- the index of the first symbol past a limit

  abbrev pub Scanned : Counts → Text → Option Past → Type 0
  Scanned c i None = (d : Counts) × (counts most c i [] ≡ Ok d)
  Scanned c i (Some p) = IsPastAt most c i p

  scanned_later : (c d : Counts) (s : Symbol) (r : Text) → counted most c s r ≡ Ok d → (o : Option Past) → Scanned d r o → Scanned c (s ∷ r) (one_later o)
  scanned_later c d s r e None h = (h.0, rw (append-nil, e) h.1)
  scanned_later c d s r e (Some p) x = record {
    before = s ∷ x.before;
    symbol = x.symbol;
    rest = x.rest;
    split = ap (λ z. s ∷ z) x.split;
    here = omega (arith, x.here);
    counts_here = x.counts_here;
    within = let g : counted most c s (x.before ++ x.symbol ∷ x.rest) ≡ Ok d = subst (λ z. counted most c s z ≡ Ok d) x.split e in rw g x.within;
    past = x.past;
  }

  scanned_first : (c : Counts) (s : Symbol) (r : Text) (f : ParseFault) → counted most c s r ≡ Err f → Scanned c (s ∷ r) (Some (record { at = 0; fault = f }))
  scanned_first c s r f e = record { before = []; symbol = s; rest = r; split = refl; here = refl; counts_here = c; within = refl; past = e }

  scanned_by : (c : Counts) (s : Symbol) (r : Text) → ((d : Counts) → Scanned d r (first_past most d r)) → (o : Result Counts ParseFault) → counted most c s r ≡ o → Scanned c (s ∷ r) (past_or o (λ d. first_past most d r))
  scanned_by c s r again (Ok d) e = scanned_later c d s r e (first_past most d r) (again d)
  scanned_by c s r again (Err f) e = scanned_first c s r f e

  pub scanned : (c : Counts) (i : Text) → Scanned c i (first_past most c i)
  scanned c [] = (c, refl)
  scanned c (s ∷ r) = scanned_by c s r (λ d. scanned d r) (counted most c s r) refl
