-- The walk over a parse tree that passes its test makes a program that can be shown and read back.
use Rattle.std.proofs.Common.{◌≡◌, ℕ, ◌+◌, refl, ap, sym, ◌∙◌, subst, List, [], ◌∷◌, ◌++◌, append_assoc, append-nil, length, map, Bool, true, false, cond, Result, Ok, Err}
use Rattle.std.specs.Prelude.{◌&&◌, IfOk, not, is_some, nat_lt, nat_le}
use Rattle.std.specs.List.{list_all}
use Rattle.pc_text.specs.Bytes.{Bytes}
use Rattle.pc_text.specs.Named.{number_of}
use Rattle.pc_rows.specs.declared.row.TheConstants.{VARIABLES}
use Rattle.pc_grammar.specs.declared.symbol.Symbol.{Symbol}
use Rattle.pc_language.specs.declared.limits.TheConstants.{BRACES}
use Rattle.pc_grammar.specs.declared.tree.ProgramTree.{ProgramTree}
use Rattle.pc_syntax.specs.declared.fault.SourceFault.{SourceFault}
use Rattle.pc_syntax.specs.declared.fault.SourceFault.TheVariants as fault
use Rattle.pc_program.specs.Forms.{bind}
use Rattle.pc_syntax.specs.Context as walk
use Rattle.pc_syntax.specs.Context.{Content}
use Rattle.pc_readback.specs.Showable as shown
use Rattle.pc_readback.specs.ShownTrees as short
use Rattle.pc_program.proofs.Results.{and_is, and_of, bind_keeps}
use Rattle.pc_readback.proofs.ShownStmts.{AreLike, stmts_walked}

-- ---- names

differ-append : (before ws vs : List Bytes) → shown.differ_after before (ws ++ vs) ≡ (shown.differ_after before ws && shown.differ_after (before ++ ws) vs)
differ-append before [] vs = ap (λ z. shown.differ_after z vs) (sym (append-nil before))
differ-append before (w ∷ ws) vs =
    by (not (is_some (number_of before w))) _ _ _ (differ-append (before ++ w ∷ []) ws vs ∙ ap (λ z. shown.differ_after (before ++ w ∷ []) ws && shown.differ_after z vs) (append_assoc before (w ∷ []) ws))
  where
    by : (b x y z : Bool) → x ≡ (y && z) → (b && x) ≡ ((b && y) && z)
    by true x y z h = h
    by false x y z h = refl

module _ (src : Bytes) where
  -- names that were declared behind others
  record AreDeclared (before : List Bytes) (symbols : List Symbol) (all : List Bytes) : Type 0 where
    are : all ≡ before ++ map (walk.word src) symbols
    differ : shown.differ_after before (map (walk.word src) symbols) ≡ true

  one_declared : (before : List Bytes) (s : Symbol) → IfOk (walk.declare src before s) (λ all. (all ≡ before ++ walk.word src s ∷ []) × (not (is_some (number_of before (walk.word src s))) ≡ true))
  one_declared before s = by (is_some (number_of before (walk.word src s))) (nat_lt (length before) VARIABLES)
    where
      by : (a b : Bool) →
          IfOk {T = List Bytes} {E = SourceFault} (bind {A = Unit {0}} (cond a (Err (fault.DuplicateName s.place)) (cond b (Ok tt) (Err (fault.TooManyNames s.place)))) (λ u. Ok (before ++ walk.word src s ∷ [])))
          (λ all. (all ≡ before ++ walk.word src s ∷ []) × (not a ≡ true))
      by true b = tt
      by false true = (refl, refl)
      by false false = tt

  declared : (before : List Bytes) (symbols : List Symbol) → IfOk (walk.declared_after src before symbols) (AreDeclared before symbols)
  declared before [] = record { are = sym (append-nil before); differ = refl }
  declared before (s ∷ symbols) =
      bind_keeps (λ all. (all ≡ before ++ walk.word src s ∷ []) × (not (is_some (number_of before (walk.word src s))) ≡ true)) (AreDeclared before (s ∷ symbols)) (walk.declare src before s)
      (λ more. walk.declared_after src more symbols) (λ more h. by more h.0 h.1 (walk.declared_after src more symbols) (declared more symbols)) (one_declared before s)
    where
      by : (more : List Bytes) → more ≡ before ++ walk.word src s ∷ [] → not (is_some (number_of before (walk.word src s))) ≡ true →
          (r : Result (List Bytes) SourceFault) → IfOk r (AreDeclared more symbols) → IfOk r (AreDeclared before (s ∷ symbols))
      by more e new (Ok all) h = record {
        are = h.are ∙ ap (λ z. z ++ map (walk.word src) symbols) e ∙ append_assoc before (walk.word src s ∷ []) (map (walk.word src) symbols);
        differ = and_of (not (is_some (number_of before (walk.word src s)))) (shown.differ_after (before ++ walk.word src s ∷ []) (map (walk.word src) symbols)) new
            (ap (λ z. shown.differ_after z (map (walk.word src) symbols)) (sym e) ∙ h.differ);
      }
      by more e new (Err f) h = tt

  spelled : (symbols : List Symbol) (ws : List Bytes) → list_all (short.spells_name src) symbols ≡ true → list_all shown.is_name ws ≡ true → list_all shown.is_name (map (walk.word src) symbols ++ ws) ≡ true
  spelled [] ws h k = k
  spelled (s ∷ symbols) ws h k =
      let p = and_is (short.spells_name src s) (list_all (short.spells_name src) symbols) h in
      and_of (shown.is_name (walk.word src s)) (list_all shown.is_name (map (walk.word src) symbols ++ ws)) p.0 (spelled symbols ws p.1 k)

  -- the names of a program
  record AreNames (names : List Bytes) : Type 0 where
    named : list_all shown.is_name names ≡ true
    differ : shown.all_differ names ≡ true

  names_walked : (tree : ProgramTree) → list_all (short.spells_name src) tree.params ≡ true → list_all (short.spells_name src) tree.locals ≡ true → IfOk (walk.checked_names src tree) AreNames
  names_walked tree h k =
      bind_keeps (AreDeclared [] tree.params) AreNames (walk.declared_after src [] tree.params) (λ names. walk.declared_after src names tree.locals)
      (λ names d. by names d (walk.declared_after src names tree.locals) (declared names tree.locals)) (declared [] tree.params)
    where
      by : (names : List Bytes) → AreDeclared [] tree.params names → (r : Result (List Bytes) SourceFault) → IfOk r (AreDeclared names tree.locals) → IfOk r AreNames
      by names d (Ok all) m =
          let are : all ≡ map (walk.word src) tree.params ++ map (walk.word src) tree.locals = m.are ∙ ap (λ z. z ++ map (walk.word src) tree.locals) d.are in
          let locals : list_all shown.is_name (map (walk.word src) tree.locals) ≡ true = ap (list_all shown.is_name) (sym (append-nil (map (walk.word src) tree.locals))) ∙ spelled tree.locals [] k refl in
          record {
            named = ap (list_all shown.is_name) are ∙ spelled tree.params (map (walk.word src) tree.locals) h locals;
            differ = ap shown.all_differ are ∙ differ-append [] (map (walk.word src) tree.params) (map (walk.word src) tree.locals) ∙
                and_of (shown.all_differ (map (walk.word src) tree.params)) (shown.differ_after (map (walk.word src) tree.params) (map (walk.word src) tree.locals)) d.differ
                (ap (λ z. shown.differ_after z (map (walk.word src) tree.locals)) (sym d.are) ∙ m.differ);
          }
      by names d (Err f) m = tt

-- ---- programs

walked : (src : Bytes) (tree : ProgramTree) → short.short_tree src tree ≡ true → IfOk (walk.checked src tree) (λ c. shown.is_showable c.names c.body ≡ true)
walked src tree fit =
    let f = and_is (list_all (short.spells_name src) tree.params) (list_all (short.spells_name src) tree.locals && (short.short_stmts tree.body && nat_le (1 + short.nesting_of tree.body) BRACES)) fit in
    let g = and_is (list_all (short.spells_name src) tree.locals) (short.short_stmts tree.body && nat_le (1 + short.nesting_of tree.body) BRACES) f.1 in
    let h = and_is (short.short_stmts tree.body) (nat_le (1 + short.nesting_of tree.body) BRACES) g.1 in
    bind_keeps (AreNames src) (λ c. shown.is_showable c.names c.body ≡ true) (walk.checked_names src tree) _
    (λ names d. bind_keeps (λ y. AreLike src names tree.body y.stmts) (λ c. shown.is_showable c.names c.body ≡ true) (walk.checked_stmts src names tree.body 1)
    (λ body. Ok (record { place = tree.place; names = record { names = names; params = length tree.params }; body = body.stmts }))
    (λ body i.
    and_of (list_all shown.is_name names) (shown.all_differ names && (shown.shown_stmts names body.stmts && nat_le (1 + shown.nesting_of body.stmts) BRACES)) d.named
    (and_of (shown.all_differ names) (shown.shown_stmts names body.stmts && nat_le (1 + shown.nesting_of body.stmts) BRACES) d.differ
    (and_of (shown.shown_stmts names body.stmts) (nat_le (1 + shown.nesting_of body.stmts) BRACES) (i.test ∙ h.0) (ap (λ (n : ℕ). nat_le (1 + n) BRACES) i.nests ∙ h.1))))
    (stmts_walked src names tree.body 1))
    (names_walked src tree f.0 g.0)

pub walks_are_showable : (src : Bytes) (tree : ProgramTree) (c : Content) → short.short_tree src tree ≡ true → walk.checked src tree ≡ Ok c → shown.is_showable c.names c.body ≡ true
walks_are_showable src tree c fit e = subst (λ r. IfOk r (λ c. shown.is_showable c.names c.body ≡ true)) e (walked src tree fit)
