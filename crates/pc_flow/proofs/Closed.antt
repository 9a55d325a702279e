-- What no edge leaves holds all that is reached.
use Rattle.std.proofs.Common.{◌≡◌, ℕ, List, [], ◌∷◌, length, sym, subst, ◌∙◌}
use Rattle.pc_rows.specs.Linear.{MeetsAll}
use Rattle.pc_rows.specs.Linear.{State}
use Rattle.pc_flow.specs.Arc.{Arc}
use Rattle.pc_flow.specs.Exact.{PaidIsSafe}
use Rattle.pc_flow.specs.Flow.{Flow}
use Rattle.pc_flow.specs.Lists.{In}
use Rattle.pc_flow.specs.Walk.{Pass, Keeps, Walks, entered, GraphSafe}
use Rattle.pc_flow.proofs.Carrying.{same_length}

-- a set of states for each point that no edge leaves
abbrev pub IsForward : List Arc → (ℕ → State → Type 0) → Type 0
IsForward g b = (e : Arc) → In e g → (s t : State) → b e.from s → Pass e.what s t → b e.to t

-- and in which each assertion holds
abbrev pub IsClosed : List Arc → (ℕ → State → Type 0) → Type 0
IsClosed g b = (e : Arc) → In e g → (s : State) → b e.from s → Keeps e.what s × ((t : State) → Pass e.what s t → b e.to t)

pub forward_holds : (g : List Arc) (b : ℕ → State → Type 0) (p : ℕ) (s : State) → IsForward g b → b p s →
    (es : List Arc) (q : ℕ) (t : State) → Walks g p s es q t → b q t
forward_holds g b p s forward begin [] q t w = subst (λ q. b q t) (sym w.0) (subst (b p) (sym w.1) begin)
forward_holds g b p s forward begin (e ∷ es) q t w =
    subst (λ q. b q t) (sym w.0) (forward e w.1 w.2.0 t (forward_holds g b p s forward begin es e.from w.2.0 w.2.2) w.2.1)

pub closed_is_safe : (g : Flow) (b : ℕ → State → Type 0) (s : State) → IsClosed g.edges b → b 0 (entered g s) → GraphSafe g s
closed_is_safe g b s closed begin es q t w e m from =
    (closed e m t (subst (λ q. b q t) (sym from) (forward_holds g.edges b 0 (entered g s) (λ e m s t h pass. (closed e m s h).1 t pass) begin es q t w))).0

pub paid_is_safe : PaidIsSafe
paid_is_safe g a s paid long begin =
    closed_is_safe g (λ p t. (length t ≡ g.variables) × MeetsAll t (a p)) s
    (λ e m t h.
    let pays = paid e m t h.0 h.1 in
    (pays.keeps, (λ u pass. (same_length e.what t u pass ∙ h.0, pays.passes u pass))))
    (long, begin)
