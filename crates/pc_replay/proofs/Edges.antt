-- The turns of the loops over the rows that an edge owes, and over the edges of an alternative.
use Rattle.std.proofs.Common.{◌≡◌, ℕ, ◌+◌, ◌<◌, ◌≤◌, List, drop, get_or, length, refl, sym, ap, ◌∙◌, arith, slice_get, Some, None}
use Rattle.std.specs.List.{zip}
use Rattle.std.proofs.lemmas.Bool.Decides.{Decides-eqb}
use Rattle.std.proofs.lemmas.Option.{slice_get_read}
use Rattle.std.proofs.lemmas.Slice.Zip.{length-zip}
use Rattle.pc_rows.specs.Linear.{Linear}
use Rattle.pc_rows.specs.Evidence.{Proof}
use Rattle.pc_flow.specs.Arc.{Arc}
use Rattle.pc_flow.specs.Carry.{owes}
use Rattle.pc_flow.specs.Flow.{Flow}
use Rattle.pc_certificate.specs.declared.certificate.Annotated.{Annotated}
use Rattle.pc_replay.specs.declared.flaw.Flaw.{Flaw}
use Rattle.pc_replay.specs.declared.ruling.Ruling.{Ruling}
use Rattle.pc_replay.specs.declared.ruling.Ruling.TheVariants as answer
use Rattle.pc_replay.specs.Shape.{first_beyond}
use Rattle.pc_flow.specs.Carry.{asked}
use Rattle.pc_replay.specs.Flaws.{row_flaw}
use Rattle.pc_flow.specs.Annotation.{rows_at}
use Rattle.pc_flow.specs.Carry.{premises}
use Rattle.pc_replay.specs.Rule.{told, first_refusal, in_order, refusal, row_ruling, edge_ruling, alternative_ruling}
use Rattle.pc_replay.proofs.Ruled.{told_refuses}
use Rattle.pc_replay.proofs.Turns.{refused_here, ruling_goes_on, ruled_all, got_pair}

-- the code has the rows of both ends of the edge
module _ (n : ℕ) (a : Annotated) (i : ℕ) (e : Arc) (proofs : List Proof) (source target : List Linear)
    (at_source : source ≡ rows_at a.rows e.from) (at_target : target ≡ rows_at a.rows e.to) (counted : length proofs ≡ length (owes e.what target)) where
  abbrev rows : List (Linear × Proof)
  rows = zip (asked e.what (rows_at a.rows e.to)) proofs

  abbrev whole : Ruling
  whole = in_order (row_ruling n a i e) 0 rows

  counted_edge : (r : Ruling) → r ≡ whole → r ≡ edge_ruling n a i (e, proofs)
  counted_edge r h =
      let owed = counted ∙ ap (λ rows. length (owes e.what rows)) at_target in
      h ∙ sym (rw ((Decides-eqb (length proofs) (length (owes e.what (rows_at a.rows e.to)))).1 owed) refl)

  pub edge_accepts : (k : ℕ) → length proofs ≤ k → in_order (row_ruling n a i e) k (drop k rows) ≡ whole → answer.Accepted ≡ edge_ruling n a i (e, proofs)
  edge_accepts k all rest =
      let long = length-zip (asked e.what (rows_at a.rows e.to)) proofs in
      counted_edge answer.Accepted (ruled_all (row_ruling n a i e) rows k _ (omega arith) rest)

  module _ (k : ℕ) (r : Linear) (p : Proof) (within : k < length proofs) (row : slice_get (asked e.what target) k ≡ Some r) (proof : p ≡ get_or proofs k p)
      (rest : in_order (row_ruling n a i e) k (drop k rows) ≡ whole) where
    pair : slice_get rows k ≡ Some (r, p)
    pair =
        got_pair (asked e.what (rows_at a.rows e.to)) proofs k r p (ap (λ rows. slice_get (asked e.what rows) k) (sym at_target) ∙ row)
        (slice_get_read proofs (length proofs) k p refl within proof)

    flaw_is : row_flaw e.what (premises e.what source) r p ≡ row_flaw e.what (premises e.what (rows_at a.rows e.from)) r p
    flaw_is = ap (λ rows. row_flaw e.what (premises e.what rows) r p) at_source

    pub edge_refuses : (f : Flaw) → Some f ≡ row_flaw e.what (premises e.what source) r p → told n i k f ≡ edge_ruling n a i (e, proofs)
    edge_refuses f found =
        let is : told n i k f ≡ row_ruling n a i e k (r, p) = ap (refusal (told n i k)) (found ∙ flaw_is) in
        counted_edge (told n i k f) (is ∙ refused_here rows k (r, p) pair (row_ruling n a i e) _ (λ accepts. told_refuses n i k f (is ∙ accepts)) rest)

    pub edge_goes_on : None ≡ row_flaw e.what (premises e.what source) r p → in_order (row_ruling n a i e) (k + 1) (drop (k + 1) rows) ≡ whole
    edge_goes_on nothing = ruling_goes_on rows k (r, p) pair (row_ruling n a i e) _ (ap (refusal (told n i k)) (sym (nothing ∙ flaw_is))) rest

-- an alternative whose entry is over the parameters
module _ (g : Flow) (n : ℕ) (a : Annotated) where
  abbrev edges : List (Arc × List Proof)
  edges = zip g.edges a.proofs

  abbrev all_edges : Ruling
  all_edges = in_order (edge_ruling n a) 0 edges

  module _ (entry : None ≡ first_beyond g.params (rows_at a.rows 0)) where
    after_entry : (r : Ruling) → r ≡ all_edges → r ≡ alternative_ruling g n a
    after_entry r h = h ∙ ap (λ o. first_refusal (refusal (answer.Entry n) o) all_edges) entry

    pub alternative_accepts : (i : ℕ) → length g.edges ≤ i → in_order (edge_ruling n a) i (drop i edges) ≡ all_edges → answer.Accepted ≡ alternative_ruling g n a
    alternative_accepts i all rest =
        let long = length-zip g.edges a.proofs in
        after_entry answer.Accepted (ruled_all (edge_ruling n a) edges i _ (omega arith) rest)

    module _ (i : ℕ) (e : Arc) (proofs : List Proof) (edge : slice_get g.edges i ≡ Some e) (proof : slice_get a.proofs i ≡ Some proofs)
        (rest : in_order (edge_ruling n a) i (drop i edges) ≡ all_edges) (r : Ruling) (is : r ≡ edge_ruling n a i (e, proofs)) where
      pub alternative_refuses : (r ≡ answer.Accepted → ⊥) → r ≡ alternative_ruling g n a
      alternative_refuses refuses =
          after_entry r (is ∙ refused_here edges i (e, proofs) (got_pair g.edges a.proofs i e proofs edge proof) (edge_ruling n a) _ (λ accepts. refuses (is ∙ accepts)) rest)

      pub alternative_goes_on : r ≡ answer.Accepted → in_order (edge_ruling n a) (i + 1) (drop (i + 1) edges) ≡ all_edges
      alternative_goes_on accepts = ruling_goes_on edges i (e, proofs) (got_pair g.edges a.proofs i e proofs edge proof) (edge_ruling n a) _ (sym is ∙ accepts) rest
