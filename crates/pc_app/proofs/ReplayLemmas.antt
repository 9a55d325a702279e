-- Replaying keeps the laws of commands.
use Rattle.std.proofs.Common.{◌≡◌, ◌∙◌, ap, sym, ◌⊎◌, inl, inr, refl, ℕ, ◌∷◌, length, arith}
use Rattle.pc_text.specs.Bytes.{Bytes}
use Rattle.pc_program.specs.declared.program.Program.{Program}
use Rattle.pc_syntax.specs.Context.{Content, content_of}
use Rattle.pc_flow.specs.Arc.{arc}
use Rattle.pc_flow.specs.declared.what.What.TheVariants.{Enter}
use Rattle.pc_flow.specs.Flow.{Flow}
use Rattle.pc_graph.specs.Lowering.{graph, rules, points_from}
use Rattle.pc_certificate.specs.Certificate.{Certificate, condition_of}
use Rattle.pc_cert.proofs.Meaning.{text_determines_certificate}
use Rattle.pc_replay.specs.Accepts.{Accepts}
use Rattle.pc_replay.specs.Rule.{ruling as ruling_on}
use Rattle.pc_replay.specs.declared.ruling.Ruling.{Ruling}
use Rattle.pc_replay.specs.declared.ruling.Ruling.TheVariants as ruling
use Rattle.pc_replay.proofs.Ruled.{rule_is_meant}
use Rattle.pc_app.specs.declared.status.TheConstants.{DONE, FAILED, PAST}
use Rattle.pc_app.specs.Subjects.{of_program}
use Rattle.pc_app.specs.Replay.{ruling_status, ruling_text, IsAccepted, ReplaySays, IsRuling, replay}
use Rattle.pc_app.proofs.InputLemmas.{IsEnd}
use Rattle.pc_app.proofs.KindLemmas.{source_decided, certificate_decided, alike_self, one_content}
use Rattle.pc_app.specs.Kinds.{certificate_kind}
use Rattle.pc_app.proofs.Programs.{accepted_programs_are_safe}
use Rattle.pc_app.proofs.TaskLemmas.{Lawful}

-- a ruling accepts, or its status is that of failures
accepts_or_fails : (r : Ruling) → (r ≡ ruling.Accepted) ⊎ (ruling_status r ≡ FAILED)
accepts_or_fails ruling.Accepted = inl refl
accepts_or_fails ruling.Shape = inr refl
accepts_or_fails (ruling.Entry a r) = inr refl
accepts_or_fails (ruling.Count a e) = inr refl
accepts_or_fails (ruling.Negative a e r) = inr refl
accepts_or_fails (ruling.Index a e r) = inr refl
accepts_or_fails (ruling.Past a e r) = inr refl
accepts_or_fails (ruling.NotBelow a e r) = inr refl
accepts_or_fails (ruling.Left a e r v) = inr refl

of_ruling : (status : ℕ) (r : Ruling) → status ≡ ruling_status r → IsRuling status
of_ruling status r s = by (accepts_or_fails r)
  where
    by : (r ≡ ruling.Accepted) ⊎ (ruling_status r ≡ FAILED) → IsRuling status
    by (inl e) = inl (s ∙ ap ruling_status e)
    by (inr e) = inr (s ∙ e)

done_is_accepted : (r : Ruling) → DONE ≡ ruling_status r → r ≡ ruling.Accepted
done_is_accepted r done = by (accepts_or_fails r)
  where
    by : (r ≡ ruling.Accepted) ⊎ (ruling_status r ≡ FAILED) → r ≡ ruling.Accepted
    by (inl e) = e
    by (inr e) = absurd (omega arith)

ruling_end : (status : ℕ) → IsRuling status → IsEnd status
ruling_end status (inl e) = record { end = inl e }
ruling_end status (inr e) = record { end = inr (inl e) }

-- the graph of a program's parts
abbrev graph_of : Content → Flow
graph_of c =
    let a = rules c.body 1 2 in
    record {
      params = c.names.params;
      variables = length c.names.names;
      points = points_from a.loops 0 (c.place ∷ c.place ∷ a.places);
      edges = arc 0 1 (Enter c.names.params) ∷ a.edges;
    }

-- programs that are equal but for their proofs have one graph
pub same_graph : (p q : Program) → content_of p ≡ content_of q → graph p ≡ graph q
same_graph p q same = ap graph_of same

-- ---- what is told of a ruling

module _ (p : Program) (c : Certificate) where
  accepted_by : (r : Ruling) → ruling_on (graph p) c ≡ r → (status : ℕ) (text : Bytes) → status ≡ ruling_status r → text ≡ ruling_text p.names.names (condition_of c) r → status ≡ DONE →
      IsAccepted (of_program p) c text
  accepted_by r is status text status_is text_is done =
      let accepted : r ≡ ruling.Accepted = done_is_accepted r (sym done ∙ status_is) in
      let accepts : Accepts (graph p) c = (rule_is_meant (graph p) c).0 (is ∙ accepted) in
      record {
        accepted = accepts;
        text_is = text_is ∙ ap (λ (r : Ruling). ruling_text p.names.names (condition_of c) r) accepted;
        sound = accepted_programs_are_safe p c accepts;
      }

  -- the answer with the status and the text of the ruling
  pub says_ruling : (status : ℕ) (text : Bytes) → status ≡ ruling_status (ruling_on (graph p) c) → text ≡ ruling_text p.names.names (condition_of c) (ruling_on (graph p) c) →
      ReplaySays (of_program p) c status text
  says_ruling status text status_is text_is =
      record { status_is = status_is; text_is = text_is; done = λ done. accepted_by (ruling_on (graph p) c) refl status text status_is text_is done }

  wrong_fails : (Accepts (graph p) c → ⊥) → ruling_status (ruling_on (graph p) c) ≡ FAILED
  wrong_fails wrong = by (accepts_or_fails (ruling_on (graph p) c))
    where
      by : (ruling_on (graph p) c ≡ ruling.Accepted) ⊎ (ruling_status (ruling_on (graph p) c) ≡ FAILED) → ruling_status (ruling_on (graph p) c) ≡ FAILED
      by (inl e) = absurd (wrong ((rule_is_meant (graph p) c).0 e))
      by (inr e) = e

  wrong_says : (Accepts (graph p) c → ⊥) → (text : Bytes) × ReplaySays (of_program p) c FAILED text
  wrong_says wrong =
      let text = ruling_text p.names.names (condition_of c) (ruling_on (graph p) c) in
      (text, says_ruling FAILED text (sym (wrong_fails wrong)) refl)

  right_is_done : (status : ℕ) → status ≡ ruling_status (ruling_on (graph p) c) → Accepts (graph p) c → status ≡ DONE
  right_is_done status s accepts = s ∙ ap ruling_status ((rule_is_meant (graph p) c).1 accepts)

  failed_wrong : (status : ℕ) → status ≡ FAILED → status ≡ ruling_status (ruling_on (graph p) c) → Accepts (graph p) c → ⊥
  failed_wrong status e s accepts = let done = right_is_done status s accepts in omega arith

  not_past : (status : ℕ) → status ≡ PAST → status ≡ ruling_status (ruling_on (graph p) c) → ⊥
  not_past status e s = by (of_ruling status (ruling_on (graph p) c) s)
    where
      by : IsRuling status → ⊥
      by (inl d) = omega arith
      by (inr d) = omega arith

ruling_once : (p q : Program) (c d : Certificate) → content_of p ≡ content_of q → c ≡ d → ruling_status (ruling_on (graph p) c) ≡ ruling_status (ruling_on (graph q) d)
ruling_once p q c d same e =
    ap (λ (g : Flow). ruling_status (ruling_on g c)) (same_graph p q same) ∙ ap (λ (z : Certificate). ruling_status (ruling_on (graph q) z)) e

pub replay_is_lawful : (source certificate : Bytes) → Lawful (replay source certificate)
replay_is_lawful source certificate = record {
  decided = record { decided = source_decided; each = λ p. certificate_decided; alike = λ bytes p q spells spells'. alike_self certificate_kind };
  ends = λ given status text says. of_ruling status (ruling_on (graph given.0) given.1) says.status_is;
  end = ruling_end;
  once = λ g h s t s' t' same x y.
      x.status_is
      ∙ ruling_once g.0 h.0 g.1 h.1 (one_content same.0.bytes g.0 h.0 same.0.left same.0.right) (text_determines_certificate same.1.bytes g.1 h.1 same.1.left same.1.right)
      ∙ sym y.status_is;
  fails = λ given wrong. wrong_says given.0 given.1 wrong;
  failed = λ given status text e says accepts. failed_wrong given.0 given.1 status e says.status_is accepts;
  leaves = λ given h. absurd h;
  left = λ given status text e says. not_past given.0 given.1 status e says.status_is;
}
