-- The causes of statuses: what is held gives the answer, and the answer tells what is held.
use Rattle.std.proofs.Common.{◌≡◌, ◌≢◌, ◌∙◌, sym, subst, ◌⊎◌, inl, inr, refl, ℕ, ◌<◌, ◌≤◌, length, arith}
use Rattle.pc_ports.specs.Outside.{Holding, Untold, Nothing, Held}
use Rattle.pc_text.specs.Bytes.{Bytes}
use Rattle.pc_app.specs.declared.status.TheConstants.{TOO_LONG, REFUSED, MALFORMED}
use Rattle.pc_app.specs.Files.{Kind, MayHold, HasBytes, MayMean, OnFile}
use Rattle.pc_app.specs.Files.OnFile.{IsRefused, IsRead}
use Rattle.pc_app.specs.Causes.{IsHeld, IsOver, HasFault, IsMeant}
use Rattle.pc_app.specs.Tasks.{OfBytes}
use Rattle.pc_app.proofs.KindLemmas.{IsDecided, AreAlike}

-- what may be held is held, where that is told
is_held : (P : Bytes → Type 0) (held : Holding) → held ≢ Untold → (bytes : Bytes) → MayHold held bytes → P bytes → IsHeld P held
is_held P Untold told bytes holds p = absurd (told refl)
is_held P Nothing told bytes holds p = holds
is_held P (Held held) told bytes holds p = subst P holds p

-- what is held may be held
some_held : (P : Bytes → Type 0) (held : Holding) → IsHeld P held → (bytes : Bytes) × MayHold held bytes × P bytes
some_held P Untold h = absurd h
some_held P Nothing h = absurd h
some_held P (Held held) h = (held, refl, h)

pub may_be_there : (held : Holding) (bytes : Bytes) → MayHold held bytes → held ≢ Nothing
may_be_there held bytes holds e = subst (λ (h : Holding). MayHold h bytes) e holds

pub is_there : (P : Bytes → Type 0) (held : Holding) → IsHeld P held → held ≢ Nothing
is_there P held h e = subst (λ (z : Holding). IsHeld P z) e h

-- a file that means something may mean it
pub may_mean : (kind : Kind) (P : kind.Meaning → Type 0) (held : Holding) → IsMeant kind P held → (m : kind.Meaning) × MayMean kind held m × P m
may_mean kind P held h =
    let x = some_held (λ bytes. (length bytes ≤ kind.limit bytes) × ((m : kind.Meaning) × kind.Means bytes m × P m)) held h in
    (x.2.1.0, record { bytes = x.0; has = record { holds = x.1; short = x.2.0 }; means = x.2.1.1 }, x.2.1.2)

-- a file has bytes that two kinds give these meanings
pub record SameFile (k l : Kind) (x : k.Meaning) (y : l.Meaning) : Type 0 where
  pub bytes : Bytes
  pub left : k.Means bytes x
  pub right : l.Means bytes y

pub same_bytes : (held : Holding) (a b : Bytes) → held ≢ Untold → MayHold held a → MayHold held b → a ≡ b
same_bytes Untold a b told p q = absurd (told refl)
same_bytes Nothing a b told p q = absurd p
same_bytes (Held held) a b told p q = p ∙ sym q

-- a file does not hold both too many bytes and few enough
not_both : (limit other : Bytes → ℕ) → ((bytes : Bytes) → limit bytes ≡ other bytes) → (held : Holding) → held ≢ Untold → (a b : Bytes) → MayHold held a → limit a < length a →
    HasBytes (other b) held b → ⊥
not_both limit other same held told a b holds more has =
    let most = subst (λ (z : Bytes). limit z < length z) (same_bytes held a b told holds has.holds) more in
    let short = has.short in
    let one = same b in
    omega arith

-- ---- files of any kind

module _ (kind : Kind) (A : kind.Meaning → ℕ → Bytes → Type 0) (held : Holding) where
  pub over_answer : IsOver kind held → OnFile kind A held TOO_LONG kind.long
  over_answer h = let x = some_held (λ bytes. kind.limit bytes < length bytes) held h in IsRefused (inl (record { bytes = x.0; holds = x.1; more = x.2; status_is = refl; text_is = refl }))

  -- a file with this status holds too many bytes, or is read
  pub over_cause : IsDecided kind → (status : ℕ) (text : Bytes) → held ≢ Untold → status ≡ TOO_LONG → OnFile kind A held status text → IsOver kind held ⊎ ((m : kind.Meaning) × MayMean kind held m × A m status text)
  over_cause decided status text told s (IsRefused (inl long)) = inl (is_held (λ bytes. kind.limit bytes < length bytes) held told long.bytes long.holds long.more)
  over_cause decided status text told s (IsRefused (inr faulty)) = absurd (by decided.status)
    where
      by : (kind.status ≡ REFUSED) ⊎ (kind.status ≡ MALFORMED) → ⊥
      by (inl e) = let f = faulty.status_is in omega arith
      by (inr e) = let f = faulty.status_is in omega arith
  over_cause decided status text told s (IsRead m is a) = inr (m, is, a)

  -- a file that means something is answered as that is
  pub meant_answer : (P : kind.Meaning → Type 0) (status : ℕ) → ((m : kind.Meaning) → P m → (text : Bytes) × A m status text) → IsMeant kind P held → (text : Bytes) × OnFile kind A held status text
  meant_answer P status f h =
      let x = may_mean kind P held h in
      let y = f x.0 x.2 in
      (y.0, IsRead x.0 x.1 y.1)

  -- a file with no status of files without a meaning means something, which is answered
  pub read_cause : (status : ℕ) (text : Bytes) → status ≢ TOO_LONG → status ≢ kind.status → OnFile kind A held status text → (m : kind.Meaning) × MayMean kind held m × A m status text
  read_cause status text not_long not_faulty (IsRefused (inl long)) = absurd (not_long long.status_is)
  read_cause status text not_long not_faulty (IsRefused (inr faulty)) = absurd (not_faulty faulty.status_is)
  read_cause status text not_long not_faulty (IsRead m is a) = (m, is, a)

  pub meant_cause : (P : kind.Meaning → Type 0) (status : ℕ) (text : Bytes) → held ≢ Untold → status ≢ TOO_LONG → status ≢ kind.status → ((m : kind.Meaning) → A m status text → P m) →
      OnFile kind A held status text → IsMeant kind P held
  meant_cause P status text told not_long not_faulty f a =
      let x = read_cause status text not_long not_faulty a in
      is_held (λ bytes. (length bytes ≤ kind.limit bytes) × ((m : kind.Meaning) × kind.Means bytes m × P m)) held told x.1.bytes x.1.has.holds (x.1.has.short, (x.0, x.1.means, f x.0 x.2))

  pub faulty_answer : IsDecided kind → (status : ℕ) → HasFault status kind held → (text : Bytes) × OnFile kind A held status text
  faulty_answer decided status h =
      let x = some_held (λ bytes. (length bytes ≤ kind.limit bytes) × ((m : kind.Meaning) → kind.Means bytes m → ⊥)) held h.1 in by x.0 x.1 x.2.0 x.2.1 (decided.total x.0)
    where
      by : (bytes : Bytes) → MayHold held bytes → length bytes ≤ kind.limit bytes → ((m : kind.Meaning) → kind.Means bytes m → ⊥) →
          ((m : kind.Meaning) × kind.Means bytes m) ⊎ ((f : kind.Fault) × kind.Faulty bytes f) → (text : Bytes) × OnFile kind A held status text
      by bytes holds short none (inl y) = absurd (none y.0 y.1)
      by bytes holds short none (inr y) =
          (kind.line y.0, IsRefused (inr (record { bytes = bytes; has = record { holds = holds; short = short }; fault = y.0; faulty = y.1; status_is = sym h.0; text_is = refl })))

  -- a file with the status of faults means nothing, or is read
  pub faulty_cause : IsDecided kind → (status : ℕ) (text : Bytes) → held ≢ Untold → status ≢ TOO_LONG → OnFile kind A held status text →
      HasFault status kind held ⊎ ((m : kind.Meaning) × MayMean kind held m × A m status text)
  faulty_cause decided status text told not_long (IsRefused (inl long)) = absurd (not_long long.status_is)
  faulty_cause decided status text told not_long (IsRefused (inr faulty)) =
      inl (
        sym faulty.status_is,
        is_held (λ bytes. (length bytes ≤ kind.limit bytes) × ((m : kind.Meaning) → kind.Means bytes m → ⊥)) held told faulty.bytes faulty.has.holds
            (faulty.has.short, λ m means. decided.apart faulty.bytes m faulty.fault means faulty.faulty),
      )
  faulty_cause decided status text told not_long (IsRead m is a) = inr (m, is, a)

  -- a file that means something is read so
  pub meant_read : IsDecided kind → (status : ℕ) (text : Bytes) → held ≢ Untold → (n : kind.Meaning) → MayMean kind held n → OnFile kind A held status text →
      (m : kind.Meaning) × SameFile kind kind n m × A m status text
  meant_read decided status text told n is (IsRefused (inl long)) =
      absurd (not_both kind.limit kind.limit (λ bytes. refl) held told long.bytes is.bytes long.holds long.more is.has)
  meant_read decided status text told n is (IsRefused (inr faulty)) =
      let same = same_bytes held is.bytes faulty.bytes told is.has.holds faulty.has.holds in
      absurd (decided.apart faulty.bytes n faulty.fault (subst (λ (z : Bytes). kind.Means z n) same is.means) faulty.faulty)
  meant_read decided status text told n is (IsRead m other a) =
      let same = same_bytes held is.bytes other.bytes told is.has.holds other.has.holds in
      (m, record { bytes = other.bytes; left = subst (λ (z : Bytes). kind.Means z n) same is.means; right = other.means }, a)

-- what a file may mean by one kind it may mean by one that is alike
pub alike_means : (k l : Kind) (held : Holding) → AreAlike k l → (x : k.Meaning) → MayMean k held x → (y : l.Meaning) × MayMean l held y
alike_means k l held alike x is =
    let y = alike.to is.bytes x is.means in
    (y.0, record { bytes = is.bytes; has = record { holds = is.has.holds; short = subst (λ (n : ℕ). length is.bytes ≤ n) (alike.limit is.bytes) is.has.short }; means = y.1 })

-- two answers to the same file have one status
module _ (s : ℕ) (t : Bytes) (s' : ℕ) (t' : Bytes) (k l : Kind) (K : IsDecided k) (L : IsDecided l) (alike : AreAlike k l) where
  pub file_once : (A : k.Meaning → ℕ → Bytes → Type 0) (B : l.Meaning → ℕ → Bytes → Type 0) (held : Holding) → held ≢ Untold →
      ((x : k.Meaning) (y : l.Meaning) → SameFile k l x y → A x s t → B y s' t' → s ≡ s') → OnFile k A held s t → OnFile l B held s' t' → s ≡ s'
  file_once A B held told one (IsRefused (inl a)) (IsRefused (inl b)) = a.status_is ∙ sym b.status_is
  file_once A B held told one (IsRefused (inl a)) (IsRefused (inr b)) = absurd (not_both k.limit l.limit alike.limit held told a.bytes b.bytes a.holds a.more b.has)
  file_once A B held told one (IsRefused (inl a)) (IsRead n b y) = absurd (not_both k.limit l.limit alike.limit held told a.bytes b.bytes a.holds a.more b.has)
  file_once A B held told one (IsRefused (inr a)) (IsRefused (inl b)) = absurd (not_both l.limit k.limit (λ bytes. sym (alike.limit bytes)) held told b.bytes a.bytes b.holds b.more a.has)
  file_once A B held told one (IsRefused (inr a)) (IsRefused (inr b)) = a.status_is ∙ alike.status ∙ sym b.status_is
  file_once A B held told one (IsRefused (inr a)) (IsRead n b y) =
      let same = same_bytes held b.bytes a.bytes told b.has.holds a.has.holds in
      let means = alike.fro a.bytes n (subst (λ (z : Bytes). l.Means z n) same b.means) in
      absurd (K.apart a.bytes means.0 a.fault means.1 a.faulty)
  file_once A B held told one (IsRead m a x) (IsRefused (inl b)) = absurd (not_both l.limit k.limit (λ bytes. sym (alike.limit bytes)) held told b.bytes a.bytes b.holds b.more a.has)
  file_once A B held told one (IsRead m a x) (IsRefused (inr b)) =
      let same = same_bytes held a.bytes b.bytes told a.has.holds b.has.holds in
      let means = alike.to b.bytes m (subst (λ (z : Bytes). k.Means z m) same a.means) in
      absurd (L.apart b.bytes means.0 b.fault means.1 b.faulty)
  file_once A B held told one (IsRead m a x) (IsRead n b y) =
      let same = same_bytes held b.bytes a.bytes told b.has.holds a.has.holds in
      one m n (record { bytes = a.bytes; left = a.means; right = subst (λ (z : Bytes). l.Means z n) same b.means }) x y

-- ---- what is answered of a file that holds these bytes

module _ (kind : Kind) (A : kind.Meaning → ℕ → Bytes → Type 0) (held : Holding) (bytes : Bytes) (status : ℕ) (text : Bytes) (e : held ≡ Held bytes) where
  only_these : (other : Bytes) → MayHold held other → other ≡ bytes
  only_these other holds = subst (λ (h : Holding). MayHold h other) e holds

  -- the meaning that is answered, where the status is not that of a file without one
  pub file_read : status ≢ TOO_LONG → status ≢ kind.status → OnFile kind A held status text → (m : kind.Meaning) × kind.Means bytes m × A m status text
  file_read not_long not_faulty a =
      let x = read_cause kind A held status text not_long not_faulty a in
      (x.0, subst (λ (z : Bytes). kind.Means z x.0) (only_these x.1.bytes x.1.has.holds) x.1.means, x.2)

-- a file that is not there is not answered
pub of_nothing : (kind : Kind) (A : kind.Meaning → ℕ → Bytes → Type 0) (held : Holding) (status : ℕ) (text : Bytes) → held ≡ Nothing → OnFile kind A held status text → ⊥
of_nothing kind A held status text e (IsRefused (inl long)) = subst (λ (h : Holding). MayHold h long.bytes) e long.holds
of_nothing kind A held status text e (IsRefused (inr faulty)) = subst (λ (h : Holding). MayHold h faulty.bytes) e faulty.has.holds
of_nothing kind A held status text e (IsRead m is a) = subst (λ (h : Holding). MayHold h is.bytes) e is.has.holds

-- a promise on the bytes that are held
pub of_bytes : (P : Bytes → Type 0) (held : Holding) → ((bytes : Bytes) → held ≡ Held bytes → P bytes) → (held ≡ Nothing → ⊥) → OfBytes P held
of_bytes P Untold here nowhere = tt
of_bytes P Nothing here nowhere = nowhere refl
of_bytes P (Held bytes) here nowhere = here bytes refl
