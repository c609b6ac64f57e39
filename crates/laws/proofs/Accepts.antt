-- The judge accepts exactly the encodings of lawful parts, and answers with those parts. Assumes nothing.
use Prim.Native.Nat.{ℕ, ◌+◌}
use native.Mathlib.Omega.{arith}
use mathlib.Core.Path.{◌≡◌, sym, ap, ◌∙◌, subst}
use mathlib.Core.Logic.{◌↔◌}
use mathlib.Core.List.{List, ◌++◌, reverse}
use borrow.Author.Tests.{le-ltb}
use lib.Dec.{lit≤}
use Rattle.laws.specs.Bytes.{Bytes}
use Rattle.laws.specs.Law2.{dealer}
use Rattle.laws.specs.Events.{Event, cards_of}
use Rattle.laws.specs.Law68.{Claim}
use Rattle.laws.specs.Record.{Parts, row, bits, claim_fields, layout, encode}
use Rattle.laws.specs.Reading.{Reading, Reading.refused as stopped, Reading.found}
use Rattle.laws.specs.Judge.{Heading, read_heading, read_deal, read_calls, read_cards, read_claim, read_record}
use Rattle.laws.specs.Judge.{read_lent, Outcome.accepted, outcome, Rooms, least_rooms, Enough, judge_of}
use Rattle.laws.specs.Lawful.{Lawful}
use Rattle.laws.proofs.Spelled.{Stands, Padded, stands_append, stands-front, stands-behind, is-packed, holds}
use Rattle.laws.proofs.Readings.{first-of, first-ending, test_is, ending-is}
use Rattle.laws.proofs.Exact.{landed}
use Rattle.laws.proofs.Sections.{heading_fields, heading_exact, deal_exact, calls_fields, calls_exact, cards_fields, cards_exact}
use Rattle.laws.proofs.Claims.{claim_exact}
use Rattle.laws.proofs.LawfulParts.{parts_of, AllStand, staged, lawful-of, heading_of, as_read_lem, stand_of, lawful-fits}

module _ (bytes : List ℕ) where
  -- the sections one after the other
  all_stand : (x : Heading) (deal h : List ℕ) (e : List Event) (claim : Claim) {m₁ m₂ m₃ m₄ m₅ : ℕ} → AllStand x deal h e claim
      → Stands bytes 0 (heading_fields x) m₁ → Stands bytes m₁ (row 2 deal) m₂ → Stands bytes m₂ (calls_fields h) m₃ → Stands bytes m₃ (cards_fields e) m₄
      → Stands bytes m₄ (claim_fields claim) m₅ → Lawful (parts_of x deal h e claim) × Stands bytes 0 (layout (parts_of x deal h e claim)) m₅
  all_stand x deal h e claim {m₁} {m₂} {m₃} {m₄} {m₅} a s t u v w = (
    lawful-of x deal h e claim a,
    rw (staged x deal h e claim)
        (stands_append bytes (heading_fields x) _ 0 s
        (stands_append bytes (row 2 deal) _ m₁ t
        (stands_append bytes (calls_fields h) _ m₂ u
        (stands_append bytes (cards_fields e) (claim_fields claim) m₃ v w)))),
  )

  -- read to the end: the parts are lawful, and stand in the bytes with padding behind them
  pub judged : (p : Parts) (end : ℕ) → read_record bytes 0 ≡ found p end → (Lawful p × Stands bytes 0 (layout p) end) × Padded bytes end
  unfolding read_record
  judged p end q =
      let x = first-of (read_heading bytes 0) _ q in
      let d : ℕ = dealer x.0.board in
      let l = first-of (read_deal bytes x.1) _ x.3 in
      let c = first-of (read_calls d bytes l.1) _ l.3 in
      let g = first-of (read_cards d l.0 c.0 bytes c.1) _ c.3 in
      let t = first-of (read_claim c.0 (cards_of g.0) bytes g.1) _ g.3 in
      let made : Parts = parts_of x.0 l.0 c.0 g.0 t.0 in
      let z = first-ending bytes t.1 (λ u m. found made m) t.3 in
      let hx = heading_exact.reads bytes 0 x.0 x.1 (omega arith) x.2 in
      let hl = deal_exact.reads bytes x.1 l.0 l.1 hx.1.whole l.2 in
      let hc = (calls_exact d).reads bytes l.1 c.0 c.1 hl.1.whole c.2 in
      let hg = (cards_exact d l.0 c.0 hl.0.holders).reads bytes c.1 g.0 g.1 hc.1.whole g.2 in
      let ht = (claim_exact c.0 (cards_of g.0)).reads bytes g.1 t.0 t.1 hg.1.whole t.2 in
      let all = all_stand x.0 l.0 c.0 g.0 t.0 {m₅ = t.1}
      (record { heading = hx.0; dealt = hl.0; calls = hc.0; cards = hg.0; claimed = ht.0 }) hx.1 hl.1 hc.1 hg.1 ht.1 in
      last {a = made} {m = t.1} z.1 all z.0
    where
      last : {a b : Parts} {m end : ℕ} → ◌≡◌ {A = Reading Parts} (found a m) (found b end) → Lawful a × Stands bytes 0 (layout a) m → Padded bytes m
          → (Lawful b × Stands bytes 0 (layout b) end) × Padded bytes end
      last {a} {b} {m} {end} q h k =
          let stop : m ≡ end = cc in
          (landed Lawful layout q h, rw stop at k)

  -- what the sections take, and stands in the bytes, is read to the end
  sections_read : (x : Heading) (deal h : List ℕ) (e : List Event) (claim : Claim) (end : ℕ) → AllStand x deal h e claim
      → Stands bytes 0 (heading_fields x ++ (row 2 deal ++ (calls_fields h ++ (cards_fields e ++ claim_fields claim)))) end → Padded bytes end
      → read_record bytes 0 ≡ found (parts_of x deal h e claim) end
  unfolding read_record
  sections_read x deal h e claim end a s z =
      let d : ℕ = dealer x.board in
      let m₁ = 0 + bits (heading_fields x) in
      let m₂ = m₁ + bits (row 2 deal) in
      let m₃ = m₂ + bits (calls_fields h) in
      let m₄ = m₃ + bits (cards_fields e) in
      let s₁ = stands-behind bytes (heading_fields x) _ 0 s in
      let s₂ = stands-behind bytes (row 2 deal) _ m₁ s₁ in
      let s₃ = stands-behind bytes (calls_fields h) _ m₂ s₂ in
      let s₄ = stands-behind bytes (cards_fields e) (claim_fields claim) m₃ s₃ in
      simp (
        heading_exact.is bytes 0 x m₁ a.heading (stands-front bytes (heading_fields x) _ 0 s),
        deal_exact.is bytes m₁ deal m₂ a.dealt (stands-front bytes (row 2 deal) _ m₁ s₁),
        (calls_exact d).is bytes m₂ h m₃ a.calls (stands-front bytes (calls_fields h) _ m₂ s₂),
        (cards_exact d deal h a.dealt.holders).is bytes m₃ e m₄ a.cards (stands-front bytes (cards_fields e) (claim_fields claim) m₃ s₃),
        (claim_exact h (cards_of e)).is bytes m₄ claim end a.claimed s₄,
        ending-is bytes end z,
      )

  -- lawful parts that stand in the bytes are read to the end
  judges : (p : Parts) (end : ℕ) → Lawful p → Stands bytes 0 (layout p) end → Padded bytes end → read_record bytes 0 ≡ found p end
  judges p end ok s z =
      let h : List ℕ = reverse p.calls in
      let e : List Event = reverse p.plays in
      sections_read (heading_of p) p.deal h e p.claim end (stand_of p ok)
      (rw (← staged (heading_of p) p.deal h e p.claim) (subst (λ (r : Parts). Stands bytes 0 (layout r) end) (sym (as_read_lem p)) s)) z
      ∙ ap (λ (r : Parts). found r end) (as_read_lem p)

-- buffers of the least lengths
pub least-enough : Enough least_rooms
least-enough = record { answer = lit≤ tt; list = lit≤ tt; failures = lit≤ tt; winners = lit≤ tt }

-- with buffers that are long enough the record decides
module _ (rooms : Rooms) (enough : Enough rooms) where
  pub lent_is : (bytes : List ℕ) → judge_of bytes rooms ≡ outcome (read_record bytes 0)
  unfolding judge_of read_lent
  lent_is bytes = simp (
    le-ltb rooms.answer 7 enough.answer,
    le-ltb rooms.list 48 enough.list,
    le-ltb rooms.failures 52 enough.failures,
    le-ltb rooms.winners 26 enough.winners,
    test_is,
  )

  -- the encoding of lawful parts is accepted, as those parts
  pub read_back : (p : Parts) → Lawful p → judge_of (encode p) rooms ≡ accepted p
  unfolding encode
  read_back p ok =
      let s = holds (layout p) (lawful-fits p ok) in
      lent_is (encode p) ∙ ap outcome (judges (encode p) p (bits (layout p)) ok s.0 s.1)

  -- and nothing else is
  accepted-parts : (bytes : List ℕ) → Bytes bytes → (p : Parts) → judge_of bytes rooms ≡ accepted p → Lawful p × (bytes ≡ encode p)
  unfolding encode
  accepted-parts bytes small p q =
      let r = reached (read_record bytes 0) (sym (lent_is bytes) ∙ q) in
      let w = judged bytes p r.0 r.1 in
      (w.0.0, is-packed bytes small (layout p) {end = r.0} w.0.1 w.1)
    where
      reached : (r : Reading Parts) → outcome r ≡ accepted p → (end : ℕ) × (r ≡ found p end)
      reached (stopped n place) e = let z : ◌≡◌ {A = ℕ} 0 1 = cc in absurd (omega arith)
      reached (found x end) e = let z : x ≡ p = cc in (end, ap (λ (y : Parts). found y end) z)

  pub accepts_parts : (bytes : List ℕ) → Bytes bytes → (p : Parts) → (judge_of bytes rooms ≡ accepted p) ↔ (Lawful p × (bytes ≡ encode p))
  accepts_parts bytes small p = (accepted-parts bytes small p, λ w. rw w.1 (read_back p w.0))

-- an accepted outcome has one value
pub same-accepted : (p q : Parts) → accepted p ≡ accepted q → p ≡ q
same-accepted p q e = cc

-- no bytes are the encoding of two lawful parts
pub unique : (p q : Parts) → Lawful p → Lawful q → encode p ≡ encode q → p ≡ q
unique p q a b e =
    same-accepted p q (sym (read_back least_rooms least-enough p a) ∙ rw e (read_back least_rooms least-enough q b))
