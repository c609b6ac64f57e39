-- Sections put one after the other are the layout of the contents; and what is written of contents whose numbers fit. Assumes nothing.
use Prim.Native.Nat.{ℕ, ◌≤◌, ◌<◌, ◌+◌}
use mathlib.Core.Path.{◌≡◌, refl, sym, ap, ◌∙◌}
use mathlib.Core.Bool.{true, false}
use mathlib.Core.List.{List, [], ◌∷◌, ◌++◌, append-nil, append_assoc}
use borrow.Author.Tests.{eq-eqb, ne_eqb}
use lib.Dec.{lit≤}
use lib.ListN.{length, get_or}
use Rattle.laws.specs.Choice.{some}
use Rattle.laws.specs.Events.{Event, played, exposed, choice, begins_code, cards_among}
use Rattle.laws.specs.FlatPlay.{items_of, cards_in, is_broken, events_among}
use Rattle.laws.specs.Law68.{Claim, none, agreed}
use Rattle.laws.specs.Record.{Parts, Field, field, row, event_fields, play_fields, claim_fields, layout, encode}
use Rattle.laws.specs.Lent.{◌over◌}
use Rattle.laws.proofs.Written.{Fit}
use Rattle.laws.proofs.ItemsTaken.{cards-of-items}
use Rattle.packing.specs.declared.Packer.{Packer}
use Rattle.packing.specs.Packed.{new_packer, packer_after, bytes_after, packer_after_all, bytes_after_all, bytes_finished, bytes_packed}
use Rattle.packing.proofs.Fields.{Narrow, packed-over}
use Rattle.packing.proofs.Sequences.{Puts, length-after-all, puts_one, puts_then, puts_whole}
use Rattle.writer.specs.Fields.{events_in, code_fields, fields_of}
use Rattle.contents.proofs.Items.{items_at, none_at, whole_code, whole-card, whole-behind}
use Rattle.writer.proofs.Measuring.{fields-card, fields_code}

-- two facts as one
pub both : {A B : Type 0} → A → B → A × B
both a b = (a, b)

-- what a call that puts one field, or several, says of the packer and of the buffer
abbrev One : Packer → List ℕ → Field → Packer → List ℕ → Type 0
One p old f q left = (q ≡ packer_after (length old) p f) × (left ≡ bytes_after p f old)

abbrev All : Packer → List ℕ → List Field → Packer → List ℕ → Type 0
All p old fs q left = (q ≡ packer_after_all (length old) p fs) × (left ≡ bytes_after_all p fs old)

puts : (p : Packer) (old : List ℕ) (fs : List Field) {q : Packer} {left : List ℕ} → All p old fs q left → Puts p old fs q left
puts p old fs e = record { packer = e.0; bytes = e.1 }

module _ (p : Packer) (old : List ℕ) where
  -- a field and those behind it
  pub front : (f : Field) (fs : List Field) (q : Packer) (between : List ℕ) {r : Packer} {left : List ℕ} → One p old f q between → All q between fs r left
      → All p old (f ∷ fs) r left
  front f fs q between a b = let both = puts_then (puts_one p old f a) (puts q between fs b) in (both.packer, both.bytes)

  pub unclaimed : {q : Packer} {left : List ℕ} → One p old (field 1 0) q left → All p old (claim_fields none) q left
  unfolding claim_fields packer_after_all bytes_after_all
  unclaimed a = a

  pub tricks_claimed : (tricks : ℕ) (q : Packer) (between : List ℕ) {r : Packer} {left : List ℕ} → One p old (field 1 1) q between
      → One q between (field 4 tricks) r left → All p old (claim_fields (agreed tricks)) r left
  unfolding claim_fields packer_after_all bytes_after_all
  tricks_claimed tricks q between a b = front (field 1 1) (field 4 tricks ∷ []) q between a b

-- ---- a code and its two numbers
module _ (p : Packer) (old : List ℕ) (code first second : ℕ) where
  pub exposure_put : (q r : Packer) (one two : List ℕ) {s : Packer} {left : List ℕ} → code ≡ 52 → One p old (field 6 code) q one
      → One q one (field 6 first) r two → One r two (field 1 second) s left → All p old (code_fields code first second) s left
  unfolding code_fields packer_after_all bytes_after_all
  exposure_put q r one two e a b c =
      rw (eq-eqb code 52 e) (front p old (field 6 code) (field 6 first ∷ field 1 second ∷ []) q one a
      (front q one (field 6 first) (field 1 second ∷ []) r two b c))

  pub choice_put : (q r : Packer) (one two : List ℕ) {s : Packer} {left : List ℕ} → (code ≡ 52 → ⊥) → One p old (field 6 code) q one
      → One q one (field 2 first) r two → One r two (field 2 second) s left → All p old (code_fields code first second) s left
  unfolding code_fields packer_after_all bytes_after_all
  choice_put q r one two e a b c =
      rw (ne_eqb code 52 e) (front p old (field 6 code) (field 2 first ∷ field 2 second ∷ []) q one a
      (front q one (field 2 first) (field 2 second ∷ []) r two b c))

-- ---- the loop over the plays, without a broken code: what is put, and the fields to come
pub record Reached (p : Packer) (old plays : List ℕ) (q : Packer) (left : List ℕ) (i : ℕ) : Type 0 where
  pub done : List Field
  pub put : Puts p old done q left
  pub same : done ++ play_fields (events_among (items_at plays i)) ≡ fields_of plays
  pub whole : some is_broken (items_at plays i) ≡ false

module _ (p : Packer) (old plays : List ℕ) where
  pub plays_begin : some is_broken (items_of plays) ≡ false → Reached p old plays p old 0
  unfolding fields_of packer_after_all bytes_after_all
  plays_begin w = record { done = []; put = record { packer = refl; bytes = refl }; same = refl; whole = w }

  module _ {q : Packer} {left : List ℕ} {i : ℕ} (r : Reached p old plays q left i) where
    pub plays-long : length left ≡ length old
    plays-long = ap length r.put.bytes ∙ length-after-all p r.done old

    pub plays_end : length plays ≤ i → All p old (fields_of plays) q left
    unfolding play_fields events_among
    plays_end h =
        let e : r.done ≡ fields_of plays = sym (append-nil r.done) ∙ rw (none_at plays i h) at r.same in
        (rw e at r.put.packer, rw e at r.put.bytes)

    on : {s : Packer} {next : List ℕ} {j : ℕ} (fs : List Field) → Puts q left fs s next
        → play_fields (events_among (items_at plays i)) ≡ fs ++ play_fields (events_among (items_at plays j)) → some is_broken (items_at plays j) ≡ false
        → Reached p old plays s next j
    on {j = j} fs a e w =
        record {
          done = r.done ++ fs;
          put = puts_then r.put a;
          same = append_assoc r.done fs (play_fields (events_among (items_at plays j))) ∙ rw e at r.same;
          whole = w;
        }

    module _ (h : i < length plays) where
      pub plays-card : {s : Packer} {next : List ℕ} → begins_code (get_or plays i 0) ≡ false → One q left (field 6 (get_or plays i 0)) s next
          → Reached p old plays s next (i + 1)
      plays-card b a =
          let c = get_or plays i 0 in
          on (field 6 c ∷ []) (puts_one q left (field 6 c) a) (fields-card plays i h c refl r.whole b) (whole-card plays i h c refl r.whole b)

      pub plays_code : {s : Packer} {next : List ℕ} → begins_code (get_or plays i 0) ≡ true
          → All q left (code_fields (get_or plays i 0) (get_or plays (i + 1) 0) (get_or plays (i + 2) 0)) s next → Reached p old plays s next (i + 3)
      plays_code b a =
          let c = get_or plays i 0 in
          on (code_fields c (get_or plays (i + 1) 0) (get_or plays (i + 2) 0)) (puts q left _ a) (fields_code plays i h c refl r.whole b)
          (whole-behind plays i h c refl r.whole b).1

      pub plays-room : begins_code (get_or plays i 0) ≡ true → i + 2 < length plays
      plays-room b = whole_code plays i h (get_or plays i 0) refl r.whole b

-- the cards that are counted are those among the events
pub cards_among_lem : {n : ℕ} (plays : List ℕ) → n ≡ cards_in plays → n ≡ cards_among (events_in plays)
unfolding cards_in
cards_among_lem plays e = e ∙ cards-of-items (items_of plays)

-- the four sections from a new packer on, and the end
module _ (p : Parts) (old : List ℕ) where
  pub sections : (start a b c d : Packer) (ra rb rc rd left : List ℕ) → start ≡ new_packer
      → All start old (field 7 p.board ∷ field 9 p.table ∷ row 2 p.deal) a ra
      → All a ra (field 9 (length p.calls) ∷ row 6 p.calls) b rb
      → All b rb (field 6 (cards_among p.plays) ∷ play_fields p.plays) c rc
      → All c rc (claim_fields p.claim) d rd → left ≡ bytes_finished d rd → left ≡ bytes_packed (layout p) old
  unfolding layout
  sections start a b c d ra rb rc rd left e dealt called plays claimed finished =
      let first = rw e at (puts start old (field 7 p.board ∷ field 9 p.table ∷ row 2 p.deal) dealt) in
      let second = puts a ra (field 9 (length p.calls) ∷ row 6 p.calls) called in
      let third = puts b rb (field 6 (cards_among p.plays) ∷ play_fields p.plays) plays in
      let fourth = puts c rc (claim_fields p.claim) claimed in
      finished ∙ puts_whole (puts_then first (puts_then second (puts_then third fourth)))

-- ---- contents whose numbers fit, where there is room
narrow_append : (fs gs : List Field) → Narrow fs → Narrow gs → Narrow (fs ++ gs)
unfolding Narrow
narrow_append [] gs a b = b
narrow_append (f ∷ fs) gs a b = (a.0, narrow_append fs gs a.1 b)

narrow_row : (w : ℕ) (vs : List ℕ) → w ≤ 16 → Narrow (row w vs)
unfolding Narrow row
narrow_row w [] h = tt
narrow_row w (v ∷ vs) h = (h, narrow_row w vs h)

narrow_claim : (claim : Claim) → Narrow (claim_fields claim)
unfolding Narrow claim_fields
narrow_claim none = (lit≤ tt, tt)
narrow_claim (agreed tricks) = (lit≤ tt, (lit≤ tt, tt))

narrow_event : (v : Event) → Narrow (event_fields v)
unfolding Narrow event_fields
narrow_event (played c) = (lit≤ tt, tt)
narrow_event (exposed c deliberate) = (lit≤ tt, (lit≤ tt, (lit≤ tt, tt)))
narrow_event (choice kind suit) = (lit≤ tt, (lit≤ tt, (lit≤ tt, tt)))

narrow_plays : (plays : List Event) → Narrow (play_fields plays)
unfolding Narrow play_fields
narrow_plays [] = tt
narrow_plays (v ∷ plays) = narrow_append (event_fields v) (play_fields plays) (narrow_event v) (narrow_plays plays)

-- a field, a row and others behind them
narrow_section : (f : Field) (w : ℕ) (vs : List ℕ) (fs : List Field) → f.width ≤ 16 → w ≤ 16 → Narrow fs → Narrow (f ∷ row w vs ++ fs)
unfolding Narrow
narrow_section f w vs fs h k a = (h, narrow_append (row w vs) fs (narrow_row w vs k) a)

-- no field of a record has more than 16 bits
narrow_layout : (p : Parts) → Narrow (layout p)
unfolding Narrow layout
narrow_layout p =
    let rest = narrow_append (play_fields p.plays) _ (narrow_plays p.plays) (narrow_claim p.claim) in
    let played : Narrow (field 6 (cards_among p.plays) ∷ play_fields p.plays ++ claim_fields p.claim) = (lit≤ tt, rest) in
    let called = narrow_section (field 9 (length p.calls)) 6 p.calls _ (lit≤ tt) (lit≤ tt) played in
    (lit≤ tt, narrow_section (field 9 p.table) 2 p.deal _ (lit≤ tt) (lit≤ tt) called)

-- what is written is the record, over the buffer's front
pub writes_encoded : (p : Parts) (old : List ℕ) → Fit (layout p) → length (encode p) ≤ length old → bytes_packed (layout p) old ≡ encode p over old
unfolding encode
writes_encoded p old fits room = packed-over (layout p) old fits (narrow_layout p) room
