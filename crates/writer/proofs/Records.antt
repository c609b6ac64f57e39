-- The record written, or refused: a law for each way out of the code. Assumes nothing.
use Rattle.std.specs.Prelude.{Option}
use Prim.Native.Nat.{ℕ, ◌≤◌, ◌<◌, ◌+◌, ◌*◌}
use native.Mathlib.Omega.{arith}
use mathlib.Core.Path.{◌≡◌, refl, sym, ap, ◌∙◌}
use mathlib.Core.Bool.{false}
use mathlib.Core.List.{List, [], ◌∷◌, map}
use borrow.Author.Tests.{le-ltb, lt-ltb}
use lib.ListN.{length}
use Rattle.laws.specs.Refusals.{Placed, refused_at, given, short_record_buffer}
use Rattle.laws.specs.Choice.{some}
use Rattle.laws.specs.Events.{Event, played, exposed, choice, cards_of, cards_among, codes_of}
use Rattle.laws.specs.FlatPlay.{event, items_of, is_broken, events_among, flat_of}
use Rattle.laws.specs.Lawful.{Lawful}
use Rattle.laws.specs.Record.{Parts, bits, layout, encode}
use Rattle.laws.specs.Judge.{Outcome, Outcome.refused as declined, Outcome.accepted}
use Rattle.laws.specs.Contents.{Given, given_of, Fits, contents_of}
use Rattle.laws.specs.Writing.{write_of, record_left}
use Rattle.laws.proofs.FlatPlay.{reads_back, all_events}
use Rattle.laws.proofs.Taken.{fits_tell}
use Rattle.laws.proofs.Lengths.{plays-bits, at_most_505}
use Rattle.laws.proofs.Contents.{layout-fits}
use Rattle.laws.proofs.ContentsLawful.{accepted-fits, accepted-lawful}
use Rattle.contents.specs.Checked.{checked}
use Rattle.writer.specs.Answer.{written_by}
use Rattle.packing.specs.Packed.{bytes_packed}
use Rattle.writer.specs.Fields.{events_in, parts_of, fields_of, length_of}
use Rattle.writer.proofs.Lengths.{length_encoded}
use Rattle.writer.proofs.Writing.{writes_encoded}

-- the items of events are whole
all_whole : (vs : List Event) → some is_broken (map event vs) ≡ false
unfolding some is_broken
all_whole [] = refl
all_whole (v ∷ vs) = all_whole vs

-- how many numbers events take
flat-length : (vs : List Event) → length (flat_of vs) ≡ cards_among vs + 3 * codes_of vs
unfolding flat_of cards_among cards_of codes_of
flat-length [] = refl
flat-length (played c ∷ vs) = omega (arith, flat-length vs)
flat-length (exposed c deliberate ∷ vs) = omega (arith, flat-length vs)
flat-length (choice kind suit ∷ vs) = omega (arith, flat-length vs)

-- the outcome of contents, by what the code answers of them
outcome-refused : (o : Outcome) {n place : ℕ} → refused_at n place ≡ checked o → o ≡ declined n place
outcome-refused (declined m at) e = cc
outcome-refused (accepted p) e = absurd cc

outcome-accepted : (o : Outcome) → given tt ≡ checked o → (q : Parts) × (o ≡ accepted q)
outcome-accepted (declined m at) e = absurd cc
outcome-accepted (accepted q) e = (q, refl)

module _ (c : Given) (old : List ℕ) where
  -- what is answered, and what is left in the buffer
  abbrev Left : Placed ℕ → List ℕ → Type 0
  Left answer left = (answer ≡ written_by (write_of c (length old))) × (left ≡ record_left (write_of c (length old)) old)

  pub record_refused : {n place : ℕ} → refused_at n place ≡ checked (contents_of c) → Left (refused_at n place) old
  unfolding write_of record_left
  record_refused e =
      let q = outcome-refused (contents_of c) e in
      (rw q, rw q)

  module _ (z : given tt ≡ checked (contents_of c)) where
    -- the parts that the contents are
    abbrev p : Parts
    p = record { board = c.board; table = c.table; deal = c.deal; calls = c.calls; plays = events_in c.plays; claim = c.claim }

    taken_as : (q : Parts) × (contents_of c ≡ accepted q)
    taken_as = outcome-accepted (contents_of c) z

    -- they are these, with no broken code among their plays
    given_is : c ≡ given_of taken_as.0
    given_is = (accepted-fits c taken_as.1).0

    own_fits : Fits taken_as.0
    own_fits = (accepted-fits c taken_as.1).1

    items_are : items_of c.plays ≡ map event taken_as.0.plays
    items_are = ap (λ (x : Given). items_of x.plays) given_is ∙ reads_back taken_as.0.plays (fits_tell taken_as.0.plays own_fits.plays)

    pub none-broken : some is_broken (items_of c.plays) ≡ false
    none-broken = rw items_are (all_whole taken_as.0.plays)

    parts_are : taken_as.0 ≡ p
    parts_are =
        let q = taken_as.0 in
        let plays : q.plays ≡ events_in c.plays = sym (ap events_among items_are ∙ all_events q.plays) in
        ap (λ (vs : List Event). record { board = q.board; table = q.table; deal = q.deal; calls = q.calls; plays = vs; claim = q.claim }) plays
        ∙ ap (λ (x : Given). record { board = x.board; table = x.table; deal = x.deal; calls = x.calls; plays = events_in c.plays; claim = x.claim })
        (sym given_is)

    taken : contents_of c ≡ accepted p
    taken = taken_as.1 ∙ ap accepted parts_are

    pub fits : Fits p
    fits = rw (← parts_are) own_fits

    own_lawful : Lawful taken_as.0
    own_lawful = (accepted-lawful taken_as.0).0 (ap contents_of (sym given_is) ∙ taken_as.1)

    lawful : Lawful p
    lawful = rw (← parts_are) own_lawful

    pub length-low : length (encode p) ≤ 505
    length-low = at_most_505 p lawful

    -- the flat list is short
    pub plays-low : length c.plays ≤ 512
    plays-low =
        let ok = own_lawful in
        omega (arith, ap (λ (x : Given). length x.plays) given_is, flat-length taken_as.0.plays, ok.layout.cards, ok.cards.codes)

    pub bits-low : bits (fields_of c.plays) ≤ 8192
    unfolding fields_of
    bits-low = omega (arith, (plays-bits (events_in c.plays)).1, lawful.layout.cards, lawful.cards.codes)

    module _ (size : ℕ) (es : size ≡ length (encode p)) where
      pub record_short : length old < size → Left (refused_at short_record_buffer 0) old
      unfolding write_of record_left
      record_short h = (rw (taken, lt-ltb (length old) (length (encode p)) (rw es at h)), rw (taken, lt-ltb (length old) (length (encode p)) (rw es at h)))

      pub record_written : size ≤ length old → (left : List ℕ) → left ≡ bytes_packed (layout p) old → Left (given size) left
      unfolding write_of record_left
      record_written h left e =
          let room : length (encode p) ≤ length old = rw es at h in
          let wrote = writes_encoded p old (layout-fits p fits) room in
          (rw (taken, le-ltb (length old) (length (encode p)) room) (ap given es), rw (taken, le-ltb (length old) (length (encode p)) room) (e ∙ wrote))

-- the length that the code counts
pub size_is : (board table : ℕ) (holders calls plays : List ℕ) (claim : Option ℕ) → Fits (parts_of board table holders calls plays claim)
    → length_of (length calls) (bits (fields_of plays)) claim ≡ length (encode (parts_of board table holders calls plays claim))
size_is board table holders calls plays claim f = length_encoded board table holders calls plays claim f.holders f.calls
