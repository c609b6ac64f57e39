-- The judgement that the positions give is the Laws' on the record's parts. Assumes nothing.
use Rattle.std.specs.Prelude.{if◌then◌else◌}
use Prim.Native.Nat.{ℕ, ◌-◌, ◌/◌, ◌<◌}
use native.Mathlib.Omega.{arith}
use mathlib.Core.Path.{◌≡◌, refl, sym, ap, ◌∙◌, fun_ext}
use mathlib.Core.Bool.{Bool, true, false}
use mathlib.Core.List.{List, [], ◌∷◌, reverse, reverse-reverse}
use borrow.Author.Tests.{eqb-true, eqb-false, eq-eqb}
use lib.Dec.{eqb}
use lib.ListN.{get_or, length-map}
use Rattle.std.specs.Prelude.{Option}
use Rattle.laws.specs.Refusals.{Placed, refused_at, given, not_padding}
use Rattle.laws.specs.Cards.{clockwise, side_of}
use Rattle.laws.specs.Law2.{dealer, vulnerable}
use Rattle.laws.specs.Auction as Law
use Rattle.laws.specs.Reading.{Reading, Reading.found, onward, refuse, ending, overfull}
use Rattle.laws.specs.Judge.{read_claim, read_no_claim, read_marked_claim}
use Rattle.laws.specs.LastCard.{read_behind}
use Rattle.laws.specs.Law44.{cards_played, all_played, tricks_complete, tricks_left, cards_in_trick, winners, tricks_won}
use Rattle.laws.specs.Padded.{padded}
use Rattle.laws.specs.Events as Events
use Rattle.laws.specs.Events.{Event}
use Rattle.laws.specs.LeadRevoke.{all_revokes, counted_revokes}
use Rattle.laws.specs.Failures.{Failure, failures, failure_bytes}
use Rattle.laws.specs.Law68.{Claim, none, agreed, claimed_tricks, at_claim_point, claimable}
use Rattle.laws.specs.Law77.{declarer_score, ns_score}
use Rattle.laws.specs.Record.{Parts, Field, field, number}
use Rattle.laws.specs.Judgement.{play_of, contract_of, won_tricks_of, winners_of, revokes_of, counted_of, failures_of, claimed_of, won_of, transferred_of}
use Rattle.laws.specs.Judgement.{after_of, stake_of, score_of}
use Rattle.laws.specs.Judgement.{played_fields, answer_fields, twos_complement, revoke_byte, revoke_bytes, failures_bytes}
use Rattle.laws.proofs.Tests.{by_test}
use Rattle.auction.specs.declared.Contract.{Contract}
use Rattle.auction.specs.Asked.{as_law}
use Rattle.play.specs.declared.Tricks.{Tricks}
use Rattle.play.specs.Told.{tricks_in}
use Rattle.play.specs.History.{tricks_of, position_of}
use Rattle.play.proofs.Complete.{tricks_law}
use Rattle.position.specs.declared.table.Table.{Table}
use Rattle.position.specs.declared.listed.Listed.{Listed}
use Rattle.position.specs.Listed.{revokes_in}
use Rattle.found.specs.Told.{failure_bytes_in}
use Rattle.position.proofs.AtMost.{cards-allowed}
use Rattle.position.proofs.TableStands.{TableStands, play-is, table-stands}
use Rattle.position.proofs.ListedBytes.{revokes_law}
use Rattle.position.proofs.FailureBytes.{failure_bytes_lem}
use Rattle.transfer.specs.Inputs.{claimed_by, transferred_in}
use Rattle.transfer.proofs.History.{seats-told, listed_for, revokes_back, transferred_law, plain-bytes}
use Rattle.judgement.specs.Settled.{head_fields, won_in, after_in, stake_in, settled_fields}
use Rattle.judgement.specs.Whole.{OfCards, listed_in, tricks_told, after_cards, judged_of, board_fields}
use Rattle.last_card.specs.declared.reading.Read.{Read}
use Rattle.last_card.proofs.Told.{told-refused, told-found}
use Rattle.judgement.specs.declared.whole.Judged.{Judged}
use Rattle.judgement.specs.Claims.{claim_told, claim_of, no_claim_by, marked_by, claim_by}
use Rattle.claims.specs.Claims.{point_at}

-- the parts of a record with these calls and events of the play, latest first
abbrev pub parts_of : ℕ → ℕ → List ℕ → List ℕ → List Event → Claim → Parts
parts_of board table deal h e claim = record { board = board; table = table; deal = deal; calls = reverse h; plays = reverse e; claim = claim }

-- the opening leader is a seat
pub opening_lt : (d : ℕ) (h : List ℕ) → Law.opening_after d h < 4
unfolding Law.opening_after clockwise
opening_lt d h = omega arith

-- eight fields with equal values
eight : {a b c d e f g h a' b' c' d' e' f' g' h' : ℕ} → a ≡ a' → b ≡ b' → c ≡ c' → d ≡ d' → e ≡ e' → f ≡ f' → g ≡ g' → h ≡ h'
    → field 3 a ∷ field 3 b ∷ field 2 c ∷ field 2 d ∷ field 4 e ∷ field 4 f ∷ field 6 g ∷ field 16 h ∷ []
    ≡ field 3 a' ∷ field 3 b' ∷ field 2 c' ∷ field 2 d' ∷ field 4 e' ∷ field 4 f' ∷ field 6 g' ∷ field 16 h' ∷ []
eight i j k l m n o p = rw (i, j, k, l, m, n, o, p)

-- ---- a side's tricks, from the pair of both
side_won : (seat : ℕ) (ws : List ℕ) → get_or (tricks_won 0 ws ∷ tricks_won 1 ws ∷ []) (side_of seat) 0 ≡ tricks_won (side_of seat) ws
side_won seat ws =
    by_test (eqb (side_of seat) 0)
    (λ (q : eqb (side_of seat) 0 ≡ true). rw (eqb-true (side_of seat) 0 q))
    (λ (q : eqb (side_of seat) 0 ≡ false). let e : side_of seat ≡ 1 = omega (arith, eqb-false (side_of seat) 0 q) in rw e)

-- ---- the claim: what each side gets, by the two numbers that the code has
module _ (declarer left : ℕ) where
  pub claim-none : claimed_by declarer 0 0 ≡ (λ (side : ℕ). claimed_tricks none left (eqb side (side_of declarer)))
  unfolding claimed_by claimed_tricks
  claim-none = fun_ext (λ side. nothing (eqb side (side_of declarer)))
    where
      nothing : (b : Bool) → ◌≡◌ {A = ℕ} (if b then 0 else (0 - 0)) 0
      nothing true = refl
      nothing false = refl

  pub claim-some : (tricks : ℕ) → claimed_by declarer tricks left ≡ (λ (side : ℕ). claimed_tricks (agreed tricks) left (eqb side (side_of declarer)))
  unfolding claimed_by
  claim-some tricks = refl

-- declarer's side gets what is claimed
own_claim : (declarer c l : ℕ) → claimed_by declarer c l (side_of declarer) ≡ c
unfolding claimed_by claimed_tricks
own_claim declarer c l = rw (eq-eqb (side_of declarer) (side_of declarer) refl)

module _ (board table : ℕ) (out : Bool) (k : Contract) (deal h : List ℕ) (e : List Event) (t : Table) (o : OfCards board out k deal h e t) (claim : Claim) where
  abbrev q : Parts
  q = parts_of board table deal h e claim

  abbrev trump : ℕ
  trump = Law.trump_after h

  abbrev opening : ℕ
  opening = Law.opening_after (dealer board) h

  abbrev g : List ℕ
  g = Events.cards_of e

  contract-is : as_law k ≡ contract_of q
  unfolding contract_of
  contract-is = o.contract ∙ ap (Law.contract (dealer board)) (sym (reverse-reverse h))

  winners-is : winners_of q ≡ winners trump opening g
  unfolding winners_of
  winners-is = rw (reverse-reverse h, reverse-reverse e)

  revokes-is : revokes_of q ≡ all_revokes trump opening deal e
  unfolding revokes_of
  revokes-is = rw (reverse-reverse h, reverse-reverse e)

  counted_is : counted_of q ≡ counted_revokes trump opening deal e
  unfolding counted_of
  counted_is = rw (reverse-reverse h, reverse-reverse e)

  failures-is : failures_of q ≡ failures trump opening deal e
  unfolding failures_of
  failures-is = rw (reverse-reverse h, reverse-reverse e)

  -- what the position stands for
  table_is : TableStands deal trump opening o.deal_of_lem.places t e
  table_is = rw o.position (table-stands deal trump opening o.deal_of_lem.places o.deal_of_lem.thirteen (opening_lt (dealer board) h) e o.played)

  play-of : t.play ≡ position_of deal trump opening g
  play-of = ap (λ (x : Table). x.play) o.position ∙ play-is deal trump opening e o.played

  tricks-is : tricks_in t.play ≡ tricks_of trump opening g
  tricks-is = ap tricks_in play-of ∙ tricks_law deal trump opening o.deal_of_lem.places g (cards-allowed deal trump opening e o.played)

  pub told_is : tricks_in t.play ≡ tricks_told q
  unfolding tricks_told won_tricks_of tricks_of
  told_is = tricks-is ∙ rw (reverse-reverse h, reverse-reverse e)

  listed-is : revokes_in t ≡ listed_for deal trump opening e
  listed-is = revokes_law deal trump opening o.deal_of_lem.places o.deal_of_lem.thirteen e table_is o.played

  pub failed_is : failure_bytes_in t.found ≡ failures_bytes q
  unfolding failures_bytes
  failed_is =
      failure_bytes_lem deal trump opening o.deal_of_lem.places o.deal_of_lem.thirteen e o.played table_is.found
      ∙ ap (λ (l : List Failure). padded 0 52 (failure_bytes l)) (sym failures-is)

  declarer-is : k.declarer ≡ (contract_of q).declarer
  declarer-is = ap (λ (x : Law.Contract). x.declarer) contract-is

  pub list-is : revokes_in t ≡ listed_in q
  unfolding listed_in revoke_bytes
  list-is = listed-is ∙ rw (
    revokes-is,
    counted_is,
    plain-bytes deal trump opening o.deal_of_lem.places o.deal_of_lem.thirteen e o.played,
    length-map (all_revokes trump opening deal e) revoke_byte,
  )

  -- ---- with the two numbers of the claim
  module _ (c l : ℕ) (sides : claimed_by k.declarer c l ≡ claimed_of q) (own : c ≡ claimed_of q (side_of k.declarer)) where
    won-is : won_in (tricks_in t.play) k.declarer c ≡ won_of q
    unfolding won_in won_of tricks_of
    won-is = rw (tricks-is, seats-told trump opening g, side_won k.declarer (winners trump opening g), own, sym declarer-is, winners-is)

    moved_is : transferred_in (revokes_in t) (tricks_in t.play) k.declarer c l ≡ transferred_of q
    unfolding transferred_of
    moved_is =
        rw (listed-is, tricks-is) (transferred_law deal trump opening o.deal_of_lem.places o.deal_of_lem.thirteen e o.played k.declarer c l
        ∙ rw (sides, sym winners-is, sym counted_is, declarer-is))

    after_is : after_in k (tricks_in t.play) (revokes_in t) c l ≡ after_of q
    unfolding after_in after_of
    after_is =
        rw (
          won-is,
          moved_is,
          listed-is,
          revokes_back deal trump opening o.deal_of_lem.places o.deal_of_lem.thirteen e o.played,
          sym counted_is,
          sym declarer-is,
        )

    stake_is : stake_in board k ≡ stake_of q
    unfolding stake_of
    stake_is =
        ap (λ (x : Law.Contract). record { level = x.level; strain = x.strain; doubling = x.doubling; vulnerable = vulnerable board x.declarer })
        contract-is

    score-is : Law.passed_out h ≡ false → ns_score k.declarer (declarer_score (stake_in board k) (after_in k (tricks_in t.play) (revokes_in t) c l)) ≡ score_of q
    unfolding score_of
    score-is e = rw (reverse-reverse h, e, stake_is, after_is, declarer-is)

    -- with a contract, the answer's fields are the Laws'
    pub fields-is : Law.passed_out h ≡ false → settled_fields board table k (tricks_in t.play) (revokes_in t) c l ≡ answer_fields q
    unfolding settled_fields answer_fields played_fields listed_in
    fields-is e =
        rw (reverse-reverse h, e)
        (ap (λ (fs : List Field). field 7 board ∷ field 9 table ∷ fs)
        (eight (ap (λ (x : Law.Contract). x.level) contract-is) (ap (λ (x : Law.Contract). x.strain) contract-is)
        (ap (λ (x : Law.Contract). x.doubling) contract-is) declarer-is
        won-is after_is (ap (λ (x : Listed). x.count) list-is) (ap twos_complement (score-is e))))

  -- passed out, the answer has board and table alone
  pub passed_is : Law.passed_out h ≡ true → head_fields board table ≡ answer_fields q
  unfolding answer_fields
  passed_is e = rw (reverse-reverse h, e)

-- ---- the claim and the padding, behind the cards
-- the Laws' section, by the number of cards played
section_is : (h g bytes : List ℕ) (at : ℕ) → claim_by (Law.passed_out h) (cards_played g) bytes at ≡ read_claim h g bytes at
unfolding claim_by no_claim_by marked_by point_at read_claim read_no_claim read_marked_claim at_claim_point all_played claimable tricks_left tricks_complete cards_in_trick
section_is h g bytes at = refl

module _ (board table : ℕ) (out : Bool) (k : Contract) (deal h : List ℕ) (e : List Event) (t : Table) (o : OfCards board out k deal h e t)
    (bytes : List ℕ) (at : ℕ) where
  abbrev cards : List ℕ
  cards = Events.cards_of e

  pub count-is : t.play.played ≡ cards_played cards
  count-is = (table_is board table out k deal h e t o none).play.played

  module _ (played : ℕ) (ep : played ≡ t.play.played) where
    abbrev reading : Reading Claim
    reading = claim_by out played bytes at

    reading-is : reading ≡ read_claim h cards bytes at
    reading-is = rw (o.passed, ep, count-is) (section_is h cards bytes at)

    abbrev rest : Reading Claim → Reading Parts
    rest r = onward r (λ claim next. onward (ending bytes next) (λ _ behind. found (parts_of board table deal h e claim) behind))

    abbrev answer : Placed Judged
    answer = judged_of (after_cards board table deal h e bytes at)

    whole : after_cards board table deal h e bytes at ≡ rest reading
    unfolding read_behind
    whole = ap rest (sym reading-is)

    pub claim-refused : {n place : ℕ} → refused_at n place ≡ claim_of reading → refused_at n place ≡ answer
    claim-refused q = sym (ap judged_of (whole ∙ ap rest (told-refused claim_told reading q)))

    module _ {c : Read (Option ℕ)} (ec : given c ≡ claim_of reading) where
      claimed : (claim : Claim) × (reading ≡ found claim c.next) × (c.value ≡ claim_told claim)
      claimed = told-found claim_told reading ec

      pub not-padded : overfull bytes c.next ≡ true → refused_at not_padding 0 ≡ answer
      unfolding ending refuse
      not-padded pad = sym (ap judged_of (whole ∙ ap rest claimed.1) ∙ rw pad)

      -- ---- accepted: the bits and the list are the Laws' on the parts
      module _ (left : ℕ) (el : left ≡ 13 - played / 4) where
        left_is : (claim : Claim) → left ≡ tricks_left (Events.cards_of (play_of (parts_of board table deal h e claim)))
        unfolding tricks_left tricks_complete
        left_is claim = rw (reverse-reverse e, sym count-is, sym ep) el

        sides_none : claimed_by k.declarer 0 0 ≡ claimed_of (parts_of board table deal h e none)
        unfolding claimed_of
        sides_none =
            claim-none k.declarer (tricks_left (Events.cards_of (reverse (reverse e))))
            ∙ ap {B = ℕ → ℕ} (λ (d side : ℕ). claimed_tricks none (tricks_left (Events.cards_of (reverse (reverse e)))) (eqb side (side_of d)))
            (declarer-is board table out k deal h e t o none)

        sides_some : (tricks : ℕ) → claimed_by k.declarer tricks left ≡ claimed_of (parts_of board table deal h e (agreed tricks))
        unfolding claimed_of
        sides_some tricks =
            rw (left_is (agreed tricks)) (claim-some k.declarer (tricks_left (Events.cards_of (reverse (reverse e)))) tricks
            ∙ ap {B = ℕ → ℕ} (λ (d side : ℕ). claimed_tricks (agreed tricks) (tricks_left (Events.cards_of (reverse (reverse e)))) (eqb side (side_of d)))
            (declarer-is board table out k deal h e t o (agreed tricks)))

        bits_is : (claim : Claim) (c l : ℕ) → claimed_by k.declarer c l ≡ claimed_of (parts_of board table deal h e claim)
            → (if out then head_fields board table else settled_fields board table k (tricks_in t.play) (revokes_in t) c l)
            ≡ answer_fields (parts_of board table deal h e claim)
        bits_is claim c l sides =
            by_test out
            (λ (q : out ≡ true). rw q (passed_is board table out k deal h e t o claim (sym o.passed ∙ q)))
            (λ (q : out ≡ false).
            rw q (fields-is board table out k deal h e t o claim c l sides
            (sym (own_claim k.declarer c l) ∙ ap (λ (f : ℕ → ℕ). f (side_of k.declarer)) sides) (sym o.passed ∙ q)))

        -- the answer's fields, by the claim
        fields_by : (claim : Claim)
            → board_fields board table out k (tricks_in t.play) (revokes_in t) (claim_told claim) left ≡ answer_fields (parts_of board table deal h e claim)
        unfolding board_fields
        fields_by none = bits_is none 0 0 sides_none
        fields_by (agreed tricks) = bits_is (agreed tricks) tricks left (sides_some tricks)

        -- the parts of the answer that do not hang on the claim
        told-alike : (claim : Claim) (bits : ℕ)
            → ◌≡◌ {A = Judged} (record { bits = bits; revokes = revokes_in t; failures = failure_bytes_in t.found; tricks = tricks_in t.play })
            (let q = parts_of board table deal h e claim in record { bits = bits; revokes = listed_in q; failures = failures_bytes q; tricks = tricks_told q })
        told-alike claim bits =
            rw (
              list-is board table out k deal h e t o claim,
              failed_is board table out k deal h e t o claim,
              told_is board table out k deal h e t o claim,
            )

        pub claim-accepted : {ts : Tricks} {rs : Listed} {fs : List ℕ} → ts ≡ tricks_in t.play → rs ≡ revokes_in t → fs ≡ failure_bytes_in t.found
            → {bits : ℕ} → overfull bytes c.next ≡ false → bits ≡ number (board_fields board table out k ts rs c.value left)
            → given (record { bits = bits; revokes = rs; failures = fs; tricks = ts }) ≡ answer
        unfolding ending refuse
        claim-accepted et er ef {bits} pad ek =
            let claim = claimed.0 in
            let fields = ap (λ (x : Option ℕ). board_fields board table out k (tricks_in t.play) (revokes_in t) x left) claimed.2 ∙ fields_by claim in
            let same : bits ≡ number (answer_fields (parts_of board table deal h e claim)) = rw (et, er) at ek ∙ ap number fields in
            rw (same, et, er, ef)
            (ap given (told-alike claim _) ∙ sym (ap judged_of (whole ∙ ap rest claimed.1) ∙ rw pad))
