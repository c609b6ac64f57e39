-- The calls of a text and Play's tag in the code are those of the Laws: a law for each way out. Assumes nothing.
use Rattle.std.specs.Prelude.{Option, Some, None}
use Rattle.std.proofs.lemmas.Option.{none-some, same_Some}
use Prim.Native.Nat.{ℕ, ◌+◌, ◌/◌, ◌≤◌, ◌<◌, min}
use native.Mathlib.Omega.{arith}
use mathlib.Core.Path.{◌≡◌, refl, sym, ap, ◌∙◌}
use mathlib.Core.Bool.{Bool, true, false, not}
use mathlib.Core.List.{List, [], ◌++◌}
use borrow.Author.Tests.{lt-ltb}
use lib.Dec.{eqb}
use lib.ListN.{length, take, replicate}
use lib.Seq.{take-take, take_at}
use Rattle.laws.specs.Refusals.{refused_at, given, too_many_calls, outside_subset}
use Rattle.laws.proofs.Answered.{is-refused}
use Rattle.laws.specs.Cards.{clockwise}
use Rattle.laws.specs.Auction.{passed_out, trump_after, opening_after}
use Rattle.laws.specs.Reading.{Reading.found, refuse}
use Rattle.laws.specs.Contents.{take_calls}
use Rattle.laws.specs.PbnText.{Listed, absent, columns, Listable}
use Rattle.laws.specs.Pbn.{play_line, play_stands}
use Rattle.laws.proofs.Readings.{test_is, test_stops}
use Rattle.laws.proofs.ContentsStop.{calls_stay}
use Rattle.auction.specs.declared.Auction.{Auction}
use Rattle.auction.specs.declared.Contract.{Contract}
use Rattle.auction.specs.Position.{position_of}
use Rattle.auction.specs.Asked.{passed_out_of, contract_of}
use Rattle.auction.proofs.History.{passed_out_is}
use Rattle.auction.proofs.Laws.{trump_is, opening_is}
use Rattle.contents.specs.Checked.{calls_by}
use Rattle.contents.proofs.Composing.{passed_on}
use Rattle.pbn_text.specs.declared.numbers.Numbers.{Numbers}
use Rattle.pbn_text.specs.Kept.{kept_of}
use Rattle.pbn_text.specs.TextOf.{seat_of}
use Rattle.pbn_record.specs.Tags.{trump_by, take_auction}

-- ---- Play's tag
module _ (a : Auction) (d : ℕ) (h : List ℕ) (ea : a ≡ position_of d h) (out : Bool) (eo : out ≡ passed_out_of a) where
  passed : out ≡ passed_out h
  passed = eo ∙ ap passed_out_of ea ∙ passed_out_is d h

  pub no_play : (listed : Listed) (seat : Option ℕ) → seat ≡ seat_of listed → seat ≡ None → out ≡ play_stands d h listed
  unfolding play_stands
  no_play absent seat e q = passed
  no_play (columns s cards) seat e q = absurd (none-some s (sym q ∙ e))

  pub play_out : (listed : Listed) (seat : Option ℕ) (n : ℕ) → seat ≡ seat_of listed → seat ≡ Some n → out ≡ true → false ≡ play_stands d h listed
  unfolding play_stands
  play_out absent seat n e q o = absurd (none-some n (sym e ∙ q))
  play_out (columns s cards) seat n e q o = rw (sym passed ∙ o)

  pub play_led : (listed : Listed) (seat : Option ℕ) (n : ℕ) → seat ≡ seat_of listed → seat ≡ Some n → out ≡ false
      → (k : Contract) → k ≡ contract_of a → (leader : ℕ) → leader ≡ clockwise k.declarer 1 → eqb n leader ≡ play_stands d h listed
  unfolding play_stands
  play_led absent seat n e q o k ek leader el = absurd (none-some n (sym e ∙ q))
  play_led (columns s cards) seat n e q o k ek leader el =
      let led : leader ≡ opening_after d h = el ∙ ap (λ (x : Contract). clockwise x.declarer 1) (ek ∙ ap contract_of ea) ∙ opening_is d h in
      let at : n ≡ s = same_Some n s (sym q ∙ e) in
      rw (sym passed ∙ o, at, led)

-- ---- the calls that are kept
module _ (l : List ℕ) (calls : Numbers) (ec : calls ≡ kept_of l) where
  pub count-is : calls.count ≡ min (length l) 512
  unfolding kept_of
  count-is = ap (λ (k : Numbers). k.count) ec

  module _ (few : calls.count ≤ 511) where
    count-all : calls.count ≡ length l
    count-all = omega (arith, count-is)

    pub calls_are : take calls.count calls.numbers ≡ l
    unfolding kept_of
    calls_are =
        ap (λ (k : Numbers). take calls.count k.numbers) ec
        ∙ take-take calls.count 511 (l ++ replicate 511 0) few
        ∙ take_at l (replicate 511 0) calls.count (sym count-all)

module _ (d : ℕ) (l : List ℕ) (listed : Listed) (calls : Numbers) (ec : calls ≡ kept_of l) where
  pub too_many : 511 < calls.count → refused_at too_many_calls 511 ≡ trump_by (take_auction d l listed [] 0)
  unfolding take_auction take_calls refuse
  too_many h =
      let many : 511 < length l = omega (arith, count-is l calls ec) in
      rw (lt-ltb 511 (length l) many) refl

  module _ (few : calls.count ≤ 511) (part : List ℕ) (ep : part ≡ take calls.count calls.numbers) where
    all : calls_by d (take_calls d part [] 0) ≡ calls_by d (take_calls d l [] 0)
    all = ap (λ (m : List ℕ). calls_by d (take_calls d m [] 0)) (ep ∙ calls_are l calls ec few)

    pub calls-refused : {n place : ℕ} → refused_at n place ≡ calls_by d (take_calls d part [] 0)
        → refused_at n place ≡ trump_by (take_auction d l listed [] 0)
    unfolding take_auction
    calls-refused e = rw (is-refused (position_of d) (take_calls d l [] 0) (e ∙ all)) refl

    module _ {a : Auction} (ea : given a ≡ calls_by d (take_calls d part [] 0)) where
      called : (h : List ℕ) × (take_calls d l [] 0 ≡ found h 0) × (a ≡ position_of d h)
      called = passed_on (position_of d) (take_calls d l [] 0) (λ h m q. calls_stay d l 0 q) (ea ∙ all)

      module _ (seat : Option ℕ) (es : seat ≡ seat_of listed) (ok : Listable listed) (b : Bool)
          (f : (c : ℕ) (h : List ℕ) (p : Listed) → a ≡ position_of c h → seat ≡ seat_of p → Listable p → b ≡ play_stands c h p) where
        eb : b ≡ play_stands d called.0 listed
        eb = f d called.0 listed called.2 es ok

        pub play-refused : b ≡ false → (line : ℕ) → line ≡ 4 + (calls.count + 3) / 4
            → refused_at outside_subset line ≡ trump_by (take_auction d l listed [] 0)
        unfolding take_auction play_line
        play-refused none line el =
            let at : line ≡ 4 + (length l + 3) / 4 = el ∙ ap (λ (n : ℕ). 4 + (n + 3) / 4) (count-all l calls ec few) in
            let test : not (play_stands d called.0 listed) ≡ true = ap not (sym eb ∙ none) in
            rw (called.1, test_stops outside_subset (4 + (length l + 3) / 4) [] 0 test, at) refl

        pub play-taken : b ≡ true → (x : Contract) → x ≡ contract_of a → given x.strain ≡ trump_by (take_auction d l listed [] 0)
        unfolding take_auction
        play-taken t x ex =
            let test : not (play_stands d called.0 listed) ≡ false = ap not (sym eb ∙ t) in
            let trump : x.strain ≡ trump_after called.0
            = ap (λ (y : Contract). y.strain) (ex ∙ ap contract_of called.2) ∙ trump_is d called.0 in
            rw (called.1, test_is outside_subset (play_line l) [] 0 test, trump) refl
