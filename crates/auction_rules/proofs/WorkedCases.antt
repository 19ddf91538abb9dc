-- Worked cases, each by computation.
use Rattle.std.proofs.Common.{◌≡◌, ℕ, true, false, List, [], ◌∷◌, None, Some, replicate, refl}
use Rattle.auction_rules.specs.declared.Event.{Event}
use Rattle.auction_rules.specs.declared.Event.TheVariants.{Bid, Draft, Drop, Submit, Close}
use Rattle.auction_rules.specs.declared.Reply.TheVariants as reply
use Rattle.auction_rules.specs.Terms.{Terms}
use Rattle.auction_rules.specs.Step.{ticks_of, stepped}
use Rattle.auction_model.specs.Book.{BookBid}
use Rattle.auction_rules.specs.Replies.{reply_to, admitted, price_top, drafts_full, close_reply, log_stage}
use Rattle.auction_rules.specs.BookOfLog.{bids_in_book, book_of_log, is_complete}
use Rattle.auction_rules.specs.Rounds.{OwnRound, raised_prices}
use Rattle.auction_rules.specs.Caps.{list_fault}

-- two bidders, three lots of one category, and a step of a fifth
abbrev sample : Terms
sample = record {
  version = 1;
  supply = 3 ∷ [];
  points = 1 ∷ [];
  reserves = 10 ∷ [];
  tick = 1;
  thresholds = (1, 200) ∷ [];
  caps = [];
  bidders = record { name = []; eligibility = 3; holding = 0 ∷ [] } ∷ record { name = []; eligibility = 2; holding = 0 ∷ [] } ∷ [];
}

raises_by_the_tick : stepped 1 ((1, 50) ∷ []) 10 3 ≡ 11
unfolding ticks_of
raises_by_the_tick = refl

raises_by_the_greatest_threshold : stepped 7 ((1, 50) ∷ (5, 200) ∷ []) 1000 5 ≡ 1203
unfolding ticks_of
raises_by_the_greatest_threshold = refl

keeps_a_price_at_demand_equal_to_supply : raised_prices 1 ((1, 200) ∷ []) (10 ∷ 20 ∷ []) (3 ∷ 4 ∷ []) (3 ∷ 3 ∷ []) ≡ 10 ∷ 24 ∷ []
unfolding ticks_of
keeps_a_price_at_demand_equal_to_supply = refl

refuses_a_price_above_the_top : price_top 1 (68719476736 ∷ 68719476737 ∷ []) ≡ Some (reply.PriceTop 2 68719476737)
refuses_a_price_above_the_top = refl

-- the clock stops after two rounds, the second at 12
abbrev two_rounds : List Event
two_rounds = Close ∷ Bid 2 (2 ∷ []) ∷ Bid 1 (1 ∷ []) ∷ Close ∷ Bid 2 (2 ∷ []) ∷ Bid 1 (3 ∷ []) ∷ []

abbrev with_drafts : List Event
with_drafts = Draft 1 (3 ∷ []) 45 ∷ Draft 1 (1 ∷ []) 20 ∷ two_rounds

refuses_an_amount_above_its_cap : reply_to sample with_drafts (Submit 1) ≡ reply.RelativeCap 2 44
unfolding reply_to ticks_of
refuses_an_amount_above_its_cap = refl

abbrev complete : List Event
complete = Close ∷ Submit 1 ∷ Draft 1 (3 ∷ []) 44 ∷ Submit 1 ∷ with_drafts

takes_the_greatest_amounts_into_the_book : bids_in_book sample complete 1 ≡ record { lots = 1 ∷ []; amount = 20 } ∷ record { lots = 3 ∷ []; amount = 44 } ∷ []
unfolding ticks_of
takes_the_greatest_amounts_into_the_book = refl

takes_the_clock_bids_into_the_book : bids_in_book sample complete 2 ≡ record { lots = 2 ∷ []; amount = 24 } ∷ []
unfolding ticks_of
takes_the_clock_bids_into_the_book = refl

keeps_the_clock_bid_of_a_dropped_draft
    : bids_in_book sample (Close ∷ Submit 1 ∷ Drop 1 (3 ∷ []) ∷ Submit 1 ∷ with_drafts) 1 ≡ record { lots = 1 ∷ []; amount = 20 } ∷ record
    { lots = 3 ∷ []; amount = 30 } ∷ []
unfolding ticks_of
keeps_the_clock_bid_of_a_dropped_draft = refl

refuses_a_stranger : reply_to sample [] (Bid 0 (1 ∷ [])) ≡ reply.Unknown
unfolding reply_to
refuses_a_stranger = refl

refuses_more_than_the_supply : reply_to sample [] (Bid 1 (4 ∷ [])) ≡ reply.Supply 1
unfolding reply_to
refuses_more_than_the_supply = refl

refuses_more_than_the_eligibility : reply_to sample [] (Bid 2 (3 ∷ [])) ≡ reply.Points 2
unfolding reply_to
refuses_more_than_the_eligibility = refl

refuses_a_draft_in_the_clock : reply_to sample [] (Draft 1 (1 ∷ []) 20) ≡ reply.Stage
unfolding reply_to
refuses_a_draft_in_the_clock = refl

refuses_an_amount_below_its_clock_bid : reply_to sample two_rounds (Draft 1 (1 ∷ []) 11) ≡ reply.BelowClock 12
unfolding reply_to ticks_of
refuses_an_amount_below_its_clock_bid = refl

refuses_to_drop_what_is_no_draft : reply_to sample two_rounds (Drop 1 (2 ∷ [])) ≡ reply.NoDraft
unfolding reply_to ticks_of
refuses_to_drop_what_is_no_draft = refl

refuses_an_amount_above_the_top : reply_to sample two_rounds (Draft 1 (1 ∷ []) 4398046511105) ≡ reply.AmountTop 4398046511104
unfolding reply_to ticks_of
refuses_an_amount_above_the_top = refl

-- a spectrum cap of four, each lot weighing two
abbrev capped : Terms
capped = record sample { caps = record { weights = 2 ∷ []; limit = 4 } ∷ [] }

refuses_more_than_a_spectrum_cap : reply_to capped [] (Bid 1 (3 ∷ [])) ≡ reply.SpectrumCap 1 4
unfolding reply_to
refuses_more_than_a_spectrum_cap = refl

names_the_supply_before_a_spectrum_cap : reply_to capped [] (Bid 1 (4 ∷ [])) ≡ reply.Supply 1
unfolding reply_to
names_the_supply_before_a_spectrum_cap = refl

refuses_the_empty_draft : reply_to sample two_rounds (Draft 1 (0 ∷ []) 5) ≡ reply.Empty
unfolding reply_to ticks_of
refuses_the_empty_draft = refl

refuses_an_amount_below_its_reserve : reply_to sample two_rounds (Draft 2 (1 ∷ []) 9) ≡ reply.BelowReserve 10
unfolding reply_to ticks_of
refuses_an_amount_below_its_reserve = refl

-- both ask for two lots in round 1
abbrev asked_less : List Event
asked_less = Close ∷ Bid 2 (2 ∷ []) ∷ Bid 1 (2 ∷ []) ∷ []

refuses_more_points_than_were_held_before : reply_to sample asked_less (Bid 1 (3 ∷ [])) ≡ reply.Points 2
unfolding reply_to ticks_of
refuses_more_points_than_were_held_before = refl

drafts_up_to_the_eligibility_of_round_1 : reply_to sample (Close ∷ Bid 2 (2 ∷ []) ∷ Bid 1 (1 ∷ []) ∷ asked_less) (Draft 1 (3 ∷ []) 50) ≡ reply.Ok
unfolding reply_to ticks_of
drafts_up_to_the_eligibility_of_round_1 = refl

takes_a_later_submission : bids_in_book sample (Close ∷ Submit 1 ∷ Draft 1 (1 ∷ []) 15 ∷ Submit 1 ∷ Draft 1 (1 ∷ []) 20 ∷ two_rounds) 1
    ≡ record { lots = 1 ∷ []; amount = 15 } ∷ record { lots = 3 ∷ []; amount = 30 } ∷ []
unfolding ticks_of
takes_a_later_submission = refl

leaves_out_what_was_not_submitted : bids_in_book sample (Close ∷ Draft 1 (1 ∷ []) 20 ∷ two_rounds) 1
    ≡ record { lots = 1 ∷ []; amount = 12 } ∷ record { lots = 3 ∷ []; amount = 30 } ∷ []
unfolding ticks_of
leaves_out_what_was_not_submitted = refl

refuses_a_close_after_the_last : reply_to sample complete Close ≡ reply.Stage
unfolding reply_to ticks_of
refuses_a_close_after_the_last = refl

leaves_the_empty_package_out_of_the_book : bids_in_book sample (Close ∷ Close ∷ []) 1 ≡ []
leaves_the_empty_package_out_of_the_book = refl

keeps_a_bidder_without_bids_in_the_book : book_of_log sample (Close ∷ Close ∷ [])
    ≡ record { supply = 3 ∷ []; reserves = 10 ∷ []; bidders = record { name = []; bids = [] } ∷ record { name = []; bids = [] } ∷ [] }
unfolding book_of_log
keeps_a_bidder_without_bids_in_the_book = refl

calls_a_log_complete_after_the_last_close : is_complete sample complete ≡ true
unfolding log_stage ticks_of
calls_a_log_complete_after_the_last_close = refl

calls_no_log_complete_before_it : is_complete sample with_drafts ≡ false
unfolding log_stage ticks_of
calls_no_log_complete_before_it = refl

abbrev a_draft : BookBid
a_draft = record { lots = 1 ∷ []; amount = 20 }

refuses_a_new_package_beside_300_drafts : drafts_full (replicate 300 a_draft) (2 ∷ []) ≡ Some (reply.Full 300)
refuses_a_new_package_beside_300_drafts = refl

takes_a_new_package_beside_299_drafts : drafts_full (replicate 299 a_draft) (2 ∷ []) ≡ None
takes_a_new_package_beside_299_drafts = refl

replaces_an_amount_beside_300_drafts : drafts_full (replicate 300 a_draft) (1 ∷ []) ≡ None
replaces_an_amount_beside_300_drafts = refl

-- prices rise by the tick, and each bidder always asks for two of three lots
abbrev slow : Terms
slow = record {
  version = 1;
  supply = 3 ∷ [];
  points = 1 ∷ [];
  reserves = 10 ∷ [];
  tick = 1;
  thresholds = [];
  caps = [];
  bidders = record { name = []; eligibility = 3; holding = 0 ∷ [] } ∷ record { name = []; eligibility = 2; holding = 0 ∷ [] } ∷ [];
}

abbrev always_two : ℕ → ℕ → List ℕ
always_two r j = 2 ∷ []

refuses_to_close_round_300_with_excess_demand : close_reply slow always_two 299 ≡ reply.Full 300
unfolding ticks_of
refuses_to_close_round_300_with_excess_demand = refl

closes_round_299_with_excess_demand : close_reply slow always_two 298 ≡ reply.Ok
unfolding ticks_of
closes_round_299_with_excess_demand = refl

-- two closed rounds of a bidder, in categories of which it asks for one and then for the other, and its list
abbrev moved : List OwnRound
moved = record { prices = 10 ∷ 10 ∷ []; eligibility = 3; held = 2 ∷ 0 ∷ [] } ∷ record { prices = 20 ∷ 10 ∷ []; eligibility = 2; held = 0 ∷ 1 ∷ [] } ∷ []

abbrev moved_list : List BookBid
moved_list = record { lots = 0 ∷ 1 ∷ []; amount = 12 } ∷ record { lots = 0 ∷ 3 ∷ []; amount = 33 } ∷ record { lots = 2 ∷ 0 ∷ []; amount = 42 } ∷ []

admits_a_list_without_a_final_cap : list_fault false (1 ∷ 1 ∷ []) moved moved_list ≡ None
admits_a_list_without_a_final_cap = refl

refuses_an_entry_above_the_final_cap : list_fault true (1 ∷ 1 ∷ []) moved moved_list ≡ Some (2, 32)
refuses_an_entry_above_the_final_cap = refl

-- an auction of two categories in which east moves from one to the other, in either version
abbrev moving : ℕ → Terms
moving version = record {
  version = version;
  supply = 2 ∷ 3 ∷ [];
  points = 1 ∷ 1 ∷ [];
  reserves = 10 ∷ 10 ∷ [];
  tick = 1;
  thresholds = (1, 1000) ∷ [];
  caps = [];
  bidders = record { name = []; eligibility = 3; holding = 0 ∷ 0 ∷ [] } ∷ record { name = []; eligibility = 1; holding = 0 ∷ 0 ∷ [] } ∷ [];
}

abbrev moved_drafts : List Event
moved_drafts =
    Draft 1 (0 ∷ 3 ∷ []) 33 ∷ Draft 1 (2 ∷ 0 ∷ []) 42 ∷ Draft 1 (0 ∷ 1 ∷ []) 12
    ∷ Close ∷ Bid 2 (1 ∷ 0 ∷ []) ∷ Bid 1 (0 ∷ 1 ∷ []) ∷ Close ∷ Bid 2 (1 ∷ 0 ∷ []) ∷ Bid 1 (2 ∷ 0 ∷ []) ∷ []

submits_without_a_final_cap : reply_to (moving 1) moved_drafts (Submit 1) ≡ reply.Ok
unfolding reply_to ticks_of
submits_without_a_final_cap = refl

refuses_to_submit_above_the_final_cap : reply_to (moving 2) moved_drafts (Submit 1) ≡ reply.RelativeCap 2 32
unfolding reply_to ticks_of
refuses_to_submit_above_the_final_cap = refl

drafts_alike_in_both_versions : admitted (moving 2) moved_drafts ≡ moved_drafts
unfolding ticks_of
drafts_alike_in_both_versions = refl
