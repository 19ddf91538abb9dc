-- The book that a log leads to.
use Rattle.std.proofs.Common.{◌≡◌, ℕ, Bool, true, false, IsTrue, Option, Some, None, List, [], ◌∷◌, ◌++◌, length, reverse, refl, sym, subst, arith}
use Rattle.std.specs.Prelude.{if◌then◌else◌, ◌<◌, ◌≤◌, ◌^◌, pos, ◌≤ℤ◌, Ok, Err}
use Rattle.std.specs.List.{AllByRecursion}
use Rattle.std.proofs.lemmas.List.{reverse-append}
use Rattle.auction_model.specs.Book.{Book, bids_of, market_of, net_of}
use Rattle.auction_model.specs.Lawful.{IsMarket}
use Rattle.book_grammar.specs.BookLines.{IsBookWithinLimits}
use Rattle.bid_book.proofs.Within.{kept}
use Rattle.bid_book.specs.Kept.{IsBidBook}
use Rattle.auction_rules.specs.BookOfLog.{book_of_log, is_complete}
use Rattle.auction_rules.specs.Lawful.{HasCategories}
use Rattle.auction_rules.specs.Terms.{Terms}
use Rattle.auction_rules.specs.declared.Event.{Event}
use Rattle.award_file.specs.Award.{IsAward}
use Rattle.log_file.specs.LogReading.{AreLog}
use Rattle.log_replay.specs.ReplyLines.{book_or_open, end_of, first_refusal, stopped_or}
use Rattle.log_replay.specs.declared.results.ReplayStop.{ReplayStop}
use Rattle.log_replay.specs.declared.results.ReplayStop.TheVariants.{Open}

-- a list that leads to a book leads to that of its log, and is complete
pub record IsLogged (terms : Terms) (log : List Event) (book : Book) : Type 0 where
  -- the log is complete
  pub complete : IsTrue (is_complete terms log)
  -- the book is that of the log
  pub is : book ≡ book_of_log terms log

-- the same of the end of a list
pub logged : (terms : Terms) (log : List Event) (book : Book) → end_of terms log ≡ Ok book → IsLogged terms log book
logged terms log book is = by (first_refusal terms log) is
  where
    open_or : (complete : Bool) → is_complete terms log ≡ complete → (if complete then Ok (book_of_log terms log) else Err Open) ≡ Ok book
        → IsLogged terms log book
    open_or true whole same = record { complete = whole; is = cc }
    open_or false whole same = absurd cc

    by : (refusal : Option ReplayStop) → stopped_or refusal (book_or_open terms log) ≡ Ok book → IsLogged terms log book
    by (Some stop) same = absurd cc
    by None same = open_or (is_complete terms log) refl same

-- what holds of all of two lists holds of all of both
all-both : {A : Type 0} (P : A → Type 0) (xs ys : List A) → AllByRecursion P xs → AllByRecursion P ys → AllByRecursion P (xs ++ ys)
all-both P [] ys a b = b
all-both P (x ∷ xs) ys a b = (a.0, all-both P xs ys a.1 b)

-- and of the list from its end
pub all-reverse : {A : Type 0} (P : A → Type 0) (xs : List A) → AllByRecursion P xs → AllByRecursion P (reverse xs)
all-reverse P [] all = tt
all-reverse {A} P (x ∷ xs) all = subst (λ (ys : List A). AllByRecursion P ys) (sym (reverse-append (x ∷ []) xs))
    (all-both P (reverse xs) (x ∷ []) (all-reverse P xs all.1) (all.0, tt))

-- a log whose lines keep the award's categories leads to a book that keeps the rules of a book
module _ (within : (terms : Terms) (log : List Event) → IsAward terms → AllByRecursion (HasCategories terms) log → IsBookWithinLimits (book_of_log terms log))
    (packages : (terms : Terms) (rows : List (List (List ℕ))) (events : List Event) → AreLog terms rows events → AllByRecursion (HasCategories terms) events)
  where
    -- the book that a log leads to keeps the rules of a book
    pub rules-log : (terms : Terms) (rows : List (List (List ℕ))) (events : List Event) (book : Book) → IsAward terms → AreLog terms rows events
        → end_of terms (reverse events) ≡ Ok book → IsBidBook book
    rules-log terms rows events book award log is =
        subst IsBidBook (sym (logged terms (reverse events) book is).is)
        (kept (book_of_log terms (reverse events)) (within terms (reverse events) award
        (all-reverse (HasCategories terms) events (packages terms rows events log))))

    -- and its market is lawful
    module _ (market : (book : Book) → length book.bidders < 2 ^ 16 → ((j i : ℕ) → i ≤ length (bids_of book j) → pos 0 ≤ℤ net_of book j i)
        → IsMarket (market_of book)) where
      -- the market of that book is lawful
      pub lawful-log : (terms : Terms) (rows : List (List (List ℕ))) (events : List Event) (book : Book) → IsAward terms → AreLog terms rows events
          → end_of terms (reverse events) ≡ Ok book
          → IsMarket (market_of book)
      lawful-log terms rows events book award log is =
          let rules = rules-log terms rows events book award log is in
          market book (omega (arith, rules.bidders)) rules.not_negative
