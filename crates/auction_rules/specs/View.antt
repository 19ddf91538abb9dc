-- What one bidder sees of a log: its own lines and the closes, each close with its reply and the prices that it posts.
use Rattle.std.specs.Prelude.{ℕ, suc, List, [], ◌∷◌, ◌++◌, Option, Some, None, if◌then◌else◌}
use Rattle.auction_rules.specs.declared.Event.{Event}
use Rattle.auction_rules.specs.declared.Reply.{Reply}
use Rattle.auction_rules.specs.Terms.{Terms}
use Rattle.auction_rules.specs.Rounds.{prices_after, stage_after}
use Rattle.auction_rules.specs.Lines.{is_close, closes, held_in}
use Rattle.auction_rules.specs.Replies.{is_of, is_clock, is_ok_reply, reply_after, admitted}

pub data Seen : Type 0 where
  own : Event → Seen
  -- the reply to a close, and the prices of the next round where one is posted
  closing : Reply → Option (List ℕ) → Seen

-- the prices that an admitted close posts after these admitted lines
abbrev pub posted : Terms → List Event → Option (List ℕ)
posted terms lines =
    if is_clock (stage_after terms (held_in terms lines) (suc (closes lines))) then Some (prices_after terms (held_in terms lines) (suc (closes lines))) else None

-- what bidder j sees of one line after these admitted lines
abbrev pub seen : Terms → ℕ → List Event → Event → List Seen
seen terms j lines e =
    if is_close e then (closing (reply_after terms lines e) (if is_ok_reply (reply_after terms lines e) then posted terms lines else None) ∷ [])
    else (if is_of j e then own e ∷ [] else [])

-- the view of bidder j, the newest first
abbrev pub view : Terms → ℕ → List Event → List Seen
view terms j [] = []
view terms j (e ∷ log) = seen terms j (admitted terms log) e ++ view terms j log

-- the replies to the lines of bidder j, the newest first
abbrev pub own_replies : Terms → ℕ → List Event → List Reply
own_replies terms j [] = []
own_replies terms j (e ∷ log) = (if is_of j e then reply_after terms (admitted terms log) e ∷ [] else []) ++ own_replies terms j log
