-- How a command line is answered. Assumes nothing.
use Rattle.std.specs.Prelude.{◌≡◌, ℕ, ◌≤◌, ◌++◌, true, List, drop, is_some, Some, Ok, Err, Result, OnErr}
use Rattle.clearing.specs.Centre.{Lines, Own}
use Rattle.dealing.specs.Replies.{Reply, place, reply_number}
use Rattle.dealing.specs.declared.call.Call.{Call}
use Rattle.dealing.specs.declared.refusal.Refusal.{Refusal}
use Rattle.market.specs.BookState.{state_of}
use Rattle.market.specs.Calls.{answer, done}
use Rattle.market.specs.Fits.{IsMarketReply}
use Rattle.market.specs.Law.{CallKeepsTheLaw}
use Rattle.market.specs.Rule.{Rule}
use Rattle.market.specs.declared.market.Market.{Market}
use Rattle.page.specs.declared.printed.PageLine.{PageLine}
use Rattle.page.specs.Printed.{denial_of, depth_of, figures_of, printed}

-- what a market says of each of its calls, the rule and the centre being seen through these: the reply and the state are those
-- of the rules, the law goes on, the queue rule and no setting moves, a refusal leaves everything, and the reply is in range
pub record Called {R C : Type 0} (rule : R → Rule) (own : C → Own) (lines : C → Lines) (same : C → C → Type 0) (m : Market R C) (call : Call) (n : Market R C) (reply : Reply) : Type 0 where
  pub answered : answer (rule m.book.rule.rule) (own m.centre) (state_of m.book) (lines m.centre) call ≡ done (state_of n.book) (lines n.centre) reply
  pub law : CallKeepsTheLaw (rule m.book.rule.rule) (own m.centre) (state_of m.book) (lines m.centre) call reply (state_of n.book) (lines n.centre)
  pub queue_rule : n.book.rule ≡ m.book.rule
  pub settings : same m.centre n.centre
  pub refused : OnErr reply (n ≡ m)
  pub bounded : IsMarketReply reply

-- what a line that was read comes to: a call is made, and a line that cannot be read leaves the market as it was
abbrev pub Dealt : {M : Type 0} → (M → Call → M → Reply → Type 0) → M → Result Call Refusal → M → Reply → Type 0
Dealt Called m (Ok call) n reply = Called m call n reply
Dealt Called m (Err e) n reply = (reply ≡ Err e) × (n ≡ m)

-- what stands on the page under a line's number
abbrev pub page_line : ℕ → Reply → PageLine
page_line number reply = record { number = number; reply = reply }

-- a reply that the page has room for: it owns a phrase, and its numbers fit their columns
pub record FitsPage (reply : Reply) : Type 0 where
  pub phrased : is_some (place (reply_number reply)) ≡ true
  pub depth : depth_of (denial_of reply) ≤ 99
  pub number : (figures_of reply).number ≤ 9999999
  pub traded : (figures_of reply).traded ≤ 99999999
  pub resting : (figures_of reply).resting ≤ 99999999
  pub off : (figures_of reply).taken_off ≤ 99999999

-- what holds of a line that cannot be read: the page has room for its refusal
abbrev pub RefusalFits : Result Call Refusal → Type 0
RefusalFits (Ok call) = Unit {0}
RefusalFits (Err e) = FitsPage (Err e)

-- the reply's line, printed with these phrases, stands in the caller's first bytes, and the others stay
pub record Shown (ps : List (List ℕ)) (number : ℕ) (reply : Reply) (out after : List ℕ) : Type 0 where
  pub line : List ℕ
  pub printed : printed ps (page_line number reply) ≡ Some line
  pub bytes : after ≡ line ++ drop 86 out
