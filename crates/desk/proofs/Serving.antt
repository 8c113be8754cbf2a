-- What the desk shows and leaves, where a line was answered. Assumes nothing.
use Rattle.std.proofs.Common.{◌≡◌, ℕ, ◌++◌, ◌∷◌, [], List, Ok, Err, Result, length, drop, refl, sym, ap, ap₂, ◌∙◌, arith, length-append}
use Rattle.std.specs.Prelude.{unwrap_or}
use Rattle.std.proofs.lemmas.List.{drop_at}
use Rattle.clearing.specs.Centre.{Lines, Own}
use Rattle.dealing.specs.Replies.{Reply}
use Rattle.dealing.specs.declared.call.Call.{Call}
use Rattle.dealing.specs.declared.refusal.Refusal.{Refusal}
use Rattle.desk.specs.Desk.{Called, Dealt, Shown, page_line}
use Rattle.desk.specs.Served.{after, dealt, desk_of, left_by, shown}
use Rattle.market.specs.BookState.{state_of}
use Rattle.market.specs.Calls.{Done, done}
use Rattle.market.specs.Rule.{Rule}
use Rattle.market.specs.declared.market.Market.{Market}
use Rattle.market.specs.declared.standing.ByRule.{ByRule}
use Rattle.page.specs.Command.{read_command}
use Rattle.page.specs.Printed.{printed}

module _ {R C : Type 0} (rule : R → Rule) (own : C → Own) (lines : C → Lines) (same : C → C → Type 0) (same_own : (s t : C) → same s t → own s ≡ own t) (same_self : (s : C) → same s s) (ps : List (List ℕ)) (m n : Market R C) (reply : Reply) where
  -- the line came to what the desk says of it
  came_to : (r : Result Call Refusal) → Dealt (Called rule own lines same) m r n reply → dealt (desk_of rule own lines ps m) r ≡ done (state_of n.book) (lines n.centre) reply
  came_to (Ok call) d = d.answered
  came_to (Err e) d = ap₂ (λ (k : Market R C) a. done (state_of k.book) (lines k.centre) a) (sym d.1) (sym d.0)

  -- no setting moved, and not the queue rule
  pub stayed : (r : Result Call Refusal) → Dealt (Called rule own lines same) m r n reply → (n.book.rule ≡ m.book.rule) × same m.centre n.centre
  stayed (Ok call) d = (d.queue_rule, d.settings)
  stayed (Err e) d = rw d.1 (refl, same_self m.centre)

  -- the desk after it
  pub desk_after : (line : List ℕ) → Dealt (Called rule own lines same) m (read_command line) n reply → desk_of rule own lines ps n ≡ after (desk_of rule own lines ps m) line
  desk_after line d =
      let stay = stayed (read_command line) d in
      let by = ap (λ (b : ByRule R). rule b.rule) stay.0 in
      let owned = sym (same_own m.centre n.centre stay.1) in
      ap₂ (λ (k : Rule) (o : Own). record { rule = k; own = o; state = state_of n.book; lines = lines n.centre; phrases = ps }) by owned
      ∙ ap (left_by (desk_of rule own lines ps m)) (sym (came_to (read_command line) d))

  module _ (number : ℕ) (line out after : List ℕ) (d : Dealt (Called rule own lines same) m (read_command line) n reply) (s : Shown ps number reply out after) (ended : drop 86 out ≡ 10 ∷ []) where
    written : after ≡ s.line ++ 10 ∷ []
    written = s.bytes ∙ ap (λ bs. s.line ++ bs) ended

    -- what is shown of it
    pub shown_after : after ≡ shown (desk_of rule own lines ps m) number line
    shown_after =
        let reply_is = ap (λ (e : Done). e.reply) (came_to (read_command line) d) in
        let line_is = ap (λ a. printed ps (page_line number a)) reply_is ∙ s.printed in
        written ∙ sym (ap (λ o. unwrap_or o [] ++ 10 ∷ []) line_is)

    -- and the byte 10 stands behind it
    pub still_ended : length after ≡ 87 → drop 86 after ≡ 10 ∷ []
    still_ended long =
        let size = length-append s.line (10 ∷ []) in
        let whole = ap length written in
        ap (drop 86) written ∙ drop_at s.line (10 ∷ []) 86 (omega arith)
