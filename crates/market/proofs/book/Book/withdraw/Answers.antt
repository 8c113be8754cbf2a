-- The number names the order, and the checks and the lots are those of that order.
use Rattle.std.proofs.Common.{◌≡◌, Some, sym, ap, ◌∙◌, subst, w64, to_z, of_z}
use Rattle.std.proofs.lemmas.Result.{err_from_is_err_and}
use Rattle.clearing.proofs.Passed.{passed}
use Rattle.market.proofs.Namings.{asked_of, withdraw_done, withdraw_named, withdraw_refused}
use Rattle.market.proofs.QueueTables.{any_order}
use Rattle.market.proofs.Refusals.{allowed_no, allowed_yes}
use Rattle.market.specs.BookState.{state_of}
use Rattle.market.specs.Calls.{allowed, first_of, withdraw_checks}
use Rattle.market.specs.Naming.{Named, order_at}
use Rattle.market.specs.Order.{lots_of}
use Rattle.market.specs.State.{order_numbered}
use Rattle.market.proofs.book.Book.withdraw.Goals as goal

pub returns-in_err-check_withdrawal-clause-answered : goal.returns-in_err-check_withdrawal-clause-answered
returns-in_err-check_withdrawal-clause-answered g c =
    let S = state_of c.args.self.now in
    let L = g.C.Centre.lines c.args.centre.now in
    let a = c.args.account in
    let k = c.args.number in
    let o = order_at S c.in_ok-place.place any_order in
    let named : order_numbered S k ≡ Some o = passed (λ z. order_numbered S z ≡ Some o) k c.ranges.number ((subst (Named S (to_z w64 (of_z w64 k))) c.in_ok-place.ensures.ok_part c.named.ensures).1 any_order) in
    let checked : c.check_withdrawal.result ≡ allowed (first_of (withdraw_checks S L a o)) =
    asked_of (λ z x. allowed (first_of (withdraw_checks S L z x))) _ a c.ranges.account c.order-order.result.now o (c.order-order.ensures any_order) c.check_withdrawal.ensures in
    let p = err_from_is_err_and c.from_residual-in_err-check_withdrawal.result c.from_residual-in_err-check_withdrawal.ensures.1 in
    rw (p.1, p.2) (withdraw_named S L a k c.requires (Some o) named ∙ withdraw_refused S L a o c.in_err-check_withdrawal.field-0.0 (sym (allowed_no _ _ (sym checked ∙ c.in_err-check_withdrawal.was))))

pub returns-clause-answered : goal.returns-clause-answered
returns-clause-answered g c =
    let S = state_of c.args.self.now in
    let L = g.C.Centre.lines c.args.centre.now in
    let a = c.args.account in
    let k = c.args.number in
    let o = order_at S c.in_ok-place.place any_order in
    let taken = c.take_off.ensures in
    let named : order_numbered S k ≡ Some o = passed (λ z. order_numbered S z ≡ Some o) k c.ranges.number ((subst (Named S (to_z w64 (of_z w64 k))) c.in_ok-place.ensures.ok_part c.named.ensures).1 any_order) in
    let checked : c.check_withdrawal.result ≡ allowed (first_of (withdraw_checks S L a o)) =
    asked_of (λ z x. allowed (first_of (withdraw_checks S L z x))) _ a c.ranges.account c.order-order.result.now o (c.order-order.ensures any_order) c.check_withdrawal.ensures in
    withdraw_named S L a k c.requires (Some o) named
    ∙ withdraw_done S L a o c.lots-lots.result (state_of c.take_off.new.self) (g.C.Centre.lines c.take_off.new.centre) c.take_off.result (taken.taken any_order) (c.lots-lots.ensures ∙ ap lots_of (c.order-order.ensures any_order)) (sym (allowed_yes _ _ (sym checked ∙ c.in_ok-check_withdrawal.was)))
