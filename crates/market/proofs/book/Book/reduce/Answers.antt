-- The number names the order, and the checks and the lots are those of that order.
use Rattle.std.proofs.Common.{◌≡◌, nat_abs, Some, sym, ap, ◌∙◌, subst, w64, to_z, of_z}
use Rattle.std.proofs.lemmas.Int.{to_z-of_z}
use Rattle.std.proofs.lemmas.Result.{err_from_is_err_and}
use Rattle.clearing.proofs.Passed.{passed}
use Rattle.market.proofs.Namings.{asked_of, reduce_done, reduce_named, reduce_refused}
use Rattle.market.proofs.QueueTables.{any_order}
use Rattle.market.proofs.Refusals.{allowed_no, allowed_yes}
use Rattle.market.specs.BookState.{state_of}
use Rattle.market.specs.Calls.{allowed, first_of, reduce_checks}
use Rattle.market.specs.Naming.{Named, order_at}
use Rattle.market.specs.State.{order_numbered}
use Rattle.market.proofs.book.Book.reduce.Goals as goal

pub returns-in_err-check_reduction-clause-answered : goal.returns-in_err-check_reduction-clause-answered
returns-in_err-check_reduction-clause-answered g c =
    let S = state_of c.args.self.now in
    let L = g.C.Centre.lines c.args.centre.now in
    let a = c.args.account in
    let k = c.args.number in
    let n = c.args.lots in
    let o = order_at S c.in_ok-place.place any_order in
    let named : order_numbered S k ≡ Some o = passed (λ z. order_numbered S z ≡ Some o) k c.ranges.number ((subst (Named S (to_z w64 (of_z w64 k))) c.in_ok-place.ensures.ok_part c.named.ensures).1 any_order) in
    let checked : c.check_reduction.result ≡ allowed (first_of (reduce_checks S L a n o)) =
    passed (λ z. c.check_reduction.result ≡ allowed (first_of (reduce_checks S L a z o))) n c.ranges.lots
    (asked_of (λ z x. allowed (first_of (reduce_checks S L z (to_z w64 (of_z w64 n)) x))) _ a c.ranges.account c.order-order.result.now o (c.order-order.ensures any_order) c.check_reduction.ensures) in
    let p = err_from_is_err_and c.from_residual-in_err-check_reduction.result c.from_residual-in_err-check_reduction.ensures.1 in
    rw (p.1, p.2) (reduce_named S L a k c.requires (Some o) named n ∙ reduce_refused S L a o n c.in_err-check_reduction.field-0.0 (sym (allowed_no _ _ (sym checked ∙ c.in_err-check_reduction.was))))

pub returns-clause-answered : goal.returns-clause-answered
returns-clause-answered g c =
    let S = state_of c.args.self.now in
    let L = g.C.Centre.lines c.args.centre.now in
    let a = c.args.account in
    let k = c.args.number in
    let n = c.args.lots in
    let o = order_at S c.in_ok-place.place any_order in
    let taken = c.take_off.ensures in
    let named : order_numbered S k ≡ Some o = passed (λ z. order_numbered S z ≡ Some o) k c.ranges.number ((subst (Named S (to_z w64 (of_z w64 k))) c.in_ok-place.ensures.ok_part c.named.ensures).1 any_order) in
    let checked : c.check_reduction.result ≡ allowed (first_of (reduce_checks S L a n o)) =
    passed (λ z. c.check_reduction.result ≡ allowed (first_of (reduce_checks S L a z o))) n c.ranges.lots
    (asked_of (λ z x. allowed (first_of (reduce_checks S L z (to_z w64 (of_z w64 n)) x))) _ a c.ranges.account c.order-order.result.now o (c.order-order.ensures any_order) c.check_reduction.ensures) in
    reduce_named S L a k c.requires (Some o) named n
    ∙ reduce_done S L a o c.unsigned_abs.result (state_of c.take_off.new.self) (g.C.Centre.lines c.take_off.new.centre) c.take_off.result (taken.taken any_order) n (c.unsigned_abs.ensures.value ∙ ap nat_abs (to_z-of_z w64 n c.ranges.lots)) (sym (allowed_yes _ _ (sym checked ∙ c.in_ok-check_reduction.was)))
