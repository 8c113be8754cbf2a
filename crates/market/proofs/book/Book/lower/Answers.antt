-- The orders that are left in the queue are of its side and fit, as they did.
use Rattle.std.proofs.Common.{◌≡◌, true, sym, subst}
use Rattle.std.specs.List.{list_all}
use Rattle.clearing.specs.declared.side.Side.TheVariants.{Buy, Sell}
use Rattle.market.proofs.Fitting.{fits_lowered}
use Rattle.market.proofs.Passing.{all_lowered_at}
use Rattle.market.specs.Fits.{order_fits}
use Rattle.market.specs.Order.{is_on}
use Rattle.market.proofs.book.Book.lower.Goals as goal

pub invariant_of-self : goal.invariant_of-self
invariant_of-self g c =
    let b = c.args.self.now in
    let same = sym c.lower.ensures.lowered in
    record {
      bought = subst (λ q. list_all (is_on Buy) q ≡ true) same (all_lowered_at (is_on Buy) (λ o n on. on) c.args.place.at c.args.lots b.buys.orders b.bought);
      sold = b.sold;
      given = b.given;
      buys_fit = subst (λ q. list_all order_fits q ≡ true) same (all_lowered_at order_fits fits_lowered c.args.place.at c.args.lots b.buys.orders b.buys_fit);
      sells_fit = b.sells_fit;
    }

pub invariant_of-self-in-Sell : goal.invariant_of-self-in-Sell
invariant_of-self-in-Sell g c =
    let b = c.args.self.now in
    let same = sym c.lower-in-Sell.ensures.lowered in
    record {
      bought = b.bought;
      sold = subst (λ q. list_all (is_on Sell) q ≡ true) same (all_lowered_at (is_on Sell) (λ o n on. on) c.args.place.at c.args.lots b.sells.orders b.sold);
      given = b.given;
      buys_fit = b.buys_fit;
      sells_fit = subst (λ q. list_all order_fits q ≡ true) same (all_lowered_at order_fits fits_lowered c.args.place.at c.args.lots b.sells.orders b.sells_fit);
    }
