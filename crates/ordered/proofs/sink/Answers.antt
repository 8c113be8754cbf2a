-- A rotation by one moves the item at the place to the end.
use Rattle.std.proofs.Common.{◌-◌, length, take, refl, ap, ◌∙◌}
use Rattle.ordered.specs.Row.{in_order}
use Rattle.ordered.proofs.Moves.{place_to_end, in_order_to_end}
use Rattle.ordered.proofs.sink.Goals as goal

pub returns : goal.returns
returns g c =
    let row = c.args.row.now in
    let at = c.args.at in
    let after = place_to_end row _ c.rotate_left.new.self at refl c.rotate_left.ensures.after in
    record { after = after; ordered = λ before o. ap (λ l. in_order before (take (length row - 1) l)) after ∙ in_order_to_end before row at o }
