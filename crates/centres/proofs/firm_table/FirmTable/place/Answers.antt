-- There is room for one member more, so that it comes to its place.
use Rattle.std.proofs.Common.{◌≡◌, true, sym, rules}
use Rattle.centres.specs.Firms.{Placed, can_place, member_account, member_before}
use Rattle.clearing.proofs.Joins.{joins}
use Rattle.centres.proofs.Members.{can_place_parts}
use Rattle.clearing.proofs.Passed.{passed}
use Rattle.centres.proofs.firm_table.FirmTable.place.Goals as goal

pub invariant_of-self : goal.invariant_of-self
invariant_of-self c =
    let t = c.args.self.now in
    record { ordered = c.add.ensures.ordered t.ordered (can_place_parts t.members _ c.args.firm (sym c.if-not-can_place.ensures)).1 }

pub returns : goal.returns
returns c =
    let t = c.args.self.now in
    let free = can_place_parts t.members _ c.args.firm (sym c.if-not-can_place.ensures) in
    let j = joins member_before member_account t.members c.add.new.self _ c.add.result free c.add.ensures.added in
    let can = passed (λ a. can_place t.members a c.args.firm ≡ true) c.args.account c.ranges.account (sym c.if-not-can_place.ensures) in
    let placed = passed (λ a. Placed t.members a c.args.firm c.add.new.self) c.args.account c.ranges.account (j.items, j.shows (λ m. m.firm)) in
    search rules
