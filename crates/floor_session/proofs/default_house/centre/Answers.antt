-- Each account finds a place.
use Rattle.std.proofs.Common.{pos, refl}
use Rattle.centres.specs.Rules.{limit_max}
use Rattle.floor_session.proofs.Accounts.{comes, none_yet}
use Rattle.floor_session.proofs.default_house.centre.Goals as goal

pub unwrap-requires-2 : goal.unwrap-requires-2
unwrap-requires-2 c =
    let none = none_yet _ c.in_ok-centre.ensures.1 in
    let one = comes limit_max _ _ (pos 101) 50 _ _ 0 _ none refl c.add.ensures in
    (comes limit_max _ _ (pos 102) 50 _ _ 1 _ one.has refl c.add-2.ensures).ok

pub unwrap-requires-3 : goal.unwrap-requires-3
unwrap-requires-3 c =
    let none = none_yet _ c.in_ok-centre.ensures.1 in
    let one = comes limit_max _ _ (pos 101) 50 _ _ 0 _ none refl c.add.ensures in
    let two = comes limit_max _ _ (pos 102) 50 _ _ 1 _ one.has refl c.add-2.ensures in
    (comes limit_max _ _ (pos 103) 50 _ _ 2 _ two.has refl c.add-3.ensures).ok

pub returns-clause-lines : goal.returns-clause-lines
returns-clause-lines c =
    let none = none_yet _ c.in_ok-centre.ensures.1 in
    let one = comes limit_max _ _ (pos 101) 50 _ _ 0 _ none refl c.add.ensures in
    let two = comes limit_max _ _ (pos 102) 50 _ _ 1 _ one.has refl c.add-2.ensures in
    (comes limit_max _ _ (pos 103) 50 _ _ 2 _ two.has refl c.add-3.ensures).has.lines

pub returns-clause-limits : goal.returns-clause-limits
returns-clause-limits c =
    let none = none_yet _ c.in_ok-centre.ensures.1 in
    let one = comes limit_max _ _ (pos 101) 50 _ _ 0 _ none refl c.add.ensures in
    let two = comes limit_max _ _ (pos 102) 50 _ _ 1 _ one.has refl c.add-2.ensures in
    (comes limit_max _ _ (pos 103) 50 _ _ 2 _ two.has refl c.add-3.ensures).has.allowances
