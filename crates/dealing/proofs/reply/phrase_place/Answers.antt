use Rattle.std.proofs.Common.{eqb, ◌∙◌, rules, tests}
use Rattle.std.proofs.lemmas.Iterator.{YieldsList-from_slice}
use Rattle.std.proofs.lemmas.Iterator.Adapters.{position_from-zero}
use Rattle.std.proofs.lemmas.Iterator.Search.{position_from_yields_List}
use Rattle.dealing.specs.Replies.{owners, reply_number}
use Rattle.dealing.proofs.reply.phrase_place.Goals as goal

pub returns : goal.returns
returns c =
    let owns = eqb (reply_number c.args.reply) in
    position_from_yields_List owns _ _ _ c.position.ensures.ran (YieldsList-from_slice owners cc) (λ x b q k. search (rules, tests)) ∙ position_from-zero owns owners
