use Rattle.std.proofs.Common.{sym}
use Rattle.std.proofs.lemmas.Result.{err_from_is_err_and}
use Rattle.desk.proofs.Showing.{market_reply_fits, refusal_fits}
use Rattle.desk.proofs.answer.deal.Goals as goal

pub returns-in_err-read-clause-fits : goal.returns-in_err-read-clause-fits
returns-in_err-read-clause-fits g c =
    let p = err_from_is_err_and c.from_residual.result c.from_residual.ensures.1 in
    rw (p.1, p.2) (refusal_fits c.args.line.now c.in_err-read.field-0.0 (sym c.in_err-read.ensures.value))

pub returns-clause-fits : goal.returns-clause-fits
returns-clause-fits g c = market_reply_fits c.call.result c.call.ensures.bounded
