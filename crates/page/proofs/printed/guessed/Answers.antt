use Rattle.page.proofs.Lines.{guess_is}
use Rattle.page.proofs.printed.guessed.Goals as goal

pub returns : goal.returns
returns c =
    guess_is c.args.bytes.now c.args.place _ _ _ _ c.numeral-number.ensures.value c.figures_at.ensures c.denial_at.ensures c.reply_at-reply.ensures
