use Rattle.std.proofs.KnownBytes.{Appends-trans}
use Rattle.scenario.proofs.Written.{appends_then}
use Rattle.scenario.proofs.rehearse.show_answer.Goals as goal

pub returns : goal.returns
returns g c =
    let parted = Appends-trans _ _ _ _ _ c.in_ok-show_words.ensures c.in_ok-write_all.ensures.bytes in
    let answered = Appends-trans _ _ _ _ _ parted c.in_ok-write_answer.ensures in
    appends_then _ _ _ _ _ _ answered c.write_all-2.ensures.bytes
