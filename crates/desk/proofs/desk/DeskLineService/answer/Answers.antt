-- The line has room in the desk's own bytes, so that it is answered; above the last number nothing changes.
use Rattle.std.proofs.Common.{◌≡◌, ◌≤◌, ◌∷◌, [], drop, length, inl, inr, ltb, refl, ap, ◌∙◌, arith}
use Rattle.std.proofs.lemmas.Bool.{cases_Bool, ltb-false, ltb-true}
use Rattle.desk.proofs.Serving.{desk_after, shown_after, stayed, still_ended}
use Rattle.page.specs.Command.{read_command}
use Rattle.page.specs.Phrases.{phrases}
use Rattle.desk.proofs.desk.DeskLineService.answer.Goals as goal

pub invariant_of-self : goal.invariant_of-self
invariant_of-self g c =
    let d = c.args.self.now in
    let long : 86 ≤ length d.printed = omega arith in
    let size : length c.answer.new.out ≡ 87 = omega arith in
    let ended : drop 86 c.answer.new.out ≡ 10 ∷ [] =
    elim (cases_Bool (ltb 9999999 c.args.number)) [
      | inl above ↦ ap (drop 86) (c.answer.ensures.over long (ltb-true _ _ above)).1 ∙ d.ended
      | inr low ↦ (
          let a = c.answer.ensures.answered long (ltb-false _ _ low) in
          still_ended g.R.QueueRule.rule g.C.Centre.own g.C.Centre.lines g.C.Centre.same_settings g.met.C.Centre.same_own g.met.C.Centre.same_self (phrases d.table.rows) d.market c.answer.new.market a.0 c.args.number c.args.line.now d.printed c.answer.new.out a.1 a.2 d.ended size)
    ] in
    record { ended = ended }

pub returns-clause-shown : goal.returns-clause-shown
returns-clause-shown g c low =
    let d = c.args.self.now in
    let a = c.answer.ensures.answered (omega arith) low in
    shown_after g.R.QueueRule.rule g.C.Centre.own g.C.Centre.lines g.C.Centre.same_settings g.met.C.Centre.same_own g.met.C.Centre.same_self (phrases d.table.rows) d.market c.answer.new.market a.0 c.args.number c.args.line.now d.printed c.answer.new.out a.1 a.2 d.ended

pub returns-clause-next : goal.returns-clause-next
returns-clause-next g c low =
    let d = c.args.self.now in
    let a = c.answer.ensures.answered (omega arith) low in
    desk_after g.R.QueueRule.rule g.C.Centre.own g.C.Centre.lines g.C.Centre.same_settings g.met.C.Centre.same_own g.met.C.Centre.same_self (phrases d.table.rows) d.market c.answer.new.market a.0 c.args.line.now a.1

pub returns-clause-kept : goal.returns-clause-kept
returns-clause-kept g c =
    let d = c.args.self.now in
    let long : 86 ≤ length d.printed = omega arith in
    elim (cases_Bool (ltb 9999999 c.args.number)) [
      | inl above ↦ (
          let same = (c.answer.ensures.over long (ltb-true _ _ above)).2 in
          rw same (refl, g.met.C.Centre.same_self d.market.centre, refl))
      | inr low ↦ (
          let a = c.answer.ensures.answered long (ltb-false _ _ low) in
          let s = stayed g.R.QueueRule.rule g.C.Centre.own g.C.Centre.lines g.C.Centre.same_settings g.met.C.Centre.same_own g.met.C.Centre.same_self (phrases d.table.rows) d.market c.answer.new.market a.0 (read_command c.args.line.now) a.1 in
          (s.0, s.1, refl))
    ]
