use Rattle.std.proofs.Common.{◌≡◌, ◌+◌, ◌-◌, [], take, length, replicate, set, Ok, Err, refl, sym, ap, ◌∙◌, append-nil, arith}
use Rattle.std.proofs.lemmas.List.{get_or-replicate, length-set, nil_from_length, take_all}
use Rattle.std.proofs.lemmas.Bool.{eqb-false, eqb-true}
use Rattle.page.specs.PhraseText.{all_lines, lines}
use Rattle.page.specs.Phrases.{filled, phrases}
use Rattle.page.specs.declared.table.text.Flaw.TheVariants.{Surplus}
use Rattle.page.specs.declared.table.text.TextFault.TheVariants.{Unsound}
use Rattle.page.proofs.Filled.{filled-length}
use Rattle.page.proofs.TextLines.{flawed_line, none_left, prepended, prepended_err, prepended_ok, row_more, some_left, sound_phrase, wide_more}
use Rattle.page.proofs.table.text.rows_of.Goals as goal

pub loop-place-init : goal.loop-place-init
unfolding all_lines
loop-place-init c = (refl, λ i h. ap length (get_or-replicate 28 i (replicate 40 32) [] h), refl)

pub returns-in-Err : goal.returns-in-Err
returns-in-Err c =
    let place = c.loop-place.place in
    let so_far = phrases (take place c.loop-place.row-items) in
    c.loop-place.invariant.0
    ∙ ap (prepended so_far) (flawed_line (28 - place) (place + 1) c.loop-place.rest.now (omega arith) _ c.in-Err.ensures)
    ∙ prepended_err so_far _

pub loop-place-preserved : goal.loop-place-preserved
loop-place-preserved c =
    let rows = c.loop-place.row-items in
    let place = c.loop-place.place in
    let phrase = c.in-Ok.phrase.now in
    let row : c.field.result ≡ filled phrase = c.field.ensures in
    let sound = c.in-Ok.ensures.1 in
    let wide = ap length row ∙ filled-length phrase (sound_phrase phrase sound).1 in (
      row_more _ rows place phrase c.loop-place.rest.now c.in-Ok.more.now (omega arith) c.loop-place.invariant.2 c.in-Ok.ensures.0 sound c.loop-place.invariant.0
          ∙ ap (λ r. prepended (phrases (take (place + 1) (set rows place r))) (lines (28 - (place + 1)) (place + 1 + 1) c.in-Ok.more.now)) (sym row),
      wide_more rows place c.field.result (omega arith) wide c.loop-place.invariant.1,
      length-set rows place c.field.result ∙ c.loop-place.invariant.2,
    )

pub returns-then-is_empty : goal.returns-then-is_empty
returns-then-is_empty c =
    let rows = c.loop-place.row-items in
    let empty = nil_from_length _ (eqb-true _ 0 (sym c.if-is_empty.ensures)) in
    let so_far = phrases (take c.loop-place.place rows) in (
      c.loop-place.invariant.0
          ∙ ap (prepended so_far) (none_left (28 - c.loop-place.place) _ c.loop-place.rest.now (omega arith) empty)
          ∙ prepended_ok so_far []
          ∙ ap (λ ps. Ok ps) (append-nil so_far ∙ ap phrases (take_all c.loop-place.place rows (omega (arith, c.loop-place.invariant.2)))),
      c.loop-place.invariant.1,
    )

pub returns-else-is_empty : goal.returns-else-is_empty
returns-else-is_empty c =
    let place = c.loop-place.place in
    let full : place ≡ 28 = omega arith in
    let so_far = phrases (take place c.loop-place.row-items) in
    c.loop-place.invariant.0
    ∙ ap (prepended so_far) (some_left (28 - place) (place + 1) c.loop-place.rest.now (omega arith) (omega (arith, eqb-false _ 0 (sym c.if-is_empty.ensures))))
    ∙ prepended_err so_far _
    ∙ ap (λ k. Err (Unsound (k + 1) Surplus)) full
