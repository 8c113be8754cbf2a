use Rattle.std.proofs.Common.{◌≡◌, ◌++◌, take, drop, sym, ap, subst, ◌∙◌, append_assoc, take-append-drop}
use Rattle.std.proofs.lemmas.List.{take_rest}
use Rattle.std.specs.Io.KnownBytes.{WriteAppends}
use Rattle.std.proofs.KnownBytes.{Appends-trans, Appends-kept}
use Rattle.line_service.proofs.output.write_whole.Goals.{in-Ok, in-Err+else-ne}
use Rattle.line_service.proofs.output.write_whole.Goals as goal

pub loop-preserved : goal.loop-preserved
loop-preserved g c =
    let front = c.loop.invariant.0 in
    let wrote = c.write.ensures.bytes in
    let before = g.W.Write.contents c.loop.output in
    let after = g.W.Write.contents c.write.new.self in
    elim c.match-write.branch [
      | in-Ok w ↦
          let more = take w.in-Ok.count c.loop.rest.now in
          let left : c.match-write.rest.now ≡ drop w.in-Ok.count c.loop.rest.now = ap (λ r. r.now) w.rest-is ∙ take_rest c.loop.rest.now w.in-Ok.count in
          let split : front ++ c.loop.rest.now ≡ (front ++ more) ++ c.match-write.rest.now =
          ap (λ l. front ++ l) (sym (take-append-drop w.in-Ok.count c.loop.rest.now) ∙ ap (λ l. more ++ l) (sym left)) ∙ sym (append_assoc front more c.match-write.rest.now) in
          (front ++ more, c.loop.invariant.1 ∙ split, Appends-trans _ _ _ front more c.loop.invariant.2 (subst (λ r. WriteAppends before after r c.loop.rest.now) w.in-Ok.is wrote))
      | in-Err+else-ne w ↦ (
        front,
        c.loop.invariant.1 ∙ ap (λ r. front ++ r.now) (sym w.rest-is),
        Appends-kept _ _ _ front c.loop.invariant.2 (subst (λ r. WriteAppends before after r c.loop.rest.now) w.in-Err.is wrote),
      )
    ]
