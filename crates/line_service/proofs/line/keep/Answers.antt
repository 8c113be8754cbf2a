use Rattle.std.proofs.Common.{◌≡◌, ◌++◌, ◌+◌, ◌-◌, length, take, arith, ap, ◌∙◌}
use Rattle.std.proofs.lemmas.List.{length-take-le}
use Rattle.std.proofs.lemmas.Slice.{take-put_mid}
use Rattle.std.proofs.lemmas.Grind.{common_steps}
use borrow.Rule.Slice.PartMut.{put_mid, same_len_mid}
use Rattle.line_service.proofs.PieceLemmas.{HoldsMore-kept}
use Rattle.line_service.proofs.line.keep.Goals as goal

pub returns-clause-held : goal.returns-clause-held
returns-clause-held c =
    let n = c.args.len in
    let count = c.min-count.result in
    let old = c.args.kept.now in
    let part = c.copy_from_slice.new.self in
    let new = put_mid n (n + count - n) old part in
    let copied : part ≡ take count c.args.bytes.now = grind (arith, common_steps) in
    let long : length part ≡ count = ap length copied ∙ length-take-le count c.args.bytes.now (omega arith) in
    let same : length new ≡ length old = same_len_mid n (n + count - n) old part c.copy_from_slice.ensures.len in
    let wrote : take (n + count) new ≡ take n old ++ take count c.args.bytes.now =
    take-put_mid n (n + count - n) old part (n + count) (omega arith) c.requires ∙ ap (λ l. take n old ++ l) copied in
    HoldsMore-kept old new c.args.bytes.now n count c.requires c.min-count.ensures same wrote
