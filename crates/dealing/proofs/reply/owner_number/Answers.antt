use Rattle.std.proofs.Common.{◌≡◌, ℕ, ltb, List, length, Some, None, Option, Bor, cond, get_or, sym, ap, ◌∙◌, is_some, unwrap_or, option_copied, arith}
use Rattle.std.proofs.lemmas.Bool.{cond-false, cond-true}
use Rattle.dealing.specs.Replies.{owners}
use Rattle.dealing.proofs.reply.owner_number.Goals as goal

looked_up : (ns : List ℕ) (i : ℕ) (r : Option (Bor ℕ)) → is_some r ≡ ltb i (length ns) → unwrap_or (option_copied r) 0 ≡ get_or ns i 0 → option_copied r ≡ cond (ltb i (length ns)) (Some (get_or ns i 0)) None
looked_up ns i None there item = sym (cond-false _ _ _ (sym there))
looked_up ns i (Some x) there item = ap (λ n. Some n) item ∙ sym (cond-true _ _ _ (sym there))

pub returns : goal.returns
returns c = c.copied.ensures ∙ looked_up owners c.args.at c.get.result c.get.ensures.lookup.0 (c.get.ensures.lookup.4 (omega arith) 0)
