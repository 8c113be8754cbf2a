-- Answers as a scenario shows them. Assumes nothing.
use Rattle.std.specs.Prelude.{ℕ, List, codes, Ok, Err}
use Rattle.scenario.specs.Replies.{denial_text, outcome_text, refusal_text}
use Rattle.scenario.specs.declared.answer.Answer.{Answer}
use Rattle.scenario.specs.declared.answer.Answer.TheVariants.{Reply, Set}

abbrev pub answer_text : Answer → List ℕ
answer_text (Reply (Ok outcome)) = outcome_text outcome
answer_text (Reply (Err refusal)) = refusal_text refusal
answer_text (Set (Ok done)) = codes "done"
answer_text (Set (Err denial)) = denial_text denial
