-- The law over runs goes on over one call more. Assumes nothing.
use Rattle.std.proofs.Common.{[], ◌∷◌, ◌++◌, subst}
use Rattle.std.proofs.lemmas.List.{append_assoc}
use Rattle.clearing.specs.Centre.{Lines, Own}
use Rattle.dealing.specs.Replies.{Reply}
use Rattle.dealing.specs.declared.call.Call.{Call}
use Rattle.market.specs.Law.{CallKeepsTheLaw, Keeps, LedTo, events_of}
use Rattle.market.specs.Rule.{Rule}
use Rattle.market.specs.Run.{new_day, run}
use Rattle.market.specs.State.{State}
use Rattle.scenario.specs.Again.{StillLawful}

module _ (R : Rule) (C : Own) (S : State) (L : Lines) (c : Call) (r : Reply) where
  pub first : (S' : State) (L' : Lines) → CallKeepsTheLaw R C S L c r S' L' → StillLawful R C S L S' L'
  first S' L' law L₀ calls led =
      let k = law L₀ calls led in
      (c ∷ [], k.0, k.2)

  pub further : (S₀ : State) (M : Lines) (S' : State) (L' : Lines) → StillLawful R C S₀ M S L → CallKeepsTheLaw R C S L c r S' L' → StillLawful R C S₀ M S' L'
  further S₀ M S' L' so_far law L₀ calls led =
      let (more, there, kept) = so_far L₀ calls led in
      let k = law L₀ (calls ++ more) there in
      let joined = append_assoc calls more (c ∷ []) in (
        more ++ c ∷ [],
        subst (λ cs. LedTo R C L₀ cs S' L') joined k.0,
        subst (λ cs. Keeps R (events_of (run R C (new_day L₀) cs).history) S' L') joined k.2,
      )
