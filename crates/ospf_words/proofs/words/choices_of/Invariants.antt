use Rattle.std.proofs.Common.{map, take, Bor, List, ℕ}
use Rattle.ospf_words.specs.Words.{AreChoices}
use Rattle.ospf_words.proofs.words.choices_of.Given as goal

-- the choices so far
abbrev pub invariant-loop-word : goal.invariant-loop-word
invariant-loop-word l = AreChoices (map (λ (w : Bor (List ℕ)). w.now) (take l.word-index l.words)) l.choices.items
