use Rattle.std.proofs.Common.{◌≡◌, ◌++◌, ◌∷◌, length}
use Rattle.std.specs.List.{flat_map}
use Rattle.ospf_script.specs.Commands.{spaced}
use Rattle.ospf_script.specs.Words.{line_words}
use Rattle.ospf_script.proofs.say.bytes_in.Given as goal

-- the words so far are there
abbrev pub invariant-loop-word : goal.invariant-loop-word
invariant-loop-word l = l.bytes.items ++ flat_map (λ b. 32 ∷ b) (line_words l.rest) ≡ spaced (line_words l.fn.text)

abbrev pub decreases-loop-word : goal.decreases-loop-word
decreases-loop-word l = length l.rest
