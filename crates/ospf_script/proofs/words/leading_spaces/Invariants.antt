use Rattle.std.proofs.Common.{◌≡◌, ◌<◌, ℕ, true, get_or}
use Rattle.ospf_script.specs.Words.{is_space}
use Rattle.ospf_script.proofs.words.leading_spaces.Given as goal

abbrev pub invariant-loop-place : goal.invariant-loop-place
invariant-loop-place l = (k : ℕ) → k < l.place → is_space (get_or l.text k 0) ≡ true
