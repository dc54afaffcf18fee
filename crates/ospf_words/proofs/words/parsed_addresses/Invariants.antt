use Rattle.std.proofs.Common.{map, take, Bor, List, ℕ}
use Rattle.ospf_words.specs.Words.{Spell}
use Rattle.ospf_words.proofs.words.parsed_addresses.Given as goal

abbrev pub invariant-loop-word : goal.invariant-loop-word
invariant-loop-word l = Spell (map (λ (w : Bor (List ℕ)). w.now) (take l.word-index l.words)) l.addresses.items
