use Rattle.std.proofs.Common.{◌≡◌, map, string_bytes, take}
use Rattle.ospf_words.proofs.WordLemmas.{texts_of}
use Rattle.ospf_words.proofs.words.owned.Given as goal

-- the texts so far are those of the words so far
abbrev pub invariant-loop-word : goal.invariant-loop-word
invariant-loop-word l = map string_bytes l.texts.items ≡ texts_of (take l.word-index l.words)
