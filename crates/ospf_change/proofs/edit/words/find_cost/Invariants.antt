use Rattle.std.proofs.Common.{◌∷◌, [], ℕ, List, take}
use Rattle.std.specs.List.{Contains}
use Rattle.ospf_graph.specs.EdgeLists.Listed.{advertisement_of}
use Rattle.ospf_change.specs.Edit.Words.{IsCostWord}
use Rattle.ospf_change.specs.declared.edit.change.Change.{Change}
use Rattle.ospf_change.proofs.edit.words.find_cost.Given as goal

-- the word is of no LSA before
abbrev pub invariant-loop-lsa : goal.invariant-loop-lsa
invariant-loop-lsa l = (lsa : List ℕ) → Contains (take l.lsa-index l.lsa-items) lsa → (c : Change) → IsCostWord (advertisement_of lsa ∷ []) l.word c → ⊥
