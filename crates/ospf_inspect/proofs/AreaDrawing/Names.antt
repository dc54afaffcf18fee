-- Names tell apart what they stand for.
use Rattle.std.proofs.Common.{◌≡◌, ℕ, List, [], ◌∷◌, ◌++◌, drop, sym, ap, arith}
use Rattle.std.proofs.NetLemmas.Numbers.{NoDigit}
use Rattle.ospf_base.specs.Text.{number_text}
use Rattle.ospf_base.proofs.Dotted.{no_number, same_number}
use Rattle.ospf_inspect.specs.AreaDrawing.GraphLaws.{Drawn, router, network, node_name, DrawnFits}

-- no number begins with a letter n
no_letter : (m : ℕ) (xs ys : List ℕ) → NoDigit 10 xs → number_text m ++ xs ≡ 110 ∷ ys → ⊥
no_letter m xs ys stop e = no_number m xs (110 ∷ ys) stop (omega arith) (λ h. omega arith) e

pub names_tell_apart : (a b : Drawn) → DrawnFits a → DrawnFits b → node_name a ≡ node_name b → a ≡ b
names_tell_apart (router a) (router b) fa fb e = ap router (same_number a b (34 ∷ []) (34 ∷ []) fa fb (omega arith) (omega arith) (ap (drop 1) e)).0
names_tell_apart (network a) (network b) fa fb e = ap network (same_number a b (34 ∷ []) (34 ∷ []) fa fb (omega arith) (omega arith) (ap (drop 9) e)).0
names_tell_apart (router a) (network b) fa fb e = absurd (no_letter a (34 ∷ []) _ (omega arith) (ap (drop 1) e))
names_tell_apart (network a) (router b) fa fb e = absurd (no_letter b (34 ∷ []) _ (omega arith) (sym (ap (drop 1) e)))
