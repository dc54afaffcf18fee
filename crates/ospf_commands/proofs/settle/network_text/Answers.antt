use Rattle.std.proofs.Common.{◌≡◌, ◌∙◌, ◌++◌, ap, append_assoc, codes, decimal, string_bytes, subst, sym, List, ℕ}
use Rattle.std.specs.Prelude.{IfOk}
use Rattle.ospf_base.specs.Text.{number_text}
use Rattle.ospf_commands.specs.Settling.{network_text}
use Rattle.ospf_commands.proofs.settle.network_text.Goals as goal

-- the pieces of a text, which are written one after another
four_pieces : (a b c d : List ℕ) → a ++ (b ++ (c ++ d)) ≡ a ++ b ++ c ++ d
four_pieces a b c d = sym (simp append_assoc)

pub returns : goal.returns
returns c =
    subst (λ (text : List ℕ). IfOk c.format.result (λ line. string_bytes line ≡ text))
    (four_pieces (codes ", at ") (number_text c.network_of.result) (codes "/") (decimal c.in-Some.from.length)
    ∙ ap (λ (n : ℕ). codes ", at " ++ number_text n ++ codes "/" ++ decimal c.in-Some.from.length) c.network_of.ensures
    ∙ sym (ap network_text c.in-Some.is))
    c.format.ensures.ok
