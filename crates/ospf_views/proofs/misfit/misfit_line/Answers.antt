use Rattle.std.proofs.Common.{◌≡◌, ◌∙◌, ap, sym, ℕ, List, codes, string_bytes, subst}
use Rattle.std.specs.Prelude.{IfOk}
use Rattle.ospf_base.specs.Text.{number_text}
use Rattle.ospf_views.proofs.Pieces.{five_pieces}
use Rattle.ospf_views.specs.Misfits.{misfit_line, misfit_words}
use Rattle.ospf_views.proofs.misfit.misfit_line.Goals as goal

pub returns-in-Some : goal.returns-in-Some
returns-in-Some c =
    subst (λ (text : List ℕ). IfOk c.format.result (λ line. string_bytes line ≡ text))
    (five_pieces (codes "  ") (number_text c.args.source.0) (codes " ") (misfit_words c.in-Some.misfit) (codes "\n")
    ∙ sym (ap (misfit_line c.args.source) c.in-Some.is))
    c.format.ensures.ok
