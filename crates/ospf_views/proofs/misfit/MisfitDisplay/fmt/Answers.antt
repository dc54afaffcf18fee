use Rattle.std.proofs.Common.{◌∙◌, ap, sym, ℕ, List, codes, decimal, subst}
use Rattle.std.specs.Fmt.{HasWritten}
use Rattle.ospf_views.proofs.Pieces.{five_pieces}
use Rattle.ospf_views.specs.Misfits.{misfit_words}
use Rattle.ospf_views.proofs.misfit.MisfitDisplay.fmt.Goals as goal

pub returns-in-SmallerMtu-clause-writes : goal.returns-in-SmallerMtu-clause-writes
returns-in-SmallerMtu-clause-writes g c =
    λ plain ok. subst (λ (text : List ℕ). HasWritten g.W.Write.write_str_gives c.args.f.now text c.write.new.self)
    (five_pieces (codes "has MTU ") (decimal c.in-SmallerMtu.there) (codes ", this end ") (decimal c.in-SmallerMtu.here) (codes ": it drops this end's Database Descriptions")
    ∙ sym (ap misfit_words c.in-SmallerMtu.is))
    (c.write.ensures.writes plain ok)
