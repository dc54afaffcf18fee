-- What is printed of a router that keeps the premise of the headline from holding.
use Rattle.std.specs.Prelude.{◌++◌, Option, None, Some, codes}
use Rattle.ospf_base.specs.Text.{number_text}
use Rattle.ospf_base.specs.declared.ids.RouterId.{RouterId}
use Rattle.ospf_journal.specs.declared.differs.Difference.{Difference}
use Rattle.ospf_journal.specs.declared.differs.Difference.TheVariants as difference
use Rattle.ospf_script.specs.Words.{Text}
use Rattle.ospf_views.specs.Texts.{listed_text}
use Rattle.ospf_views.specs.declared.disagreement.Disagreement.{Disagreement}

-- why a router keeps the premise from holding
abbrev pub disagreement_text : Disagreement → Text
disagreement_text d = by d.difference
  where
    by : Difference → Text
    by difference.Stopped = number_text d.router.0 ++ codes " is listed, reached and does not run"
    by (difference.Lacks i) = number_text d.router.0 ++ codes " does not list " ++ listed_text i
    by (difference.Lists i) =
        number_text d.router.0 ++ codes " lists another LSA: " ++ listed_text i

-- the same as a line
abbrev pub disagreement_line : Disagreement → Text
disagreement_line d = disagreement_text d ++ codes "\n"

-- the answer to `why headline`
abbrev pub why_headline_line : RouterId → Option Disagreement → Text
why_headline_line r None =
    codes "holds: every router that " ++ number_text r.0
    ++ codes " reaches runs and lists the same LSAs\n"
why_headline_line r (Some d) = disagreement_line d

-- for which router the premise does not hold, and why
abbrev pub from_line : Disagreement → Text
from_line d = codes "from " ++ number_text d.from.0 ++ codes ": " ++ disagreement_line d
