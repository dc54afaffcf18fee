use Rattle.std.proofs.Common.{List, ℕ, ap, ◌∙◌}
use Rattle.std.specs.Str.{bytes_eq}
use Rattle.ospf_base.specs.Sums.{contents}
use Rattle.ospf_originate.specs.Wants.Made.{says}
use Rattle.ospf_originate.specs.Wants.Own.{wanted_value}
use Rattle.ospf_originate.proofs.Wants.MadeLemmas.{aside_made}
use Rattle.ospf_originate.proofs.Wants.Words.{aside}
use Rattle.ospf_originate.proofs.contents.wants.OwnLsa.is_said_by.Goals as goal

pub returns-clause-ok : goal.returns-clause-ok
unfolding says
returns-clause-ok c =
    c.same_aside.ensures
    ∙ ap (λ (l : List ℕ). bytes_eq (aside (contents c.args.copy.now)) (aside (contents l))) c.view.ensures.same
    ∙ ap (λ (said : List ℕ). bytes_eq (aside (contents c.args.copy.now)) said) (aside_made _ (wanted_value c.args.self.now) c.in_ok-lsa.lsa c.in_ok-lsa.ensures.ok)
