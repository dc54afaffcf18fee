use Rattle.std.proofs.Common.{◌∙◌, ap, Option, option_map}
use Rattle.ospf_base.specs.Keys.{same_key}
use Rattle.ospf_originate.specs.Wants.Own.{wanted_value}
use Rattle.ospf_originate.specs.Wants.Wanted.{WantedValue, wanted_key}
use Rattle.ospf_originate.specs.declared.contents.wants.OwnLsa.{OwnLsa}
use Rattle.ospf_originate.proofs.OwnLemmas.{seen_lent, find_seen}
use Rattle.ospf_originate.proofs.own.wanted_of.Goals as goal

pub returns : goal.returns
returns c =
    seen_lent wanted_value c.first_of.result ∙ ap (λ (o : Option OwnLsa). option_map wanted_value o) c.first_of.ensures
    ∙ find_seen wanted_value (λ (w : WantedValue). same_key (wanted_key w) c.args.key.now) c.args.all.now
