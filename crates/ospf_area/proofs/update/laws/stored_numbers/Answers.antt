use Rattle.std.proofs.Common.{◌∙◌, ap}
use Rattle.ospf_lsa.specs.Header.{header_of}
use Rattle.ospf_lsa.specs.Lsa.{key_of}
use Rattle.ospf_area.specs.State.{AreaValue, kept_number}
use Rattle.ospf_area.proofs.NumberLemmas.{own_counted}
use Rattle.ospf_area.proofs.update.laws.stored_numbers.Goals as goal

pub returns : goal.returns
returns c = λ lsa from before after stores key.
    ap (λ (s : AreaValue). kept_number s key) stores.rest ∙ own_counted before.router (key_of lsa) key (header_of lsa).number before.floor before.numbering
