use Rattle.std.proofs.Common.{is_some}
use Rattle.ospf_lsdb.proofs.MapLaws.{installs}
use Rattle.ospf_lsdb.specs.Database.{entry_from}
use Rattle.ospf_area.proofs.update.laws.stored_entry.Goals as goal

pub returns : goal.returns
returns c = λ lsa from before after stores key. installs (entry_from lsa before.tick (is_some from)) before.database after.database stores.database key
