use Rattle.std.proofs.Common.{[], refl, false, true, ◌≡◌}
use Rattle.ospf_sim.proofs.Files.{map_none, map_some, unread_behind}
use Rattle.ospf_sim.proofs.text.unread_of.Goals as goal

pub returns-then-not-is_read-clause-some : goal.returns-then-not-is_read-clause-some
returns-then-not-is_read-clause-some c = record {
  before = [];
  after = c.args.files.now;
  files_are = refl;
  read = tt;
  unread = λ read. let e : false ≡ true = c.if-not-is_read.ensures.1 read in cc;
}

pub returns-clause-some : goal.returns-clause-some
returns-clause-some c =
    map_some c.first_unread.result _ _ (λ file first. unread_behind _ file.now _ (c.is_read.ensures.0 c.if-not-is_read.false) first) c.first_unread.ensures.some

pub returns-clause-none : goal.returns-clause-none
returns-clause-none c = map_none c.first_unread.result _ _ (λ read. (c.is_read.ensures.0 c.if-not-is_read.false, read)) c.first_unread.ensures.none
