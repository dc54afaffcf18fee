use Rattle.std.proofs.Common.{List, length, subst}
use Rattle.std.proofs.lemmas.Result.{on_ok_weaker}
use Rattle.std.specs.Prelude.{OnOk}
use Rattle.ospf_world.specs.declared.logs.Datagram.{Datagram}
use Rattle.ospf_views.specs.RecordFiles.Recorder.{AddsTo, IsRecordedTo}
use Rattle.ospf_views.proofs.RecordFiles.RecorderFacts.{added_all, recorded_on}
use Rattle.ospf_views.proofs.records.recorder.Recorder.add_sent.Goals as goal
use Rattle.ospf_world.specs.declared.ticks.Ticked.{Ticked}

-- what is added of logs
abbrev Adds : goal.After-add_all → List Ticked → List Datagram → Type 0
Adds c ts ds = AddsTo (length ds) ts ds c.args.self.now c.args.out.now.items c.add_all.new.self c.add_all.new.out.items

-- of those of the world
adds : (c : goal.After-add_all) → IsRecordedTo c.args.world.now.ticks c.args.world.now.logs.datagrams c.args.self.now → OnOk c.add_all.result (Adds c c.args.world.now.ticks c.args.world.now.logs.datagrams)
adds c =
    subst (λ (ts : List Ticked). IsRecordedTo ts c.args.world.now.logs.datagrams c.args.self.now → OnOk c.add_all.result (Adds c ts c.args.world.now.logs.datagrams)) c.ticks.ensures
    (subst (λ (ds : List Datagram). IsRecordedTo c.ticks.result.now ds c.args.self.now → OnOk c.add_all.result (Adds c c.ticks.result.now ds)) c.datagrams.ensures c.add_all.ensures.added)

pub returns-clause-sent : goal.returns-clause-sent
returns-clause-sent c ticks ds is on =
    let ts' = c.args.world.now.ticks in
    let ds' = c.args.world.now.logs.datagrams in
    on_ok_weaker c.add_all.result
    (added_all ticks ds ts' ds' c.args.self.now c.args.out.now.items c.add_all.new.self c.add_all.new.out.items is)
    (adds c (recorded_on ticks ts' ds ds' c.args.self.now on is))

pub returns-clause-recorded : goal.returns-clause-recorded
returns-clause-recorded c ticks ds is on =
    let ts' = c.args.world.now.ticks in
    let ds' = c.args.world.now.logs.datagrams in
    on_ok_weaker c.add_all.result (λ a. record { to = a.recorded; all = a.all }) (adds c (recorded_on ticks ts' ds ds' c.args.self.now on is))
