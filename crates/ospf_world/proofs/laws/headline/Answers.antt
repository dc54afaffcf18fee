use Rattle.std.proofs.Common.{refl, [], ◌++◌}
use Rattle.ospf_world.proofs.RunsFacts.{Runs-append}
use Rattle.ospf_world.proofs.laws.headline.Goals as goal

pub returns : goal.returns
returns c is_dropped later before after (events, r) runs =
    let whole = Runs-append is_dropped events later r.start before after r.runs runs in
    record {
      were_issued = λ lsa held. c.held_lsas_were_issued.ensures is_dropped (events ++ later) r.start after lsa r.new whole held;
      held_agree = λ a b ha hb. c.held_lsas_agree.ensures is_dropped events later r.start before after a b r.new r.runs runs ha hb;
      held_agree_now = λ a b ha hb. c.held_lsas_agree.ensures is_dropped (events ++ later) [] r.start after after a b r.new whole refl ha hb;
      tables = λ q x at. c.tables_are_exact.ensures is_dropped (events ++ later) r.start after q x r.new whole at;
      walks = λ q x none at agree. c.walks_arrive.ensures.listed is_dropped (events ++ later) r.start after q x r.new whole none at agree;
      chosen = λ q x none at agree. c.chosen_walks_arrive.ensures.listed is_dropped (events ++ later) r.start after q x r.new whole none at agree;
      reached_walks = λ q x none at agree. c.walks_arrive.ensures.reached is_dropped (events ++ later) r.start after q x r.new whole none at agree;
      reached_chosen = λ q x none at agree. c.chosen_walks_arrive.ensures.reached is_dropped (events ++ later) r.start after q x r.new whole none at agree;
      no_collision = λ high. c.high_floors_exclude_collisions.ensures is_dropped (events ++ later) r.start after r.new whole high;
    }
