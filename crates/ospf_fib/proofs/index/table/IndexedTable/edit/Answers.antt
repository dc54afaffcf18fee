use Rattle.std.proofs.Common.{subst, ◌≡◌, ◌≤◌, List, length, sym, ap, ◌∙◌, arith}
use Rattle.std.specs.List.{AllPairs, sum_by}
use Rattle.ospf_graph.specs.declared.route.Route.{Route}
use Rattle.ospf_graph.specs.Routes.{IsRouteBefore}
use Rattle.ospf_spf.specs.Changes.{edited}
use Rattle.ospf_spf.proofs.EditLemmas.{edited_length}
use Rattle.ospf_fib.specs.PrefixIndex.Room.{hops_in, hops_put}
use Rattle.ospf_fib.proofs.PrefixIndex.CountLemmas.{edited_hops}
use Rattle.ospf_fib.proofs.index.table.IndexedTable.edit.Goals as goal

pub of-requires-clause-order : goal.of-requires-clause-order
of-requires-clause-order c = subst (λ (routes : List Route). AllPairs IsRouteBefore routes) (sym c.routes-3.ensures.routes) c.routes-3.ensures.in_order

pub of-requires-clause-room : goal.of-requires-clause-room
of-requires-clause-room c =
    let old = c.self.inside.table in
    let changes = c.in_ok-edit.edit.changes in
    let planned = c.in_ok-edit.ensures in
    let room = c.in_ok-room.ensures in
    let new : c.routes-3.result.now ≡ edited old changes = c.routes-3.ensures.routes ∙ c.make.ensures in
    let most : length c.routes-3.result.now ≤ c.room.result = omega (arith, ap length new, edited_length old changes, ap length planned.changes, planned.room, c.room.ensures) in
    let before : hops_in c.routes-2.result.now ≡ hops_in old = ap hops_in c.routes-2.ensures.routes in
    let most_hops : hops_in c.routes-3.result.now ≤ c.in_ok-hops.hops =
    omega (arith, ap hops_in new, edited_hops old changes, before, c.in_ok-hops.ensures, ap (λ cs. sum_by hops_put cs) planned.changes) in
    record {
      sweep = record {
        no_start = room.sweep.no_start;
        no_place = room.sweep.no_place;
        none_open = room.sweep.none_open;
        starts = omega (arith, most, room.sweep.starts);
        places = omega (arith, most, room.sweep.places);
        opened = omega (arith, most, room.sweep.opened);
      };
      none = room.none;
      blocks = room.blocks;
      numbering = record {
        chained = room.numbering.chained;
        none = room.numbering.none;
        one = room.numbering.one;
        no_hop = room.numbering.no_hop;
        room_sets = omega (arith, most, room.numbering.room_sets);
        room_hops = omega (arith, most_hops, room.numbering.room_hops);
        room_links = omega (arith, most, room.numbering.room_links);
      };
      no_number = room.no_number;
      numbers = omega (arith, most, room.numbers);
      no_entry = room.no_entry;
      entries = omega (arith, most, room.entries);
    }
