use Rattle.std.proofs.Common.{◌≡◌, ◌∙◌, ap, subst, ◌+◌, ◌-◌, [], Ok, false, true, fold}
use Rattle.std.specs.Io.KnownBytes.{Appends}
use Rattle.ospf_files.proofs.Cut.{for_memory}
use Rattle.ospf_files.proofs.Written.{nothing_begun, nothing_written, whatever}
use Rattle.ospf_files.specs.Streams.{IsBegun, IsOutputCut, no_room}
use Rattle.ospf_script.specs.Words.{Text}
use Rattle.ospf_commands.specs.Printed.{IsPrintedBegun}
use Rattle.ospf_originate.specs.Numbers.{min_ls_interval}
use Rattle.ospf_commands.specs.Settling.{Settles, longer_in, settled_line, storm_line, unsettled_line}
use Rattle.ospf_commands.specs.Simulations.{Answer}
use Rattle.ospf_commands.specs.declared.settle.Outcome.{Outcome}
use Rattle.ospf_commands.proofs.Settling.{ended_so, rounds_over_still, settled_so, stormed_so, unsettled_so}
use Rattle.ospf_commands.proofs.settle.settle.Goals as goal

pub overflow_sub-rounds : goal.overflow_sub-rounds
overflow_sub-rounds g c =
    rounds_over_still c.args.most c.rounds_to_stay-still.result (record c.args.simulation.now { is_settled = false }) c.pass_rounds.new.simulation c.pass_rounds.result c.in-Ok-Settled.rounds
    (c.in-Ok-Settled.is ∙ ap (λ (o : Outcome). Ok o) c.in-Ok-Settled.field-0-is) c.pass_rounds.ensures.passes

pub returns-in_err-line-in-Ok-Settled-clause-begun : goal.returns-in_err-line-in-Ok-Settled-clause-begun
returns-in_err-line-in-Ok-Settled-clause-begun g c =
    let so : Settles c.args.most (record c.args.simulation.now { is_settled = false }) (Ok tt) (settled_line (c.in-Ok-Settled.rounds - c.rounds_to_stay-still.result) c.rounds_to_stay-still.result) (record c.pass_rounds.new.simulation { is_settled = true }) =
    settled_so c.args.most c.rounds_to_stay-still.result (record c.args.simulation.now { is_settled = false }) c.pass_rounds.new.simulation c.pass_rounds.result c.in-Ok-Settled.rounds (c.rounds_to_stay-still.ensures ∙ ap (λ slots. fold longer_in min_ls_interval slots + 1) c.slots.ensures)
    (c.in-Ok-Settled.is ∙ ap (λ (o : Outcome). Ok o) c.in-Ok-Settled.field-0-is) c.pass_rounds.ensures.passes in
    let begun : IsPrintedBegun (λ (given : Answer) (text : Text). Settles c.args.most (record c.args.simulation.now { is_settled = false }) given text (record c.pass_rounds.new.simulation { is_settled = true })) (g.O.Write.contents c.args.out.now) (g.O.Write.contents c.args.out.now) =
    record { answer = Ok tt; text = (settled_line (c.in-Ok-Settled.rounds - c.rounds_to_stay-still.result) c.rounds_to_stay-still.result); is_so = so; begun = nothing_begun _ _ } in
    whatever _ begun

pub returns-in_err-line-in-Ok-Settled-clause-cut : goal.returns-in_err-line-in-Ok-Settled-clause-cut
returns-in_err-line-in-Ok-Settled-clause-cut g c = for_memory c.from_residual.result (IsOutputCut c.args.streams.now) c.from_residual.ensures.1 no_room

pub returns-in_err-write-in-Ok-Settled-clause-begun : goal.returns-in_err-write-in-Ok-Settled-clause-begun
returns-in_err-write-in-Ok-Settled-clause-begun g c =
    let so : Settles c.args.most (record c.args.simulation.now { is_settled = false }) (Ok tt) (settled_line (c.in-Ok-Settled.rounds - c.rounds_to_stay-still.result) c.rounds_to_stay-still.result) (record c.pass_rounds.new.simulation { is_settled = true }) =
    settled_so c.args.most c.rounds_to_stay-still.result (record c.args.simulation.now { is_settled = false }) c.pass_rounds.new.simulation c.pass_rounds.result c.in-Ok-Settled.rounds (c.rounds_to_stay-still.ensures ∙ ap (λ slots. fold longer_in min_ls_interval slots + 1) c.slots.ensures)
    (c.in-Ok-Settled.is ∙ ap (λ (o : Outcome). Ok o) c.in-Ok-Settled.field-0-is) c.pass_rounds.ensures.passes in
    let same : c.deref.result.now ≡ (settled_line (c.in-Ok-Settled.rounds - c.rounds_to_stay-still.result) c.rounds_to_stay-still.result) = c.deref.ensures ∙ c.in_ok-line-in-Ok-Settled.ensures in
    let begun : IsPrintedBegun (λ (given : Answer) (text : Text). Settles c.args.most (record c.args.simulation.now { is_settled = false }) given text (record c.pass_rounds.new.simulation { is_settled = true })) (g.O.Write.contents c.args.out.now) (g.O.Write.contents c.write.new.out) = record {
      answer = Ok tt;
      text = (settled_line (c.in-Ok-Settled.rounds - c.rounds_to_stay-still.result) c.rounds_to_stay-still.result);
      is_so = so;
      begun = subst (IsBegun (g.O.Write.contents c.args.out.now) (g.O.Write.contents c.write.new.out)) same c.in_err-write-in-Ok-Settled.ensures.begun;
    } in
    whatever _ begun

pub returns-in_ok-write-in-Ok-Settled-clause-settles : goal.returns-in_ok-write-in-Ok-Settled-clause-settles
returns-in_ok-write-in-Ok-Settled-clause-settles g c =
    let so : Settles c.args.most (record c.args.simulation.now { is_settled = false }) (Ok tt) (settled_line (c.in-Ok-Settled.rounds - c.rounds_to_stay-still.result) c.rounds_to_stay-still.result) (record c.pass_rounds.new.simulation { is_settled = true }) =
    settled_so c.args.most c.rounds_to_stay-still.result (record c.args.simulation.now { is_settled = false }) c.pass_rounds.new.simulation c.pass_rounds.result c.in-Ok-Settled.rounds (c.rounds_to_stay-still.ensures ∙ ap (λ slots. fold longer_in min_ls_interval slots + 1) c.slots.ensures)
    (c.in-Ok-Settled.is ∙ ap (λ (o : Outcome). Ok o) c.in-Ok-Settled.field-0-is) c.pass_rounds.ensures.passes in
    let same : c.deref.result.now ≡ (settled_line (c.in-Ok-Settled.rounds - c.rounds_to_stay-still.result) c.rounds_to_stay-still.result) = c.deref.ensures ∙ c.in_ok-line-in-Ok-Settled.ensures in
    record {
      text = (settled_line (c.in-Ok-Settled.rounds - c.rounds_to_stay-still.result) c.rounds_to_stay-still.result);
      is_so = so;
      written = subst (Appends (g.O.Write.contents c.args.out.now) (g.O.Write.contents c.write.new.out)) same c.in_ok-write-in-Ok-Settled.ensures.written;
    }

pub returns-in_err-line-in-Ok-Unsettled-clause-begun : goal.returns-in_err-line-in-Ok-Unsettled-clause-begun
returns-in_err-line-in-Ok-Unsettled-clause-begun g c =
    let so : Settles c.args.most (record c.args.simulation.now { is_settled = false }) (Ok tt) (unsettled_line c.args.most c.rounds_to_stay-still.result) c.pass_rounds.new.simulation =
    unsettled_so c.args.most c.rounds_to_stay-still.result (record c.args.simulation.now { is_settled = false }) c.pass_rounds.new.simulation c.pass_rounds.result (c.rounds_to_stay-still.ensures ∙ ap (λ slots. fold longer_in min_ls_interval slots + 1) c.slots.ensures)
    (c.in-Ok-Unsettled.is ∙ ap (λ (o : Outcome). Ok o) c.in-Ok-Unsettled.field-0-is) c.pass_rounds.ensures.passes in
    let begun : IsPrintedBegun (λ (given : Answer) (text : Text). Settles c.args.most (record c.args.simulation.now { is_settled = false }) given text c.pass_rounds.new.simulation) (g.O.Write.contents c.args.out.now) (g.O.Write.contents c.args.out.now) =
    record { answer = Ok tt; text = (unsettled_line c.args.most c.rounds_to_stay-still.result); is_so = so; begun = nothing_begun _ _ } in
    whatever _ begun

pub returns-in_err-line-in-Ok-Unsettled-clause-cut : goal.returns-in_err-line-in-Ok-Unsettled-clause-cut
returns-in_err-line-in-Ok-Unsettled-clause-cut g c = for_memory c.from_residual-in_err-line-in-Ok-Unsettled.result (IsOutputCut c.args.streams.now) c.from_residual-in_err-line-in-Ok-Unsettled.ensures.1 no_room

pub returns-in_err-write-in-Ok-Unsettled-clause-begun : goal.returns-in_err-write-in-Ok-Unsettled-clause-begun
returns-in_err-write-in-Ok-Unsettled-clause-begun g c =
    let so : Settles c.args.most (record c.args.simulation.now { is_settled = false }) (Ok tt) (unsettled_line c.args.most c.rounds_to_stay-still.result) c.pass_rounds.new.simulation =
    unsettled_so c.args.most c.rounds_to_stay-still.result (record c.args.simulation.now { is_settled = false }) c.pass_rounds.new.simulation c.pass_rounds.result (c.rounds_to_stay-still.ensures ∙ ap (λ slots. fold longer_in min_ls_interval slots + 1) c.slots.ensures)
    (c.in-Ok-Unsettled.is ∙ ap (λ (o : Outcome). Ok o) c.in-Ok-Unsettled.field-0-is) c.pass_rounds.ensures.passes in
    let same : c.deref-in-Ok-Unsettled.result.now ≡ (unsettled_line c.args.most c.rounds_to_stay-still.result) = c.deref-in-Ok-Unsettled.ensures ∙ c.in_ok-line-in-Ok-Unsettled.ensures in
    let begun : IsPrintedBegun (λ (given : Answer) (text : Text). Settles c.args.most (record c.args.simulation.now { is_settled = false }) given text c.pass_rounds.new.simulation) (g.O.Write.contents c.args.out.now) (g.O.Write.contents c.write-in-Ok-Unsettled.new.out) = record {
      answer = Ok tt;
      text = (unsettled_line c.args.most c.rounds_to_stay-still.result);
      is_so = so;
      begun = subst (IsBegun (g.O.Write.contents c.args.out.now) (g.O.Write.contents c.write-in-Ok-Unsettled.new.out)) same c.in_err-write-in-Ok-Unsettled.ensures.begun;
    } in
    whatever _ begun

pub returns-in_ok-write-in-Ok-Unsettled-clause-settles : goal.returns-in_ok-write-in-Ok-Unsettled-clause-settles
returns-in_ok-write-in-Ok-Unsettled-clause-settles g c =
    let so : Settles c.args.most (record c.args.simulation.now { is_settled = false }) (Ok tt) (unsettled_line c.args.most c.rounds_to_stay-still.result) c.pass_rounds.new.simulation =
    unsettled_so c.args.most c.rounds_to_stay-still.result (record c.args.simulation.now { is_settled = false }) c.pass_rounds.new.simulation c.pass_rounds.result (c.rounds_to_stay-still.ensures ∙ ap (λ slots. fold longer_in min_ls_interval slots + 1) c.slots.ensures)
    (c.in-Ok-Unsettled.is ∙ ap (λ (o : Outcome). Ok o) c.in-Ok-Unsettled.field-0-is) c.pass_rounds.ensures.passes in
    let same : c.deref-in-Ok-Unsettled.result.now ≡ (unsettled_line c.args.most c.rounds_to_stay-still.result) = c.deref-in-Ok-Unsettled.ensures ∙ c.in_ok-line-in-Ok-Unsettled.ensures in
    record {
      text = (unsettled_line c.args.most c.rounds_to_stay-still.result);
      is_so = so;
      written = subst (Appends (g.O.Write.contents c.args.out.now) (g.O.Write.contents c.write-in-Ok-Unsettled.new.out)) same c.in_ok-write-in-Ok-Unsettled.ensures.written;
    }

pub returns-in_err-line-in-Ok-Storms-clause-begun : goal.returns-in_err-line-in-Ok-Storms-clause-begun
returns-in_err-line-in-Ok-Storms-clause-begun g c =
    let so : Settles c.args.most (record c.args.simulation.now { is_settled = false }) (Ok tt) (storm_line c.in-Ok-Storms.from) c.pass_rounds.new.simulation =
    stormed_so c.args.most c.rounds_to_stay-still.result (record c.args.simulation.now { is_settled = false }) c.pass_rounds.new.simulation c.pass_rounds.result c.in-Ok-Storms.from (c.rounds_to_stay-still.ensures ∙ ap (λ slots. fold longer_in min_ls_interval slots + 1) c.slots.ensures)
    (c.in-Ok-Storms.is ∙ ap (λ (o : Outcome). Ok o) c.in-Ok-Storms.field-0-is) c.pass_rounds.ensures.passes in
    let begun : IsPrintedBegun (λ (given : Answer) (text : Text). Settles c.args.most (record c.args.simulation.now { is_settled = false }) given text c.pass_rounds.new.simulation) (g.O.Write.contents c.args.out.now) (g.O.Write.contents c.args.out.now) =
    record { answer = Ok tt; text = (storm_line c.in-Ok-Storms.from); is_so = so; begun = nothing_begun _ _ } in
    whatever _ begun

pub returns-in_err-line-in-Ok-Storms-clause-cut : goal.returns-in_err-line-in-Ok-Storms-clause-cut
returns-in_err-line-in-Ok-Storms-clause-cut g c = for_memory c.from_residual-in_err-line-in-Ok-Storms.result (IsOutputCut c.args.streams.now) c.from_residual-in_err-line-in-Ok-Storms.ensures.1 no_room

pub returns-in_err-write-in-Ok-Storms-clause-begun : goal.returns-in_err-write-in-Ok-Storms-clause-begun
returns-in_err-write-in-Ok-Storms-clause-begun g c =
    let so : Settles c.args.most (record c.args.simulation.now { is_settled = false }) (Ok tt) (storm_line c.in-Ok-Storms.from) c.pass_rounds.new.simulation =
    stormed_so c.args.most c.rounds_to_stay-still.result (record c.args.simulation.now { is_settled = false }) c.pass_rounds.new.simulation c.pass_rounds.result c.in-Ok-Storms.from (c.rounds_to_stay-still.ensures ∙ ap (λ slots. fold longer_in min_ls_interval slots + 1) c.slots.ensures)
    (c.in-Ok-Storms.is ∙ ap (λ (o : Outcome). Ok o) c.in-Ok-Storms.field-0-is) c.pass_rounds.ensures.passes in
    let same : c.deref-in-Ok-Storms.result.now ≡ (storm_line c.in-Ok-Storms.from) = c.deref-in-Ok-Storms.ensures ∙ c.in_ok-line-in-Ok-Storms.ensures in
    let begun : IsPrintedBegun (λ (given : Answer) (text : Text). Settles c.args.most (record c.args.simulation.now { is_settled = false }) given text c.pass_rounds.new.simulation) (g.O.Write.contents c.args.out.now) (g.O.Write.contents c.write-in-Ok-Storms.new.out) = record {
      answer = Ok tt;
      text = (storm_line c.in-Ok-Storms.from);
      is_so = so;
      begun = subst (IsBegun (g.O.Write.contents c.args.out.now) (g.O.Write.contents c.write-in-Ok-Storms.new.out)) same c.in_err-write-in-Ok-Storms.ensures.begun;
    } in
    whatever _ begun

pub returns-in_ok-write-in-Ok-Storms-clause-settles : goal.returns-in_ok-write-in-Ok-Storms-clause-settles
returns-in_ok-write-in-Ok-Storms-clause-settles g c =
    let so : Settles c.args.most (record c.args.simulation.now { is_settled = false }) (Ok tt) (storm_line c.in-Ok-Storms.from) c.pass_rounds.new.simulation =
    stormed_so c.args.most c.rounds_to_stay-still.result (record c.args.simulation.now { is_settled = false }) c.pass_rounds.new.simulation c.pass_rounds.result c.in-Ok-Storms.from (c.rounds_to_stay-still.ensures ∙ ap (λ slots. fold longer_in min_ls_interval slots + 1) c.slots.ensures)
    (c.in-Ok-Storms.is ∙ ap (λ (o : Outcome). Ok o) c.in-Ok-Storms.field-0-is) c.pass_rounds.ensures.passes in
    let same : c.deref-in-Ok-Storms.result.now ≡ (storm_line c.in-Ok-Storms.from) = c.deref-in-Ok-Storms.ensures ∙ c.in_ok-line-in-Ok-Storms.ensures in
    record {
      text = (storm_line c.in-Ok-Storms.from);
      is_so = so;
      written = subst (Appends (g.O.Write.contents c.args.out.now) (g.O.Write.contents c.write-in-Ok-Storms.new.out)) same c.in_ok-write-in-Ok-Storms.ensures.written;
    }

pub returns-in-Err-clause-settles : goal.returns-in-Err-clause-settles
returns-in-Err-clause-settles g c = record {
  text = [];
  is_so = ended_so c.args.most c.rounds_to_stay-still.result (record c.args.simulation.now { is_settled = false }) c.pass_rounds.new.simulation c.pass_rounds.result c.in-Err.fault (c.rounds_to_stay-still.ensures ∙ ap (λ slots. fold longer_in min_ls_interval slots + 1) c.slots.ensures) c.in-Err.is c.pass_rounds.ensures.passes;
  written = nothing_written _;
}
