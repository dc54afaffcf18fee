use Rattle.std.proofs.Common.{rules}
use Rattle.ospf_c.specs.Answered.{streams}
use Rattle.ospf_c.specs.Simulated.{of_script}
use Rattle.ospf_c.proofs.Checks.{begin, same_streams}
use Rattle.ospf_c.proofs.Simulations.{simulation_answered}
use Rattle.ospf_c.proofs.simulate.ospf_sim.Goals as goal

pub returns-in-Ok : goal.returns-in-Ok
returns-in-Ok c =
    let s = c.sim_text-simulated in (
      c.deref-in-Ok.result.now,
      c.deref-in-Ok-2.result.now,
      c.code.result,
      of_script c.in-Ok.script c.in-Ok.files.items s.result.status s.result.left c.in-Ok.ensures.script c.in-Ok.ensures.files
          (simulation_answered c.in-Ok.script c.in-Ok.files.items c.deref.result.now s.result.status s.result.left
          (streams c.new-out.result.items c.new-err.result.items) (streams s.new.out.items s.new.err.items) c.deref-in-Ok.result.now c.deref-in-Ok-2.result.now
          c.deref.ensures.value (begin c.new-out.result.items c.new-err.result.items c.new-out.ensures.items c.new-err.ensures.items)
          (same_streams s.new.out.items s.new.err.items c.deref-in-Ok.result.now c.deref-in-Ok-2.result.now c.deref-in-Ok.ensures.value c.deref-in-Ok-2.ensures.value)
          s.ensures.done s.ensures.refused s.ensures.stopped s.ensures.not_words)
          (search rules),
      c.answer_with.ensures,
    )
