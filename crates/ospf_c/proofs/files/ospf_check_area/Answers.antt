use Rattle.std.proofs.Common.{rules}
use Rattle.ospf_c.specs.Answered.{streams}
use Rattle.ospf_c.specs.Files.{of_area, telling_by}
use Rattle.ospf_c.proofs.Checks.{area_answered, begin, same_streams}
use Rattle.ospf_c.proofs.files.ospf_check_area.Goals as goal

pub returns-in-Ok : goal.returns-in-Ok
returns-in-Ok c =
    let s = c.check_area_text-status in (
      c.deref-in-Ok.result.now,
      c.deref-in-Ok-2.result.now,
      c.code.result,
      of_area c.in-Ok.files.items s.result c.in-Ok.ensures
          (area_answered (telling_by c.args.how) _ c.in-Ok.files.items c.deref.result.now s.result
          (streams c.new-out.result.items c.new-err.result.items) (streams s.new.out.items s.new.err.items) c.deref-in-Ok.result.now c.deref-in-Ok-2.result.now
          (search rules) c.deref.ensures.value (begin c.new-out.result.items c.new-err.result.items c.new-out.ensures.items c.new-err.ensures.items)
          (same_streams s.new.out.items s.new.err.items c.deref-in-Ok.result.now c.deref-in-Ok-2.result.now c.deref-in-Ok.ensures.value c.deref-in-Ok-2.ensures.value)
          s.ensures.done s.ensures.refused s.ensures.cut s.ensures.not_words)
          c.code.ensures,
      c.answer_with.ensures,
    )
