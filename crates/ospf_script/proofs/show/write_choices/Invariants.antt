use Rattle.std.proofs.Common.{take}
use Rattle.std.specs.Fmt.{HasWritten, IsPlainFormatter}
use Rattle.ospf_script.specs.Texts.{choices_text}
use Rattle.ospf_script.proofs.show.write_choices.Given as goal

-- the choices so far are written
abbrev pub invariant-loop-choice : goal.invariant-loop-choice
invariant-loop-choice g l = IsPlainFormatter l.fn.f → HasWritten g.W.Write.write_str_gives l.fn.f (choices_text (take l.choice-index l.choices)) l.f
