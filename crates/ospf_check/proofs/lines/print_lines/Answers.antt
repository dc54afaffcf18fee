use Rattle.std.proofs.Common.{refl}
use Rattle.ospf_files.specs.Streams.{no_room}
use Rattle.ospf_check.specs.Lines.{at_none}
use Rattle.ospf_check.proofs.LineLemmas.{text_cut, text_printed}
use Rattle.ospf_check.proofs.lines.print_lines.Goals as goal

pub returns-in-Ok-clause-printed : goal.returns-in-Ok-clause-printed
returns-in-Ok-clause-printed g c =
    text_printed c.args.area c.args.files.now _ _ _ _ _ c.in-Ok.ensures c.print_text.result c.print_text.ensures.sound c.print_text.ensures.printed

pub returns-in-Ok-clause-cut : goal.returns-in-Ok-clause-cut
returns-in-Ok-clause-cut g c =
    text_cut c.args.area c.args.files.now _ _ _ _ _ _ c.in-Ok.ensures c.print_text.result c.print_text.ensures.begun c.print_text.ensures.cut

pub returns-in-Err-clause-cut : goal.returns-in-Err-clause-cut
returns-in-Err-clause-cut g c = at_none refl no_room
