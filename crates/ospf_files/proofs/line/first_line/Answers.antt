use Rattle.std.proofs.Common.{◌∙◌, ap, arith}
use Rattle.std.specs.Str.Lines.{strip_carriage_return}
use Rattle.ospf_files.proofs.TextLines.{cut_cut, cut_line, end-le, not_empty, whole_cut, whole_line}
use Rattle.ospf_files.proofs.line.first_line.Goals as goal

pub split_at-requires : goal.split_at-requires
split_at-requires c = omega (arith, c.place_of.ensures, end-le c.args.text.now)

pub returns-in-empty-clause-line : goal.returns-in-empty-clause-line
returns-in-empty-clause-line c =
    whole_line c.args.text.now c.split_at.result.1.now c.place_of.result (not_empty c.args.text.now c.is_empty.result c.is_empty.ensures c.if-is_empty.false) c.place_of.ensures c.split_at.ensures.back c.in-empty.len_below

pub returns-in-len1-up-clause-line : goal.returns-in-len1-up-clause-line
returns-in-len1-up-clause-line c =
    cut_line c.args.text.now c.without_return.result.now c.split_at.result.1.now c.place_of.result c.place_of.ensures c.split_at.ensures.back c.in-len1-up.len_at_least
    (c.without_return.ensures ∙ ap strip_carriage_return c.split_at.ensures.front)

pub returns-in-empty-clause-cut : goal.returns-in-empty-clause-cut
returns-in-empty-clause-cut c =
    whole_cut c.args.text.now c.split_at.result.1.now c.place_of.result c.place_of.ensures c.split_at.ensures.back c.in-empty.len_below

pub returns-in-len1-up-clause-cut : goal.returns-in-len1-up-clause-cut
returns-in-len1-up-clause-cut c =
    cut_cut c.args.text.now c.without_return.result.now c.split_at.result.1.now c.place_of.result c.place_of.ensures c.split_at.ensures.back c.in-len1-up.len_at_least
    (c.without_return.ensures ∙ ap strip_carriage_return c.split_at.ensures.front)
