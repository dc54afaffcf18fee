use Rattle.std.proofs.Common.{◌∙◌, subst}
use mathlib.Core.List.{IsPrefix}
use Rattle.ospf_fib.specs.Answers.{IsAnswerOfLast}
use Rattle.ospf_fib.specs.PrefixIndex.Known.{Known}
use Rattle.ospf_run.proofs.Ends.{all_known, told_fib}
use Rattle.ospf_run.proofs.finish.look_last.Goals as goal

pub learned-seat-requires : goal.learned-seat-requires
learned-seat-requires g c = told_fib c.args.told c.args.writer.now c.args.seat c.requires.fib c.requires.told

pub covers-requires : goal.covers-requires
covers-requires g c = c.lookup.ensures.fib ∙ c.learned-seat.ensures.fib ∙ c.requires.fib

pub returns : goal.returns
returns g c =
    let same = all_known c.args.told c.args.writer.now c.args.seat c.learned-seat.result c.lookup.new.self c.requires.began c.requires.told c.learned-seat.ensures.own
    c.learned-seat.ensures.told c.in_ok-answer.ensures.known (subst (λ (k : Known). IsPrefix c.lookup.new.self.tables k.tables) c.covers.ensures.same c.covers.ensures.covers) in
    subst (λ tables. IsAnswerOfLast tables c.args.address 0 c.in_ok-answer.answer) same c.in_ok-answer.ensures.answer
