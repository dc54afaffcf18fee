use Rattle.std.proofs.Common.{◌==◌, ◌∙◌, not, sym, ap, length, arith}
use Rattle.std.proofs.lemmas.List.Sums.{prefix_len-le-length}
use Rattle.ospf_script.proofs.Hopping.{cut_at, front_has_no, whole_has_no}
use Rattle.ospf_script.proofs.Plain.{if_none}
use Rattle.ospf_script.proofs.values.parts_at.Goals as goal

pub split_at-requires : goal.split_at-requires
split_at-requires c = omega (arith, c.place_of.ensures, prefix_len-le-length (λ b. not (b == c.args.byte)) c.args.word.now)

pub returns-in_err-behind-clause-none : goal.returns-in_err-behind-clause-none
returns-in_err-behind-clause-none c =
    let none = rw c.in_err-behind.was at c.split_first.ensures.cases in
    if_none c.from_residual.result _ (whole_has_no c.args.byte c.args.word.now c.place_of.result c.place_of.ensures (sym (ap length c.split_at.ensures.back) ∙ none))

pub returns-clause-some : goal.returns-clause-some
returns-clause-some c =
    let cut = rw c.in_ok-behind.was at c.split_first.ensures.cases in (
      cut_at c.args.byte c.args.word.now c.split_at.result.0.now c.split_at.result.1.now c.in_ok-behind.behind.now _ c.place_of.result c.place_of.ensures c.split_at.ensures.front c.split_at.ensures.back cut.0,
      front_has_no c.args.byte c.args.word.now c.split_at.result.0.now c.place_of.result c.place_of.ensures c.split_at.ensures.front,
    )
