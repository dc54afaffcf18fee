use Rattle.std.proofs.Common.{rules, ◌≡◌, refl, subst}
use Rattle.ospf_files.specs.declared.status.Failure.{Failure as FailureOf}
use Rattle.ospf_files.specs.Streams.{written_on}
use Rattle.ospf_table.specs.Cut.{IsTableCut, in_input, in_table}
use Rattle.ospf_table.specs.declared.table.TableFault.TheVariants.{Entry, Failure}
use Rattle.ospf_table.proofs.Lines.{map_some}
use Rattle.ospf_table.proofs.table.answer.Goals as goal

pub returns-in_err-listing-clause-refused : goal.returns-in_err-listing-clause-refused
returns-in_err-listing-clause-refused g c = λ n f e.
    let same : c.in_err-listing.field-0.0 ≡ Entry n f = search rules in
    c.in_err-listing.ensures.refused n f (cc)

pub returns-in_err-listing-clause-cut : goal.returns-in_err-listing-clause-cut
returns-in_err-listing-clause-cut g c = λ f e.
    let same : c.in_err-listing.field-0.0 ≡ Failure f = search rules in
    in_input (c.in_err-listing.ensures.unread f (cc)) refl refl

pub returns-in_err-answer_of-clause-cut : goal.returns-in_err-answer_of-clause-cut
returns-in_err-answer_of-clause-cut g c = λ f e.
    let same : c.in_err-answer_of.field-0.0 ≡ f = search rules in
    in_table c.in_ok-listing.listing c.in_ok-listing.ensures.whole
    (subst (λ (cause : FailureOf). IsTableCut c.in_ok-listing.listing c.args.job.now.root c.args.job.now.addresses.items c.answer_of.new.streams (written_on (g.O.Write.contents c.args.out.now) (g.E.Write.contents c.args.err.now)) (written_on (g.O.Write.contents c.answer_of.new.out) (g.E.Write.contents c.answer_of.new.err)) cause) same c.in_err-answer_of.ensures.cut)

pub returns-clause-answer : goal.returns-clause-answer
returns-clause-answer g c =
    map_some (g.R.Read.remaining c.args.input) _ _ (λ bytes reads. c.in_ok-answer_of.ensures.answer bytes reads) c.in_ok-listing.ensures.whole
