use Rattle.std.proofs.Common.{◌∙◌, ◌<◌, ◌^◌, inl, None, refl, sym, subst, codes, Some}
use Rattle.std.specs.Str.Parse.{ParsesUnsigned, ExplainsUnsignedError, HasUnsignedDigitsIfOk}
use Rattle.clap.specs.Words.{found_of, one_of, rows_of}
use Rattle.clap.proofs.WalkLemmas.{one_text-rows}
use Rattle.ospf_words.specs.Unasked.{in_run}
use Rattle.ospf_words.proofs.WordLemmas.{no_number_read, number_read, run_read}
use Rattle.ospf_words.proofs.words.run_job.Goals as goal

pub returns-in_default-clause-ok : goal.returns-in_default-clause-ok
returns-in_default-clause-ok c =
    let found = found_of c.args.values.now in
    in_run (rows_of found) refl (inl (no_number_read (λ bs r. ParsesUnsigned 64 10 bs r × ExplainsUnsignedError 10 bs r × HasUnsignedDigitsIfOk bs r)
    (λ t e n h number small. h.0 (number.0, subst (λ v. v < 2 ^ 64) (sym number.1) small)) (one_of (codes "ticks") (rows_of found)) None
    (λ t at. c.in_default.ensures.value t (one_text-rows found (codes "ticks") ∙ at)) refl))

pub run_with-requires : goal.run_with-requires
run_with-requires c =
    let found = found_of c.args.values.now in
    number_read (λ bs r. ParsesUnsigned 64 10 bs r × ExplainsUnsignedError 10 bs r × HasUnsignedDigitsIfOk bs r) (λ t n h. (h.0.0.0, sym h.0.1))
    (one_of (codes "ticks") (rows_of found)) c.get_one.result c.in-Some.ticks (λ e. c.get_one.ensures.none (one_text-rows found (codes "ticks") ∙ e))
    (λ t at. c.get_one.ensures.value t (one_text-rows found (codes "ticks") ∙ at)) c.in-Some.is

pub returns-clause-ok : goal.returns-clause-ok
returns-clause-ok c = run_read (rows_of (found_of c.args.values.now)) (Some c.in-Some.ticks) c.run_with.result c.run_with.ensures.some c.run_with.ensures.none
